use Rattle.std.proofs.Common.{◌≡◌, ◌*◌, ◌-◌}
use Rattle.std.specs.Prelude.{drop}
use Rattle.fs_trees.specs.Fields.{entries}
use Rattle.fs_trees.specs.Inode.{block_named}
use Rattle.fs_fields.proofs.entries.block_of.Given as goal

-- no entry before this one has the name, or a greater one
abbrev pub invariant-loop-i : goal.invariant-loop-i
invariant-loop-i l = block_named l.name (entries l.amount l.list) ≡ block_named l.name (entries (l.amount - l.i) (drop (32 * l.i) l.list))
