use Rattle.std.proofs.Common.{◌≡◌, ◌*◌, ◌-◌}
use Rattle.std.specs.Prelude.{drop}
use Rattle.fs_trees.specs.Fields.{entries, all_named}
use Rattle.chain_layout.proofs.directory.are_named.Given as goal

-- each entry before this one has a name
abbrev pub invariant-loop-position : goal.invariant-loop-position
invariant-loop-position l = all_named (entries l.count l.list) ≡ all_named (entries (l.count - l.position) (drop (32 * l.position) l.list))
