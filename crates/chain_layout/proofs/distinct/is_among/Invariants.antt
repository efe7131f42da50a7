use Rattle.std.proofs.Common.{◌≡◌, ◌*◌, ◌-◌}
use Rattle.std.specs.Prelude.{drop}
use Rattle.fs_trees.specs.Fields.{entries, entry_names}
use Rattle.chain_layout.specs.Listed.{is_among}
use Rattle.chain_layout.proofs.distinct.is_among.Given as goal

-- the name isn't that of an entry before this one
abbrev pub invariant-loop-position : goal.invariant-loop-position
invariant-loop-position l = is_among (entry_names (entries l.count l.list)) l.name ≡ is_among (entry_names (entries (l.count - l.position) (drop (32 * l.position) l.list))) l.name
