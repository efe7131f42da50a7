use Rattle.std.proofs.Common.{◌≡◌, ◌*◌, ◌-◌}
use Rattle.std.specs.Prelude.{drop}
use Rattle.fs_trees.specs.Names.{are_distinct}
use Rattle.fs_trees.specs.Fields.{entries, entry_names}
use Rattle.chain_layout.proofs.distinct.are_distinct.Given as goal

-- no name before this one stands again
abbrev pub invariant-loop-position : goal.invariant-loop-position
invariant-loop-position l = are_distinct (entry_names (entries l.count l.list)) ≡ are_distinct (entry_names (entries (l.count - l.position) (drop (32 * l.position) l.list)))
