use Rattle.std.proofs.Common.{◌≡◌, ◌*◌, ◌-◌}
use Rattle.std.specs.Prelude.{drop}
use Rattle.std.specs.List.{list_any}
use Rattle.fs_trees.specs.Fields.{entries, entry_names}
use Rattle.chain_layout.specs.Listed.{is_among}
use Rattle.chain_layout.proofs.distinct.are_shared.Given as goal

-- no name before this one is one of the others
abbrev pub invariant-loop-position : goal.invariant-loop-position
invariant-loop-position l = list_any (is_among (entry_names (entries l.other_count l.others))) (entry_names (entries l.count l.list)) ≡ list_any (is_among (entry_names (entries l.other_count l.others))) (entry_names (entries (l.count - l.position) (drop (32 * l.position) l.list)))
