use Rattle.std.proofs.Common.{◌≡◌, ◌*◌, ◌-◌}
use Rattle.std.specs.Prelude.{drop, find}
use Rattle.fs_trees.specs.Names.{name_lt}
use Rattle.fs_trees.specs.Fields.{entries, entry_names}
use Rattle.fs_fields.proofs.entries.next_name.Given as goal

-- no name before this one stands above
abbrev pub invariant-loop-i : goal.invariant-loop-i
invariant-loop-i l = find (name_lt l.after) (entry_names (entries l.amount l.list)) ≡ find (name_lt l.after) (entry_names (entries (l.amount - l.i) (drop (32 * l.i) l.list)))
