use Rattle.std.proofs.Common.{◌≡◌, ◌*◌, ◌-◌, ◌&&◌}
use Rattle.std.specs.Prelude.{drop}
use Rattle.fs_trees.specs.Names.{are_ascending}
use Rattle.fs_trees.specs.Fields.{entries, entry_names, all_named}
use Rattle.fs_fields.proofs.EntryLaws.{follow}
use Rattle.fs_fields.proofs.entries.are_in_order.Given as goal

-- the entries before this one are in order, and those from it on have to follow the last of them
abbrev pub invariant-loop-i : goal.invariant-loop-i
invariant-loop-i l = (all_named (entries l.amount l.list) && are_ascending (entry_names (entries l.amount l.list))) ≡ follow l.last (entries (l.amount - l.i) (drop (32 * l.i) l.list))
