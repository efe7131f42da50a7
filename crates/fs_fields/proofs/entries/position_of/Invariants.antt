use Rattle.std.proofs.Common.{◌≡◌, ◌+◌, ◌*◌, ◌-◌}
use Rattle.std.specs.Prelude.{drop}
use Rattle.fs_trees.specs.Fields.{entries}
use Rattle.fs_fields.specs.Around.{place_in}
use Rattle.fs_fields.proofs.entries.position_of.Given as goal

-- the entries before this one stand before the name
abbrev pub invariant-loop-i : goal.invariant-loop-i
invariant-loop-i l = place_in l.name (entries l.amount l.list) ≡ l.i + place_in l.name (entries (l.amount - l.i) (drop (32 * l.i) l.list))
