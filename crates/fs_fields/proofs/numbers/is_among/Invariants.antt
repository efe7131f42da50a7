use Rattle.std.proofs.Common.{◌≡◌, ◌*◌, ◌-◌}
use Rattle.std.specs.Prelude.{drop}
use Rattle.tsd_model.specs.World.{has_number}
use Rattle.fs_trees.specs.Fields.{numbers}
use Rattle.fs_fields.proofs.numbers.is_among.Given as goal

-- the number isn't among those before this one
abbrev pub invariant-loop-i : goal.invariant-loop-i
invariant-loop-i l = has_number (numbers l.count l.list) l.number ≡ has_number (numbers (l.count - l.i) (drop (4 * l.i) l.list)) l.number
