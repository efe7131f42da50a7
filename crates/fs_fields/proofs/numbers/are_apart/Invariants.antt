use Rattle.std.proofs.Common.{◌≡◌, ◌*◌, ◌-◌}
use Rattle.std.specs.Prelude.{drop}
use Rattle.fs_trees.specs.Fields.{numbers}
use Rattle.tsd_model.specs.World.{are_apart}
use Rattle.fs_fields.proofs.numbers.are_apart.Given as goal

-- none of those before this one stands again
abbrev pub invariant-loop-i : goal.invariant-loop-i
invariant-loop-i l = are_apart (numbers l.count l.list) ≡ are_apart (numbers (l.count - l.i) (drop (4 * l.i) l.list))
