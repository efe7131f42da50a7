use Rattle.std.proofs.Common.{◌≡◌, ℕ, ◌+◌, ◌*◌, List, length}
use Rattle.pointer_table.proofs.Common.{slots_start, AreReadTo, AreWithinTo}
use Rattle.pointer_table.proofs.load.take_sector.Given as goal

abbrev pub invariant-loop-position : goal.invariant-loop-position
invariant-loop-position l = record {
  all : length l.slots ≡ l.geometry.slots;
  read : (image : ℕ → List ℕ) → image (slots_start l.geometry + l.part) ≡ l.sector → AreReadTo image l.geometry (64 * l.part) l.initial.slots → AreReadTo image l.geometry l.position l.slots;
  within : AreWithinTo l.geometry (64 * l.part) l.initial.slots → AreWithinTo l.geometry l.position l.slots;
}
