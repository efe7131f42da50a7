use Rattle.image_world.proofs.Common.{IsLeastLoose}
use Rattle.image_world.proofs.ends.least_loose_pair.Given as goal

abbrev pub invariant-loop-slot : goal.invariant-loop-slot
invariant-loop-slot l = IsLeastLoose l.pointers.slots l.live.live l.slot l.least
