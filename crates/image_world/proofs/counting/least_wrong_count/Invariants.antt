use Rattle.image_world.proofs.Common.{AreSame}
use Rattle.image_world.proofs.counting.least_wrong_count.Given as goal

abbrev pub invariant-loop-block : goal.invariant-loop-block
invariant-loop-block l = AreSame l.counts.counts l.found l.block
