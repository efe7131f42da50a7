use Rattle.std.proofs.Common.{◌≡◌}
use Rattle.tsd_model.specs.World.{primary_blocks}
use Rattle.tsd_model.specs.Reach.{reach_rounds}
use Rattle.plain_disk.proofs.graph.plain_reach.Given as goal

abbrev pub invariant-loop-round : goal.invariant-loop-round
invariant-loop-round l = l.reached.items ≡ reach_rounds l.world (primary_blocks l.world) l.round
