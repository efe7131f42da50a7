use Rattle.std.proofs.Common.{◌≡◌}
use Rattle.tsd_model.specs.Doomed.{doomed_rounds}
use Rattle.plain_disk.proofs.graph.plain_doomed.Given as goal

abbrev pub invariant-loop-round : goal.invariant-loop-round
invariant-loop-round l = l.gone.items ≡ doomed_rounds l.world l.round
