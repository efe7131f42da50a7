use Rattle.intent_journal.specs.Ring.{IsRingAt}
use Rattle.test_journal.proofs.steps.commit_all.Given as goal

abbrev pub invariant-loop-step : goal.invariant-loop-step
invariant-loop-step g l = g.D.Device.told → IsRingAt l.ring (g.D.Device.view l.dev)
