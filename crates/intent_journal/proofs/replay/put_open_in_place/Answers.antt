use Rattle.intent_journal.proofs.Idle.{idle_ring}
use Rattle.intent_journal.proofs.replay.put_open_in_place.Goals as goal

pub returns-then-are_closed-clause-at : goal.returns-then-are_closed-clause-at
returns-then-are_closed-clause-at g c told =
    idle_ring (g.D.Device.view c.args.dev.now) c.args.patches.now c.args.gates.now (c.requires.listed told) (c.are_closed.ensures c.if-are_closed.true)
