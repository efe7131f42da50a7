use Rattle.std.proofs.Common.{sym, ◌∙◌}
use Rattle.intent_journal.proofs.Common.{on_ok_weaker, rests_none}
use Rattle.intent_journal.proofs.Overlays.{overlaid_missed}
use Rattle.intent_journal.proofs.ring.read_over.Goals as goal

pub returns-in-Some-clause-bytes : goal.returns-in-Some-clause-bytes
returns-in-Some-clause-bytes g c told = sym (c.in-Some.ensures.some (g.D.Device.view c.args.dev.now).reads)

pub returns-in-None-clause-bytes : goal.returns-in-None-clause-bytes
returns-in-None-clause-bytes g c told =
    on_ok_weaker c.read.result (λ e. e ∙ sym (overlaid_missed c.args.patches.now (g.D.Device.view c.args.dev.now).reads c.args.sector c.in-None.ensures.none)) (c.read.ensures.bytes told)

pub returns-in-Some-clause-rests : goal.returns-in-Some-clause-rests
returns-in-Some-clause-rests g c told = rests_none (g.D.Device.view c.args.dev.now)
