use Rattle.std.proofs.Common.{sym, ◌∙◌, ap}
use Rattle.intent_journal.proofs.Common.{on_ok_weaker, patches_of}
use Rattle.intent_journal.proofs.Lasts.{home_is}
use Rattle.intent_journal.proofs.Parts.{patches_parted}
use Rattle.intent_journal.proofs.ring.Ring.read.Goals as goal

pub returns-clause-bytes : goal.returns-clause-bytes
returns-clause-bytes g c told =
    let v = g.D.Device.view c.args.dev.now in
    let is = c.as_slice.ensures.value ∙ sym (patches_parted _ c.self.inside.patches c.self.invariant.whole) ∙ ap patches_of c.self.view_is in
    on_ok_weaker c.read_over.result (λ e. e ∙ sym (home_is c.args.self.now v c.args.sector c.as_slice.result.now (c.requires told) is)) (c.read_over.ensures.bytes told)
