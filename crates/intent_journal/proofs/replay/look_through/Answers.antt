use Rattle.std.proofs.Common.{◌∙◌, ap, List}
use Rattle.intent_journal.proofs.Common.{Patch, overlaid}
use Rattle.intent_journal.proofs.replay.look_through.Goals as goal

pub returns-clause-bytes : goal.returns-clause-bytes
returns-clause-bytes g c told =
    let v = g.D.Device.view c.args.dev.now in
    c.in_ok-read_over.ensures.bytes told ∙ (λ i. overlaid c.as_slice.result.now ((c.read_records.ensures.rests told).reads i) c.args.sector)
    ∙ ap (λ (ps : List Patch). overlaid ps v.reads c.args.sector) (c.as_slice.ensures.value ∙ c.in_ok-read_records.ensures.found told)
