use Rattle.std.proofs.Common.{◌≡◌, ◌∙◌, sym, ap, subst, List, length, arith}
use Rattle.image_device.specs.declared.event.Event.{Event}
use Rattle.image_device.specs.History.{after}
use Rattle.image_layout.specs.declared.offset.Patch.{Patch}
use Rattle.intent_journal.specs.Batch.{IsBatch, homes_of}
use Rattle.intent_journal.specs.Home.{overlaid}
use Rattle.intent_journal.specs.Records.{is_gate_open}
use Rattle.intent_journal.proofs.Uses.{at_closed}
use Rattle.tsd_model.specs.World.{are_apart}
use Rattle.gathering.specs.Gathered.{cleared}
use Rattle.gathering.specs.Parts.{went_on, AreWholeWrites}
use Rattle.gathering.proofs.Events.{journal_none}
use Rattle.gathering.proofs.PartLaws.{none_of_journal, on_closed}
use Rattle.gathering.proofs.Wholes.{gone_on_whole}
use Rattle.gathering.proofs.part.Part.new.Goals as goal

pub invariant_of-result-clause-newest : goal.invariant_of-result-clause-newest
invariant_of-result-clause-newest g c = journal_none c.none.result.events c.none.ensures c.with_batch_alone-batch.result.journal.last.items c.with_batch_alone-batch.ensures.journal

pub invariant_of-result-clause-closed : goal.invariant_of-result-clause-closed
invariant_of-result-clause-closed g c n inside =
    let batch : IsBatch g.K.Going.batch = subst (λ (b : List Patch). IsBatch b) (c.with_batch_alone-batch.ensures.batch ∙ c.requires.batch) c.len-length.ensures.batch in
    none_of_journal g.K.Going.batch (cleared g.K.Going.start.reads) n batch inside

pub invariant_of-result-clause-net : goal.invariant_of-result-clause-net
invariant_of-result-clause-net g c n out =
    ap (λ (l : List Event). (after l (went_on g.K.Going.start g.K.Going.batch)).reads n) c.none.ensures
    ∙ ap (λ (b : List Patch). overlaid b (cleared g.K.Going.start.reads) n) (sym (c.with_batch_alone-batch.result.same ∙ c.with_batch_alone-batch.ensures.batch ∙ c.requires.batch))

pub invariant_of-result-clause-apart : goal.invariant_of-result-clause-apart
invariant_of-result-clause-apart g c = ap (λ (b : List Patch). are_apart (homes_of b)) c.with_batch_alone-batch.result.same ∙ c.len-length.ensures.batch.distinct

pub invariant_of-result-clause-whole : goal.invariant_of-result-clause-whole
invariant_of-result-clause-whole g c = subst AreWholeWrites (sym c.none.ensures) tt

pub invariant_of-result-clause-began_whole : goal.invariant_of-result-clause-began_whole
invariant_of-result-clause-began_whole g c told =
    let batch : IsBatch g.K.Going.batch = subst (λ (b : List Patch). IsBatch b) (c.with_batch_alone-batch.ensures.batch ∙ c.requires.batch) c.len-length.ensures.batch in
    gone_on_whole g.K.Going.batch g.K.Going.start.reads (g.P.Device.view c.args.below.dev.now).reads (c.requires.rests told).reads batch (g.met.P.Device.sound c.args.below.dev.now told).own.whole

pub invariant_of-result-clause-few : goal.invariant_of-result-clause-few
invariant_of-result-clause-few g c =
    let same : length c.with_batch_alone-batch.result.homes.patches.items ≡ length g.K.Going.batch = ap length (c.with_batch_alone-batch.result.same ∙ c.with_batch_alone-batch.ensures.batch ∙ c.requires.batch) in
    omega (arith, same)

pub invariant_of-result-clause-most : goal.invariant_of-result-clause-most
invariant_of-result-clause-most g c =
    let same : length c.with_batch_alone-batch.result.homes.patches.items ≡ length c.with_batch_alone-batch.result.batch = ap length c.with_batch_alone-batch.result.same in
    omega (arith, same, c.len-length.ensures.batch.most)

pub returns-clause-at : goal.returns-clause-at
returns-clause-at g c =
    let batch : IsBatch g.K.Going.batch = subst (λ (b : List Patch). IsBatch b) (c.with_batch_alone-batch.ensures.batch ∙ c.requires.batch) c.len-length.ensures.batch in
    let base = went_on g.K.Going.start g.K.Going.batch in
    at_closed _
    (λ index less. ap (λ (l : List Event). is_gate_open (after l base).reads index) c.none.ensures ∙ on_closed g.K.Going.batch g.K.Going.start.reads batch index less)
    (λ n inside. ap (λ (l : List Event). (after l base).loose n) c.none.ensures)

pub returns-clause-firm : goal.returns-clause-firm
returns-clause-firm g c n = ap (λ (l : List Event). (after l (went_on g.K.Going.start g.K.Going.batch)).loose n) c.none.ensures
