use Rattle.std.proofs.Common.{◌∙◌, refl, sym, subst, List, ℕ}
use Rattle.image_device.specs.Image.{IsSector}
use Rattle.image_device.proofs.Outcomes.{unless_err, where_err}
use Rattle.image_device.specs.declared.event.Event.{Event}
use Rattle.gathering.specs.Gathered.{AreWhole, begun_on}
use Rattle.gathering.proofs.Events.{whole_written}
use Rattle.image_device.proofs.Pushes.{touches, written, loose}
use Rattle.gathering.proofs.gather.GatherDevice.write.Goals as goal

pub invariant_of-self-else-is_err-clause-whole : goal.invariant_of-self-else-is_err-clause-whole
invariant_of-self-else-is_err-clause-whole g c told =
    let es = c.args.self.now.group.past.events in
    let kept = unless_err c.write.result c.is_err.result c.if-is_err.false c.is_err.ensures.value c.write.ensures.kept in
    let sector : IsSector c.args.from.now = record { size = c.told-from; each = c.fits-from } in
    whole_written es _ c.args.sector kept.0 kept.2 g.K.Began.start (subst (λ (b : List ℕ). IsSector b) (sym kept.1) sector) (c.args.self.now.whole told)

pub invariant_of-self-clause-whole : goal.invariant_of-self-clause-whole
invariant_of-self-clause-whole g c told =
    let same = where_err c.write.result c.is_err.result c.if-is_err.true c.is_err.ensures.value c.write.ensures.same in
    subst (λ (l : List Event). AreWhole g.K.Began.start l) (sym same) (c.args.self.now.whole told)

pub returns-clause-written : goal.returns-clause-written
returns-clause-written g c told =
    let es = c.args.self.now.group.past.events in
    let kept = unless_err c.write.result c.is_err.result c.if-is_err.false c.is_err.ensures.value c.write.ensures.kept in
    written (begun_on g.K.Began.start) es 0 0 0 0 0 0 c.args.sector kept.0 _ refl _ kept.2 ∙ kept.1

pub returns-clause-loose : goal.returns-clause-loose
returns-clause-loose g c told =
    let es = c.args.self.now.group.past.events in
    let kept = unless_err c.write.result c.is_err.result c.if-is_err.false c.is_err.ensures.value c.write.ensures.kept in
    loose (begun_on g.K.Began.start) es 0 0 0 0 0 0 c.args.sector kept.0 _ refl _ kept.2

pub returns-clause-touches : goal.returns-clause-touches
returns-clause-touches g c told =
    let es = c.args.self.now.group.past.events in
    let kept = unless_err c.write.result c.is_err.result c.if-is_err.false c.is_err.ensures.value c.write.ensures.kept in
    touches (begun_on g.K.Began.start) es _ _ _ _ _ _ c.args.sector kept.0 _ refl _ kept.2
