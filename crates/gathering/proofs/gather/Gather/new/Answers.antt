use Rattle.std.proofs.Common.{sym, subst, refl, List, []}
use Rattle.image_device.specs.declared.event.Event.{Event}
use Rattle.gathering.specs.Gathered.{AreWhole, gathered_view}
use Rattle.intent_journal.specs.Ring.{IsRingAt}
use Rattle.intent_journal.proofs.Uses.{at_closed}
use Rattle.gathering.proofs.Closed.{cleared_closed}
use Rattle.gathering.proofs.Wholes.{cleared_whole}
use Rattle.gathering.proofs.gather.Gather.new.Goals as goal

pub invariant_of-result-clause-leaves : goal.invariant_of-result-clause-leaves
invariant_of-result-clause-leaves g c told = ∣ (c.requires.rests told).leaves ∣₁

pub invariant_of-result-clause-whole : goal.invariant_of-result-clause-whole
invariant_of-result-clause-whole g c told =
    subst (λ (l : List Event). AreWhole g.K.Began.start l) (sym c.new.ensures)
    (cleared_whole g.K.Began.start.reads (g.P.Device.view c.args.inner).reads (c.requires.rests told).reads (g.met.P.Device.sound c.args.inner told).own.whole)

pub returns-clause-at : goal.returns-clause-at
returns-clause-at g c =
    subst (λ (l : List Event). IsRingAt [] (gathered_view g.K.Began.start l 0 0 0)) (sym c.new.ensures)
    (at_closed (gathered_view g.K.Began.start [] 0 0 0) (cleared_closed g.K.Began.start.reads) (λ n j. refl))
