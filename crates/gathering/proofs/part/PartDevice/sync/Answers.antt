use Rattle.std.proofs.Common.{refl, ap}
use Rattle.image_device.specs.declared.event.Event.TheVariants.{Sync}
use Rattle.image_device.specs.History.{HistoryState}
use Rattle.image_device.proofs.Pushes.{settles}
use Rattle.gathering.specs.Parts.{went_on}
use Rattle.gathering.proofs.BelowLaws.{settles_in_part}
use Rattle.gathering.proofs.Events.{journal_kept, pushed}
use Rattle.gathering.proofs.PartLaws.{net_of_sync, stray_kept, whole_sync}
use Rattle.gathering.proofs.part.PartDevice.sync.Goals as goal

pub invariant_of-self-clause-newest : goal.invariant_of-self-clause-newest
invariant_of-self-clause-newest g c =
    let m = c.args.self.now in
    journal_kept m.past.events _ Sync c.with_sync-self.ensures (λ s. refl) m.journal.last.items m.newest

pub invariant_of-self-clause-net : goal.invariant_of-self-clause-net
invariant_of-self-clause-net g c =
    let m = c.args.self.now in
    net_of_sync g.K.Going.start g.K.Going.batch m.past.events _ c.with_sync-self.ensures m.homes.patches.items m.net

pub invariant_of-self-clause-stray : goal.invariant_of-self-clause-stray
invariant_of-self-clause-stray g c had =
    let m = c.args.self.now in
    stray_kept m.past.events _ Sync c.with_sync-self.ensures (m.stray had)

pub invariant_of-self-clause-whole : goal.invariant_of-self-clause-whole
invariant_of-self-clause-whole g c =
    let m = c.args.self.now in
    whole_sync m.past.events _ c.with_sync-self.ensures m.whole

pub returns-clause-firm : goal.returns-clause-firm
returns-clause-firm g c told n =
    let m = c.args.self.now in
    ap (λ (z : HistoryState). z.loose n) (pushed m.past.events _ Sync c.with_sync-self.ensures (went_on g.K.Going.start g.K.Going.batch))

pub returns-clause-settles : goal.returns-clause-settles
returns-clause-settles g c told =
    let m = c.args.self.now in
    settles_in_part g.K.Going.start g.K.Going.batch (g.P.Device.view m.dev.now) m.past.events _ _ _ _ _
    (settles (went_on g.K.Going.start g.K.Going.batch) m.past.events _ _ _ _ _ _ (went_on g.K.Going.start g.K.Going.batch) refl _ c.with_sync-self.ensures)
