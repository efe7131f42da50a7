use Rattle.std.proofs.Common.{refl, ap}
use Rattle.image_device.specs.declared.event.Event.TheVariants.{Sync}
use Rattle.image_device.specs.History.{HistoryState}
use Rattle.gathering.specs.Gathered.{begun_on}
use Rattle.gathering.proofs.Events.{whole_kept, pushed}
use Rattle.image_device.proofs.Pushes.{settles}
use Rattle.gathering.proofs.gather.GatherDevice.sync.Goals as goal

pub invariant_of-self-clause-whole : goal.invariant_of-self-clause-whole
invariant_of-self-clause-whole g c told =
    let es = c.args.self.now.group.past.events in
    whole_kept es _ Sync c.sync.ensures (λ s. refl) g.K.Began.start (c.args.self.now.whole told)

pub returns-clause-firm : goal.returns-clause-firm
returns-clause-firm g c told n =
    let es = c.args.self.now.group.past.events in
    ap (λ (z : HistoryState). z.loose n) (pushed es _ Sync c.sync.ensures (begun_on g.K.Began.start))

pub returns-clause-settles : goal.returns-clause-settles
returns-clause-settles g c told =
    let es = c.args.self.now.group.past.events in
    settles (begun_on g.K.Began.start) es _ _ _ _ _ _ _ refl _ c.sync.ensures
