use Rattle.std.proofs.Common.{refl}
use Rattle.image_device.specs.declared.event.Event.TheVariants.{Sync}
use Rattle.gathering.proofs.Events.{journal_kept, net_kept, waits_kept}
use Rattle.gathering.proofs.group.Group.sync.Goals as goal

pub invariant_of-self-clause-newest : goal.invariant_of-self-clause-newest
invariant_of-self-clause-newest c =
    let m = c.args.self.now in
    journal_kept m.past.events _ Sync c.of-self.ensures (λ s. refl) m.journal.last.items m.newest

pub invariant_of-self-clause-net : goal.invariant_of-self-clause-net
invariant_of-self-clause-net c =
    let m = c.args.self.now in
    net_kept m.past.events _ Sync c.of-self.ensures (λ s. refl) m.batch m.net

pub invariant_of-self-clause-waits : goal.invariant_of-self-clause-waits
invariant_of-self-clause-waits c =
    let m = c.args.self.now in
    waits_kept m.past.events _ Sync c.of-self.ensures (λ s. refl) m.waiting.items m.waits
