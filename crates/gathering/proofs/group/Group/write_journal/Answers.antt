use Rattle.std.proofs.Common.{refl}
use Rattle.image_device.specs.declared.event.Event.TheVariants.{Write}
use Rattle.gathering.proofs.Events.{journal_written, net_journal, waits_kept}
use Rattle.gathering.proofs.PastEvents.{boxed}
use Rattle.gathering.proofs.group.Group.write_journal.Goals as goal

pub invariant_of-self-clause-newest : goal.invariant_of-self-clause-newest
invariant_of-self-clause-newest c =
    let m = c.args.self.now in
    journal_written m.past.events _ c.args.sector (boxed c.args.from.now) c.of-self.ensures m.journal.last.items _ c.args.from.now refl m.journal.size c.requires c.put.ensures m.newest

pub invariant_of-self-clause-net : goal.invariant_of-self-clause-net
invariant_of-self-clause-net c =
    let m = c.args.self.now in
    net_journal m.past.events _ c.args.sector (boxed c.args.from.now) c.of-self.ensures m.batch c.requires m.net

pub invariant_of-self-clause-waits : goal.invariant_of-self-clause-waits
invariant_of-self-clause-waits c =
    let m = c.args.self.now in
    waits_kept m.past.events _ (Write c.args.sector (boxed c.args.from.now)) c.of-self.ensures (λ s. refl) m.waiting.items m.waits

pub returns : goal.returns
returns c = (boxed c.args.from.now, refl, c.of-self.ensures)
