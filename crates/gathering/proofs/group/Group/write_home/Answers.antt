use Rattle.std.proofs.Common.{List, ◌∙◌, refl, sym, ap}
use Rattle.image_layout.specs.declared.offset.Patch.{Patch}
use Rattle.image_device.specs.declared.event.Event.TheVariants.{Write}
use Rattle.intent_journal.specs.Home.{overlaid}
use Rattle.gathering.proofs.Events.{journal_apart, net_put, waits_kept}
use Rattle.gathering.proofs.PastEvents.{boxed}
use Rattle.gathering.proofs.group.Group.write_home.Goals as goal

pub invariant_of-self-2-clause-newest : goal.invariant_of-self-2-clause-newest
invariant_of-self-2-clause-newest c =
    let m = c.args.self.now in
    journal_apart m.past.events _ c.args.sector (boxed c.args.from.now) c.of-self.ensures m.journal.last.items c.requires m.newest

pub invariant_of-self-2-clause-net : goal.invariant_of-self-2-clause-net
invariant_of-self-2-clause-net c s n out =
    let m = c.args.self.now in
    net_put m.past.events _ c.args.sector (boxed c.args.from.now) c.of-self.ensures m.batch c.args.from.now c.in_ok-keep_home.ensures.was refl m.net s n out
    ∙ ap (λ (b : List Patch). overlaid b s.reads n) (sym c.in_ok-keep_home.ensures.put)

pub invariant_of-self-2-clause-waits : goal.invariant_of-self-2-clause-waits
invariant_of-self-2-clause-waits c =
    let m = c.args.self.now in
    waits_kept m.past.events _ (Write c.args.sector (boxed c.args.from.now)) c.of-self.ensures (λ s. refl) m.waiting.items m.waits

pub returns-clause-kept : goal.returns-clause-kept
returns-clause-kept c = (boxed c.args.from.now, refl, c.of-self.ensures)
