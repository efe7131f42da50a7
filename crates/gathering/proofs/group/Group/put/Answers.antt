use Rattle.std.proofs.Common.{◌≡◌, ◌<◌, ◌^◌, ◌++◌, length, refl, rules}
use Rattle.image_device.specs.declared.event.Event.TheVariants.{Put}
use Rattle.gathering.proofs.Events.{journal_kept, net_kept, waits_put}
use Rattle.gathering.proofs.PastEvents.{vector, vector_has}
use Rattle.gathering.proofs.group.Group.put.Goals as goal

pub invariant_of-self-2-clause-newest : goal.invariant_of-self-2-clause-newest
invariant_of-self-2-clause-newest c =
    let m = c.args.self.now in
    journal_kept m.past.events _ (Put (vector c.args.piece.now)) c.of-self.ensures (λ s. refl) m.journal.last.items m.newest

pub invariant_of-self-2-clause-net : goal.invariant_of-self-2-clause-net
invariant_of-self-2-clause-net c =
    let m = c.args.self.now in
    net_kept m.past.events _ (Put (vector c.args.piece.now)) c.of-self.ensures (λ s. refl) m.batch m.net

pub invariant_of-self-2-clause-waits : goal.invariant_of-self-2-clause-waits
invariant_of-self-2-clause-waits c =
    let m = c.args.self.now in
    let small : length c.args.piece.now < 2 ^ 63 = search rules in
    let grown : c.extend_from_slice.new.self.items ≡ m.waiting.items ++ c.args.piece.now = search rules in
    waits_put m.past.events _ (vector c.args.piece.now) c.of-self.ensures m.waiting.items _ c.args.piece.now (vector_has c.args.piece.now small) grown m.waits

pub returns-clause-kept : goal.returns-clause-kept
returns-clause-kept c =
    let small : length c.args.piece.now < 2 ^ 63 = search rules in
    (vector c.args.piece.now, vector_has c.args.piece.now small, c.of-self.ensures)
