use Rattle.std.proofs.Common.{ℕ, ◌+◌, ◌*◌, length, refl, sym, subst, arith}
use Rattle.tsd_model.specs.declared.replies.Reply.TheVariants as reply
use Rattle.tsd_model.specs.declared.requests.Request.TheVariants as ask
use Rattle.tsd_core.proofs.Common.{AreLike, told_by, world_on, owed, LeavesOwed, batch_cost, due, world_after, Core, IsCoreAt, cost_of, DoesRequest, IsKnown, IsCarriedOut, left_in, pairs_of}
use Rattle.tsd_core.proofs.AtLaws.{at_volume, like_at}
use Rattle.tsd_core.proofs.Likes.{like_as}
use Rattle.tsd_core.proofs.Operations.{then_ok, if_ok, at_most, most_due, paid_more, carried_out}
use Rattle.tsd_core.proofs.Created.{some_slot, then_owed}
use Rattle.tsd_core.proofs.disk.Core.create.Goals as goal

pub returns : goal.returns
returns g c = λ kind session shown.
    let old : Core = record { volume = c.self.inside.volume; grants = c.self.inside.grants } in
    let new : Core = record { volume = c.add_pointer.new.self; grants = c.self.inside.grants } in
    let v = g.D.Device.view c.args.dev.now in
    let w = g.D.Device.view c.add_pointer.new.dev in
    let q = ask.Create session c.args.source shown c.args.target in
    let t = told_by old.volume in
    let e = c.add_pointer.ensures in
    let known : IsKnown old.volume = subst (λ (x : Core). IsKnown x.volume) (sym c.self.view_is) c.requires.known in
    let like : g.D.Device.told → AreLike t (world_on v) = λ told. like_at old.volume v (at_volume old v (subst (λ (x : Core). IsCoreAt x v) (sym c.self.view_is) (c.requires.at told))) in
    let bounds = known.ring in
    let n : ℕ = due old.volume + batch_cost 2 in
    let does : DoesRequest g.D.Device.told kind q old.volume new.volume v w c.add_pointer.result = record {
      like = then_ok c.add_pointer.result (like_as (told_by new.volume) (world_after kind t q)) e.told;
      ready = e.ready;
      once = λ b. e.once (some_slot (length (pairs_of old.volume.tables)) old.volume.tables.geometry.slots b);
      owes = then_owed c.add_pointer.result (length (pairs_of old.volume.tables)) old.volume.tables.geometry.slots (owed old.volume.tables) (owed new.volume.tables) e.settled e.unsettled;
      grown = λ b. absurd (cc);
      rests = λ told b. absurd (cc);
      version = e.version;
      operation = e.operation;
      any_owed = λ told b. subst (λ m. LeavesOwed v w m) (omega arith) (e.cost.any_owed told);
      paid = λ b. then_ok c.add_pointer.result (paid_more (batch_cost 2) (cost_of t q) old.volume new.volume v w (omega arith)) e.cost.paid;
      most = λ b. most_due n (cost_of t q) old.volume v w e.cost.uses (omega (arith, bounds));
      limit = λ b. at_most n (600 + 12 * owed old.volume.tables) v w e.cost.uses (omega (arith, bounds, known.ring));
      new_paid = λ b. absurd (cc);
      new_most = λ b. absurd (cc);
      sweep_paid = λ b. absurd (cc);
      swept = λ b. absurd (cc);
    } in
    subst (λ (x : Core). IsCarriedOut g.D.Device.told kind q x new v w (left_in c.add_pointer.result reply.Done)) c.self.view_is
    (carried_out g.D.Device.told kind q old new v w c.add_pointer.result (λ x. reply.Done) does refl
    (if_ok c.add_pointer.result (λ x e. refl)) (λ x e. absurd (cc)) (λ told. if_ok c.add_pointer.result (λ x e. absurd (cc))) (if_ok c.add_pointer.result (λ x. record { body = tt; numbers = tt })))
