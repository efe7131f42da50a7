use Rattle.std.proofs.Common.{◌≡◌, ℕ, ◌+◌, refl, sym, ◌∙◌, ap, subst, arith}
use Rattle.tsd_model.specs.Records.{kept}
use Rattle.tsd_core.proofs.Common.{dropped_from, with_caps, AreLike, checkpoint_writes, with_sessions, told_by, world_on, LeavesOwed, batch_cost, Core, IsCoreAt, cost_of, DoesRequest, IsKnown, IsCarriedOut, left_in, on_ok}
use Rattle.tsd_model.specs.declared.replies.Reply.TheVariants as reply
use Rattle.tsd_model.specs.declared.requests.Request.TheVariants as ask
use Rattle.tsd_core.proofs.AtLaws.{at_volume, like_at}
use Rattle.tsd_core.proofs.Likes.{like_as}
use Rattle.tsd_core.proofs.Operations.{then_ok, if_ok, at_most, most_due, paid_more, carried_out, same_change}
use Rattle.tsd_core.proofs.disk.Core.set_caps.Goals as goal

pub returns : goal.returns
returns g c = λ kind session shown.
    let old : Core = record { volume = c.self.inside.volume; grants = c.self.inside.grants } in
    let new : Core = record { volume = c.set_caps.new.self; grants = c.drop_from.new.self } in
    let v = g.D.Device.view c.args.dev.now in
    let w = g.D.Device.view c.set_caps.new.dev in
    let q = ask.SetCap session c.args.block shown c.args.caps.now in
    let t = told_by old.volume in
    let e = c.set_caps.ensures in
    let known : IsKnown old.volume = subst (λ (x : Core). IsKnown x.volume) (sym c.self.view_is) c.requires.known in
    let like : g.D.Device.told → AreLike t (world_on v) = λ told. like_at old.volume v (at_volume old v (subst (λ (x : Core). IsCoreAt x v) (sym c.self.view_is) (c.requires.at told))) in
    let bounds = known.ring in
    let version : g.D.Device.told → old.volume.tables.version ≡ (world_on v).version = λ told. sym known.version ∙ (like told).version in
    let blocks : old.grants.blocks ≡ t.geometry.blocks = subst (λ (x : Core). x.grants.blocks ≡ (told_by x.volume).geometry.blocks) (sym c.self.view_is) c.requires.ready.made.blocks in
    let n : ℕ = checkpoint_writes old.volume.ring + batch_cost 1 in
    let does : DoesRequest g.D.Device.told kind q old.volume new.volume v w c.set_caps.result = record {
      like = then_ok c.set_caps.result (λ (same : told_by new.volume ≡ with_caps t c.args.block (kept old.volume.tables.version c.args.caps.now)). like_as (told_by new.volume) (with_caps t c.args.block (kept t.version c.args.caps.now)) (same ∙ ap (λ n. with_caps t c.args.block (kept n c.args.caps.now)) (sym known.version))) e.told;
      ready = e.ready;
      once = λ b. e.once;
      owes = on_ok c.set_caps.result (let less = e.owes in omega (arith, less));
      grown = λ b. absurd (cc);
      rests = λ told b. absurd (cc);
      version = e.version;
      operation = same_change g.D.Device.told _ _ old.volume new.volume v w c.set_caps.result (λ told. ap (λ n. with_caps (world_on v) c.args.block (kept n c.args.caps.now)) (version told)) e.operation;
      any_owed = λ told b. subst (λ m. LeavesOwed v w m) (omega arith) (e.cost.any_owed told);
      paid = λ b. then_ok c.set_caps.result (paid_more (batch_cost 1) (cost_of t q) old.volume new.volume v w (omega arith)) e.cost.paid;
      most = λ b. most_due n (cost_of t q) old.volume v w e.cost.uses (omega (arith, bounds));
      limit = λ b. at_most n (600) v w e.cost.uses (omega (arith, bounds, known.ring));
      new_paid = λ b. absurd (cc);
      new_most = λ b. absurd (cc);
      sweep_paid = λ b. absurd (cc);
      swept = λ b. absurd (cc);
    } in
    subst (λ (x : Core). IsCarriedOut g.D.Device.told kind q x new v w (left_in c.set_caps.result reply.Done)) c.self.view_is
    (carried_out g.D.Device.told kind q old new v w c.set_caps.result (λ x. reply.Done) does (c.drop_from.ensures ∙ (λ i. with_sessions old.grants (dropped_from (blocks i) c.args.block old.grants.sessions)))
    (if_ok c.set_caps.result (λ x e. refl)) (λ x e. absurd (cc)) (λ told. if_ok c.set_caps.result (λ x e. absurd (cc))) (if_ok c.set_caps.result (λ x. record { body = tt; numbers = tt })))
