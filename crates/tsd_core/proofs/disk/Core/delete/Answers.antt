use Rattle.std.proofs.Common.{not, ◌^◌, ◌≡◌, ℕ, ◌+◌, ◌-◌, ◌*◌, ◌<◌, refl, sym, ◌∙◌, ap, subst, arith}
use Rattle.tsd_core.proofs.Common.{free_count, has_number, doomed, settle, without_pointer, AreLike, checkpoint_writes, told_by, world_on, made, batch_cost, world_after, Core, IsCoreAt, cost_of, DoesRequest, IsKnown, IsCarriedOut, left_in, owed}
use Rattle.tsd_model.specs.declared.replies.Reply.TheVariants as reply
use Rattle.tsd_model.specs.declared.requests.Request.TheVariants as ask
use Rattle.tsd_core.proofs.StepSeen.{length-restricted}
use Rattle.tsd_core.proofs.FormLaws.{gone_fits}
use Rattle.tsd_core.proofs.AtLaws.{at_volume, like_at}
use Rattle.tsd_core.proofs.Likes.{like_as}
use Rattle.tsd_core.proofs.Operations.{then_ok, if_ok, if_both, at_most, most_due, paid_more, carried_out}
use Rattle.tsd_core.proofs.disk.Core.delete.Goals as goal

pub returns : goal.returns
returns g c = λ kind session shown.
    let old : Core = record { volume = c.self.inside.volume; grants = c.self.inside.grants } in
    let new : Core = record { volume = c.drop_pointer.new.self; grants = c.self.inside.grants } in
    let v = g.D.Device.view c.args.dev.now in
    let w = g.D.Device.view c.drop_pointer.new.dev in
    let q = ask.Delete session c.args.source shown c.args.target in
    let t = told_by old.volume in
    let e = c.drop_pointer.ensures in
    let known : IsKnown old.volume = subst (λ (x : Core). IsKnown x.volume) (sym c.self.view_is) c.requires.known in
    let like : g.D.Device.told → AreLike t (world_on v) = λ told. like_at old.volume v (at_volume old v (subst (λ (x : Core). IsCoreAt x v) (sym c.self.view_is) (c.requires.at told))) in
    let bounds = known.ring in
    let cut = without_pointer t c.args.source c.args.target in
    let long = length-restricted cut (λ b. not (has_number (doomed cut) b)) in
    let n : ℕ = checkpoint_writes old.volume.ring + batch_cost 2 in
    let does : DoesRequest g.D.Device.told kind q old.volume new.volume v w c.drop_pointer.result = record {
      like = then_ok c.drop_pointer.result (like_as (told_by new.volume) (world_after kind t q)) e.told;
      ready = e.ready;
      once = λ b. e.once;
      owes = then_ok c.drop_pointer.result (λ (less : owed new.volume.tables + 1 ≡ owed old.volume.tables + made t c.args.source c.args.target). omega (arith, less)) e.owed;
      grown = λ b. absurd (cc);
      rests = λ told b. absurd (cc);
      version = e.version;
      operation = e.operation;
      any_owed = λ told b. e.cost.any_owed told;
      paid = λ b. then_ok c.drop_pointer.result (paid_more (batch_cost 2 + 5 * made t c.args.source c.args.target) (cost_of t q) old.volume new.volume v w (omega arith)) e.cost.paid;
      most = λ b. most_due n (cost_of t q) old.volume v w e.cost.uses (omega (arith, bounds));
      limit = λ b. at_most n (130) v w e.cost.uses (omega (arith, bounds, known.ring));
      new_paid = λ b. absurd (cc);
      new_most = λ b. absurd (cc);
      sweep_paid = λ b. absurd (cc);
      swept = λ b. absurd (cc);
    } in
    subst (λ (x : Core). IsCarriedOut g.D.Device.told kind q x new v w (left_in c.gone.result c.gone.new.into)) c.self.view_is
    (subst (IsCarriedOut g.D.Device.told kind q old new v w) (sym c.gone.ensures)
    (carried_out g.D.Device.told kind q old new v w c.drop_pointer.result (λ count. reply.Gone count) does refl
    (if_both c.drop_pointer.result (λ x (same : told_by new.volume ≡ settle cut) h e. ap reply.Gone (h ∙ ap (λ u. free_count u - free_count t) same)) e.told e.lost) (λ x e. absurd (cc)) (λ told. if_ok c.drop_pointer.result (λ x e. absurd (cc))) (if_both c.drop_pointer.result (λ x (same : told_by new.volume ≡ settle cut) (h : x ≡ free_count (told_by new.volume) - free_count t). record { body = tt; numbers = subst (λ n. n < 2 ^ 32) (sym (h ∙ ap (λ u. free_count u - free_count t) same)) (gone_fits t (settle cut) long known.sized) }) e.told e.lost)))
