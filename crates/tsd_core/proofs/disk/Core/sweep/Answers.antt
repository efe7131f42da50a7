use Rattle.std.proofs.Common.{◌^◌, ◌≡◌, ◌-◌, ◌<◌, refl, sym, ◌∙◌, ap, subst, arith}
use Rattle.tsd_core.proofs.Common.{free_count, has_number, reach, swept, AreLike, told_by, world_on, world_after, Core, IsCoreAt, DoesRequest, IsKnown, IsCarriedOut, left_in}
use Rattle.tsd_model.specs.declared.replies.Reply.TheVariants as reply
use Rattle.tsd_model.specs.declared.requests.Request.TheVariants as ask
use Rattle.tsd_core.proofs.StepSeen.{length-restricted}
use Rattle.tsd_core.proofs.FormLaws.{gone_fits}
use Rattle.tsd_core.proofs.AtLaws.{at_volume, like_at}
use Rattle.tsd_core.proofs.Likes.{like_as}
use Rattle.tsd_core.proofs.Operations.{then_ok, if_ok, if_both, carried_out}
use Rattle.tsd_core.proofs.disk.Core.sweep.Goals as goal

pub returns : goal.returns
returns g c = λ kind session shown.
    let old : Core = record { volume = c.self.inside.volume; grants = c.self.inside.grants } in
    let new : Core = record { volume = c.sweep.new.self; grants = c.self.inside.grants } in
    let v = g.D.Device.view c.args.dev.now in
    let w = g.D.Device.view c.sweep.new.dev in
    let q = ask.Sweep session shown in
    let t = told_by old.volume in
    let e = c.sweep.ensures in
    let known : IsKnown old.volume = subst (λ (x : Core). IsKnown x.volume) (sym c.self.view_is) c.requires.known in
    let like : g.D.Device.told → AreLike t (world_on v) = λ told. like_at old.volume v (at_volume old v (subst (λ (x : Core). IsCoreAt x v) (sym c.self.view_is) (c.requires.at told))) in
    let long = length-restricted t (has_number (reach t)) in
    let does : DoesRequest g.D.Device.told kind q old.volume new.volume v w c.sweep.result = record {
      like = then_ok c.sweep.result (like_as (told_by new.volume) (world_after kind t q)) e.told;
      ready = e.ready;
      once = λ b. absurd (cc);
      owes = e.settled;
      grown = λ b. absurd (cc);
      rests = λ told b. absurd (cc);
      version = e.version;
      operation = e.operation;
      any_owed = λ told b. absurd (cc);
      paid = λ b. absurd (cc);
      most = λ b. absurd (cc);
      limit = λ b. absurd (cc);
      new_paid = λ b. absurd (cc);
      new_most = λ b. absurd (cc);
      sweep_paid = λ b. e.paid;
      swept = λ b. omega (arith, e.uses.most);
    } in
    subst (λ (x : Core). IsCarriedOut g.D.Device.told kind q x new v w (left_in c.gone.result c.gone.new.into)) c.self.view_is
    (subst (IsCarriedOut g.D.Device.told kind q old new v w) (sym c.gone.ensures)
    (carried_out g.D.Device.told kind q old new v w c.sweep.result (λ count. reply.Gone count) does refl
    (if_both c.sweep.result (λ x (same : told_by new.volume ≡ swept t) h e. ap reply.Gone (h ∙ ap (λ u. free_count u - free_count t) same)) e.told e.count) (λ x e. absurd (cc)) (λ told. if_ok c.sweep.result (λ x e. absurd (cc))) (if_both c.sweep.result (λ x (same : told_by new.volume ≡ swept t) (h : x ≡ free_count (told_by new.volume) - free_count t). record { body = tt; numbers = subst (λ n. n < 2 ^ 32) (sym (h ∙ ap (λ u. free_count u - free_count t) same)) (gone_fits t (swept t) long known.sized) }) e.told e.count)))
