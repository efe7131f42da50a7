use Rattle.std.proofs.Common.{[], ◌≡◌, ℕ, refl, sym, ap, subst, arith}
use Rattle.tsd_core.proofs.Common.{unwrap_or, IsLawful, AreLike, Volume, IsVolumeReady, told_by, world_on, LeavesOwed, IsPaid, Core, IsCoreAt, cost_of, DoesRequest, IsKnown, IsCarriedOut, left_in, commits_none, owed}
use Rattle.std.specs.Prelude.{length}
use Rattle.tsd_model.specs.declared.replies.Reply.TheVariants as reply
use Rattle.tsd_model.specs.declared.requests.Request.TheVariants as ask
use Rattle.tsd_core.proofs.AtLaws.{at_volume, like_at}
use Rattle.tsd_core.proofs.Likes.{like_as, block_size_of}
use Rattle.tsd_core.proofs.Operations.{then_ok, if_ok, ok_if, if_map, at_most, most_due, carried_out}
use Rattle.tsd_core.proofs.disk.Core.read.Goals as goal

pub returns : goal.returns
returns g c = λ kind session shown.
    let old : Core = record { volume = c.self.inside.volume; grants = c.self.inside.grants } in
    let new : Core = record { volume = c.read_block-outcome.new.self; grants = c.self.inside.grants } in
    let v = g.D.Device.view c.args.dev.now in
    let w = g.D.Device.view c.read_block-outcome.new.dev in
    let q = ask.Read session c.args.block shown in
    let t = told_by old.volume in
    let e = c.read_block-outcome.ensures in
    let known : IsKnown old.volume = subst (λ (x : Core). IsKnown x.volume) (sym c.self.view_is) c.requires.known in
    let like : g.D.Device.told → AreLike t (world_on v) = λ told. like_at old.volume v (at_volume old v (subst (λ (x : Core). IsCoreAt x v) (sym c.self.view_is) (c.requires.at told))) in
    let bounds = known.ring in
    let n : ℕ = 0 in
    let does : DoesRequest g.D.Device.told kind q old.volume new.volume v w c.read_block-outcome.result = record {
      like = then_ok c.read_block-outcome.result (λ (same : new.volume ≡ old.volume). like_as (told_by new.volume) t (ap told_by same)) e.same;
      ready = then_ok c.read_block-outcome.result (λ (same : new.volume ≡ old.volume). subst (λ (x : Volume). IsVolumeReady x) (sym same) (subst (λ (x : Core). IsVolumeReady x.volume) (sym c.self.view_is) c.requires.ready.volume)) e.same;
      once = λ b. commits_none c.read_block-outcome.result old.volume new.volume v w (then_ok c.read_block-outcome.result (λ (same : new.volume ≡ old.volume). ap (λ (x : Volume). x.ring) same) e.same) (omega (arith, e.cost.uses.most));
      owes = then_ok c.read_block-outcome.result (λ (same : new.volume ≡ old.volume). let less = ap (λ (x : Volume). owed x.tables) same in omega (arith, less)) e.same;
      grown = λ b. absurd (cc);
      rests = λ told b. e.rests told;
      version = e.version;
      operation = e.operation;
      any_owed = λ told b. subst (λ m. LeavesOwed v w m) (omega arith) (e.cost.any_owed told);
      paid = λ b. then_ok c.read_block-outcome.result (λ (same : new.volume ≡ old.volume). subst (λ (x : Volume). IsPaid (cost_of t q) old.volume v x w) (sym same) (omega (arith, e.cost.uses.most))) e.same;
      most = λ b. most_due n (cost_of t q) old.volume v w e.cost.uses (omega (arith, bounds));
      limit = λ b. at_most n (600) v w e.cost.uses (omega (arith, bounds, known.ring));
      new_paid = λ b. absurd (cc);
      new_most = λ b. absurd (cc);
      sweep_paid = λ b. absurd (cc);
      swept = λ b. absurd (cc);
    } in
    subst (λ (x : Core). IsCarriedOut g.D.Device.told kind q x new v w (left_in c.bytes.result c.bytes.new.into)) c.self.view_is
    (subst (IsCarriedOut g.D.Device.told kind q old new v w) (sym c.bytes.ensures)
    (carried_out g.D.Device.told kind q old new v w c.read_block-outcome.result (λ x. reply.Bytes c.read_block-outcome.new.into) does refl
    (if_ok c.read_block-outcome.result (λ x e. absurd (cc))) (λ x e. (c.read_block-outcome.new.into, refl)) (λ told. if_map c.read_block-outcome.result (λ x h e. ap (λ o. reply.Bytes (unwrap_or o [])) (sym h)) (ok_if _ c.read_block-outcome.result (e.bytes told))) (ok_if _ c.read_block-outcome.result (then_ok c.read_block-outcome.result (λ h. record { body = block_size_of old.volume.tables.geometry (length c.read_block-outcome.new.into) (subst IsLawful known.geometry known.sized.lawful) h; numbers = tt }) e.full))))
