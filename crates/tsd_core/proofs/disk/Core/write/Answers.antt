use Rattle.std.proofs.Common.{◌≡◌, ℕ, ◌+◌, ◌≤◌, true, refl, sym, ap, subst, arith}
use Rattle.tsd_core.proofs.Common.{block_len, IsLawful, is_live, filled, with_contents, AreLike, contents_like, checkpoint_writes, Volume, IsVolumeReady, told_by, world_on, LeavesOwed, batch_cost, Core, IsCoreAt, cost_of, DoesRequest, IsKnown, IsCarriedOut, left_in, owed}
use Rattle.tsd_model.specs.declared.replies.Reply.TheVariants as reply
use Rattle.tsd_model.specs.declared.requests.Request.TheVariants as ask
use Rattle.tsd_core.proofs.AtLaws.{at_volume, like_at}
use Rattle.volume_laws.proofs.BlockLaws.{sectors_most}
use Rattle.tsd_core.proofs.Likes.{like_back}
use Rattle.tsd_core.proofs.Operations.{then_ok, if_ok, at_most, most_due, paid_more, carried_out}
use Rattle.tsd_core.proofs.disk.Core.write.Goals as goal

pub returns : goal.returns
returns g c = λ kind session shown.
    let old : Core = record { volume = c.self.inside.volume; grants = c.self.inside.grants } in
    let new : Core = record { volume = c.write_block.new.self; grants = c.self.inside.grants } in
    let v = g.D.Device.view c.args.dev.now in
    let w = g.D.Device.view c.write_block.new.dev in
    let q = ask.Write session c.args.block shown c.args.bytes.now in
    let t = told_by old.volume in
    let e = c.write_block.ensures in
    let known : IsKnown old.volume = subst (λ (x : Core). IsKnown x.volume) (sym c.self.view_is) c.requires.known in
    let like : g.D.Device.told → AreLike t (world_on v) = λ told. like_at old.volume v (at_volume old v (subst (λ (x : Core). IsCoreAt x v) (sym c.self.view_is) (c.requires.at told))) in
    let live : is_live t c.args.block ≡ true = subst (λ (x : Core). is_live (told_by x.volume) c.args.block ≡ true) (sym c.self.view_is) c.requires.live in
    let bounds : old.volume.tables.geometry.sectors ≤ 8 = sectors_most old.volume.tables.geometry (subst IsLawful known.geometry known.sized.lawful) in
    let full = filled (block_len t.geometry) c.args.bytes.now in
    let n : ℕ = checkpoint_writes old.volume.ring + batch_cost old.volume.tables.geometry.sectors in
    let does : DoesRequest g.D.Device.told kind q old.volume new.volume v w c.write_block.result = record {
      like = then_ok c.write_block.result (λ (same : new.volume ≡ record old.volume { ring = new.volume.ring }). subst (λ (x : Volume). AreLike (told_by x) (with_contents t c.args.block full)) (sym same) (like_back (with_contents t c.args.block full) t (contents_like t c.args.block full live))) e.same;
      ready = then_ok c.write_block.result (λ (same : new.volume ≡ record old.volume { ring = new.volume.ring }). subst (λ (x : Volume). IsVolumeReady x) (sym same) (subst (λ (x : Core). IsVolumeReady x.volume) (sym c.self.view_is) c.requires.ready.volume)) e.same;
      once = λ b. e.once;
      owes = then_ok c.write_block.result (λ (same : new.volume ≡ record old.volume { ring = new.volume.ring }). let less = ap (λ (x : Volume). owed x.tables) same in omega (arith, less)) e.same;
      grown = λ b. absurd (cc);
      rests = λ told b. absurd (cc);
      version = e.version;
      operation = e.operation;
      any_owed = λ told b. subst (λ m. LeavesOwed v w m) (omega arith) (e.cost.any_owed told);
      paid = λ b. then_ok c.write_block.result (paid_more (batch_cost old.volume.tables.geometry.sectors) (cost_of t q) old.volume new.volume v w (omega (arith, bounds))) e.cost.paid;
      most = λ b. most_due n (cost_of t q) old.volume v w e.cost.uses (omega (arith, bounds));
      limit = λ b. at_most n (600) v w e.cost.uses (omega (arith, bounds, known.ring));
      new_paid = λ b. absurd (cc);
      new_most = λ b. absurd (cc);
      sweep_paid = λ b. absurd (cc);
      swept = λ b. absurd (cc);
    } in
    subst (λ (x : Core). IsCarriedOut g.D.Device.told kind q x new v w (left_in c.write_block.result reply.Done)) c.self.view_is
    (carried_out g.D.Device.told kind q old new v w c.write_block.result (λ x. reply.Done) does refl
    (if_ok c.write_block.result (λ x e. refl)) (λ x e. absurd (cc)) (λ told. if_ok c.write_block.result (λ x e. absurd (cc))) (if_ok c.write_block.result (λ x. record { body = tt; numbers = tt })))
