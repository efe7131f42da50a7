use Rattle.std.proofs.Common.{◌≡◌, ◌∙◌, ◌≤◌, ◌+◌, ℕ, List, length, sym, ap, subst, arith}
use Rattle.gathered_tasks.proofs.Common.{Core, HasRoomFor, Patch, gathered, room_for}
use Rattle.gathered_tasks.proofs.CarryLaws.{carried_failed, carried_then}
use Rattle.gathered_tasks.proofs.carry.carry_out.Goals as goal

-- what stays as it is has not grown
as_long : (b0 b1 : List Patch) (n : ℕ) → b1 ≡ b0 → length b1 ≤ length b0 + n
as_long b0 b1 n same = subst (λ (b : List Patch). length b ≤ length b0 + n) (sym same) (omega arith)

pub returns-in_err-settle : goal.returns-in_err-settle
returns-in_err-settle g c =
    let view = g.D.Device.view in
    let m = c.settle.new in
    let is = carried_failed (g.L.Placing.kind c.args.placement.now) c.args.request.now _ c.from_residual.result c.from_residual.ensures.1 c.in_err-settle.ensures.holds in
    let still = c.in_err-settle.ensures.still in
    record {
      here = c.in_err-settle.ensures.here;
      goes_on = is.goes_on;
      given = is.given;
      told = is.told_given;
      base = is.base;
      quiet = λ has. ap (λ d. (view d).writes) (still has.reclaims.settled).2;
      grows = λ has. as_long (gathered c.args.room.now) (gathered m.room) _ (still has.reclaims.settled).1;
    }

pub returns : goal.returns
returns g c =
    let view = g.D.Device.view in
    let m = c.settle.new in
    let n = c.ask.new in
    let is = carried_then c.in_ok-settle.ensures.holds (λ t. g.met.D.Device.sound m.dev t) c.ask.ensures.carried in
    let q = c.args.request.now in
    let still = c.in_ok-settle.ensures.still in
    let has_then = λ (has : HasRoomFor c.args.core.now (gathered c.args.room.now) q). subst (λ (b : List Patch). HasRoomFor m.core b q) (sym (still has.reclaims.settled).1) (subst (λ (d : Core). HasRoomFor d (gathered c.args.room.now) q) (sym (still has.reclaims.settled).0) has) in
    record {
      here = c.ask.ensures.here;
      goes_on = is.goes_on;
      given = is.given;
      told = is.told_given;
      base = is.base;
      quiet = λ has. c.ask.ensures.quiet (has_then has) ∙ ap (λ d. (view d).writes) (still has.reclaims.settled).2;
      grows = λ has.
          subst (λ (b : List Patch). length (gathered n.room) ≤ length b + room_for c.args.core.now.volume.tables.geometry q) (still has.reclaims.settled).1
          (subst (λ (d : Core). length (gathered n.room) ≤ length (gathered m.room) + room_for d.volume.tables.geometry q) (still has.reclaims.settled).0 (c.ask.ensures.grows (has_then has)));
    }
