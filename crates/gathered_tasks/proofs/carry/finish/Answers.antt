use Rattle.std.proofs.Common.{List, sym, subst}
use Rattle.gathered_tasks.proofs.Common.{Core, IsCoreAt, IsInMemory, Patch, gathered}
use Rattle.gathered_tasks.proofs.CarryLaws.{base_or_now, ended_at}
use Rattle.gathered_tasks.proofs.carry.finish.Goals as goal

pub returns-clause-at : goal.returns-clause-at
returns-clause-at g c t =
    let m = c.commit.new in
    let w = g.D.Device.view m.dev in
    let k = c.in_ok-commit.ensures in
    subst (λ (d : Core). IsCoreAt d w) (sym c.swap_ring.ensures.same) (ended_at m.core m.room.ring w (subst (λ (b : List Patch). IsInMemory m.core m.room.ring b w) k.none (k.goes_on.at t)))

pub returns-in_err-commit-clause-any_moment : goal.returns-in_err-commit-clause-any_moment
returns-in_err-commit-clause-any_moment g c t =
    base_or_now (gathered c.args.room.now) (g.D.Device.view c.args.dev.now) (g.D.Device.view c.commit.new.dev) (c.commit.ensures.goes_on.any_moment t)

pub returns-clause-any_moment : goal.returns-clause-any_moment
returns-clause-any_moment g c t =
    base_or_now (gathered c.args.room.now) (g.D.Device.view c.args.dev.now) (g.D.Device.view c.commit.new.dev) (c.commit.ensures.goes_on.any_moment t)
