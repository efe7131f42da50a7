use Rattle.std.proofs.Common.{◌≡◌, [], ◌+◌, ◌<◌, ◌≤◌, ◌∙◌, sym, ap, subst, arith}
use Rattle.tsd_core.proofs.Common.{IfOk, OnOk, either_same, told_by, world_on, Core, IsCoreAt, told_world, LeavesPart, behind, owed, checkpoint_writes, batch_cost}
use Rattle.std.specs.Prelude.{Result, Bool, true, false}
use Rattle.tsd_core.proofs.Settling.{ready_still, state_still, told_still}
use Rattle.tsd_core.proofs.Operations.{then_ok}
use Rattle.tsd_core.proofs.BehindLaws.{leaves_behind}
use Rattle.tsd_core.proofs.disk.Core.settle_one.Goals as goal
use Rattle.tsd_core.proofs.Settling.{also_ok, all_ok}

pub returns-clause-ready : goal.returns-clause-ready
returns-clause-ready g c =
    let e = c.settle_one.ensures in
    let new : Core = record { volume = c.settle_one.new.self; grants = c.self.inside.grants } in
    all_ok c.settle_one.result
    (λ ready unspent (same : told_by new.volume ≡ told_by c.self.inside.volume).
    ready_still c.args.self.now new ready unspent (same ∙ ap told_world c.self.view_is) (ap (λ (x : Core). x.grants) c.self.view_is) c.requires.ready)
    e.ready e.operation.unspent e.told

pub returns-clause-state : goal.returns-clause-state
returns-clause-state g c = λ told.
    let v = g.D.Device.view c.args.dev.now in
    let w = g.D.Device.view c.settle_one.new.dev in
    let new : Core = record { volume = c.settle_one.new.self; grants = c.self.inside.grants } in
    also_ok c.settle_one.result
    (λ (same : told_by new.volume ≡ told_by c.self.inside.volume) (world : world_on w ≡ world_on v).
    state_still c.args.self.now new v.reads w.reads world (same ∙ ap told_world c.self.view_is) (ap (λ (x : Core). x.grants) c.self.view_is))
    c.settle_one.ensures.told (c.settle_one.ensures.operation.done told)

pub returns-clause-lowered : goal.returns-clause-lowered
returns-clause-lowered g c = subst (λ (x : Core). IfOk c.settle_one.result (λ some. some ≡ true → owed c.settle_one.new.self.tables < owed x.volume.tables)) c.self.view_is c.settle_one.ensures.lowered

pub returns-clause-any_moment : goal.returns-clause-any_moment
returns-clause-any_moment g c told = either_same (g.D.Device.view c.args.dev.now) (g.D.Device.view c.settle_one.new.dev) (c.settle_one.ensures.operation.any_moment told)

pub returns-clause-behind : goal.returns-clause-behind
returns-clause-behind g c told =
    let v = g.D.Device.view c.args.dev.now in
    let w = g.D.Device.view c.settle_one.new.dev in
    let size = c.self.inside.volume.tables.geometry in
    subst (λ (x : Core). LeavesPart (behind x.volume.tables.geometry) v w) c.self.view_is (leaves_behind c.settle_one.result size [] v w tt (c.settle_one.ensures.operation.data_kept told))

pub returns-clause-told : goal.returns-clause-told
returns-clause-told g c =
    let new : Core = record { volume = c.settle_one.new.self; grants = c.self.inside.grants } in
    then_ok c.settle_one.result
    (λ (same : told_by new.volume ≡ told_by c.self.inside.volume). told_still c.args.self.now new (same ∙ ap told_world c.self.view_is) (ap (λ (x : Core). x.grants) c.self.view_is))
    c.settle_one.ensures.told

pub returns-clause-used : goal.returns-clause-used
returns-clause-used g c =
    let v = g.D.Device.view c.args.dev.now in
    let w = g.D.Device.view c.settle_one.new.dev in
    subst (λ (x : Core). OnOk c.settle_one.result (w.writes + checkpoint_writes c.settle_one.new.self.ring ≤ v.writes + checkpoint_writes x.volume.ring + batch_cost 33)) c.self.view_is c.settle_one.ensures.used

pub returns-clause-most : goal.returns-clause-most
returns-clause-most g c =
    let v = g.D.Device.view c.args.dev.now in
    let w = g.D.Device.view c.settle_one.new.dev in
    subst (λ (x : Core). w.writes ≤ v.writes + checkpoint_writes x.volume.ring + batch_cost 33) c.self.view_is (omega (arith, c.settle_one.ensures.uses.most))
