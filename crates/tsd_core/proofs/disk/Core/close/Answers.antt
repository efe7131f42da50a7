use Rattle.std.proofs.Common.{◌≡◌, [], sym, ◌∙◌, ap, subst, arith}
use Rattle.tsd_core.proofs.Common.{Ok, Err, IsErrAnd, on_ok, IsVolumeAt, IsVolumeReady, Volume, told_by, world_on, owed, due, IsPaid, either_same, Core, IsCoreAt, told_world, HasSameData, KeepsData, data_then, LeavesOnly, LeavesPart, behind, Failed, View, Geometry}
use Rattle.std.specs.Prelude.{Result}
use Rattle.volume_laws.proofs.QuietLaws.{quiet_at}
use Rattle.tsd_core.proofs.AtLaws.{at_volume}
use Rattle.tsd_core.proofs.Operations.{then_ok}
use Rattle.tsd_core.proofs.Settling.{owes_no_more, owing_joined, ready_still, state_still, told_still, worlds_joined}
use Rattle.tsd_core.proofs.BehindLaws.{leaves_behind}
use Rattle.tsd_core.proofs.disk.Core.close.Goals as goal
use Rattle.tsd_core.proofs.Settling.{all_ok}

pub returns-in_err-settle_all-clause-debt : goal.returns-in_err-settle_all-clause-debt
returns-in_err-settle_all-clause-debt g c = λ told.
    let v = g.D.Device.view c.args.dev.now in
    let old : Core = record { volume = c.self.inside.volume; grants = c.self.inside.grants } in
    let at = at_volume old v (subst (λ (x : Core). IsCoreAt x v) (sym c.self.view_is) (c.requires.at told)) in
    owes_no_more c.self.inside.volume v (g.D.Device.view c.settle_all.new.dev) at (c.settle_all.ensures.cost.any_owed told) (either_same v (g.D.Device.view c.settle_all.new.dev) (c.settle_all.ensures.operation.any_moment told))

pub returns-clause-ready : goal.returns-clause-ready
returns-clause-ready g c =
    let mid = c.settle_all.new.self in
    let new : Core = record { volume = c.empty_ring.new.self; grants = c.self.inside.grants } in
    let first = c.in_ok-settle_all.ensures in
    let before : told_by mid ≡ told_world c.args.self.now = first.told ∙ ap told_world c.self.view_is in
    all_ok c.empty_ring.result
    (λ unspent (same : new.volume ≡ record mid { ring = [] }) (u : Unit {0}).
    ready_still c.args.self.now new (subst (λ (x : Volume). IsVolumeReady x) (sym same) first.ready) unspent (ap told_by same ∙ before) (ap (λ (x : Core). x.grants) c.self.view_is) c.requires.ready)
    c.empty_ring.ensures.operation.unspent c.empty_ring.ensures.same (on_ok c.empty_ring.result tt)

pub returns-clause-told : goal.returns-clause-told
returns-clause-told g c =
    let mid = c.settle_all.new.self in
    let new : Core = record { volume = c.empty_ring.new.self; grants = c.self.inside.grants } in
    let before : told_by mid ≡ told_world c.args.self.now = c.in_ok-settle_all.ensures.told ∙ ap told_world c.self.view_is in
    then_ok c.empty_ring.result
    (λ (same : new.volume ≡ record mid { ring = [] }). told_still c.args.self.now new (ap told_by same ∙ before) (ap (λ (x : Core). x.grants) c.self.view_is))
    c.empty_ring.ensures.same

pub returns-clause-state : goal.returns-clause-state
returns-clause-state g c = λ told.
    let v = g.D.Device.view c.args.dev.now in
    let m = g.D.Device.view c.settle_all.new.dev in
    let w = g.D.Device.view c.empty_ring.new.dev in
    let mid = c.settle_all.new.self in
    let new : Core = record { volume = c.empty_ring.new.self; grants = c.self.inside.grants } in
    let first = c.in_ok-settle_all.ensures in
    let before : told_by mid ≡ told_world c.args.self.now = first.told ∙ ap told_world c.self.view_is in
    let there : world_on m ≡ world_on v = first.operation.done told in
    all_ok c.empty_ring.result
    (λ (same : new.volume ≡ record mid { ring = [] }) (world : world_on w ≡ world_on m) (u : Unit {0}).
    state_still c.args.self.now new v.reads w.reads (world ∙ there) (ap told_by same ∙ before) (ap (λ (x : Core). x.grants) c.self.view_is))
    c.empty_ring.ensures.same (c.empty_ring.ensures.operation.done told) (on_ok c.empty_ring.result tt)

pub returns-clause-closed : goal.returns-clause-closed
returns-clause-closed g c = λ told.
    let w = g.D.Device.view c.empty_ring.new.dev in
    let mid = c.settle_all.new.self in
    let new = c.empty_ring.new.self in
    all_ok c.empty_ring.result
    (λ (at : IsVolumeAt new w) (same : new ≡ record mid { ring = [] }) closed.
    quiet_at new w at closed (ap (λ (x : Volume). x.tables.is_sweeping) same ∙ c.in_ok-settle_all.ensures.ready.1) (ap (λ (x : Volume). owed x.tables) same ∙ c.in_ok-settle_all.ensures.settled))
    (c.empty_ring.ensures.operation.at told) c.empty_ring.ensures.same (c.empty_ring.ensures.closed told)

pub returns-clause-debt : goal.returns-clause-debt
returns-clause-debt g c = λ told.
    let v = g.D.Device.view c.args.dev.now in
    let m = g.D.Device.view c.settle_all.new.dev in
    let w = g.D.Device.view c.empty_ring.new.dev in
    let old : Core = record { volume = c.self.inside.volume; grants = c.self.inside.grants } in
    let at = at_volume old v (subst (λ (x : Core). IsCoreAt x v) (sym c.self.view_is) (c.requires.at told)) in
    let first = c.in_ok-settle_all.ensures in
    let none : owed c.settle_all.new.self.tables ≡ 0 = first.settled in
    owes_no_more c.self.inside.volume v w at
    (owing_joined v m w (owed c.settle_all.new.self.tables) (owed c.self.inside.volume.tables) (first.cost.any_owed told) (c.empty_ring.ensures.cost.any_owed told) (omega (arith, none)))
    (worlds_joined v m w (either_same v m (first.operation.any_moment told)) (either_same m w (c.empty_ring.ensures.operation.any_moment told)) (first.operation.done told) (first.operation.sent told))

pub returns-clause-paid : goal.returns-clause-paid
returns-clause-paid g c =
    let v = g.D.Device.view c.args.dev.now in
    let m = g.D.Device.view c.settle_all.new.dev in
    let w = g.D.Device.view c.empty_ring.new.dev in
    let before : due c.self.inside.volume ≡ due c.args.self.now.volume = ap (λ (x : Core). due x.volume) c.self.view_is in
    let first : IsPaid 0 c.self.inside.volume v c.settle_all.new.self m = c.in_ok-settle_all.ensures.cost.paid in
    then_ok c.empty_ring.result (λ (second : IsPaid 0 c.settle_all.new.self m c.empty_ring.new.self w). omega (arith, first, second, before)) c.empty_ring.ensures.cost.paid

pub returns-clause-most : goal.returns-clause-most
returns-clause-most g c =
    let v = g.D.Device.view c.args.dev.now in
    let m = g.D.Device.view c.settle_all.new.dev in
    let before : due c.self.inside.volume ≡ due c.args.self.now.volume = ap (λ (x : Core). due x.volume) c.self.view_is in
    let first : IsPaid 0 c.self.inside.volume v c.settle_all.new.self m = c.in_ok-settle_all.ensures.cost.paid in
    let uses = c.empty_ring.ensures.cost.uses in
    omega (arith, first, uses.most, before)

pub returns-in_err-settle_all-clause-any_moment : goal.returns-in_err-settle_all-clause-any_moment
returns-in_err-settle_all-clause-any_moment g c told = either_same (g.D.Device.view c.args.dev.now) (g.D.Device.view c.settle_all.new.dev) (c.settle_all.ensures.operation.any_moment told)

pub returns-clause-any_moment : goal.returns-clause-any_moment
returns-clause-any_moment g c told =
    let v = g.D.Device.view c.args.dev.now in
    let m = g.D.Device.view c.settle_all.new.dev in
    let w = g.D.Device.view c.empty_ring.new.dev in
    let first = c.in_ok-settle_all.ensures.operation in
    worlds_joined v m w (either_same v m (first.any_moment told)) (either_same m w (c.empty_ring.ensures.operation.any_moment told)) (first.done told) (first.sent told)

-- the same of the core as it was
kept_data : {T : Type 0} (r : Result T Failed) (old was : Core) (v w : View) → old ≡ was → KeepsData old.volume.tables.geometry [] v w r → KeepsData was.volume.tables.geometry [] v w r
kept_data r old was v w same keeps = subst (λ (x : Core). KeepsData x.volume.tables.geometry [] v w r) same keeps

failed_data : {U : Type 0} (g : Geometry) (v w : View) (Q : Failed → Type 0) (r : Result U Failed) → IsErrAnd r Q → LeavesOnly v w (λ x f. HasSameData g [] v.reads x) → KeepsData g [] v w r
failed_data g v w Q (Ok y) is left = absurd is
failed_data g v w Q (Err f) is left = record { reads = tt; left = left }

pub returns-in_err-settle_all-clause-data_kept : goal.returns-in_err-settle_all-clause-data_kept
returns-in_err-settle_all-clause-data_kept g c told =
    let old : Core = record { volume = c.self.inside.volume; grants = c.self.inside.grants } in
    let v = g.D.Device.view c.args.dev.now in
    let m = g.D.Device.view c.settle_all.new.dev in
    let keeps = (c.settle_all.ensures.operation.data_kept told).left in
    kept_data c.from_residual.result old c.args.self.now v m c.self.view_is (failed_data c.self.inside.volume.tables.geometry v m _ c.from_residual.result c.from_residual.ensures.1 keeps)

pub returns-clause-data_kept : goal.returns-clause-data_kept
returns-clause-data_kept g c told =
    let old : Core = record { volume = c.self.inside.volume; grants = c.self.inside.grants } in
    let v = g.D.Device.view c.args.dev.now in
    let m = g.D.Device.view c.settle_all.new.dev in
    let w = g.D.Device.view c.empty_ring.new.dev in
    let first = c.in_ok-settle_all.ensures.operation in
    kept_data c.empty_ring.result old c.args.self.now v w c.self.view_is
    (data_then c.self.inside.volume.tables.geometry c.settle_all.new.self.tables.geometry [] v m w _ c.empty_ring.result first.geometry (first.data_kept told) (c.empty_ring.ensures.operation.data_kept told))

left_behind : (old was : Core) (v w : View) → old ≡ was → LeavesPart (behind old.volume.tables.geometry) v w → LeavesPart (behind was.volume.tables.geometry) v w
left_behind old was v w same leaves = subst (λ (x : Core). LeavesPart (behind x.volume.tables.geometry) v w) same leaves

pub returns-in_err-settle_all-clause-behind : goal.returns-in_err-settle_all-clause-behind
returns-in_err-settle_all-clause-behind g c told =
    let old : Core = record { volume = c.self.inside.volume; grants = c.self.inside.grants } in
    let v = g.D.Device.view c.args.dev.now in
    let m = g.D.Device.view c.settle_all.new.dev in
    left_behind old c.args.self.now v m c.self.view_is
    (leaves_behind c.settle_all.result old.volume.tables.geometry [] v m tt (c.settle_all.ensures.operation.data_kept told))

pub returns-clause-behind : goal.returns-clause-behind
returns-clause-behind g c told =
    let old : Core = record { volume = c.self.inside.volume; grants = c.self.inside.grants } in
    let v = g.D.Device.view c.args.dev.now in
    let m = g.D.Device.view c.settle_all.new.dev in
    let w = g.D.Device.view c.empty_ring.new.dev in
    let first = c.in_ok-settle_all.ensures.operation in
    left_behind old c.args.self.now v w c.self.view_is
    (leaves_behind c.empty_ring.result old.volume.tables.geometry [] v w tt
    (data_then old.volume.tables.geometry c.settle_all.new.self.tables.geometry [] v m w _ c.empty_ring.result first.geometry (first.data_kept told) (c.empty_ring.ensures.operation.data_kept told)))
