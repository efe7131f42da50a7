use Rattle.std.proofs.Common.{◌≡◌, [], length, ◌+◌, ◌≤◌, ◌∙◌, sym, ap, subst, arith}
use Rattle.tsd_core.proofs.Common.{OnOk, due, IsPaid, either_same, told_by, world_on, Core, IsCoreAt, told_world, LeavesPart, behind, KeepsData, HasBatches, doomed, graph_in, owed}
use Rattle.std.specs.Prelude.{Result}
use Rattle.tsd_core.proofs.AtLaws.{at_volume}
use Rattle.tsd_core.proofs.Operations.{then_ok}
use Rattle.tsd_core.proofs.Settling.{owes_no_more, owes_less, ready_still, state_still, told_still}
use Rattle.tsd_core.proofs.BehindLaws.{leaves_behind}
use Rattle.tsd_core.proofs.disk.Core.settle_some.Goals as goal
use Rattle.tsd_core.proofs.Settling.{also_ok, all_ok}

pub returns-clause-ready : goal.returns-clause-ready
returns-clause-ready g c =
    let e = c.settle_some.ensures in
    let new : Core = record { volume = c.settle_some.new.self; grants = c.self.inside.grants } in
    all_ok c.settle_some.result
    (λ ready unspent (same : told_by new.volume ≡ told_by c.self.inside.volume).
    ready_still c.args.self.now new ready unspent (same ∙ ap told_world c.self.view_is) (ap (λ (x : Core). x.grants) c.self.view_is) c.requires.ready)
    e.ready e.operation.unspent e.told

pub returns-clause-told : goal.returns-clause-told
returns-clause-told g c =
    let new : Core = record { volume = c.settle_some.new.self; grants = c.self.inside.grants } in
    then_ok c.settle_some.result
    (λ (same : told_by new.volume ≡ told_by c.self.inside.volume). told_still c.args.self.now new (same ∙ ap told_world c.self.view_is) (ap (λ (x : Core). x.grants) c.self.view_is))
    c.settle_some.ensures.told

pub returns-clause-state : goal.returns-clause-state
returns-clause-state g c = λ told.
    let v = g.D.Device.view c.args.dev.now in
    let w = g.D.Device.view c.settle_some.new.dev in
    let new : Core = record { volume = c.settle_some.new.self; grants = c.self.inside.grants } in
    also_ok c.settle_some.result
    (λ (same : told_by new.volume ≡ told_by c.self.inside.volume) (world : world_on w ≡ world_on v).
    state_still c.args.self.now new v.reads w.reads world (same ∙ ap told_world c.self.view_is) (ap (λ (x : Core). x.grants) c.self.view_is))
    c.settle_some.ensures.told (c.settle_some.ensures.operation.done told)

pub returns-clause-debt : goal.returns-clause-debt
returns-clause-debt g c = λ told.
    let v = g.D.Device.view c.args.dev.now in
    let old : Core = record { volume = c.self.inside.volume; grants = c.self.inside.grants } in
    let at = at_volume old v (subst (λ (x : Core). IsCoreAt x v) (sym c.self.view_is) (c.requires.at told)) in
    owes_no_more c.self.inside.volume v (g.D.Device.view c.settle_some.new.dev) at (c.settle_some.ensures.cost.any_owed told) (either_same v (g.D.Device.view c.settle_some.new.dev) (c.settle_some.ensures.operation.any_moment told))

pub returns-clause-less : goal.returns-clause-less
returns-clause-less g c = λ told.
    let v = g.D.Device.view c.args.dev.now in
    let w = g.D.Device.view c.settle_some.new.dev in
    let old : Core = record { volume = c.self.inside.volume; grants = c.self.inside.grants } in
    let at = at_volume old v (subst (λ (x : Core). IsCoreAt x v) (sym c.self.view_is) (c.requires.at told)) in
    also_ok c.settle_some.result (owes_less c.self.inside.volume c.settle_some.new.self v w at) (c.settle_some.ensures.operation.at told) c.settle_some.ensures.steps

pub returns-clause-paid : goal.returns-clause-paid
returns-clause-paid g c =
    let v = g.D.Device.view c.args.dev.now in
    let w = g.D.Device.view c.settle_some.new.dev in
    let old : Core = record { volume = c.self.inside.volume; grants = c.self.inside.grants } in
    subst (λ (x : Core). OnOk c.settle_some.result (w.writes + due c.settle_some.new.self ≤ v.writes + due x.volume)) c.self.view_is
    (then_ok c.settle_some.result (λ (p : IsPaid 0 old.volume v c.settle_some.new.self w). omega (arith, p)) c.settle_some.ensures.cost.paid)

pub returns-clause-any_moment : goal.returns-clause-any_moment
returns-clause-any_moment g c told = either_same (g.D.Device.view c.args.dev.now) (g.D.Device.view c.settle_some.new.dev) (c.settle_some.ensures.operation.any_moment told)

pub returns-clause-data_kept : goal.returns-clause-data_kept
returns-clause-data_kept g c told =
    subst (λ (x : Core). KeepsData x.volume.tables.geometry [] (g.D.Device.view c.args.dev.now) (g.D.Device.view c.settle_some.new.dev) c.settle_some.result) c.self.view_is (c.settle_some.ensures.operation.data_kept told)

pub returns-clause-few : goal.returns-clause-few
returns-clause-few g c = subst (λ (x : Core). OnOk c.settle_some.result (owed x.volume.tables ≤ owed c.settle_some.new.self.tables + 68)) c.self.view_is c.settle_some.ensures.few

pub returns-clause-few_blocks : goal.returns-clause-few_blocks
returns-clause-few_blocks g c =
    subst (λ (x : Core). OnOk c.settle_some.result (length (doomed (graph_in x.volume.tables)) ≤ length (doomed (graph_in c.settle_some.new.self.tables)) + 4)) c.self.view_is c.settle_some.ensures.few_blocks

pub returns-clause-ring : goal.returns-clause-ring
returns-clause-ring g c = subst (λ (x : Core). OnOk c.settle_some.result (HasBatches 4 33 x.volume.ring c.settle_some.new.self.ring)) c.self.view_is c.settle_some.ensures.ring

pub returns-clause-behind : goal.returns-clause-behind
returns-clause-behind g c told =
    let v = g.D.Device.view c.args.dev.now in
    let w = g.D.Device.view c.settle_some.new.dev in
    let size = c.self.inside.volume.tables.geometry in
    subst (λ (x : Core). LeavesPart (behind x.volume.tables.geometry) v w) c.self.view_is (leaves_behind c.settle_some.result size [] v w tt (c.settle_some.ensures.operation.data_kept told))
