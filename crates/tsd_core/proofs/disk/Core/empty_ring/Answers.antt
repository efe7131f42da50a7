use Rattle.std.proofs.Common.{◌≡◌, [], ◌+◌, ◌≤◌, ◌∙◌, sym, ap, subst}
use Rattle.tsd_core.proofs.Common.{Volume, IsVolumeReady, either_same, told_by, world_on, Core, IsCoreAt, told_world, LeavesPart, behind, owed, checkpoint_writes}
use Rattle.std.specs.Prelude.{Result}
use Rattle.tsd_core.proofs.Settling.{ready_still, state_still, told_still}
use Rattle.tsd_core.proofs.Operations.{then_ok}
use Rattle.tsd_core.proofs.BehindLaws.{leaves_behind}
use Rattle.tsd_core.proofs.disk.Core.empty_ring.Goals as goal
use Rattle.tsd_core.proofs.Settling.{also_ok}

pub returns-clause-ready : goal.returns-clause-ready
returns-clause-ready g c =
    let was = c.self.inside.volume in
    let new : Core = record { volume = c.empty_ring.new.self; grants = c.self.inside.grants } in
    also_ok c.empty_ring.result
    (λ unspent (same : new.volume ≡ record was { ring = [] }).
    ready_still c.args.self.now new (subst (λ (x : Volume). IsVolumeReady x) (sym same) (subst (λ (x : Core). IsVolumeReady x.volume) (sym c.self.view_is) c.requires.ready.volume)) unspent (ap told_by same ∙ ap told_world c.self.view_is) (ap (λ (x : Core). x.grants) c.self.view_is) c.requires.ready)
    c.empty_ring.ensures.operation.unspent c.empty_ring.ensures.same

pub returns-clause-state : goal.returns-clause-state
returns-clause-state g c = λ told.
    let v = g.D.Device.view c.args.dev.now in
    let w = g.D.Device.view c.empty_ring.new.dev in
    let was = c.self.inside.volume in
    let new : Core = record { volume = c.empty_ring.new.self; grants = c.self.inside.grants } in
    also_ok c.empty_ring.result
    (λ (same : new.volume ≡ record was { ring = [] }) (world : world_on w ≡ world_on v).
    state_still c.args.self.now new v.reads w.reads world (ap told_by same ∙ ap told_world c.self.view_is) (ap (λ (x : Core). x.grants) c.self.view_is))
    c.empty_ring.ensures.same (c.empty_ring.ensures.operation.done told)

pub returns-clause-owes : goal.returns-clause-owes
returns-clause-owes g c =
    let was = c.self.inside.volume in
    then_ok c.empty_ring.result (λ (same : c.empty_ring.new.self ≡ record was { ring = [] }). ap (λ (x : Volume). owed x.tables) same ∙ ap (λ (x : Core). owed x.volume.tables) c.self.view_is) c.empty_ring.ensures.same

pub returns-clause-any_moment : goal.returns-clause-any_moment
returns-clause-any_moment g c told = either_same (g.D.Device.view c.args.dev.now) (g.D.Device.view c.empty_ring.new.dev) (c.empty_ring.ensures.operation.any_moment told)

pub returns-clause-behind : goal.returns-clause-behind
returns-clause-behind g c told =
    let v = g.D.Device.view c.args.dev.now in
    let w = g.D.Device.view c.empty_ring.new.dev in
    let size = c.self.inside.volume.tables.geometry in
    subst (λ (x : Core). LeavesPart (behind x.volume.tables.geometry) v w) c.self.view_is (leaves_behind c.empty_ring.result size [] v w tt (c.empty_ring.ensures.operation.data_kept told))

pub returns-clause-told : goal.returns-clause-told
returns-clause-told g c =
    let was = c.self.inside.volume in
    let new : Core = record { volume = c.empty_ring.new.self; grants = c.self.inside.grants } in
    then_ok c.empty_ring.result
    (λ (same : new.volume ≡ record was { ring = [] }). told_still c.args.self.now new (ap told_by same ∙ ap told_world c.self.view_is) (ap (λ (x : Core). x.grants) c.self.view_is))
    c.empty_ring.ensures.same

pub returns-clause-emptied : goal.returns-clause-emptied
returns-clause-emptied g c =
    let was = c.self.inside.volume in
    then_ok c.empty_ring.result (λ (same : c.empty_ring.new.self ≡ record was { ring = [] }). ap (λ (x : Volume). x.ring) same) c.empty_ring.ensures.same

pub returns-clause-most : goal.returns-clause-most
returns-clause-most g c =
    let v = g.D.Device.view c.args.dev.now in
    let w = g.D.Device.view c.empty_ring.new.dev in
    subst (λ (x : Core). w.writes ≤ v.writes + checkpoint_writes x.volume.ring) c.self.view_is c.empty_ring.ensures.cost.uses.most
