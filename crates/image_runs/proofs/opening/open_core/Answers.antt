use Rattle.std.proofs.Common.{◌≤◌, ◌+◌, sym, subst}
use Rattle.image_runs.proofs.Common.{Volume, due, IsVolumeAt, at_core}
use Rattle.image_runs.proofs.Opened.{state_of_none}
use Rattle.image_runs.proofs.opening.open_core.Goals as goal

pub new-requires : goal.new-requires
new-requires g c = record { ready = c.in_ok-volume.ensures.ready }

pub returns-clause-ready : goal.returns-clause-ready
returns-clause-ready g c = c.new.ensures.ready c.in_ok-volume.ensures.unspent

pub returns-clause-at : goal.returns-clause-at
returns-clause-at g c told =
    let now = g.D.Device.view c.open_volume.new.dev in
    at_core c.new.result now (subst (λ (v : Volume). IsVolumeAt v now) (sym c.new.ensures.volume) (c.in_ok-volume.ensures.at told))

pub returns-clause-state : goal.returns-clause-state
returns-clause-state g c told = state_of_none c.new.result _ _ (c.in_ok-volume.ensures.done told) c.new.ensures.sessions

pub returns-clause-paid : goal.returns-clause-paid
returns-clause-paid g c told quiet =
    let old = g.D.Device.view c.args.dev.now in
    let now = g.D.Device.view c.open_volume.new.dev in
    subst (λ (v : Volume). now.writes + due v ≤ old.writes) (sym c.new.ensures.volume) (c.in_ok-volume.ensures.paid told quiet)
