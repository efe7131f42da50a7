use Rattle.std.proofs.Common.{inl}
use Rattle.image_runs.proofs.Common.{weakened}
use Rattle.image_runs.proofs.Behind.{behind_kept}
use Rattle.image_runs.proofs.Looking.{spares_then}
use Rattle.image_runs.proofs.Upgraded.{upgrade_moments, upgraded_there}
use Rattle.image_runs.proofs.upgrade.upgrade.Goals as goal

pub returns-in-Ok-upgrade-clause-upgraded : goal.returns-in-Ok-upgrade-clause-upgraded
returns-in-Ok-upgrade-clause-upgraded g c told =
    let is = c.in-Ok-upgrade.ensures in
    upgraded_there (g.D.Device.view c.args.dev.now) (g.D.Device.view c.open_volume.new.dev) (g.D.Device.view c.upgrade.new.dev) c.in-Ok.volume c.upgrade.new.self (c.in-Ok.ensures.read told) (c.in-Ok.ensures.done told)
    (c.in-Ok.ensures.at told) (is.operation.at told) (is.operation.done told) (is.closed told) (is.erased told) (is.digests told)

pub returns-in-Ok-upgrade-clause-any_moment : goal.returns-in-Ok-upgrade-clause-any_moment
returns-in-Ok-upgrade-clause-any_moment g c told firm =
    upgrade_moments (g.D.Device.view c.args.dev.now) (g.D.Device.view c.open_volume.new.dev) (g.D.Device.view c.upgrade.new.dev) (c.in-Ok.ensures.read told) (c.in-Ok.ensures.done told)
    (c.open_volume.ensures.sent told) (c.open_volume.ensures.any_moment told firm) (c.upgrade.ensures.operation.any_moment told)

pub returns-in-Ok-upgrade-clause-spares : goal.returns-in-Ok-upgrade-clause-spares
returns-in-Ok-upgrade-clause-spares g c =
    let kept = c.upgrade.ensures.operation.data_kept in
    spares_then c.in-Ok.volume (g.met.D.Device.sound c.open_volume.new.dev) c.in-Ok.ensures.read c.in-Ok.ensures.at c.in-Ok.ensures.done c.open_volume.ensures.behind (λ told. behind_kept c.in-Ok.volume.tables.geometry (g.D.Device.view c.open_volume.new.dev) (g.D.Device.view c.upgrade.new.dev) (kept told).left)

pub returns-in-Ok-clause-any_moment : goal.returns-in-Ok-clause-any_moment
returns-in-Ok-clause-any_moment g c told firm =
    upgrade_moments (g.D.Device.view c.args.dev.now) (g.D.Device.view c.open_volume.new.dev) (g.D.Device.view c.upgrade.new.dev) (c.in-Ok.ensures.read told) (c.in-Ok.ensures.done told)
    (c.open_volume.ensures.sent told) (c.open_volume.ensures.any_moment told firm) (c.upgrade.ensures.operation.any_moment told)

pub returns-in-Ok-clause-spares : goal.returns-in-Ok-clause-spares
returns-in-Ok-clause-spares g c =
    let kept = c.upgrade.ensures.operation.data_kept in
    spares_then c.in-Ok.volume (g.met.D.Device.sound c.open_volume.new.dev) c.in-Ok.ensures.read c.in-Ok.ensures.at c.in-Ok.ensures.done c.open_volume.ensures.behind (λ told. behind_kept c.in-Ok.volume.tables.geometry (g.D.Device.view c.open_volume.new.dev) (g.D.Device.view c.upgrade.new.dev) (kept told).left)

pub returns-clause-any_moment : goal.returns-clause-any_moment
returns-clause-any_moment g c told firm =
    weakened (g.D.Device.view c.args.dev.now) (g.D.Device.view c.open_volume.new.dev) _ _ (c.open_volume.ensures.any_moment told firm) (λ x f left. (inl left.0, left.1))
