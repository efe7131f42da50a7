use Rattle.std.proofs.Common.{◌≢◌, inl, inr, List, ℕ, subst}
use Rattle.tsd_words.specs.declared.status.Status.TheVariants as status
use Rattle.image_runs.proofs.Common.{weakened}
use Rattle.image_runs.specs.Sending.{HasPut, IsEnding}
use Rattle.image_runs.specs.Upgrade.{HasUpgraded, IsLeftOfUpgrade}
use Rattle.image_runs.proofs.Looking.{spares_put}
use Rattle.image_runs.proofs.Saying.{ends_put, faults_put, put_over, said_put}
use Rattle.image_runs.proofs.Upgraded.{not_upgraded, upgraded_put}
use Rattle.image_runs.proofs.upgrade.upgrade_image.Goals as goal

pub returns-in-Ok : goal.returns-in-Ok
returns-in-Ok g c =
    let old = g.P.Device.view c.args.port.now in
    let mid = g.P.Device.view c.upgrade.new.dev in
    let new = g.P.Device.view c.put_text.new.port in
    let put = subst (λ (t : List ℕ). HasPut g.P.Device.told t status.Done c.put_text.result mid new) c.upgrade_line.ensures c.put_text.ensures in
    let spares = spares_put (g.met.P.Device.sound c.upgrade.new.dev) put c.upgrade.ensures.spares in
    record {
      ending = ends_put IsEnding put tt tt;
      upgraded = λ told.
          let is = upgraded_put told put (c.in-Ok.ensures.upgraded told) in
          said_put (λ s. HasUpgraded s old new) told put (c.upgrade.ensures.sent told) (λ all. (is, all)) (λ front. (is, front));
      untouched = spares.foreign;
      spared = spares.damaged;
      any_moment = λ told firm.
          let is = c.in-Ok.ensures.upgraded told in
          put_over _ (IsLeftOfUpgrade old) told put is.firm (c.upgrade.ensures.sent told) (c.upgrade.ensures.any_moment told firm) (λ x f left. inl left) (λ f part. inr (is.upgrade, part));
      no_memory = λ told e. absurd (ends_put (λ s. s ≢ status.NoMemory) put (λ e. cc) (λ e. cc) e);
      behind = spares.behind;
      faults = faults_put put tt (c.in-Ok.ensures.faults.1 (λ e. cc)) c.upgrade.ensures.works.put_faults;
    }

pub returns-in-Err-clause-upgraded : goal.returns-in-Err-clause-upgraded
returns-in-Err-clause-upgraded g c told =
    not_upgraded c.in-Err.why (g.P.Device.view c.args.port.now) (g.P.Device.view c.upgrade.new.dev) c.in-Err.ensures.stops (c.in-Err.ensures.judged told) (c.upgrade.ensures.sent told)

pub returns-in-Err-clause-any_moment : goal.returns-in-Err-clause-any_moment
returns-in-Err-clause-any_moment g c told firm =
    weakened (g.P.Device.view c.args.port.now) (g.P.Device.view c.upgrade.new.dev) _ _ (c.upgrade.ensures.any_moment told firm) (λ x f left. inl left)

pub returns-in-Err-clause-no_memory : goal.returns-in-Err-clause-no_memory
returns-in-Err-clause-no_memory g c told = c.in-Err.ensures.no_memory told
