use Rattle.std.proofs.Common.{inl, inr}
use Rattle.image_runs.proofs.Common.{weakened}
use Rattle.image_runs.specs.Check.{HasChecked, IsSaying}
use Rattle.image_runs.specs.Sending.{IsEnding}
use Rattle.image_runs.proofs.Looking.{looks_put}
use Rattle.image_runs.proofs.Saying.{checked_whole, ends_put, faults_put, finding_ends, said_put, told_moments, unchecked}
use Rattle.image_runs.proofs.check.check_image.Goals as goal

pub returns-in-Ok : goal.returns-in-Ok
returns-in-Ok g c =
    let old = g.P.Device.view c.args.port.now in
    let new = g.P.Device.view c.put_text.new.port in
    let found = c.in-Ok.found in
    let line = c.judge.new.line in
    let put = c.put_text.ensures in
    let opens = c.judge.ensures.opens in
    let sound = g.met.P.Device.sound c.judge.new.dev in
    let looks = looks_put sound put opens.looks in
    record {
      ending = ends_put IsEnding put (finding_ends found c.in-Ok.ensures.finding) tt;
      said = λ told.
          let is = c.in-Ok.ensures.found told in
          said_put (λ s. HasChecked c.args.telling s old.reads old.sent new.sent) told put (opens.sent told) (checked_whole c.args.telling found old.reads line old.sent new.sent c.in-Ok.ensures.finding is) (λ front. (found, line, is, front));
      untouched = looks.spares.foreign;
      spared = looks.spares.damaged;
      any_moment = λ told firm. told_moments (IsSaying c.args.telling old.reads old.sent) told sound put opens firm (λ f same. inl same) (λ f part. inr (found, line, c.in-Ok.ensures.found told, part));
      only = looks.only;
      kept = looks.kept;
      behind = looks.spares.behind;
      faults = faults_put put c.in-Ok.ensures.finding (c.in-Ok.ensures.faults.1 (λ e. cc)) opens.works.put_faults;
    }

pub returns-in-Err-clause-said : goal.returns-in-Err-clause-said
returns-in-Err-clause-said g c told =
    let old = g.P.Device.view c.args.port.now in
    unchecked c.args.telling c.in-Err.why old.reads old.sent (g.P.Device.view c.judge.new.dev).sent c.in-Err.ensures.failing (c.judge.ensures.opens.sent told)

pub returns-in-Err-clause-any_moment : goal.returns-in-Err-clause-any_moment
returns-in-Err-clause-any_moment g c told firm =
    weakened (g.P.Device.view c.args.port.now) (g.P.Device.view c.judge.new.dev) _ _ (c.judge.ensures.opens.any_moment told firm) (λ x f left. (left.0, inl left.1))
