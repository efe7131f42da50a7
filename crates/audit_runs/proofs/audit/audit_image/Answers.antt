use Rattle.std.proofs.Common.{inl, inr}
use Rattle.tsd_words.specs.declared.status.Status.TheVariants as status
use Rattle.image_audit.specs.Laws.{listings_from}
use Rattle.image_device.proofs.Moments.{weakened}
use Rattle.image_runs.specs.Sending.{HasPut, IsEnding}
use Rattle.image_runs.proofs.Looking.{looks_put}
use Rattle.image_runs.proofs.Saying.{ends_put, faults_put, said_put, told_moments}
use Rattle.audit_runs.specs.Audit.{HasAudited, IsAuditing, listings_text}
use Rattle.audit_runs.proofs.AnswerLaws.{unaudited, unopened_ends}
use Rattle.audit_runs.proofs.audit.audit_image.Goals as goal

pub returns-in-Ok : goal.returns-in-Ok
returns-in-Ok g c =
    let old = g.P.Device.view c.args.port.now in
    let mid = g.P.Device.view c.find.new.dev in
    let new = g.P.Device.view c.put_listings.new.port in
    let text = listings_text (listings_from 0 c.in-Ok.reached) in
    let put : HasPut g.P.Device.told text status.Done c.ended.result mid new = record { put = c.put_listings.result; puts = c.put_listings.ensures; ends = c.ended.ensures } in
    let opens = c.find.ensures.opens in
    let sound = g.met.P.Device.sound c.find.new.dev in
    let looks = looks_put sound put opens.looks in
    record {
      ending = ends_put IsEnding put tt tt;
      said = λ told. said_put (λ s. HasAudited s old.reads old.sent new.sent) told put (opens.sent told) (λ all. (text, c.in-Ok.ensures.found told, all)) (λ front. (text, c.in-Ok.ensures.found told, front));
      untouched = looks.spares.foreign;
      spared = looks.spares.damaged;
      behind = looks.spares.behind;
      any_moment = λ told firm. told_moments (IsAuditing old.reads old.sent) told sound put opens firm (λ f same. inl same) (λ f part. inr (text, c.in-Ok.ensures.found told, part));
      only = looks.only;
      kept = looks.kept;
      faults = faults_put put tt (c.in-Ok.ensures.faults.1 (λ e. cc)) opens.works.put_faults;
    }

pub returns-in-Err-clause-said : goal.returns-in-Err-clause-said
returns-in-Err-clause-said g c told =
    let old = g.P.Device.view c.args.port.now in
    unaudited c.in-Err.why old.reads old.sent (g.P.Device.view c.find.new.dev).sent c.in-Err.ensures.stops (c.in-Err.ensures.judged told) (c.find.ensures.opens.sent told)

pub returns-in-Err-clause-any_moment : goal.returns-in-Err-clause-any_moment
returns-in-Err-clause-any_moment g c told firm =
    weakened (g.P.Device.view c.args.port.now) (g.P.Device.view c.find.new.dev) _ _ (c.find.ensures.opens.any_moment told firm) (λ x f left. (left.0, inl left.1))

pub returns-in-Err-clause-ending : goal.returns-in-Err-clause-ending
returns-in-Err-clause-ending g c = unopened_ends c.in-Err.why c.in-Err.ensures.stops
