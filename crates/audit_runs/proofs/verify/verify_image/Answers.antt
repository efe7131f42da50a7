use Rattle.std.proofs.Common.{◌≢◌, inl, inr}
use Rattle.image_device.proofs.Moments.{weakened}
use Rattle.image_runs.proofs.Looking.{looks_put}
use Rattle.image_runs.proofs.Saying.{ends_put, faults_put, said_put, told_moments}
use Rattle.serving.specs.Ran.{taking}
use Rattle.tsd_words.specs.declared.status.Status.TheVariants as status
use Rattle.audit_runs.specs.Verify.{HasVerified, IsTakenBy, IsVerifyEnding, IsVerifying}
use Rattle.audit_runs.proofs.AnswerLaws.{unanswered_ends, unverified}
use Rattle.audit_runs.proofs.verify.verify_image.Goals as goal

pub returns-in-Ok : goal.returns-in-Ok
returns-in-Ok g c =
    let a = c.in-Ok.ensures.answered in
    let old = g.P.Device.view c.args.port.now in
    let new = g.P.Device.view c.put_text.new.port in
    let line = c.answer.new.line in
    let put = c.put_text.ensures in
    let opens = c.answer.ensures.opens in
    let sound = g.met.P.Device.sound c.answer.new.dev in
    let looks = looks_put sound put opens.looks in
    let took = taking g.S.Source.told g.S.Source.taken g.S.Source.left_bytes g.S.Source.ended c.args.source.now c.answer.new.source in
    record {
      ran = record {
        ending = ends_put IsVerifyEnding put tt tt;
        bytes = a.bytes;
        came_in = a.came_in;
        taken = ends_put (λ s. IsTakenBy s took a.bytes) put (a.taken.0, a.taken.1) (a.taken.0, a.taken.1);
        said = λ told. said_put (λ s. HasVerified s old.reads a.bytes old.sent new.sent) told put (opens.sent told) (λ all. (line, a.taken.2 told, all)) (λ front. (line, a.taken.2 told, front));
        any_moment = λ told firm. told_moments (IsVerifying old.reads a.bytes old.sent) told sound put opens firm (λ f same. inl same) (λ f part. inr (line, a.taken.2 told, part));
      };
      untouched = looks.spares.foreign;
      spared = looks.spares.damaged;
      behind = looks.spares.behind;
      once = c.answer.ensures.once;
      only = looks.only;
      kept = looks.kept;
      faults = record {
        source_fault = λ e. absurd (ends_put (λ s. s ≢ status.SourceFault) put (λ e. cc) (λ e. cc) e);
        no_source_fault = λ other. c.in-Ok.ensures.source_faults.1 (λ e. cc);
        port = faults_put put tt (c.in-Ok.ensures.faults.1 (λ e. cc)) opens.works.put_faults;
      };
    }

pub returns-in-Err-clause-ran : goal.returns-in-Err-clause-ran
returns-in-Err-clause-ran g c =
    let a = c.in-Err.ensures.answered in
    let old = g.P.Device.view c.args.port.now in
    let mid = g.P.Device.view c.answer.new.dev in
    let opens = c.answer.ensures.opens in
    record {
      ending = unanswered_ends c.in-Err.why c.in-Err.ensures.stops;
      bytes = a.bytes;
      came_in = a.came_in;
      taken = a.taken;
      said = λ told. unverified c.in-Err.why old.reads a.bytes old.sent mid.sent c.in-Err.ensures.stops (c.in-Err.ensures.judged told) (opens.sent told);
      any_moment = λ told firm. weakened old mid _ _ (opens.any_moment told firm) (λ x f left. (left.0, inl left.1));
    }
