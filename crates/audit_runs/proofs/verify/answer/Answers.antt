use Rattle.script_text.specs.Pieces.{all_lines}
use Rattle.tsd_core.proofs.AtLaws.{like_at}
use Rattle.volume_laws.specs.Volume.{told_by, world_on}
use Rattle.audit_runs.specs.Verify.{IsVerdictOver, IsAnswerOf}
use Rattle.audit_runs.proofs.AnswerLaws.{answer_on, answered_on, judged_on, unopened_unanswered}
use Rattle.audit_runs.proofs.verify.answer.Goals as goal

pub returns-in-Ok-clause-answered : goal.returns-in-Ok-clause-answered
returns-in-Ok-clause-answered g c =
    let old = g.D.Device.view c.args.dev.now in
    let mid = g.D.Device.view c.open_volume.new.dev in
    let v = told_by c.in-Ok.volume in
    let line = c.read_and_verify.new.line in
    answered_on c.read_and_verify.result _ (λ u bytes. IsVerdictOver v (all_lines bytes) line) (λ u bytes. g.D.Device.told → IsAnswerOf old.reads bytes line)
    (λ u bytes is told. answer_on old.reads v (world_on mid) bytes line (c.in-Ok.ensures.read told) (like_at c.in-Ok.volume mid (c.in-Ok.ensures.at told)) (c.in-Ok.ensures.done told) is)
    c.read_and_verify.ensures.answered

pub returns-in-Ok-clause-judged : goal.returns-in-Ok-clause-judged
returns-in-Ok-clause-judged g c told = judged_on c.read_and_verify.result (g.D.Device.view c.args.dev.now).reads (c.in-Ok.ensures.read told) c.read_and_verify.ensures.stops

pub returns-in-Err-clause-stops : goal.returns-in-Err-clause-stops
returns-in-Err-clause-stops g c = unopened_unanswered c.in-Err.why c.in-Err.ensures.stops
