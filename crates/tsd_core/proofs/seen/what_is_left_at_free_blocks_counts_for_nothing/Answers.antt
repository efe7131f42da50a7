use Rattle.tsd_core.proofs.StepSeen.{verdict_over, step_over}
use Rattle.tsd_core.proofs.AnswerSeen.{reply_like}
use Rattle.tsd_core.proofs.seen.what_is_left_at_free_blocks_counts_for_nothing.Goals as goal

pub returns-clause-verdict : goal.returns-clause-verdict
returns-clause-verdict c = verdict_over

pub returns-clause-step : goal.returns-clause-step
returns-clause-step c = step_over

pub returns-clause-reply : goal.returns-clause-reply
returns-clause-reply c = reply_like
