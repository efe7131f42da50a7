use Rattle.disk_laws.proofs.ByteLaws.{contents_like, verdict_like, attained_from_like, attained_like, chosen_like, chosen_run_like}
use Rattle.disk_laws.proofs.bytes.verdicts_read_no_bytes.Goals as goal

pub returns-clause-like : goal.returns-clause-like
returns-clause-like c = contents_like

pub returns-clause-verdict : goal.returns-clause-verdict
returns-clause-verdict c = verdict_like

pub returns-clause-levels : goal.returns-clause-levels
returns-clause-levels c = λ v w like s n b shown. (attained_from_like v w like s n b shown, attained_like v w like s n b shown)

pub returns-clause-choices : goal.returns-clause-choices
returns-clause-choices c = λ v w like kind h count. (chosen_like v w like kind h count, chosen_run_like v w like kind h count)
