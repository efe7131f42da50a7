use Rattle.tsd_core.proofs.HistoryLaws.{run_more, run_grants, answer_laws}
use Rattle.tsd_core.proofs.seen.answers_keep_the_laws.Goals as goal

pub returns-clause-runs : goal.returns-clause-runs
returns-clause-runs c = run_more

pub returns-clause-access : goal.returns-clause-access
returns-clause-access c = run_grants

pub returns-clause-laws : goal.returns-clause-laws
returns-clause-laws c = answer_laws
