use Rattle.disk_laws.proofs.FreshLaws.{fresh_is_valid, upgraded_is_valid, no_sessions_fit}
use Rattle.disk_laws.proofs.validity.runs_begin_valid.Goals as goal

pub returns-clause-fresh : goal.returns-clause-fresh
returns-clause-fresh c = fresh_is_valid

pub returns-clause-upgraded : goal.returns-clause-upgraded
returns-clause-upgraded c = upgraded_is_valid

pub returns-clause-no_sessions : goal.returns-clause-no_sessions
returns-clause-no_sessions c = no_sessions_fit
