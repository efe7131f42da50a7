use Rattle.disk_laws.proofs.IsolationLaws.{others_keep_levels, others_stay_open}
use Rattle.disk_laws.proofs.isolation.sessions_are_apart.Goals as goal

pub returns-clause-levels : goal.returns-clause-levels
returns-clause-levels c = others_keep_levels

pub returns-clause-open : goal.returns-clause-open
returns-clause-open c = others_stay_open
