use Rattle.disk_laws.proofs.AttainedLaws.{attained_by_history}
use Rattle.disk_laws.proofs.GrantLaws.{levels_are_grants}
use Rattle.disk_laws.proofs.access.access_is_by_grants.Goals as goal

pub returns-clause-held : goal.returns-clause-held
returns-clause-held c = levels_are_grants

pub returns-clause-attained : goal.returns-clause-attained
returns-clause-attained c = attained_by_history
