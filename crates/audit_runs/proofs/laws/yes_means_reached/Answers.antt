use Rattle.audit_runs.proofs.AuditLaws.{yes_reached}
use Rattle.audit_runs.proofs.laws.yes_means_reached.Goals as goal

pub returns : goal.returns
returns c = yes_reached
