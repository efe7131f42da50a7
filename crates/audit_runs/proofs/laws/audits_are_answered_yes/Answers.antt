use Rattle.audit_runs.proofs.AuditLaws.{answered_yes}
use Rattle.audit_runs.proofs.laws.audits_are_answered_yes.Goals as goal

pub returns : goal.returns
returns c = answered_yes
