use Rattle.reach_laws.proofs.ByAccessLaws.{run_by_access}
use Rattle.reach_laws.proofs.by_access.runs_change_by_access.Goals as goal

pub returns : goal.returns
returns c = run_by_access
