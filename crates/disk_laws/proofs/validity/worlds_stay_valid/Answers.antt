use Rattle.disk_laws.proofs.RunLaws.{run_valid}
use Rattle.disk_laws.proofs.validity.worlds_stay_valid.Goals as goal

pub returns : goal.returns
returns c = run_valid
