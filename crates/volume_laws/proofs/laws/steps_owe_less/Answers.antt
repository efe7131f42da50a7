use Rattle.volume_laws.proofs.StepOps.{step_owed}
use Rattle.volume_laws.proofs.laws.steps_owe_less.Goals as goal

pub returns : goal.returns
returns c = step_owed
