use Rattle.serving.proofs.ModelRuns.{model_run}
use Rattle.serving.proofs.model.runs_of_the_model.Goals as goal

pub returns : goal.returns
returns c = model_run (λ x w. Unit {0})
