use Rattle.image_runs.proofs.Common.{Stands}
use Rattle.serving.proofs.ModelRuns.{model_run}
use Rattle.image_runs.proofs.laws.runs_are_the_disks.Goals as goal

pub returns : goal.returns
returns c = model_run Stands
