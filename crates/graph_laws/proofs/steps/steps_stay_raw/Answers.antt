use Rattle.graph_laws.proofs.StepLaws.{raw-stepped, graph-stepped}
use Rattle.graph_laws.proofs.WeightLaws.{step_takes}
use Rattle.graph_laws.proofs.steps.steps_stay_raw.Goals as goal

pub returns-clause-raw : goal.returns-clause-raw
returns-clause-raw c = λ r a targets freed apart step. (raw-stepped r a targets freed apart step, graph-stepped r a targets freed apart step)

pub returns-clause-takes : goal.returns-clause-takes
returns-clause-takes c = step_takes
