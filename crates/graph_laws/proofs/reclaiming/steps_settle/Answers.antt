use Rattle.graph_laws.proofs.LostLaws.{lost_after_step, lost_after_delete}
use Rattle.graph_laws.proofs.StepLaws.{settle-stepped}
use Rattle.graph_laws.proofs.WeightLaws.{step_lowers, doomed_after_step}
use Rattle.graph_laws.proofs.reclaiming.steps_settle.Goals as goal

pub returns-clause-settles : goal.returns-clause-settles
returns-clause-settles c = settle-stepped

pub returns-clause-lowers : goal.returns-clause-lowers
returns-clause-lowers c = λ r a targets freed out lost step.
    let sizes = step_lowers r a targets out lost freed step in
    record { each = doomed_after_step r a targets out lost freed step; blocks = sizes.0; pairs = sizes.1 }

pub returns-clause-lost : goal.returns-clause-lost
returns-clause-lost c = lost_after_step

pub returns-clause-deleted : goal.returns-clause-deleted
returns-clause-deleted c = lost_after_delete
