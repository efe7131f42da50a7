use Rattle.graph_laws.proofs.SweepLaws.{reach_follows, in_each, sweeps-stepped, sweep_goes_on, swept_whole, sweeps_to_valid, swept_has_none, reached_stays, settled_sweeps}
use Rattle.graph_laws.proofs.sweeping.steps_sweep.Goals as goal

pub returns-clause-least : goal.returns-clause-least
returns-clause-least c = λ w raw. (reach_follows w raw, in_each w)

pub returns-clause-step : goal.returns-clause-step
returns-clause-step c = sweeps-stepped

pub returns-clause-goes_on : goal.returns-clause-goes_on
returns-clause-goes_on c = sweep_goes_on

pub returns-clause-whole : goal.returns-clause-whole
returns-clause-whole c = swept_whole

pub returns-clause-valid : goal.returns-clause-valid
returns-clause-valid c = λ r. (sweeps_to_valid r, swept_has_none r)

pub returns-clause-settled : goal.returns-clause-settled
returns-clause-settled c = λ r raw. (reached_stays r raw, settled_sweeps r raw)
