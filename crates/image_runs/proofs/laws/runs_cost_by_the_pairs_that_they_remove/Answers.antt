use Rattle.image_runs.proofs.RunCosts.{run_costs}
use Rattle.image_runs.proofs.laws.runs_cost_by_the_pairs_that_they_remove.Goals as goal

pub returns : goal.returns
returns c = run_costs
