use Rattle.image_runs.proofs.RunCosts.{run_writes}
use Rattle.image_runs.proofs.laws.runs_write_by_the_pairs_that_they_remove.Goals as goal

pub returns : goal.returns
returns c = run_writes
