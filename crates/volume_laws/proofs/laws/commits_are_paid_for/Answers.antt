use Rattle.volume_laws.proofs.Costs.{commit_pays}
use Rattle.volume_laws.proofs.laws.commits_are_paid_for.Goals as goal

pub returns : goal.returns
returns c = commit_pays
