use Rattle.disk_laws.proofs.AnswerLaws.{full_law}
use Rattle.disk_laws.proofs.full.full_means_full.Goals as goal

pub returns : goal.returns
returns c = full_law
