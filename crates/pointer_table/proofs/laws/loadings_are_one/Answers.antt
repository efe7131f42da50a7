use Rattle.pointer_table.proofs.LoadingLaws.{one_answer}
use Rattle.pointer_table.proofs.laws.loadings_are_one.Goals as goal

pub returns : goal.returns
returns c = one_answer
