use Rattle.pointer_table.proofs.LoadingLaws.{one_table}
use Rattle.pointer_table.proofs.laws.sectors_have_one_table.Goals as goal

pub returns : goal.returns
returns c = record { one_table = one_table }
