use Rattle.pointer_table.proofs.LoadingLaws.{stored_elsewhere}
use Rattle.pointer_table.proofs.laws.slots_stay_elsewhere.Goals as goal

pub returns : goal.returns
returns c = stored_elsewhere
