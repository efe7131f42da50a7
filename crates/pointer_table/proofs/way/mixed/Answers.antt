use Rattle.pointer_table.proofs.Common.{mixed}
use Rattle.pointer_table.proofs.way.mixed.Goals as goal

pub returns : goal.returns
unfolding mixed
returns c = cc
