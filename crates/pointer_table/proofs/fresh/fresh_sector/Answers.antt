use Rattle.std.proofs.Common.{sym}
use Rattle.pointer_table.proofs.FreshLaws.{empty_sector}
use Rattle.pointer_table.proofs.fresh.fresh_sector.Goals as goal

pub returns-clause-value : goal.returns-clause-value
returns-clause-value c g part = sym (empty_sector g part)
