use Rattle.ref_counts.proofs.Written.{fresh_bytes}
use Rattle.ref_counts.proofs.fresh.fresh_sector.Goals as goal

pub returns-clause-value : goal.returns-clause-value
returns-clause-value c g part = fresh_bytes g part
