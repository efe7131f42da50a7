use Rattle.ref_counts.proofs.Written.{written, fresh}
use Rattle.ref_counts.proofs.laws.written_sectors_have_the_table.Goals as goal

pub returns : goal.returns
returns c = record { written = written; fresh = fresh }
