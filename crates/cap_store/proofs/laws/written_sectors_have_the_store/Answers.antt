use Rattle.cap_store.proofs.Written.{written}
use Rattle.cap_store.proofs.laws.written_sectors_have_the_store.Goals as goal

pub returns : goal.returns
returns c = record { written = written }
