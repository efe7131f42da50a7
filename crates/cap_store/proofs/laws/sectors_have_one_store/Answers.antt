use Rattle.cap_store.proofs.StoredLaws.{one_store, same_sectors, same_sectors_but}
use Rattle.cap_store.proofs.laws.sectors_have_one_store.Goals as goal

pub returns : goal.returns
returns c = record { one_store = one_store; same_sectors = same_sectors; same_sectors_but = same_sectors_but }
