use Rattle.ref_counts.proofs.StoredLaws.{one_table, same_sectors, same_sectors_but}
use Rattle.ref_counts.proofs.laws.sectors_have_one_table.Goals as goal

pub returns : goal.returns
returns c = record { one_table = one_table; same_sectors = same_sectors; same_sectors_but = same_sectors_but }
