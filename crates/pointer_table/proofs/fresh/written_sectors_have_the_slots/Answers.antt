use Rattle.pointer_table.proofs.FreshLaws.{written_stored, fresh_table, no_pairs, empty_sector}
use Rattle.pointer_table.proofs.fresh.written_sectors_have_the_slots.Goals as goal

pub returns : goal.returns
returns c = record { stored = written_stored; fresh = fresh_table; no_pairs = no_pairs; zeros = empty_sector }
