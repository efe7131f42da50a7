use Rattle.block_alloc.proofs.FreshLaws.{written_stored, fresh_table, fresh_at, fresh_free}
use Rattle.block_alloc.proofs.fresh.written_sectors_have_the_bits.Goals as goal

pub returns : goal.returns
returns c = record { stored = written_stored; fresh = fresh_table; live = fresh_at; free = fresh_free }
