use Rattle.chain_reading.proofs.Common.{entry_names, entries_in, are_apart_from}
use Rattle.chain_reading.proofs.PageLaws.{Comparing}
use Rattle.chain_reading.proofs.comparing.is_apart_from.Given as goal

-- the names of the clusters before this one are others
abbrev pub invariant-loop-position : goal.invariant-loop-position
invariant-loop-position g l = Comparing g.K.Blocks.told l.client (g.K.Blocks.view l.fn.disk) (g.K.Blocks.view l.disk) l.fn.first l.position l.block (are_apart_from (entry_names (entries_in l.page)))
