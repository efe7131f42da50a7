use Rattle.chain_reading.proofs.Common.{are_distinct}
use Rattle.chain_reading.proofs.PageLaws.{Comparing}
use Rattle.chain_reading.proofs.comparing.are_names_distinct.Given as goal

-- the names of the clusters before this one stand once
abbrev pub invariant-loop-position : goal.invariant-loop-position
invariant-loop-position g l = Comparing g.K.Blocks.told l.client (g.K.Blocks.view l.fn.disk) (g.K.Blocks.view l.disk) l.fn.client.root l.position l.block are_distinct
