use Rattle.chain_reading.proofs.LoopLaws.{Following}
use Rattle.chain_reading.proofs.looking.is_file_right.Given as goal

-- the clusters before this one are right, and in the set
abbrev pub invariant-loop-position : goal.invariant-loop-position
invariant-loop-position g l = Following g.K.Blocks.told l.client (g.K.Blocks.view l.fn.disk) (g.K.Blocks.view l.disk) l.fn.first l.position l.block l.fn.seen l.seen
