use Rattle.chain_reading.proofs.LoopLaws.{Reading}
use Rattle.chain_reading.proofs.looking.is_directory_right.Given as goal

-- the clusters before this one are right with their files, and in the set
abbrev pub invariant-loop-position : goal.invariant-loop-position
invariant-loop-position g l = Reading g.K.Blocks.told l.client (g.K.Blocks.view l.fn.disk) (g.K.Blocks.view l.disk) l.client.root l.position l.block l.count l.fn.seen l.seen
