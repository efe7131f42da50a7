use Rattle.chain_reading.proofs.SizeLaws.{Sizing}
use Rattle.chain_reading.proofs.reading.chain_size.Given as goal

-- the bytes of the clusters before this one were counted
abbrev pub invariant-loop-position : goal.invariant-loop-position
invariant-loop-position g l = Sizing g.K.Blocks.told l.client (g.K.Blocks.view l.fn.disk) (g.K.Blocks.view l.disk) l.fn.first l.position l.block l.size
