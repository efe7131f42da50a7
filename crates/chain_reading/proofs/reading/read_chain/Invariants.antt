use Rattle.chain_reading.proofs.CopyLaws.{Copying}
use Rattle.chain_reading.proofs.reading.read_chain.Given as goal

-- the bytes of the clusters before this one were added, from the start on
abbrev pub invariant-loop-position : goal.invariant-loop-position
invariant-loop-position g l = Copying g.K.Blocks.told l.client (g.K.Blocks.view l.fn.disk) (g.K.Blocks.view l.disk) l.fn.first l.position l.block l.before l.start l.into
