use Rattle.chain_changes.proofs.WriteLaws.{Writing}
use Rattle.chain_changes.proofs.bytes.write_chain.Given as goal

-- the clusters so far were written
abbrev pub invariant-loop-position : goal.invariant-loop-position
invariant-loop-position g l = Writing g.K.Blocks.told l.client (g.K.Blocks.view l.fn.disk) (g.K.Blocks.view l.disk) l.blocks l.bytes l.room l.position l.rest
