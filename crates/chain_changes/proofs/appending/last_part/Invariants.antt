use Rattle.chain_changes.proofs.LastLaws.{Stepping}
use Rattle.chain_changes.proofs.appending.last_part.Given as goal

-- the chain was walked to this block
abbrev pub invariant-loop-position : goal.invariant-loop-position
invariant-loop-position g l = Stepping g.K.Blocks.told l.client (g.K.Blocks.view l.fn.disk) (g.K.Blocks.view l.disk) l.fn.first l.position l.block
