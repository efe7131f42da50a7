use Rattle.chain_changes.proofs.ChainLaws.{Chaining}
use Rattle.chain_changes.proofs.blocks.new_chain.Given as goal

-- the blocks so far hang from the source
abbrev pub invariant-loop-made : goal.invariant-loop-made
invariant-loop-made g l = Chaining g.K.Blocks.told l.client (g.K.Blocks.view l.fn.disk) (g.K.Blocks.view l.disk) l.source l.count l.made l.above l.blocks
