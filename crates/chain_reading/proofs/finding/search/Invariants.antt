use Rattle.chain_reading.proofs.SearchLaws.{Searching}
use Rattle.chain_reading.proofs.finding.search.Given as goal

-- no entry of the clusters before this one has the name, and of those the one for a new entry is known
abbrev pub invariant-loop-turn : goal.invariant-loop-turn
invariant-loop-turn g l = Searching g.K.Blocks.told l.client (g.K.Blocks.view l.fn.disk) (g.K.Blocks.view l.disk) l.turn l.block l.name l.count l.best
