use Rattle.chain_reading.proofs.ListLaws.{Seeking}
use Rattle.chain_reading.proofs.reading.least_above.Given as goal

-- it is the least above among the names of the clusters before this one
abbrev pub invariant-loop-position : goal.invariant-loop-position
invariant-loop-position g l = Seeking g.K.Blocks.told l.client (g.K.Blocks.view l.fn.disk) (g.K.Blocks.view l.disk) l.position l.block l.after l.least
