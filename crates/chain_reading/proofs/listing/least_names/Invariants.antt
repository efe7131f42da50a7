use Rattle.chain_reading.proofs.NamesToldLaws.{Listing}
use Rattle.chain_reading.proofs.listing.least_names.Given as goal

-- they are the least above among the names of the clusters before this one
abbrev pub invariant-loop-position : goal.invariant-loop-position
invariant-loop-position g l = Listing g.K.Blocks.told l.client (g.K.Blocks.view l.fn.disk) (g.K.Blocks.view l.disk) l.position l.block l.after l.into.items
