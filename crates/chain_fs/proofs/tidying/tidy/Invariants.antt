use Rattle.chain_fs.proofs.PageLaws.{DirGoing}
use Rattle.chain_fs.proofs.tidying.tidy.Given as goal

abbrev pub ghost-tidy_page : goal.ghost-tidy_page
ghost-tidy_page g a = g.kept

-- the clusters before this one are tidied with their files
abbrev pub invariant-loop-turn : goal.invariant-loop-turn
invariant-loop-turn g l = DirGoing g.K.Blocks.told l.client g.kept (g.K.Blocks.view l.fn.disk) (g.K.Blocks.view l.disk) l.block l.turn
