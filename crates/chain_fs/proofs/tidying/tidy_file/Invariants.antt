use Rattle.chain_fs.proofs.Common.{named_of}
use Rattle.chain_fs.proofs.TidyLaws.{FileGoing}
use Rattle.chain_fs.proofs.tidying.tidy_file.Given as goal

-- what the chains name is kept
abbrev pub ghost-delete_others : goal.ghost-delete_others
ghost-delete_others g a = named_of g.kept

-- the clusters before this one are tidied
abbrev pub invariant-loop-turn : goal.invariant-loop-turn
invariant-loop-turn g l = FileGoing g.K.Blocks.told l.client g.kept (g.K.Blocks.view l.fn.disk) (g.K.Blocks.view l.disk) l.fn.first l.block l.turn
