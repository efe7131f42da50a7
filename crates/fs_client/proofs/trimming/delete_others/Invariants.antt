use Rattle.std.proofs.Common.{◌-◌}
use Rattle.fs_client.proofs.GoingLaws.{OthersGoing}
use Rattle.fs_client.proofs.trimming.delete_others.Given as goal

-- the same is kept by each page
abbrev pub ghost-delete_page : goal.ghost-delete_page
ghost-delete_page g a = g.kept

-- the pairs to blocks before this start are let go of
abbrev pub invariant-loop-start : goal.invariant-loop-start
invariant-loop-start g l = OthersGoing g.K.Blocks.told l.client g.kept (g.K.Blocks.view l.fn.disk) (g.K.Blocks.view l.disk) l.source (g.N.Names.blocks l.namer) l.start

abbrev pub decreases-loop-start : goal.decreases-loop-start
decreases-loop-start g l = l.end - l.start
