use Rattle.inode_fs.proofs.TidyLaws.{Tidying}
use Rattle.inode_fs.proofs.mounting.tidy.Given as goal

abbrev pub ghost-tidy_block : goal.ghost-tidy_block
ghost-tidy_block g a = g.kept

-- the blocks so far are clean
abbrev pub invariant-loop-block : goal.invariant-loop-block
invariant-loop-block g l = Tidying g.K.Blocks.told l.client g.kept (g.K.Blocks.view l.fn.disk) (g.K.Blocks.view l.disk) l.marks l.block
