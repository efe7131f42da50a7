use Rattle.chain_fs.proofs.PageLaws.{PageGoing}
use Rattle.chain_fs.proofs.tidying.tidy_files.Given as goal

abbrev pub ghost-tidy_file : goal.ghost-tidy_file
ghost-tidy_file g a = g.kept

-- the files before this place are tidied
abbrev pub invariant-loop-position : goal.invariant-loop-position
invariant-loop-position g l = PageGoing g.K.Blocks.told l.client g.kept (g.K.Blocks.view l.fn.disk) (g.K.Blocks.view l.disk) l.page l.position
