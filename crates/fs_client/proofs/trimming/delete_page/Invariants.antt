use Rattle.fs_client.proofs.GoingLaws.{PageGoing}
use Rattle.fs_client.proofs.trimming.delete_page.Given as goal

-- the same is kept by each deletion
abbrev pub ghost-delete_unnamed : goal.ghost-delete_unnamed
ghost-delete_unnamed g a = g.kept

-- the targets before this place are let go of
abbrev pub invariant-loop-position : goal.invariant-loop-position
invariant-loop-position g l = PageGoing g.K.Blocks.told l.client g.kept (g.K.Blocks.view l.fn.disk) (g.K.Blocks.view l.disk) l.source l.targets (g.N.Names.blocks l.namer) l.position
