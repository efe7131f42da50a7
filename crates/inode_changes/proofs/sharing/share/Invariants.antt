use Rattle.inode_changes.proofs.Common.{shared_of}
use Rattle.inode_changes.proofs.ShareLaws.{Sharing}
use Rattle.inode_changes.proofs.sharing.share.Given as goal

-- the first of them are shared
abbrev pub invariant-loop-position : goal.invariant-loop-position
invariant-loop-position g l = Sharing g.K.Blocks.told l.client (g.K.Blocks.view l.fn.disk) (g.K.Blocks.view l.disk) l.inode (shared_of l.content) l.position
