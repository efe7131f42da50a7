use Rattle.inode_fs.proofs.Common.{inode_of, blocks_said, come_data}
use Rattle.inode_fs.proofs.LoopLaws.{Looping}
use Rattle.inode_fs.proofs.looking.is_file_right.Given as goal

-- the blocks so far are marked
abbrev pub invariant-loop-position : goal.invariant-loop-position
invariant-loop-position g l = Looping g.K.Blocks.told l.client (g.K.Blocks.view l.fn.disk) (g.K.Blocks.view l.disk) (blocks_said (inode_of l.file.inode)) come_data l.position l.fn.marks l.marks
