use Rattle.std.proofs.Common.{◌-◌}
use Rattle.inode_fs.proofs.Common.{inode_of, blocks_said, come_each, come_from}
use Rattle.inode_fs.proofs.LoopLaws.{Looping}
use Rattle.inode_fs.proofs.looking.+is_right.Given as goal

abbrev pub decreases-is_right : goal.decreases-is_right
decreases-is_right g l = l.levels

-- the entries so far are right
abbrev pub invariant-loop-position : goal.invariant-loop-position
invariant-loop-position g l =
    Looping g.K.Blocks.told l.client (g.K.Blocks.view l.fn.disk) (g.K.Blocks.view l.disk) (blocks_said (inode_of l.seen.found.inode))
    (come_each (come_from (g.K.Blocks.view l.fn.disk).world (l.levels - 1))) l.position l.initial.marks l.marks
