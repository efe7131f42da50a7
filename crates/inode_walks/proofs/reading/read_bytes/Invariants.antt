use Rattle.std.proofs.Common.{◌-◌}
use Rattle.inode_walks.proofs.FileLaws.{Reading}
use Rattle.inode_walks.proofs.reading.read_bytes.Given as goal

-- the bytes before this place have come
abbrev pub invariant-loop-at : goal.invariant-loop-at
invariant-loop-at g l = Reading g.K.Blocks.told l.client (g.K.Blocks.view l.fn.disk) (g.K.Blocks.view l.disk) l.file l.start l.at l.end l.into

abbrev pub decreases-loop-at : goal.decreases-loop-at
decreases-loop-at g l = l.end - l.at
