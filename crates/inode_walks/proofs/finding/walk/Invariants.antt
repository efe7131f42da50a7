use Rattle.inode_walks.proofs.WalkingLaws.{Walking}
use Rattle.inode_walks.proofs.finding.walk.Given as goal

-- what the names so far lead to was found
abbrev pub invariant-loop-name : goal.invariant-loop-name
invariant-loop-name g l = Walking g.K.Blocks.told l.client (g.K.Blocks.view l.fn.disk) (g.K.Blocks.view l.disk) l.names l.name-index l.found
