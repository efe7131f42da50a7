use Rattle.fs_copy.proofs.Common.{AreAhead, tree_under}
use Rattle.fs_copy.proofs.WalkLaws.{AtTurn}
use Rattle.fs_copy.proofs.walk.copy_entries.Given as goal

abbrev pub invariant-loop-left : goal.invariant-loop-left
invariant-loop-left g l =
    AtTurn g.K.Blocks.told (g.A.Files.view l.fn.from) (g.B.Files.view l.fn.into) (g.A.Files.view l.from) (g.B.Files.view l.into)
    (g.K.Blocks.view l.fn.disk) (g.K.Blocks.view l.disk) l.path l.after l.copied l.left
    × (g.K.Blocks.told → AreAhead (tree_under (g.A.Files.view l.fn.from) (g.K.Blocks.view l.fn.disk)) l.path l.after l.ahead.items)

abbrev pub decreases-loop-left : goal.decreases-loop-left
decreases-loop-left g l = l.left
