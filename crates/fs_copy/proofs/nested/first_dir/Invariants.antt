use Rattle.fs_copy.proofs.NestedLaws.{AtSearch}
use Rattle.fs_copy.proofs.nested.first_dir.Given as goal

abbrev pub invariant-loop-left : goal.invariant-loop-left
invariant-loop-left g l =
    AtSearch g.K.Blocks.told (g.A.Files.view l.fn.from) (g.A.Files.view l.from) (g.K.Blocks.view l.fn.disk) (g.K.Blocks.view l.disk) l.after l.left

abbrev pub decreases-loop-left : goal.decreases-loop-left
decreases-loop-left g l = l.left
