use Rattle.pointer_table.proofs.index.Index.near_source.Given as goal

abbrev pub decreases-loop-below : goal.decreases-loop-below
decreases-loop-below l = l.below
