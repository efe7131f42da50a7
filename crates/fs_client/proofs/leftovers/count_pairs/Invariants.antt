use Rattle.std.proofs.Common.{◌-◌}
use Rattle.fs_client.proofs.Counting.{Counting}
use Rattle.fs_client.proofs.leftovers.count_pairs.Given as goal

-- the targets before this start are counted
abbrev pub invariant-loop-start : goal.invariant-loop-start
invariant-loop-start g l = Counting g.K.Blocks.told l.client (g.K.Blocks.view l.fn.disk) (g.K.Blocks.view l.disk) l.source (g.N.Names.blocks l.namer) l.start l.count.named l.count.others

abbrev pub decreases-loop-start : goal.decreases-loop-start
decreases-loop-start g l = l.end - l.start
