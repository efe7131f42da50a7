use Rattle.chain_reading.proofs.Common.{entries_in, entry_blocks}
use Rattle.chain_reading.proofs.LoopLaws.{Visiting}
use Rattle.chain_reading.proofs.looking.are_files_right.Given as goal

-- the files so far are right, and in the set
abbrev pub invariant-loop-position : goal.invariant-loop-position
invariant-loop-position g l = Visiting g.K.Blocks.told l.client (g.K.Blocks.view l.fn.disk) (g.K.Blocks.view l.disk) (entry_blocks (entries_in l.page)) l.position l.fn.seen l.seen
