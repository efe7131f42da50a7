use Rattle.std.proofs.Common.{◌≡◌, ◌+◌, ◌-◌, length}
use Rattle.cycle_sweep.specs.Marked.{AreMarks, count_marked}
use Rattle.reclaim.specs.Tables.{graph_of}
use Rattle.cycle_sweep.proofs.marks.mark_reached.Given as goal

abbrev pub invariant-loop-block : goal.invariant-loop-block
invariant-loop-block l = record {
  size : length l.marked ≡ length l.fn.marked;
  room : l.waiting.room ≡ l.fn.waiting.room;
  marks : AreMarks (graph_of l.pointers l.live) l.marked l.waiting.blocks l.block;
}

abbrev pub invariant-loop-block-2 : goal.invariant-loop-block-2
invariant-loop-block-2 l = record {
  size : length l.marked ≡ length l.fn.marked;
  room : l.waiting.room ≡ l.fn.waiting.room;
  marks : AreMarks (graph_of l.pointers l.live) l.marked l.waiting.blocks l.pointers.geometry.primaries;
}

abbrev pub decreases-loop-block-2 : goal.decreases-loop-block-2
decreases-loop-block-2 l = length l.marked + length l.waiting.blocks - count_marked l.marked
