use Rattle.std.proofs.Common.{◌≡◌, ◌+◌, ◌-◌, length}
use Rattle.std.specs.Prelude.{IsTrue}
use Rattle.cycle_sweep.specs.Marked.{is_marked, AreMarksAt, count_marked}
use Rattle.reclaim.specs.Tables.{graph_of}
use Rattle.cycle_sweep.proofs.marks.mark_targets.Given as goal

abbrev pub invariant-loop-target : goal.invariant-loop-target
invariant-loop-target l = record {
  size : length l.marked ≡ length l.fn.marked;
  room : l.waiting.room ≡ l.fn.waiting.room;
  marked : IsTrue (is_marked l.marked l.block);
  marks : AreMarksAt (graph_of l.pointers l.live) l.marked l.waiting.blocks l.pointers.geometry.primaries l.block l.from;
  balance : count_marked l.marked + length l.fn.waiting.blocks ≡ count_marked l.fn.marked + length l.waiting.blocks;
}

abbrev pub decreases-loop-target : goal.decreases-loop-target
decreases-loop-target l = l.pointers.geometry.blocks - l.from
