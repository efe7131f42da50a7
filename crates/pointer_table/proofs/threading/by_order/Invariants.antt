use Rattle.std.proofs.Common.{◌≤◌, length}
use Rattle.pointer_table.proofs.Common.{AreInRow, HasLinksAndHeads, IsIndex}
use Rattle.pointer_table.proofs.ThreadingLaws.{threaded}
use Rattle.pointer_table.proofs.threading.by_order.Given as goal

-- the slots from this place of the order on are threaded
abbrev pub invariant-loop-left : goal.invariant-loop-left
invariant-loop-left l = record {
  inside : l.left ≤ length l.order;
  index : IsIndex (threaded l.slots l.order l.left) l.index;
  room : HasLinksAndHeads l.geometry.blocks l.geometry.slots l.index;
  row : AreInRow (threaded l.slots l.order l.left) l.index.by_bucket.next;
}

abbrev pub decreases-loop-left : goal.decreases-loop-left
decreases-loop-left l = l.left
