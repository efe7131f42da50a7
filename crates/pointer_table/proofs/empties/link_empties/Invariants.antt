use Rattle.std.proofs.Common.{◌≤◌, length}
use Rattle.pointer_table.proofs.Common.{HasLinksAndHeads, IsIndex, slot_at}
use Rattle.pointer_table.proofs.EmptyLaws.{AreEmptiesFrom}
use Rattle.pointer_table.proofs.empties.link_empties.Given as goal

-- the empty slots from this one on are linked
abbrev pub invariant-loop-left : goal.invariant-loop-left
invariant-loop-left l = record {
  inside : l.left ≤ length l.slots;
  index : IsIndex (slot_at l.slots) l.index;
  room : HasLinksAndHeads (length l.fn.index.by_source.heads) (length l.slots) l.index;
  empties : AreEmptiesFrom l.slots l.left l.index.empty l.index.by_bucket.next;
}

abbrev pub decreases-loop-left : goal.decreases-loop-left
decreases-loop-left l = l.left
