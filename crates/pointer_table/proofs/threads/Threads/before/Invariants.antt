use Rattle.std.proofs.Common.{◌≡◌, ◌-◌, length}
use Rattle.pointer_table.proofs.Common.{slot_at, group, link_after, IsNear}
use Rattle.pointer_table.proofs.ThreadLaws.{from_of}
use Rattle.pointer_table.proofs.threads.Threads.before.Given as goal

abbrev pub invariant-loop-link : goal.invariant-loop-link
invariant-loop-link l = record {
  near : IsNear (slot_at l.slots) (group l.self.way (length l.self.heads)) l.of l.limit l.before;
  link : l.link ≡ link_after l.self.heads l.self.next l.of l.before;
}

abbrev pub decreases-loop-link : goal.decreases-loop-link
decreases-loop-link l = l.limit - from_of (slot_at l.slots) l.before
