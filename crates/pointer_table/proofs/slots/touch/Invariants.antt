use Rattle.std.proofs.Common.{◌≡◌, ◌+◌, ◌-◌}
use Rattle.pointer_table.proofs.Common.{vec_len, vec_capacity, all_slots, AreKept}
use Rattle.pointer_table.proofs.slots.touch.Given as goal

abbrev pub invariant-loop-items : goal.invariant-loop-items
invariant-loop-items l = record {
  kept : AreKept l.count l.items.items (vec_capacity l.items);
  same : all_slots l.count l.items.items ≡ all_slots l.count l.fn.items.items;
}

abbrev pub decreases-loop-items : goal.decreases-loop-items
decreases-loop-items l = l.position + 1 - vec_len l.items
