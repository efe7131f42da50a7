use Rattle.std.proofs.Common.{◌≡◌, ◌-◌, ◌≤◌, true}
use Rattle.block_alloc.proofs.Common.{list_all, range_with_len, is_free}
use Rattle.block_alloc.proofs.map.LiveMap.is_run.Given as goal

-- the blocks that were passed are free
abbrev pub invariant-loop-next : goal.invariant-loop-next
invariant-loop-next l = record {
  low : l.block ≤ l.next;
  free : list_all (is_free l.self.unhidden) (range_with_len l.next (l.end - l.next)) ≡ true;
}
