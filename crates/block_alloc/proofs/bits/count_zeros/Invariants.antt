use Rattle.std.proofs.Common.{◌≡◌, ◌≤◌}
use Rattle.block_alloc.proofs.Common.{free_count, bits_of}
use Rattle.block_alloc.proofs.bits.count_zeros.Given as goal

abbrev pub invariant-loop-b : goal.invariant-loop-b
invariant-loop-b l = record { counted : l.zeros ≡ free_count (bits_of l.bytes l.b); few : l.zeros ≤ l.b }
