use Rattle.std.proofs.Common.{◌≡◌, ◌<◌, ℕ, nat_lt, length}
use Rattle.block_alloc.proofs.Common.{slice_index, bit_in}
use Rattle.block_alloc.proofs.fresh.first_bits.Given as goal

abbrev pub invariant-loop-bit : goal.invariant-loop-bit
invariant-loop-bit l = record {
  bits : (b : ℕ) → bit_in l.sector b ≡ nat_lt b l.bit;
  size : length l.sector ≡ 512;
  fits : (i : ℕ) → slice_index l.sector i < 256;
}
