use Rattle.std.proofs.Common.{◌≡◌, ℕ, ◌+◌, ◌-◌}
use Rattle.std.specs.Prelude.{slice_index_or, vec_capacity, vec_len}
use Rattle.bit_array.proofs.bits.touch.Given as goal

abbrev pub invariant-loop-words : goal.invariant-loop-words
invariant-loop-words l = record {
  room : vec_capacity l.words ≡ vec_capacity l.fn.words;
  same : (k : ℕ) → slice_index_or l.words.items k 0 ≡ slice_index_or l.fn.words.items k 0;
}

abbrev pub decreases-loop-words : goal.decreases-loop-words
decreases-loop-words l = l.position + 1 - vec_len l.words
