use Rattle.std.proofs.Common.{◌≡◌, ℕ, ◌<◌, ◌≤◌, ◌-◌, max}
use Rattle.std.specs.Prelude.{slice_index_or}
use Rattle.bit_array.proofs.bits.next_word.Given as goal

abbrev pub invariant-loop-at : goal.invariant-loop-at
invariant-loop-at l = record {
  from : l.start ≤ l.at;
  within : l.at ≤ max l.start l.end;
  zero : (k : ℕ) → l.start ≤ k → k < l.at → slice_index_or l.words k 0 ≡ 0;
}

abbrev pub decreases-loop-at : goal.decreases-loop-at
decreases-loop-at l = l.end - l.at
