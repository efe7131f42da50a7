use Rattle.std.proofs.Common.{◌≡◌, ℕ, ◌<◌, ◌≤◌, ◌-◌, max, false}
use Rattle.std.specs.Prelude.{slice_index_or}
use Rattle.bit_array.proofs.bits.BitArray.next_set.Given as goal

abbrev pub invariant-loop-at : goal.invariant-loop-at
invariant-loop-at l = record {
  from : l.start ≤ l.at;
  within : l.at ≤ max l.start l.end;
  unset : (i : ℕ) → l.start ≤ i → i < l.at → slice_index_or l.self i false ≡ false;
}

abbrev pub decreases-loop-at : goal.decreases-loop-at
decreases-loop-at l = l.end - l.at
