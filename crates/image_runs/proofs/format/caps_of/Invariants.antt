use Rattle.std.proofs.Common.{◌≡◌, ◌≤◌, length, take}
use Rattle.image_runs.proofs.format.caps_of.Given as goal

abbrev pub invariant-loop-pair : goal.invariant-loop-pair
invariant-loop-pair l = record {
  caps : l.caps ≡ take l.pair-index l.pair-items;
  few : length l.pair-items ≤ 16;
}
