use Rattle.std.proofs.Common.{◌≡◌, ℕ, ◌<◌, length, take}
use Rattle.image_world.proofs.Common.{slice_index, slots_to}
use Rattle.image_world.proofs.counting.pairs_to_each.Given as goal

abbrev pub invariant-loop-slot : goal.invariant-loop-slot
invariant-loop-slot l = record {
  each : length l.found.items ≡ l.pointers.geometry.blocks;
  found : (b : ℕ) → b < length l.found.items → slice_index l.found.items b ≡ slots_to (take l.slot l.pointers.slots) b;
}
