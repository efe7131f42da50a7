use Rattle.std.proofs.Common.{◌≡◌, ◌*◌, map}
use Rattle.std.specs.List.{range_with_len}
use Rattle.rand_chacha.specs.ChaCha.{key_of}
use Rattle.cap_store.specs.Seeds.{seed_pair}
use Rattle.cap_store.proofs.seeds.seed_caps.Given as goal

-- the pairs so far, and the place of the next word
abbrev pub invariant-loop-block : goal.invariant-loop-block
invariant-loop-block l = record {
  pairs : l.caps ≡ map (seed_pair l.seed) (range_with_len 0 l.block);
  words : l.words ≡ record { key = key_of l.seed; stream = 0; word_pos = 8 * l.block };
}
