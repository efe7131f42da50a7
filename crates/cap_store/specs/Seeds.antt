-- The capabilities that a seed gives.
use Rattle.std.specs.Prelude.{ℕ, ◌+◌, ◌*◌, List, ◌++◌, map}
use Rattle.std.specs.List.{range_with_len}
use Rattle.std.specs.Int.{w32, to_le_bytes}
use Rattle.rand_chacha.specs.ChaCha.{word_at, key_of}
use Rattle.tsd_model.specs.declared.caps.Cap.{Cap}
use Rattle.tsd_model.specs.declared.caps.CapPair.{CapPair}

-- the four bytes of a word of a stream, the lowest first; ChaCha20 has ten double rounds
abbrev pub word_bytes : List ℕ → ℕ → ℕ → List ℕ
word_bytes key stream position = to_le_bytes w32 (word_at 10 key stream position)

-- the capability of four words in a row, from an offset on
abbrev pub cap_at : List ℕ → ℕ → ℕ → Cap
cap_at key stream position = record {
  bytes =
      word_bytes key stream position
      ++ word_bytes key stream (position + 1)
      ++ word_bytes key stream (position + 2)
      ++ word_bytes key stream (position + 3);
}

-- the pair of primary block b, from stream 0 of the seed: words 8 b to 8 b + 3 for reading, and the next four for
-- writing
abbrev pub seed_pair : List ℕ → ℕ → CapPair
seed_pair seed block = record {
  read = cap_at (key_of seed) 0 (8 * block);
  write = cap_at (key_of seed) 0 (8 * block + 4);
}

-- the pairs of sixteen primary blocks
abbrev pub seed_pairs : List ℕ → List CapPair
seed_pairs seed = map (seed_pair seed) (range_with_len 0 16)
