-- How bits are kept: 64 a word, the first of them in the lowest bit.
use Rattle.std.specs.Prelude.{ℕ, ◌/◌, ◌%◌, ◌==◌, Bool, List, map, slice_index_or}
use Rattle.std.specs.List.{range_with_len}
use Rattle.std.specs.Int.{bit_at}

-- bit i of the words
abbrev pub bit_in : List ℕ → ℕ → Bool
bit_in words i = bit_at (slice_index_or words (i / 64) 0) (i % 64) == 1

-- the first so many bits
abbrev pub bits_of : List ℕ → ℕ → List Bool
bits_of words len = map (bit_in words) (range_with_len 0 len)
