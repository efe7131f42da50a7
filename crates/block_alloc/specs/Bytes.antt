-- Bits in bytes: eight blocks a byte, the first of them in the lowest bit.
use Rattle.std.specs.Prelude.{◌≡◌, ◌≢◌, ℕ, ◌+◌, ◌*◌, ◌/◌, ◌%◌, ◌≤◌, ◌==◌, Bool, true, false, cond, List, [], ◌∷◌}
use Rattle.std.specs.Prelude.{length, map, take, drop, slice_index}
use Rattle.std.specs.List.{range_with_len}
use Rattle.std.specs.Int.{bit_at, div_ceil}
use Rattle.block_alloc.specs.LiveMap.{free_count}
use Rattle.block_alloc.specs.Rows.{AreMost}

-- ---- bits that bytes have
abbrev pub bit_in : List ℕ → ℕ → Bool
bit_in bytes b = bit_at (slice_index bytes (b / 8)) (b % 8) == 1

-- the first so many bits
abbrev pub bits_of : List ℕ → ℕ → List Bool
bits_of bytes len = map (bit_in bytes) (range_with_len 0 len)

-- How the bits of so many blocks are kept: a bit a block, and no bit past the last block.
pub record AreBits (blocks : ℕ) (bytes : List ℕ) : Type 0 where
  pub whole : length bytes ≡ div_ceil blocks 8
  pub ends : (b : ℕ) → blocks ≤ b → bit_in bytes b ≡ false

-- How a map of so many blocks is kept: the bits of the bitmap, those of the blocks that aren't hidden, how many blocks
-- are free, and how many of them stand in a row at most, from a block of each group on.
pub record IsMapKept (blocks : ℕ) (bytes unhidden : List ℕ) (free : ℕ) (most : List ℕ) : Type 0 where
  pub bitmap : AreBits blocks bytes
  pub rest : AreBits blocks unhidden
  pub are_live : (b : ℕ) → bit_in unhidden b ≡ true → bit_in bytes b ≡ true
  pub counted : free ≡ free_count (bits_of unhidden blocks)
  pub rows : AreMost (bits_of unhidden blocks) most

-- one bit was given a value, and all others are as before
pub record IsBitPut (old new : List ℕ) (b : ℕ) (bit : Bool) : Type 0 where
  pub whole : length new ≡ length old
  pub same : bit_in new b ≡ bit
  pub others : (k : ℕ) → k ≢ b → bit_in new k ≡ bit_in old k

-- ---- bytes that have given bits
-- the number with these bits, the lowest first
abbrev pub number_of : List Bool → ℕ
number_of [] = 0
number_of (bit ∷ bits) = cond bit 1 0 + 2 * number_of bits

-- byte i of the bitmap has the bits of blocks 8i to 8i + 7, and 0 for a block that the disk doesn't have
abbrev pub bitmap_byte : List Bool → ℕ → ℕ
bitmap_byte live i = number_of (take 8 (drop (8 * i) live))

-- a sector of the bitmap, counted from its first one: 512 bytes
abbrev pub bitmap_sector_bytes : List Bool → ℕ → List ℕ
bitmap_sector_bytes live sector = map (bitmap_byte live) (range_with_len (512 * sector) 512)
