-- Which blocks are live and which are free.
use Rattle.std.specs.Prelude.{◌≡◌, ℕ, ◌&&◌, Bool, false, not, nat_lt, List, length, count_by, slice_index_or, IsTrue}
use Rattle.tsd_model.specs.Geometry.{IsLawful}
use Rattle.tsd_model.specs.declared.geometry.Geometry.{Geometry}

abbrev pub is_live : List Bool → ℕ → Bool
is_live live b = slice_index_or live b false

-- a block of the disk that isn't live
abbrev pub is_free : List Bool → ℕ → Bool
is_free live b = nat_lt b (length live) && not (is_live live b)

abbrev pub free_count : List Bool → ℕ
free_count live = count_by not live

-- A hidden block is live in the bitmap, and free for each question and each choice.
pub record LiveMap : Type 0 where
  pub geometry : Geometry
  -- at index b whether block b is live in the bitmap
  pub live : List Bool
  -- at index b whether block b is live there and isn't hidden
  pub unhidden : List Bool

-- a lawful geometry, and in both lists an entry for each of its blocks
pub record IsTable (m : LiveMap) : Type 0 where
  pub lawful : IsLawful m.geometry
  pub each_block : length m.live ≡ m.geometry.blocks
  pub each_unhidden : length m.unhidden ≡ m.geometry.blocks
  pub are_live : (b : ℕ) → IsTrue (is_live m.unhidden b) → IsTrue (is_live m.live b)
