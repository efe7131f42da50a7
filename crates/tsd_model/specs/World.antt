-- The disk as a value: how large it is, which blocks are live and what they contain, the pointers, and what is kept of
-- the capabilities.
use Rattle.std.specs.Prelude.{ℕ, Bool, true, not, ◌&&◌, ◌==◌, nat_lt, List, [], ◌∷◌, length, count_by, slice_index_or}
use Rattle.std.specs.Prelude.{Option, None, is_some, is_none}
use Rattle.std.specs.List.{list_any, range_with_len}
use Rattle.tsd_model.specs.declared.geometry.Geometry.{Geometry}
use Rattle.tsd_model.specs.declared.records.Record.{Record}

pub record World : Type 0 where
  pub geometry : Geometry
  -- 1, or 2 where capabilities are kept as digests
  pub version : ℕ
  -- at index b the bytes of block b, where it is live
  pub blocks : List (Option (List ℕ))
  -- the pointers
  pub pairs : List (ℕ × ℕ)
  -- at index b what is kept for primary block b
  pub records : List Record

-- the bytes of a block that is live; past the last block there is none
abbrev pub contents : World → ℕ → Option (List ℕ)
contents w b = slice_index_or w.blocks b None

abbrev pub is_live : World → ℕ → Bool
is_live w b = is_some (contents w b)

-- a block of the disk that isn't live
abbrev pub is_free : World → ℕ → Bool
is_free w b = nat_lt b (length w.blocks) && is_none (contents w b)

abbrev pub free_count : World → ℕ
free_count w = count_by is_none w.blocks

-- every block of the disk, ascending
abbrev pub all_blocks : World → List ℕ
all_blocks w = range_with_len 0 (length w.blocks)

abbrev pub primary_blocks : World → List ℕ
primary_blocks w = range_with_len 0 w.geometry.primaries

abbrev pub is_primary : World → ℕ → Bool
is_primary w b = nat_lt b w.geometry.primaries

abbrev pub has_number : List ℕ → ℕ → Bool
has_number xs b = list_any (λ x. x == b) xs

-- none twice
abbrev pub are_apart : List ℕ → Bool
are_apart [] = true
are_apart (b ∷ bs) = not (has_number bs b) && are_apart bs
