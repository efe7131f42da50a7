-- The sectors that keep the counts, 128 counts to a sector.
use Rattle.std.specs.Prelude.{◌≡◌, ℕ, ◌+◌, ◌-◌, ◌*◌, ◌/◌, ◌<◌, Bool, false, List, ◌++◌, length, take, drop, replicate}
use Rattle.std.specs.Prelude.{slice_index}
use Rattle.std.specs.List.{flat_map}
use Rattle.byteorder.specs.Endian.{little_bytes}
use Rattle.tsd_model.specs.declared.geometry.Geometry.{Geometry}
use Rattle.image_layout.specs.Areas.{bitmap_start, counts_start}
use Rattle.image_layout.specs.Offsets.{count_offset}
use Rattle.image_layout.specs.Image.{Image, stored_count}

-- ---- the bytes
-- how many counts a sector has
abbrev pub per_sector : ℕ
per_sector = 128

-- which of the counts' sectors has the count of a block, from 0
abbrev pub part_of : ℕ → ℕ
part_of block = block / per_sector

-- the counts that this one of their sectors has
abbrev pub counts_in : List ℕ → ℕ → List ℕ
counts_in counts part = take per_sector (drop (per_sector * part) counts)

-- its 512 bytes: each of its counts in four bytes, the lowest first, and zeros behind the last count
abbrev pub counts_sector_bytes : List ℕ → ℕ → List ℕ
counts_sector_bytes counts part =
    flat_map (little_bytes 4) (counts_in counts part) ++ replicate (512 - 4 * length (counts_in counts part)) 0

-- ---- table and sectors
-- the sector of an entry: that of a block's count
abbrev pub sector_of : Geometry → ℕ → ℕ
sector_of g block = (count_offset g block).sector

-- the image has the count of each block
abbrev pub IsStored : List ℕ → Geometry → Image → Type 0
IsStored counts g x = (block : ℕ) → block < g.blocks → stored_count x g block ≡ slice_index counts block

-- the same, where the counts in some sectors don't matter
abbrev pub IsStoredBut : (ℕ → Bool) → List ℕ → Geometry → Image → Type 0
IsStoredBut some counts g x =
    (block : ℕ) → block < g.blocks → some (sector_of g block) ≡ false
    → stored_count x g block ≡ slice_index counts block

-- its sectors of counts are written as those of these counts
abbrev pub AreWritten : List ℕ → Geometry → Image → Type 0
AreWritten counts g x =
    (part : ℕ) → counts_start + part < bitmap_start g → x (counts_start + part) ≡ counts_sector_bytes counts part
