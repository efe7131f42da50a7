-- What the bytes of an image mean, before any rule says whether they are right.
use Rattle.std.specs.Prelude.{ℕ, zero, suc, ◌+◌, ◌==◌, Bool, if◌then◌else◌, List, [], ◌∷◌, ◌++◌, take, drop, replicate}
use Rattle.std.specs.Prelude.{slice_index}
use Rattle.std.specs.Int.{bit_at}
use Rattle.byteorder.specs.Endian.{little_from}
use Rattle.tsd_model.specs.declared.geometry.Geometry.{Geometry}
use Rattle.image_layout.specs.declared.offset.Offset.{Offset}
use Rattle.image_layout.specs.Offsets.{further, count_offset, bit_offset, bit_of, slot_offset, cap_offset}
use Rattle.image_layout.specs.Offsets.{data_sector, digest_offset}

-- the 512 bytes of each sector
abbrev pub Image : Type 0
Image = ℕ → List ℕ

-- ---- fields
-- the number in the four bytes from an offset on, the lowest first
abbrev pub number_at : Image → Offset → ℕ
number_at image at = little_from at.byte 4 (image at.sector)

-- so many bytes from an offset on
abbrev pub bytes_from : Image → Offset → ℕ → List ℕ
bytes_from image at len = take len (drop at.byte (image at.sector))

-- ---- gates and flags
-- whether the gate or flag of a sector with these bytes is open: by its first byte alone
abbrev pub says_open : List ℕ → Bool
says_open bytes = slice_index bytes 0 == 1

-- what is written to open or to close one: a byte 1 or 0, and zeros
abbrev pub gate_bytes : Bool → List ℕ
gate_bytes open_now = (if open_now then 1 else 0) ∷ replicate 511 0

-- ---- blocks
-- whether a block's bit in the bitmap is 1
abbrev pub is_bit_set : Image → Geometry → ℕ → Bool
is_bit_set image g block =
    let at = bit_offset g block in
    bit_at (slice_index (image at.sector) at.byte) (bit_of block) == 1

-- the stored count of pointers to a block
abbrev pub stored_count : Image → Geometry → ℕ → ℕ
stored_count image g block = number_at image (count_offset g block)

-- the bytes of so many sectors in a row
abbrev pub sector_bytes : Image → ℕ → ℕ → List ℕ
sector_bytes image first zero = []
sector_bytes image first (suc n) = image first ++ sector_bytes image (first + 1) n

-- the bytes of a block
abbrev pub data_bytes : Image → Geometry → ℕ → List ℕ
data_bytes image g block = sector_bytes image (data_sector g block 0) g.sectors

-- ---- pointer slots
-- one more than the source of the pointer, or 0 for an empty slot
abbrev pub source_field : Image → Geometry → ℕ → ℕ
source_field image g slot = number_at image (slot_offset g slot)

abbrev pub target_field : Image → Geometry → ℕ → ℕ
target_field image g slot = number_at image (further (slot_offset g slot) 4)

-- ---- what primary blocks keep, by the image's version: capabilities in version 1, their digests in version 2
abbrev pub kept_offset : ℕ → ℕ → Offset
kept_offset version block = if version == 2 then digest_offset block else cap_offset block

abbrev pub kept_len : ℕ → ℕ
kept_len version = if version == 2 then 32 else 16

abbrev pub kept_for_reading : ℕ → Image → ℕ → List ℕ
kept_for_reading version image block = bytes_from image (kept_offset version block) (kept_len version)

abbrev pub kept_for_writing : ℕ → Image → ℕ → List ℕ
kept_for_writing version image block =
    bytes_from image (further (kept_offset version block) (kept_len version)) (kept_len version)
