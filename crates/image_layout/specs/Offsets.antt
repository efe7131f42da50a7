-- Where the things of an image stand.
use Rattle.std.specs.Prelude.{ℕ, ◌+◌, ◌*◌, ◌/◌, ◌%◌}
use Rattle.tsd_model.specs.declared.geometry.Geometry.{Geometry}
use Rattle.image_layout.specs.declared.offset.Offset.{Offset}
use Rattle.image_layout.specs.Areas.{caps_start, counts_start, bitmap_start, slots_start, data_start}

-- so many bytes into an area that begins with this sector
abbrev pub byte_in : ℕ → ℕ → Offset
byte_in start bytes = record { sector = start + bytes / 512; byte = bytes % 512 }

-- so many bytes on, in the same sector
abbrev pub further : Offset → ℕ → Offset
further at bytes = record { sector = at.sector; byte = at.byte + bytes }

-- the count of pointers to a block: a number
abbrev pub count_offset : Geometry → ℕ → Offset
count_offset g block = byte_in counts_start (4 * block)

-- the byte of the bitmap that has a block's bit
abbrev pub bit_offset : Geometry → ℕ → Offset
bit_offset g block = byte_in (bitmap_start g) (block / 8)

-- which bit of that byte it is, counted from the lowest
abbrev pub bit_of : ℕ → ℕ
bit_of block = block % 8

-- a pointer slot: two numbers, one more than the source, and the target
abbrev pub slot_offset : Geometry → ℕ → Offset
slot_offset g slot = byte_in (slots_start g) (8 * slot)

-- the capability pair of a primary block, in version 1: 16 bytes for reading, 16 for writing
abbrev pub cap_offset : ℕ → Offset
cap_offset block = byte_in caps_start (32 * block)

-- the digests of those, in version 2: 32 bytes for reading, 32 for writing
abbrev pub digest_offset : ℕ → Offset
digest_offset block = byte_in caps_start (64 * block)

-- a sector of a block's data
abbrev pub data_sector : Geometry → ℕ → ℕ → ℕ
data_sector g block part = data_start g + g.sectors * block + part
