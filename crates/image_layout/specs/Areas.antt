-- Where the areas of an image begin. An image is a row of sectors of 512 bytes, numbered from 0.
use Rattle.std.specs.Prelude.{ℕ, ◌+◌, ◌*◌}
use Rattle.std.specs.Int.{div_ceil}
use Rattle.tsd_model.specs.declared.geometry.Geometry.{Geometry}

-- ---- what stands at the same offset on every image
abbrev pub header_sector : ℕ
header_sector = 0

-- open where the image was formatted to the end
abbrev pub format_gate : ℕ
format_gate = 1

-- open where a sweep has begun and not ended
abbrev pub sweep_flag : ℕ
sweep_flag = 131

-- what the primary blocks keep to know their holders by takes two sectors
abbrev pub caps_start : ℕ
caps_start = 132

abbrev pub counts_start : ℕ
counts_start = 134

-- ---- what stands where the geometry has it: each area takes whole sectors and begins where the one before it ends
-- after the counts, four bytes a block
abbrev pub bitmap_start : Geometry → ℕ
bitmap_start g = counts_start + div_ceil (4 * g.blocks) 512

-- after the bitmap, a bit a block
abbrev pub slots_start : Geometry → ℕ
slots_start g = bitmap_start g + div_ceil g.blocks 4096

-- after the pointer slots, eight bytes a slot
abbrev pub data_start : Geometry → ℕ
data_start g = slots_start g + div_ceil (8 * g.slots) 512

-- the sectors of the whole image, which ends with the blocks' data
abbrev pub total : Geometry → ℕ
total g = data_start g + g.sectors * g.blocks

-- ---- the largest disk, whose image is the longest
abbrev pub largest : Geometry
largest = record { sectors = 8; blocks = 1048576; primaries = 16; slots = 4194304 }

abbrev pub most_sectors : ℕ
most_sectors = total largest
