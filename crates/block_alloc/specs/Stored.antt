-- When an image's bitmap says what a map says.
use Rattle.std.specs.Prelude.{◌≡◌, ◌≢◌, ◌⊎◌, ℕ, ◌+◌, ◌/◌, ◌<◌, Bool, List}
use Rattle.image_device.specs.Image.{Image, put_at}
use Rattle.image_layout.specs.declared.offset.Patch.{Patch}
use Rattle.image_layout.specs.Areas.{bitmap_start, slots_start}
use Rattle.image_layout.specs.Image.{is_bit_set}
use Rattle.image_layout.specs.Offsets.{bit_offset}
use Rattle.tsd_model.specs.declared.geometry.Geometry.{Geometry}
use Rattle.block_alloc.specs.Bytes.{bitmap_sector_bytes}
use Rattle.block_alloc.specs.LiveMap.{is_live}

-- the bit of this block is 1 where it is live, and else 0
abbrev pub IsStoredAt : List Bool → Geometry → Image → ℕ → Type 0
IsStoredAt live g image b = is_bit_set image g b ≡ is_live live b

-- the bit of each block
abbrev pub IsStored : List Bool → Geometry → Image → Type 0
IsStored live g image = (b : ℕ) → b < g.blocks → IsStoredAt live g image b

-- how many bits a sector has: one a block
abbrev pub per_sector : ℕ
per_sector = 4096

-- the sector of a block's bit
abbrev pub sector_of : Geometry → ℕ → ℕ
sector_of g b = (bit_offset g b).sector

-- the sectors of an image's bitmap are written as those of a map
abbrev pub AreWritten : List Bool → Geometry → Image → Type 0
AreWritten live g image =
    (part : ℕ) → bitmap_start g + part < slots_start g → image (bitmap_start g + part) ≡ bitmap_sector_bytes live part

-- ---- changes
-- with the patch, an image has the bit of each block that has its bit in that sector, whatever it had before
abbrev pub StoresSector : List Bool → Geometry → Patch → Type 0
StoresSector live g patch =
    (x : Image) (b : ℕ) → b < g.blocks → sector_of g b ≡ patch.sector
    → IsStoredAt live g (put_at patch.sector patch.bytes x) b

-- where an image has the bits of all other sectors, with the patch it has all of them
abbrev pub Completes : List Bool → Geometry → Patch → Type 0
Completes live g patch =
    (x : Image) → ((b : ℕ) → b < g.blocks → sector_of g b ≢ patch.sector → IsStoredAt live g x b)
    → IsStored live g (put_at patch.sector patch.bytes x)

-- an image with the sector of a block's bit as the map has it
abbrev pub patched : List Bool → Geometry → ℕ → Image → Image
patched live g b x = put_at (sector_of g b) (bitmap_sector_bytes live (b / per_sector)) x

-- From image x, where a map was `live`, to image y, where it is `now`: each block's sector is patched, or it is as
-- before and the block didn't change.
abbrev pub ArePatched : List Bool → List Bool → Geometry → Image → Image → Type 0
ArePatched live now g x y =
    (b : ℕ) → b < g.blocks
    → (y (sector_of g b) ≡ bitmap_sector_bytes now (b / per_sector))
    ⊎ ((y (sector_of g b) ≡ x (sector_of g b)) × (is_live now b ≡ is_live live b))
