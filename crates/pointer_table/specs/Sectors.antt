-- The slots as the sectors of an image have them.
use Rattle.std.specs.Prelude.{◌≡◌, ◌⊎◌, ℕ, zero, suc, ◌+◌, ◌-◌, ◌*◌, ◌/◌, ◌<◌, ◌==◌, if◌then◌else◌, List, [], ◌++◌}
use Rattle.std.specs.Prelude.{length, replicate, Option, Some, None}
use Rattle.byteorder.specs.Endian.{little_bytes}
use Rattle.tsd_model.specs.declared.geometry.Geometry.{Geometry}
use Rattle.image_layout.specs.Image.{Image, source_field, target_field}
use Rattle.image_layout.specs.Areas.{slots_start, data_start}
use Rattle.image_layout.specs.Offsets.{slot_offset}
use Rattle.pointer_table.specs.Slots.{slot_at}

-- how many slots a sector has
abbrev pub per_sector : ℕ
per_sector = 64

-- the sector of a slot
abbrev pub sector_of : Geometry → ℕ → ℕ
sector_of g k = (slot_offset g k).sector

-- ---- read
-- the slot with these two numbers: one more than the source, or 0 for an empty slot, and the target
abbrev pub slot_of : ℕ → ℕ → Option (ℕ × ℕ)
slot_of source target = if source == 0 then None else Some (source - 1, target)

-- a slot of an image
abbrev pub stored_slot : Image → Geometry → ℕ → Option (ℕ × ℕ)
stored_slot image g k = slot_of (source_field image g k) (target_field image g k)

-- the slots of an image are these
pub record IsStored (slots : List (Option (ℕ × ℕ))) (g : Geometry) (image : Image) : Type 0 where
  pub count : length slots ≡ g.slots
  pub each : (k : ℕ) → k < g.slots → stored_slot image g k ≡ slot_at slots k

-- ---- written
-- the eight bytes of a slot
abbrev pub slot_bytes : Option (ℕ × ℕ) → List ℕ
slot_bytes None = replicate 8 0
slot_bytes (Some e) = little_bytes 4 (e.0 + 1) ++ little_bytes 4 e.1

-- the bytes of so many slots in a row, from the first of them on; those past the last slot are zeros
unfoldable pub row_bytes : List (Option (ℕ × ℕ)) → ℕ → ℕ → List ℕ
row_bytes slots first zero = []
row_bytes slots first (suc n) = row_bytes slots first n ++ slot_bytes (slot_at slots (first + n))

-- the 512 bytes of a sector of slots, counted from the first such sector
abbrev pub slot_sector_bytes : List (Option (ℕ × ℕ)) → ℕ → List ℕ
slot_sector_bytes slots part = row_bytes slots (per_sector * part) per_sector

-- the sectors of an image's slots are written as those of these slots
abbrev pub AreWritten : List (Option (ℕ × ℕ)) → Geometry → Image → Type 0
AreWritten slots g image =
    (part : ℕ) → slots_start g + part < data_start g → image (slots_start g + part) ≡ slot_sector_bytes slots part

-- From image x, where the slots were `slots`, to image y, where they are `now`: each slot's sector is patched, or it is
-- as before and the slot didn't change.
abbrev pub ArePatched : List (Option (ℕ × ℕ)) → List (Option (ℕ × ℕ)) → Geometry → Image → Image → Type 0
ArePatched slots now g x y =
    (k : ℕ) → k < g.slots
    → (y (sector_of g k) ≡ slot_sector_bytes now (k / per_sector))
    ⊎ ((y (sector_of g k) ≡ x (sector_of g k)) × (slot_at now k ≡ slot_at slots k))
