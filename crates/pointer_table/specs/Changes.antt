-- What a change of a table leaves, in memory and on the disk.
use Rattle.std.specs.Prelude.{◌≡◌, ℕ, ◌/◌, ◌<◌, ◌≤◌, slice_set, Option}
use Rattle.image_device.specs.Image.{Image, IsSector, put_at}
use Rattle.image_layout.specs.declared.offset.Patch.{Patch}
use Rattle.image_layout.specs.Areas.{slots_start, data_start}
use Rattle.pointer_table.specs.Slots.{slot_at}
use Rattle.pointer_table.specs.Table.{Table}
use Rattle.pointer_table.specs.Sectors.{IsStored, per_sector, sector_of, slot_sector_bytes}

-- One slot that was `before` is `after` now, and the patch is its sector as the whole table now has it.
pub record IsChange (old new : Table) (before after : Option (ℕ × ℕ)) (patch : Patch) : Type 0 where
  pub position : ℕ
  pub inside : position < old.geometry.slots
  pub was : slot_at old.slots position ≡ before
  pub now : new ≡ record old { slots = slice_set old.slots position after }
  pub sector : patch.sector ≡ sector_of old.geometry position
  pub bytes : patch.bytes ≡ slot_sector_bytes new.slots (position / per_sector)

-- the patch is a whole sector of the slots' area
pub record IsSlotSector (t : Table) (patch : Patch) : Type 0 where
  pub whole : IsSector patch.bytes
  pub area : (slots_start t.geometry ≤ patch.sector) × (patch.sector < data_start t.geometry)

-- where an image has the slots of the table as it was, with the patch it has those of the table as it is
abbrev pub KeepsStored : Table → Table → Patch → Type 0
KeepsStored old new patch =
    (x : Image) → IsStored old.slots old.geometry x
    → IsStored new.slots new.geometry (put_at patch.sector patch.bytes x)
