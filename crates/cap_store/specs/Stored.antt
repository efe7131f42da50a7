-- The sectors that keep the records: in version 1 sixteen records of 32 bytes in the first of two sectors, in version 2
-- eight of 64 bytes in each.
use Rattle.std.specs.Prelude.{◌≡◌, ℕ, ◌+◌, ◌-◌, ◌*◌, ◌/◌, ◌<◌, ◌==◌, cond, if◌then◌else◌, Bool, false, List, ◌++◌}
use Rattle.std.specs.Prelude.{length, take, drop, replicate, slice_get, Some}
use Rattle.std.specs.List.{flat_map}
use Rattle.tsd_model.specs.declared.records.KeptCap.{KeptCap}
use Rattle.tsd_model.specs.declared.records.KeptCap.TheVariants.{Plain, Digested}
use Rattle.tsd_model.specs.declared.records.Record.{Record}
use Rattle.image_layout.specs.Areas.{caps_start}
use Rattle.image_layout.specs.Image.{Image, kept_offset, kept_len, kept_for_reading, kept_for_writing}

-- ---- the bytes
-- what stands on the image for what is kept of a capability
abbrev pub kept_bytes : KeptCap → List ℕ
kept_bytes (Plain c) = c.bytes
kept_bytes (Digested d) = d

-- first that for reading, then that for writing
abbrev pub record_bytes : Record → List ℕ
record_bytes r = kept_bytes r.read ++ kept_bytes r.write

-- how many records a sector has
abbrev pub per_sector : ℕ → ℕ
per_sector version = if version == 2 then 8 else 16

-- which of the two sectors has the record of a block, 0 or 1
abbrev pub part_of : ℕ → ℕ → ℕ
part_of version block = block / per_sector version

-- the records that this one of the two sectors has
abbrev pub records_in : ℕ → List Record → ℕ → List Record
records_in version records part = take (per_sector version) (drop (per_sector version * part) records)

-- its 512 bytes: its records, and zeros behind the last one
abbrev pub caps_sector_bytes : ℕ → List Record → ℕ → List ℕ
caps_sector_bytes version records part =
    flat_map record_bytes (records_in version records part)
    ++ replicate (512 - 2 * kept_len version * length (records_in version records part)) 0

-- ---- store and sectors
-- the sector of an entry: that of a primary block's record
abbrev pub sector_of : ℕ → ℕ → ℕ
sector_of version block = (kept_offset version block).sector

-- what a version keeps with these bytes
abbrev pub kept_as : ℕ → List ℕ → KeptCap
kept_as version bytes = cond (version == 2) (Digested bytes) (Plain (record { bytes = bytes }))

-- the record at a position of a sector with these bytes, counted from 0
abbrev pub sector_record : ℕ → List ℕ → ℕ → Record
sector_record version bytes position = record {
  read = kept_as version (take (kept_len version) (drop (2 * kept_len version * position) bytes));
  write = kept_as version (take (kept_len version) (drop (2 * kept_len version * position + kept_len version) bytes));
}

-- the record that an image has for a block
abbrev pub stored_record : ℕ → Image → ℕ → Record
stored_record version x block = record {
  read = kept_as version (kept_for_reading version x block);
  write = kept_as version (kept_for_writing version x block);
}

-- the image has each of these records
abbrev pub IsStored : ℕ → List Record → Image → Type 0
IsStored version records x =
    (block : ℕ) → block < length records → slice_get records block ≡ Some (stored_record version x block)

-- the same, where the records in some sectors don't matter
abbrev pub IsStoredBut : (ℕ → Bool) → ℕ → List Record → Image → Type 0
IsStoredBut some version records x =
    (block : ℕ) → block < length records → some (sector_of version block) ≡ false
    → slice_get records block ≡ Some (stored_record version x block)

-- its sectors of records are written as those of these records
abbrev pub AreWritten : ℕ → List Record → Image → Type 0
AreWritten version records x =
    (part : ℕ) → part * per_sector version < length records
    → x (caps_start + part) ≡ caps_sector_bytes version records part
