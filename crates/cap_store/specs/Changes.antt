-- What a change of a store leaves, in memory and on the disk.
use Rattle.std.specs.Prelude.{ℕ, ◌==◌, ◌||◌, Bool}
use Rattle.image_device.specs.Image.{Image, put_at}
use Rattle.image_layout.specs.declared.offset.Patch.{Patch}
use Rattle.cap_store.specs.Store.{Store}
use Rattle.cap_store.specs.Stored.{caps_sector_bytes, part_of, sector_of, IsStored, IsStoredBut}

-- the sector that has the record of a block, as it must read now
abbrev pub patch_of : Store → ℕ → Patch
patch_of s block = record {
  sector = sector_of s.version block;
  bytes = caps_sector_bytes s.version s.records (part_of s.version block);
}

-- where an image has the records of the store as it was, with the patch it has those of the store as it is
abbrev pub KeepsStored : Store → Store → Patch → Type 0
KeepsStored old new patch =
    (x : Image) → IsStored old.version old.records x
    → IsStored new.version new.records (put_at patch.sector patch.bytes x)

-- what an image has of the store as it was it has of the store as it is, but for the sector of this block's record
abbrev pub KeepsElsewhere : ℕ → Store → Store → Type 0
KeepsElsewhere block old new =
    (some : ℕ → Bool) (x : Image) → IsStoredBut some old.version old.records x
    → IsStoredBut (λ n. n == sector_of old.version block || some n) new.version new.records x

-- where an image has the records of the other sector, with the patch it has all of them
abbrev pub Completes : Store → Patch → Type 0
Completes s patch =
    (x : Image) → IsStoredBut (λ n. n == patch.sector) s.version s.records x
    → IsStored s.version s.records (put_at patch.sector patch.bytes x)

-- the same, where more sectors are still to be patched
abbrev pub CompletesBut : Store → Patch → Type 0
CompletesBut s patch =
    (some : ℕ → Bool) (x : Image) → IsStoredBut (λ n. n == patch.sector || some n) s.version s.records x
    → IsStoredBut some s.version s.records (put_at patch.sector patch.bytes x)
