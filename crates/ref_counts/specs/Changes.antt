-- What a change of a table leaves, in memory and on the disk.
use Rattle.std.specs.Prelude.{ℕ, ◌==◌, ◌||◌, Bool}
use Rattle.image_device.specs.Image.{Image, put_at}
use Rattle.image_layout.specs.declared.offset.Patch.{Patch}
use Rattle.ref_counts.specs.Table.{Table}
use Rattle.ref_counts.specs.Stored.{counts_sector_bytes, part_of, sector_of, IsStored, IsStoredBut}

-- the sector that has the count of a block, as it must read now
abbrev pub patch_of : Table → ℕ → Patch
patch_of t block = record {
  sector = sector_of t.geometry block;
  bytes = counts_sector_bytes t.counts (part_of block);
}

-- where an image has the counts of the table as it was, with the patch it has those of the table as it is
abbrev pub KeepsStored : Table → Table → Patch → Type 0
KeepsStored old new patch =
    (x : Image) → IsStored old.counts old.geometry x
    → IsStored new.counts new.geometry (put_at patch.sector patch.bytes x)

-- what an image has of the table as it was it has of the table as it is, but for the sector of this block's count
abbrev pub KeepsElsewhere : ℕ → Table → Table → Type 0
KeepsElsewhere block old new =
    (some : ℕ → Bool) (x : Image) → IsStoredBut some old.counts old.geometry x
    → IsStoredBut (λ n. n == sector_of old.geometry block || some n) new.counts new.geometry x

-- where an image has the counts of all other sectors, with the patch it has all of them
abbrev pub Completes : Table → Patch → Type 0
Completes t patch =
    (x : Image) → IsStoredBut (λ n. n == patch.sector) t.counts t.geometry x
    → IsStored t.counts t.geometry (put_at patch.sector patch.bytes x)

-- the same, where more sectors are still to be patched
abbrev pub CompletesBut : Table → Patch → Type 0
CompletesBut t patch =
    (some : ℕ → Bool) (x : Image) → IsStoredBut (λ n. n == patch.sector || some n) t.counts t.geometry x
    → IsStoredBut some t.counts t.geometry (put_at patch.sector patch.bytes x)
