-- What it is for an image to have the records.
use Rattle.std.proofs.Common.{◌≡◌, ℕ, ◌+◌, ◌<◌, ◌≤◌, Bool, false, List, length, take, drop, Some, refl, sym, ◌∙◌, ap, arith}
use Rattle.std.specs.Prelude.{map}
use Rattle.std.specs.List.{range_with_len}
use Rattle.std.proofs.lemmas.List.FromFn.{fill_by_all}
use Rattle.std.proofs.lemmas.Option.{get_or_from_slice_get}
use Rattle.tsd_model.specs.declared.records.Record.{Record}
use Rattle.image_layout.specs.Areas.{caps_start, counts_start}
use Rattle.image_layout.specs.Header.{IsVersion}
use Rattle.image_layout.specs.Image.{Image, kept_len, kept_offset}
use Rattle.cap_store.specs.Stored.{sector_of, kept_as, part_of, stored_record, IsStored, IsStoredBut}
use Rattle.cap_store.proofs.RecordLaws.{blank, for_version}
use Rattle.cap_store.proofs.Sectors.{place_is}

-- an image has the records of one store
pub one_store : (version : ℕ) (rs : List Record) (x : Image) → IsStored version rs x → rs ≡ map (stored_record version x) (range_with_len 0 (length rs))
one_store version rs x stored = fill_by_all (stored_record version x) rs (length rs) blank refl (λ block inside. get_or_from_slice_get rs block (stored_record version x block) blank (stored block inside))

-- a record is that of its sector's bytes
pub same_record : (version : ℕ) (x y : Image) (block : ℕ) → y (sector_of version block) ≡ x (sector_of version block) → stored_record version y block ≡ stored_record version x block
same_record version x y block same = ap of_bytes same
  where
    of_bytes : List ℕ → Record
    of_bytes bytes = record {
      read = kept_as version (take (kept_len version) (drop (kept_offset version block).byte bytes));
      write = kept_as version (take (kept_len version) (drop ((kept_offset version block).byte + kept_len version) bytes));
    }

part_below : (block version : ℕ) → IsVersion version → block < 16 → part_of version block < 2
part_below block = for_version (λ v. block < 16 → part_of v block < 2) (λ inside. omega arith) (λ inside. omega arith)

-- images with the same two sectors have the same records
pub same_sectors_but : (some : ℕ → Bool) (version : ℕ) (rs : List Record) (x y : Image) → IsVersion version → length rs ≤ 16
    → ((n : ℕ) → caps_start ≤ n → n < counts_start → some n ≡ false → y n ≡ x n) → IsStoredBut some version rs x → IsStoredBut some version rs y
same_sectors_but some version rs x y is few same stored block inside out =
    let position = place_is block version is (omega arith) in
    let part = part_below block version is (omega arith) in
    let there = same (sector_of version block) (omega (arith, position)) (omega (arith, position, part)) out in
    stored block inside out ∙ ap Some (sym (same_record version x y block there))

pub same_sectors : (version : ℕ) (rs : List Record) (x y : Image) → IsVersion version → length rs ≤ 16
    → ((n : ℕ) → caps_start ≤ n → n < counts_start → y n ≡ x n) → IsStored version rs x → IsStored version rs y
same_sectors version rs x y is few same stored block inside =
    same_sectors_but (λ n. false) version rs x y is few (λ n from to out. same n from to) (λ b h out. stored b h) block inside refl
