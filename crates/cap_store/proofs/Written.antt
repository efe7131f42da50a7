-- Sectors of records that stand as they are written.
use Rattle.std.proofs.Common.{◌≡◌, inl, inr, ℕ, ◌+◌, ◌-◌, ◌*◌, ◌<◌, ◌≤◌, List, [], ◌++◌, length, take, replicate, refl, ◌∙◌, ap, subst, arith}
use Rattle.std.specs.List.{flat_map}
use Rattle.std.proofs.lemmas.Bool.{cases_lt}
use Rattle.std.proofs.lemmas.List.{take_all, drop_all}
use Rattle.tsd_model.specs.declared.records.Record.{Record}
use Rattle.image_device.specs.Image.{zeros}
use Rattle.image_layout.specs.Header.{IsVersion}
use Rattle.image_layout.specs.Image.{Image, kept_len}
use Rattle.cap_store.specs.Store.{AreRecords}
use Rattle.cap_store.specs.Stored.{caps_sector_bytes, part_of, per_sector, record_bytes, records_in, IsStored}
use Rattle.cap_store.proofs.RecordLaws.{for_version}
use Rattle.cap_store.proofs.Sectors.{read_there}

below_parts : (other version : ℕ) → IsVersion version → part_of version other * per_sector version ≤ other
below_parts other = for_version (λ v. part_of v other * per_sector v ≤ other) (omega arith) (omega arith)

-- the image has the records whose sectors it has
pub written : (version : ℕ) (rs : List Record) (y : Image) → IsVersion version → length rs ≤ 16 → AreRecords version rs
    → ((part : ℕ) → part * per_sector version < length rs → y (132 + part) ≡ caps_sector_bytes version rs part) → IsStored version rs y
written version rs y is few are same other less =
    let below = below_parts other version is in
    read_there version rs y is few are other less (same (part_of version other) (omega arith))

-- a sector past the last record is zeros
pub past_is_zeros : (version : ℕ) (rs : List Record) (part : ℕ) → length rs ≤ part * per_sector version → caps_sector_bytes version rs part ≡ zeros
past_is_zeros version rs part past =
    let turned : length rs ≤ per_sector version * part = omega arith in
    let none : records_in version rs part ≡ [] = ap (take (per_sector version)) (drop_all (per_sector version * part) rs turned) ∙ take_all (per_sector version) [] (omega arith) in
    ap (λ (l : List Record). flat_map record_bytes l ++ replicate (512 - 2 * kept_len version * length l) 0) none ∙ ap (λ n. replicate (512 - n) 0) nothing
  where
    nothing : 2 * kept_len version * 0 ≡ 0
    nothing = omega arith

-- ---- both sectors are replaced, after an upgrade
module _ (rs : List Record) (y : Image) (are : AreRecords 2 rs) where
  pub first_is_all : length rs ≤ 8 → y 132 ≡ caps_sector_bytes 2 rs 0 → IsStored 2 rs y
  first_is_all few first = written 2 rs y (inr refl) (omega arith) are (λ part less.
      let none : 0 ≡ part = omega arith in subst (λ n. y (132 + n) ≡ caps_sector_bytes 2 rs n) none first)

  pub both_are_all : length rs ≤ 16 → y 132 ≡ caps_sector_bytes 2 rs 0 → y 133 ≡ caps_sector_bytes 2 rs 1 → IsStored 2 rs y
  both_are_all few first second = written 2 rs y (inr refl) few are (λ part less. elim (cases_lt part 1) [
    | inl below ↦ let none : 0 ≡ part = omega arith in subst (λ n. y (132 + n) ≡ caps_sector_bytes 2 rs n) none first
    | inr at ↦ let one : 1 ≡ part = omega arith in subst (λ n. y (132 + n) ≡ caps_sector_bytes 2 rs n) one second
  ])

-- eight records have no second sector
pub second_is_zeros : (rs : List Record) → length rs ≤ 8 → caps_sector_bytes 2 rs 1 ≡ zeros
second_is_zeros rs few = past_is_zeros 2 rs 1 few
