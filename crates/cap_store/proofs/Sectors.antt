-- What the sectors of records say, once one of them is replaced.
use Rattle.std.proofs.Common.{◌≡◌, ◌≢◌, inl, inr, ℕ, zero, suc, ◌+◌, ◌-◌, ◌*◌, ◌%◌, ◌<◌, ◌≤◌, ◌==◌, ◌||◌, Bool, true, false, cond, List, [], ◌∷◌, ◌++◌, length, min, take, drop, get_or, set, replicate, Some, refl, sym, ◌∙◌, ap, subst, arith}
use Rattle.std.specs.Prelude.{slice_get}
use Rattle.std.specs.List.{flat_map}
use Rattle.std.proofs.lemmas.Bool.{cases_Bool, cases_eq, cases_lt}
use Rattle.std.proofs.lemmas.Bool.Decides.{nat_tests}
use Rattle.std.proofs.lemmas.List.{length-set, length-take, length-drop, take_all}
use Rattle.std.proofs.lemmas.Option.{none-some, same_Some, slice_get-get_or}
use Rattle.tsd_model.specs.declared.records.Record.{Record}
use Rattle.image_device.specs.Image.{put_at}
use Rattle.image_device.proofs.Sets.{or_false, or_false_left, or_false_right, not_same}
use Rattle.image_layout.specs.Header.{IsVersion}
use Rattle.image_layout.specs.Image.{Image, kept_len, kept_offset}
use Rattle.cap_store.specs.Changes.{patch_of, KeepsStored}
use Rattle.cap_store.specs.Store.{AreRecords, IsRecord, IsTable, Store}
use Rattle.cap_store.specs.Stored.{sector_of, caps_sector_bytes, kept_as, part_of, per_sector, sector_record, record_bytes, records_in, stored_record, IsStored, IsStoredBut}
use Rattle.cap_store.proofs.RecordLaws.{blank, for_version, records_back, records_long}
use Rattle.cap_store.proofs.Reading.{record_in}

-- ---- lists by index
slice_get-set_other : (rs : List Record) (i j : ℕ) (r : Record) → j ≢ i → slice_get (set rs i r) j ≡ slice_get rs j
slice_get-set_other [] i j r apart = refl
slice_get-set_other (x ∷ xs) zero zero r apart = absurd (apart refl)
slice_get-set_other (x ∷ xs) zero (suc j) r apart = refl
slice_get-set_other (x ∷ xs) (suc i) zero r apart = refl
slice_get-set_other (x ∷ xs) (suc i) (suc j) r apart = slice_get-set_other xs i j r (λ e. apart (ap suc e))

slice_get-set_same : (rs : List Record) (i : ℕ) (r s : Record) → slice_get (set rs i r) i ≡ Some s → r ≡ s
slice_get-set_same [] i r s is = absurd (none-some s is)
slice_get-set_same (x ∷ xs) zero r s is = same_Some r s is
slice_get-set_same (x ∷ xs) (suc i) r s is = slice_get-set_same xs i r s is

slice_get-drop : (n : ℕ) (rs : List Record) (k : ℕ) → slice_get (drop n rs) k ≡ slice_get rs (n + k)
slice_get-drop zero rs k = let e : k ≡ 0 + k = omega arith in ap (slice_get rs) e
slice_get-drop (suc n) [] k = refl
slice_get-drop (suc n) (x ∷ xs) k = let e : suc (n + k) ≡ suc n + k = omega arith in slice_get-drop n xs k ∙ ap (slice_get (x ∷ xs)) e

slice_get-take : (n : ℕ) (rs : List Record) (k : ℕ) → k < n → slice_get (take n rs) k ≡ slice_get rs k
slice_get-take zero rs k less = absurd (omega arith)
slice_get-take (suc n) [] k less = refl
slice_get-take (suc n) (x ∷ xs) zero less = refl
slice_get-take (suc n) (x ∷ xs) (suc k) less = slice_get-take n xs k (omega arith)

pub taken_are : (version n : ℕ) (rs : List Record) → AreRecords version rs → AreRecords version (take n rs)
taken_are version zero rs are k r is = absurd (none-some r is)
taken_are version (suc n) [] are k r is = absurd (none-some r is)
taken_are version (suc n) (x ∷ xs) are zero r is = are zero r is
taken_are version (suc n) (x ∷ xs) are (suc k) r is = taken_are version n xs (λ b s at. are (suc b) s at) k r is

-- ---- a change of one record
pub set_are : (version : ℕ) (rs : List Record) (block : ℕ) (r : Record) → IsRecord version r → AreRecords version rs → AreRecords version (set rs block r)
set_are version rs block r is are other s at = elim (cases_eq other block) [
  | inl same ↦ subst (IsRecord version) (slice_get-set_same rs block r s (ap (slice_get (set rs block r)) (sym same) ∙ at)) is
  | inr apart ↦ are other s (sym (slice_get-set_other rs block other r apart) ∙ at)
]

pub elsewhere : (some : ℕ → Bool) (version : ℕ) (rs : List Record) (x : Image) (block : ℕ) (r : Record) → IsStoredBut some version rs x
    → IsStoredBut (λ n. n == sector_of version block || some n) version (set rs block r) x
elsewhere some version rs x block r stored other inside out =
    let apart : (sector_of version other == sector_of version block) ≡ false = or_false_left (sector_of version other == sector_of version block) (some (sector_of version other)) out in
    let differ : other ≢ block = (λ same. not_same (sector_of version other) (sector_of version block) apart (ap (sector_of version) same)) in
    let long : length (set rs block r) ≡ length rs = length-set rs block r in
    slice_get-set_other rs block other r differ
    ∙ stored other (omega arith) (or_false_right (sector_of version other == sector_of version block) (some (sector_of version other)) out)

-- ---- the bytes of a sector
-- the records of a sector, cut from all of them
part_of_records : (per part : ℕ) (rs : List Record) (end : ℕ) → end ≡ min (length rs) (part * per + per)
    → take (end - part * per) (drop (part * per) rs) ≡ take per (drop (per * part) rs)
part_of_records per part rs end is = elim (cases_lt (length rs) (part * per + per)) [
  | inl last ↦
      let left : length (drop (part * per) rs) ≡ length rs - part * per = length-drop (part * per) rs in
      take_all (end - part * per) (drop (part * per) rs) (omega arith) ∙ sym (take_all per (drop (part * per) rs) (omega arith)) ∙ ap (λ n. take per (drop n rs)) turned
  | inr whole ↦
      let len : end - part * per ≡ per = omega arith in
      ap (λ n. take n (drop (part * per) rs)) len ∙ ap (λ n. take per (drop n rs)) turned
]
  where
    turned : part * per ≡ per * part
    turned = omega arith

-- a sector has room for its records
pub part_fits : (version : ℕ) → IsVersion version → (rs : List Record) → AreRecords version rs → length rs ≤ per_sector version → length (flat_map record_bytes rs) ≤ 512
part_fits version is rs are few = let long = records_long version rs are in subst (λ n. n ≤ 512) (sym long) (for_version (λ v. length rs ≤ per_sector v → 2 * kept_len v * length rs ≤ 512) (λ l. omega arith) (λ l. omega arith) version is few)

-- the records of a sector, as a range of all of them
pub part_is : (version : ℕ) (rs : List Record) (part each end : ℕ) → each ≡ per_sector version → end ≡ min (length rs) (part * each + each)
    → take (end - part * each) (drop (part * each) rs) ≡ records_in version rs part
part_is version rs part each end same is = part_of_records each part rs end is ∙ ap (λ n. take n (drop (n * part) rs)) same

pub part_are : (version : ℕ) (rs : List Record) (part : ℕ) → AreRecords version rs → AreRecords version (records_in version rs part)
part_are version rs part are = taken_are version (per_sector version) (drop (per_sector version * part) rs) (λ k r is. are (per_sector version * part + k) r (sym (slice_get-drop (per_sector version * part) rs k) ∙ is))

pub part_short : (version : ℕ) (rs : List Record) (part : ℕ) → length (records_in version rs part) ≤ per_sector version
part_short version rs part = let cut = length-take (per_sector version) (drop (per_sector version * part) rs) in omega (arith, cut)

-- the zeros behind the records
pub part_bytes : (version : ℕ) (rs : List Record) (part : ℕ) → AreRecords version rs
    → flat_map record_bytes (records_in version rs part) ++ replicate (512 - length (flat_map record_bytes (records_in version rs part))) 0 ≡ caps_sector_bytes version rs part
part_bytes version rs part are = ap (λ n. flat_map record_bytes (records_in version rs part) ++ replicate (512 - n) 0) (records_long version (records_in version rs part) (part_are version rs part are))

-- ---- a sector is replaced by its patch
-- where a block's record stands
pub place_is : (block version : ℕ) → IsVersion version → block < 16 → sector_of version block ≡ 132 + part_of version block
place_is block = for_version (λ v. block < 16 → sector_of v block ≡ 132 + part_of v block) (λ inside. omega arith) (λ inside. omega arith)

rest_is : (block version : ℕ) → IsVersion version → (k : ℕ) × (k < per_sector version) × (block ≡ part_of version block * per_sector version + k)
rest_is block = for_version (λ v. (k : ℕ) × (k < per_sector v) × (block ≡ part_of v block * per_sector v + k)) (block % 16, omega arith, omega arith) (block % 8, omega arith, omega arith)

-- a record whose sector an image has
pub read_there : (version : ℕ) (rs : List Record) (y : Image) → IsVersion version → length rs ≤ 16 → AreRecords version rs → (other : ℕ) → other < length rs
    → y (132 + part_of version other) ≡ caps_sector_bytes version rs (part_of version other) → slice_get rs other ≡ Some (stored_record version y other)
read_there version rs y is few are other less put =
    let per : ℕ = per_sector version in
    let part : ℕ = part_of version other in
    let rest = rest_is other version is in
    let k : ℕ = rest.0 in
    let here : other ≡ part * per + k = rest.2 in
    let r : Record = get_or rs other blank in
    let held : slice_get rs other ≡ Some r = slice_get-get_or rs other blank less in
    let turned : per * part + k ≡ other = omega (arith, here) in
    let cut : slice_get (records_in version rs part) k ≡ Some r = slice_get-take per (drop (per * part) rs) k rest.1 ∙ slice_get-drop (per * part) rs k ∙ ap (slice_get rs) turned ∙ held in
    let zeros : List ℕ = replicate (512 - 2 * kept_len version * length (records_in version rs part)) 0 in
    let stored : stored_record version y other ≡ r =
    ap (stored_record version y) here ∙ record_in y part k version is rest.1
    ∙ ap (λ l. sector_record version l k) put
    ∙ records_back version (records_in version rs part) zeros k r (part_are version rs part are) cut in
    held ∙ ap Some (sym stored)

module _ (version : ℕ) (rs : List Record) (x : Image) (block sector : ℕ) (bytes : List ℕ) (is : IsVersion version) (few : length rs ≤ 16) (are : AreRecords version rs) (inside : block < 16) (position : sector ≡ sector_of version block) (bytes_are : bytes ≡ caps_sector_bytes version rs (part_of version block)) where
  abbrev after : Image
  after = put_at sector bytes x

  -- a record that the patch has
  there : (other : ℕ) → other < length rs → sector_of version other ≡ sector → slice_get rs other ≡ Some (stored_record version after other)
  there other less same =
      let part : ℕ = part_of version other in
      let stands : sector_of version other ≡ 132 + part = place_is other version is (omega arith) in
      let patched : sector_of version block ≡ 132 + part_of version block = place_is block version is inside in
      let parts : part_of version block ≡ part = omega (arith, stands, patched, position, same) in
      let at : 132 + part ≡ sector = sym stands ∙ same in
      let put : after (132 + part) ≡ bytes = ap (λ t. cond t bytes (x (132 + part))) (tested (132 + part) sector at) in
      read_there version rs after is few are other less (put ∙ bytes_are ∙ ap (caps_sector_bytes version rs) parts)
    where
      tested : (n m : ℕ) → n ≡ m → (n == m) ≡ true
      tested n m e = grind (arith, nat_tests)

  pub more : (some : ℕ → Bool) → IsStoredBut (λ n. n == sector || some n) version rs x → IsStoredBut some version rs after
  more some stored other less out = elim (cases_Bool (sector_of version other == sector)) [
    | inl same ↦ there other less (is_same (sector_of version other) sector same)
    | inr apart ↦
        let kept : after (sector_of version other) ≡ x (sector_of version other) = ap (λ t. cond t bytes (x (sector_of version other))) apart in
        stored other less (or_false (sector_of version other == sector) (some (sector_of version other)) apart out)
        ∙ ap (λ bs. Some (of_bytes other bs)) (sym kept)
  ]
    where
      is_same : (n m : ℕ) → (n == m) ≡ true → n ≡ m
      is_same n m e = grind (arith, nat_tests)

      of_bytes : ℕ → List ℕ → Record
      of_bytes b bs = record {
        read = kept_as version (take (kept_len version) (drop (kept_offset version b).byte bs));
        write = kept_as version (take (kept_len version) (drop ((kept_offset version b).byte + kept_len version) bs));
      }

  pub stored_all : IsStoredBut (λ n. n == sector) version rs x → IsStored version rs after
  stored_all stored other less = more (λ n. false) (λ b h out. stored b h (or_false_left (sector_of version b == sector) false out)) other less refl

-- ---- a change of one record, with the patch of its sector
pub keeps : (s : Store) (block : ℕ) (r : Record) → IsTable s → block < s.geometry.primaries → IsRecord s.version r
    → KeepsStored s (record s { records = set s.records block r }) (patch_of (record s { records = set s.records block r }) block)
keeps s block r is inside of_version x stored =
    let now : List Record = set s.records block r in
    let long : length now ≡ s.geometry.primaries = length-set s.records block r ∙ is.each in
    let most : s.geometry.primaries ≤ 16 = is.lawful.primaries.1 in
    stored_all s.version now x block (sector_of s.version block) (caps_sector_bytes s.version now (part_of s.version block)) is.version (omega arith) (set_are s.version s.records block r of_version is.kept) (omega arith) refl refl
    (λ other less out. slice_get-set_other s.records block other r (λ same. not_same (sector_of s.version other) (sector_of s.version block) out (ap (sector_of s.version) same)) ∙ stored other (omega (arith, is.each)))
