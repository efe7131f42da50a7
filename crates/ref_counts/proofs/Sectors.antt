-- What the sectors of counts say, once one of them is replaced.
use Rattle.std.proofs.Common.{◌≡◌, ◌≢◌, inl, inr, ℕ, zero, suc, ◌+◌, ◌-◌, ◌*◌, ◌/◌, ◌%◌, ◌^◌, ◌<◌, ◌==◌, ◌||◌, Bool, true, false, cond, List, [], ◌∷◌, ◌++◌, length, min, take, drop, get_or, set, refl, sym, ◌∙◌, ap, subst, arith, append_assoc, lit<}
use Rattle.std.specs.Int.{byte_at}
use Rattle.std.specs.List.{flat_map}
use Rattle.std.proofs.lemmas.Bool.{cases_Bool, cases_lt}
use Rattle.std.proofs.lemmas.Bool.Decides.{nat_tests}
use Rattle.std.proofs.lemmas.List.{get_or-take, get_or-drop, get_or-set_other, length-set, length-take, length-drop, take_all}
use Rattle.byteorder.specs.Endian.{little_from, little_bytes}
use Rattle.byteorder.specs.Numbers.{little_from-cons, little_number-reads_back}
use Rattle.tsd_model.specs.declared.geometry.Geometry.{Geometry}
use Rattle.image_device.specs.Image.{put_at}
use Rattle.image_device.proofs.Sets.{or_false, or_false_left, or_false_right, not_same}
use Rattle.image_layout.specs.Image.{Image, stored_count}
use Rattle.ref_counts.specs.Stored.{sector_of, counts_in, counts_sector_bytes, part_of, IsStored, IsStoredBut}
use Rattle.ref_counts.specs.Changes.{patch_of, KeepsStored}
use Rattle.ref_counts.specs.Table.{Table, IsTable}
use Rattle.ref_counts.proofs.Reading.{stored_is}

-- each number fits four bytes
abbrev pub AllFit : List ℕ → Type 0
AllFit xs = (i : ℕ) → get_or xs i 0 < 2 ^ 32

-- ---- a change of one count
set_fits : (counts : List ℕ) (block v : ℕ) → v < 2 ^ 32 → AllFit counts → AllFit (set counts block v)
set_fits [] block v few fits i = fits i
set_fits (x ∷ xs) zero v few fits zero = few
set_fits (x ∷ xs) zero v few fits (suc i) = fits (suc i)
set_fits (x ∷ xs) (suc block) v few fits zero = fits zero
set_fits (x ∷ xs) (suc block) v few fits (suc i) = set_fits xs block v few (λ j. fits (suc j)) i

pub elsewhere : (some : ℕ → Bool) (counts : List ℕ) (g : Geometry) (x : Image) (block v : ℕ) → IsStoredBut some counts g x
    → IsStoredBut (λ n. n == sector_of g block || some n) (set counts block v) g x
elsewhere some counts g x block v stored other inside out =
    let apart : (sector_of g other == sector_of g block) ≡ false = or_false_left (sector_of g other == sector_of g block) (some (sector_of g other)) out in
    let differ : other ≢ block = (λ same. not_same (sector_of g other) (sector_of g block) apart (ap (sector_of g) same)) in
    stored other inside (or_false_right (sector_of g other == sector_of g block) (some (sector_of g other)) out)
    ∙ sym (get_or-set_other counts block other v 0 differ)

-- ---- the bytes read back
-- the k-th of the numbers that are written one after another
numbers_back : (xs : List ℕ) (k : ℕ) (rest : List ℕ) → AllFit xs → k < length xs → little_from (4 * k) 4 (flat_map (little_bytes 4) xs ++ rest) ≡ get_or xs k 0
numbers_back [] k rest fits less = absurd (omega arith)
numbers_back (y ∷ ys) zero rest fits less =
    ap (little_from 0 4) (append_assoc (little_bytes 4 y) (flat_map (little_bytes 4) ys) rest) ∙ little_number-reads_back 4 y (flat_map (little_bytes 4) ys ++ rest) (fits 0)
numbers_back (y ∷ ys) (suc k) rest fits less =
    let further : 4 * suc k ≡ suc (suc (suc (suc (4 * k)))) = omega arith in
    ap (λ i. little_from i 4 (flat_map (little_bytes 4) (y ∷ ys) ++ rest)) further
    ∙ moved (4 * k) (byte_at 0 y) (byte_at 1 y) (byte_at 2 y) (byte_at 3 y) (flat_map (little_bytes 4) ys ++ rest)
    ∙ numbers_back ys k rest (λ i. fits (suc i)) (omega arith)
  where
    moved : (i a b c d : ℕ) (bs : List ℕ) → little_from (suc (suc (suc (suc i)))) 4 (a ∷ b ∷ c ∷ d ∷ bs) ≡ little_from i 4 bs
    moved i a b c d bs = little_from-cons (suc (suc (suc i))) 4 a (b ∷ c ∷ d ∷ bs) ∙ little_from-cons (suc (suc i)) 4 b (c ∷ d ∷ bs) ∙ little_from-cons (suc i) 4 c (d ∷ bs) ∙ little_from-cons i 4 d bs

-- the count of a block in the sector that has it
pub count_back : (counts : List ℕ) (block : ℕ) → AllFit counts → block < length counts
    → little_from (4 * (block % 128)) 4 (counts_sector_bytes counts (part_of block)) ≡ get_or counts block 0
count_back counts block fits inside =
    let k : ℕ = block % 128 in
    let part : ℕ = block / 128 in
    let here : List ℕ = drop (128 * part) counts in
    let small : k < 128 = omega arith in
    let position : 128 * part + k ≡ block = omega arith in
    let many : length (take 128 here) ≡ _ = length-take 128 here in
    let left : length here ≡ length counts - 128 * part = length-drop (128 * part) counts in
    numbers_back (take 128 here) k _ (λ i. taken_fits here 128 (λ j. subst (λ n. n < 2 ^ 32) (sym (get_or-drop (128 * part) counts j 0)) (fits (128 * part + j))) i) (omega arith)
    ∙ get_or-take 128 here k 0 small ∙ get_or-drop (128 * part) counts k 0 ∙ ap (λ b. get_or counts b 0) position
  where
    taken_fits : (xs : List ℕ) (n : ℕ) → AllFit xs → AllFit (take n xs)
    taken_fits xs zero fits i = lit< tt
    taken_fits [] (suc n) fits i = fits i
    taken_fits (x ∷ xs) (suc n) fits zero = fits zero
    taken_fits (x ∷ xs) (suc n) fits (suc i) = taken_fits xs n (λ j. fits (suc j)) i

-- ---- a sector is replaced by its patch
-- the counts of a sector, cut from all of them
pub part_of_counts : (counts : List ℕ) (part end : ℕ) → end ≡ min (length counts) (128 * part + 128)
    → take (end - 128 * part) (drop (128 * part) counts) ≡ counts_in counts part
part_of_counts counts part end is = elim (cases_lt (length counts) (128 * part + 128)) [
  | inl last ↦
      let left : length (drop (128 * part) counts) ≡ length counts - 128 * part = length-drop (128 * part) counts in
      take_all (end - 128 * part) (drop (128 * part) counts) (omega arith) ∙ sym (take_all 128 (drop (128 * part) counts) (omega arith))
  | inr whole ↦
      let len : end - 128 * part ≡ 128 = omega arith in
      ap (λ n. take n (drop (128 * part) counts)) len
]

module _ (counts : List ℕ) (g : Geometry) (x : Image) (block sector : ℕ) (bytes : List ℕ) (each : length counts ≡ g.blocks) (fits : AllFit counts) (position : sector ≡ sector_of g block) (is : bytes ≡ counts_sector_bytes counts (part_of block)) where
  abbrev after : Image
  after = put_at sector bytes x

  -- a count that the patch has
  there : (other : ℕ) → other < g.blocks → sector_of g other ≡ sector → stored_count after g other ≡ get_or counts other 0
  there other inside same =
      let part : part_of block ≡ part_of other = omega arith in
      let sector_is : 134 + other / 128 ≡ sector = omega arith in
      let put : after (134 + other / 128) ≡ bytes = ap (λ t. cond t bytes (x (134 + other / 128))) (tested (134 + other / 128) sector sector_is) in
      stored_is after g other
      ∙ ap (little_from (4 * (other % 128)) 4) (put ∙ is ∙ ap (counts_sector_bytes counts) part)
      ∙ count_back counts other fits (omega arith)
    where
      tested : (n m : ℕ) → n ≡ m → (n == m) ≡ true
      tested n m e = grind (arith, nat_tests)

  pub more : (some : ℕ → Bool) → IsStoredBut (λ n. n == sector || some n) counts g x → IsStoredBut some counts g after
  more some stored other inside out = elim (cases_Bool (sector_of g other == sector)) [
    | inl same ↦ there other inside (is_same (sector_of g other) sector same)
    | inr apart ↦
        let kept : after (sector_of g other) ≡ x (sector_of g other) = ap (λ t. cond t bytes (x (sector_of g other))) apart in
        ap (little_from (4 * other % 512) 4) kept ∙ stored other inside (or_false (sector_of g other == sector) (some (sector_of g other)) apart out)
  ]
    where
      is_same : (n m : ℕ) → (n == m) ≡ true → n ≡ m
      is_same n m e = grind (arith, nat_tests)

  pub stored_all : IsStoredBut (λ n. n == sector) counts g x → IsStored counts g after
  stored_all stored other inside = more (λ n. false) (λ b h out. stored b h (or_false_left (sector_of g b == sector) false out)) other inside refl

-- ---- a change of one count, with the patch of its sector
pub keeps : (t : Table) (block v : ℕ) → IsTable t → v < 2 ^ 32 → AllFit t.counts
    → KeepsStored t (record t { counts = set t.counts block v }) (patch_of (record t { counts = set t.counts block v }) block)
keeps t block v is few fits x stored =
    let now : List ℕ = set t.counts block v in
    stored_all now t.geometry x block (sector_of t.geometry block) (counts_sector_bytes now (part_of block)) (length-set t.counts block v ∙ is.each) (set_fits t.counts block v few fits) refl refl
    (λ other inside out. stored other inside ∙ sym (get_or-set_other t.counts block other v 0 (λ same. not_same (sector_of t.geometry other) (sector_of t.geometry block) out (ap (sector_of t.geometry) same))))
