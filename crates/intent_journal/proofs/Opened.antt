-- The records that an image has in the ring, and what of an image they hang on.
use Rattle.std.proofs.Common.{◌≡◌, ◌≢◌, inl, inr, ℕ, zero, suc, ◌+◌, ◌<◌, ◌≤◌, ◌&&◌, nat_le, Bool, true, false, cond, IsTrue, List, [], ◌∷◌, ◌++◌, length, map, refl, sym, ◌∙◌, ap, arith, zero-add, length-append, Some}
use Rattle.intent_journal.proofs.Common.{list_all, slice_get, range_with_len, cases_Bool, nat_tests, length-map-range_with_len, map_range_alike, Image, records, bodies, body_sector, Patch, are_apart, is_lawful_home, homes_of, IsBatch, count_in, home_in, homes_in, is_valid, descriptor_bytes, overlaid, home, JournalRecord, patches_of, record_at, open_from, open_records, is_gate_open, descriptor_of, are_valid_from, has_valid_records}
use Rattle.intent_journal.proofs.HomesOf.{homes_append}
use Rattle.intent_journal.proofs.Bools.{and_true_parts}
use Rattle.intent_journal.proofs.Descriptors.{items_at, batch_count, batch_home, descriptor_valid}

-- ---- records from an index on
-- of the records from an index on, both images have the same: the gates as open, the descriptors, and the bodies from one on
pub record SameFrom (index start : ℕ) (rs : List JournalRecord) (x y : Image) : Type 0 where
  pub gates : (i : ℕ) → index ≤ i → i < index + length rs → is_gate_open y i ≡ is_gate_open x i
  pub descriptors : (i : ℕ) → index ≤ i → i < index + length rs → descriptor_of y i ≡ descriptor_of x i
  pub each_body : (k : ℕ) → start ≤ k → k < start + length (patches_of rs) → y (body_sector k) ≡ x (body_sector k)

-- the same of all records
pub record SameUsed (rs : List JournalRecord) (x y : Image) : Type 0 where
  pub gates : (i : ℕ) → i < length rs → is_gate_open y i ≡ is_gate_open x i
  pub descriptors : (i : ℕ) → i < length rs → descriptor_of y i ≡ descriptor_of x i
  pub each_body : (k : ℕ) → k < length (patches_of rs) → y (body_sector k) ≡ x (body_sector k)

-- what stands at an index: nothing where its gate is closed or its descriptor isn't valid
abbrev counts_at : Image → ℕ → ℕ → Bool
counts_at x index start = is_gate_open x index && is_valid start (descriptor_of x index)

pub stops : (x : Image) (index start left : ℕ) → counts_at x index start ≡ false → open_from x index start (suc left) ≡ []
stops x index start left e = ap (λ b. cond b (record_at x index start ∷ open_from x (index + 1) (start + count_in (descriptor_of x index)) left) []) e

pub goes : (x : Image) (index start left : ℕ) → counts_at x index start ≡ true
    → open_from x index start (suc left) ≡ record_at x index start ∷ open_from x (index + 1) (start + count_in (descriptor_of x index)) left
goes x index start left e = ap (λ b. cond b (record_at x index start ∷ open_from x (index + 1) (start + count_in (descriptor_of x index)) left) []) e

pub length_record : (x : Image) (index start : ℕ) → length (record_at x index start) ≡ count_in (descriptor_of x index)
length_record x index start = length-map-range_with_len _ 0 (count_in (descriptor_of x index))

pub record_alike : (x y : Image) (index start : ℕ) → descriptor_of y index ≡ descriptor_of x index
    → ((k : ℕ) → start ≤ k → k < start + count_in (descriptor_of x index) → y (body_sector k) ≡ x (body_sector k)) → record_at y index start ≡ record_at x index start
record_alike x y index start named same =
    let patch : List ℕ → Image → ℕ → Patch = λ bytes z k. record { sector = home_in bytes k; bytes = z (body_sector (start + k)) } in
    let bytes : List ℕ = descriptor_of x index in
    let named_alike : record_at y index start ≡ map (patch bytes y) (range_with_len 0 (count_in bytes)) = ap (λ (b : List ℕ). map (patch b y) (range_with_len 0 (count_in b))) named in
    named_alike ∙ map_range_alike (patch bytes y) (patch bytes x) 0 (count_in bytes) (λ k low high. ap (λ (l : List ℕ). record { sector = home_in bytes k; bytes = l }) (same (start + k) (omega arith) (omega arith)))

-- the parts of a list that is one more than another
parts_of : {X : Type 0} (a b : X) (xs ys : List X) → a ∷ xs ≡ b ∷ ys → (a ≡ b) × (xs ≡ ys)
parts_of a b xs ys e = (cc, cc)

length_patches : (r : JournalRecord) (rs : List JournalRecord) → length (patches_of (r ∷ rs)) ≡ length r + length (patches_of rs)
length_patches r rs = length-append r (patches_of rs)

-- a closed gate ends the records
pub closed_ends : (y : Image) (index start left : ℕ) → (0 < left → is_gate_open y index ≡ false) → (open_from y index start left ≡ []) × (are_valid_from y index start left ≡ true)
closed_ends y index start zero shut = (refl, refl)
closed_ends y index start (suc left) shut =
    let closed : is_gate_open y index ≡ false = shut (omega arith) in (
      stops y index start left (ap (λ b. b && is_valid start (descriptor_of y index)) closed),
      ap (λ b. cond b (is_valid start (descriptor_of y index) && are_valid_from y (index + 1) (start + count_in (descriptor_of y index)) left) true) closed,
    )

-- an open gate with a valid descriptor begins them
pub open_begins : (y : Image) (index start left next : ℕ) (r : JournalRecord) (rs : List JournalRecord) → is_gate_open y index ≡ true → is_valid start (descriptor_of y index) ≡ true → record_at y index start ≡ r
    → start + count_in (descriptor_of y index) ≡ next → (open_from y (index + 1) next left ≡ rs) × (are_valid_from y (index + 1) next left ≡ true)
    → (open_from y index start (suc left) ≡ r ∷ rs) × (are_valid_from y index start (suc left) ≡ true)
open_begins y index start left next r rs gate valid first at rest =
    let both : counts_at y index start ≡ true = ap (λ b. b && is_valid start (descriptor_of y index)) gate ∙ valid in
    let others : open_from y (index + 1) (start + count_in (descriptor_of y index)) left ≡ rs = ap (λ k. open_from y (index + 1) k left) at ∙ rest.0 in
    let others_valid : are_valid_from y (index + 1) (start + count_in (descriptor_of y index)) left ≡ true = ap (λ k. are_valid_from y (index + 1) k left) at ∙ rest.1 in
    let open_is : open_from y index start (suc left) ≡ r ∷ rs = goes y index start left both ∙ ap (λ l. l ∷ open_from y (index + 1) (start + count_in (descriptor_of y index)) left) first ∙ ap (λ l. r ∷ l) others in
    let here : are_valid_from y index start (suc left) ≡ (is_valid start (descriptor_of y index) && are_valid_from y (index + 1) (start + count_in (descriptor_of y index)) left) =
    ap (λ b. cond b (is_valid start (descriptor_of y index) && are_valid_from y (index + 1) (start + count_in (descriptor_of y index)) left) true) gate in
    (open_is, here ∙ ap (λ b. b && are_valid_from y (index + 1) (start + count_in (descriptor_of y index)) left) valid ∙ others_valid)

-- what an image has where its records are one and more
pub record Begins (x : Image) (index start left : ℕ) (r : JournalRecord) (rs : List JournalRecord) : Type 0 where
  pub gate : is_gate_open x index ≡ true
  pub valid : is_valid start (descriptor_of x index) ≡ true
  pub first : record_at x index start ≡ r
  pub count : count_in (descriptor_of x index) ≡ length r
  pub rest : open_from x (index + 1) (start + length r) left ≡ rs

pub begins : (x : Image) (index start left : ℕ) (r : JournalRecord) (rs : List JournalRecord) → open_from x index start (suc left) ≡ r ∷ rs → Begins x index start left r rs
begins x index start left r rs is = elim (cases_Bool (counts_at x index start)) [
  | inl e ↦
      let parts = and_true_parts (is_gate_open x index) (is_valid start (descriptor_of x index)) e in
      let split = parts_of (record_at x index start) r (open_from x (index + 1) (start + count_in (descriptor_of x index)) left) rs (sym (goes x index start left e) ∙ is) in
      let count : count_in (descriptor_of x index) ≡ length r = sym (length_record x index start) ∙ ap length split.0 in
      record { gate = parts.0; valid = parts.1; first = split.0; count = count; rest = ap (λ k. open_from x (index + 1) (start + k) left) (sym count) ∙ split.1 }
  | inr e ↦ let none : [] ≡ r ∷ rs = sym (stops x index start left e) ∙ is in absurd (cc)
]

same_rest : (index start : ℕ) (r : JournalRecord) (rs : List JournalRecord) (x y : Image) → SameFrom index start (r ∷ rs) x y → SameFrom (index + 1) (start + length r) rs x y
same_rest index start r rs x y same = record {
  gates = λ i low high. same.gates i (omega arith) (omega arith);
  descriptors = λ i low high. same.descriptors i (omega arith) (omega arith);
  each_body = λ k low high. same.each_body k (omega arith) (omega (arith, length_patches r rs));
}

-- both images begin alike
pub begins_alike : (x y : Image) (index start left : ℕ) (r : JournalRecord) (rs : List JournalRecord) → Begins x index start left r rs → SameFrom index start (r ∷ rs) x y → (rest : List JournalRecord)
    → (open_from y (index + 1) (start + length r) left ≡ rest) × (are_valid_from y (index + 1) (start + length r) left ≡ true)
    → (open_from y index start (suc left) ≡ r ∷ rest) × (are_valid_from y index start (suc left) ≡ true)
begins_alike x y index start left r rs b same rest others =
    let named : descriptor_of y index ≡ descriptor_of x index = same.descriptors index (omega arith) (omega arith) in
    let first : record_at y index start ≡ r = record_alike x y index start named (λ k low high. same.each_body k low (omega (arith, length_patches r rs, b.count))) ∙ b.first in
    open_begins y index start left (start + length r) r rest (same.gates index (omega arith) (omega arith) ∙ b.gate) (ap (is_valid start) named ∙ b.valid) first
    (ap (λ (l : List ℕ). start + count_in l) named ∙ ap (λ k. start + k) b.count) others

-- the same records, and each of them valid, where the gate behind them is closed
pub kept_from : (left index start : ℕ) (rs : List JournalRecord) (x y : Image) → open_from x index start left ≡ rs → SameFrom index start rs x y
    → (length rs < left → (at : ℕ) → at ≡ index + length rs → is_gate_open y at ≡ false) → (open_from y index start left ≡ rs) × (are_valid_from y index start left ≡ true)
kept_from zero index start rs x y is same shut = (is, refl)
kept_from (suc left) index start [] x y is same shut = closed_ends y index start (suc left) (λ some. shut some index (omega arith))
kept_from (suc left) index start (r ∷ rs) x y is same shut =
    let b = begins x index start left r rs is in
    begins_alike x y index start left r rs b same rs
    (kept_from left (index + 1) (start + length r) rs x y b.rest (same_rest index start r rs x y same) (λ less at is_at. shut (omega arith) at (omega arith)))

same_from_zero : (rs : List JournalRecord) (x y : Image) → SameUsed rs x y → SameFrom 0 0 rs x y
same_from_zero rs x y same = record {
  gates = λ i low high. same.gates i (omega arith);
  descriptors = λ i low high. same.descriptors i (omega arith);
  each_body = λ k low high. same.each_body k (omega arith);
}

pub opened_kept : (rs : List JournalRecord) (x y : Image) → open_records x ≡ rs → SameUsed rs x y → (length rs < records → is_gate_open y (length rs) ≡ false)
    → (open_records y ≡ rs) × (has_valid_records y ≡ true)
unfolding open_records has_valid_records
opened_kept rs x y is same shut =
    kept_from records 0 0 rs x y is (same_from_zero rs x y same) (λ less at is_at. let e : at ≡ length rs = omega arith in ap (is_gate_open y) e ∙ shut less)

pub opened_none : (x : Image) → is_gate_open x 0 ≡ false → (open_records x ≡ []) × (has_valid_records x ≡ true)
unfolding open_records has_valid_records
opened_none x shut = closed_ends x 0 0 records (λ some. shut)

pub home_of_empty : (x : Image) → open_records x ≡ [] → home x ≡ x
home_of_empty x none = ap (λ rs. overlaid (patches_of rs) x) none

-- ---- what each open record is
pub homes_of_record : (x : Image) (index start : ℕ) → homes_of (record_at x index start) ≡ homes_in (descriptor_of x index)
homes_of_record x index start = homes_of_range 0 (count_in (descriptor_of x index))
  where
    homes_of_range : (a n : ℕ) → homes_of (map (λ k. record { sector = home_in (descriptor_of x index) k; bytes = x (body_sector (start + k)) }) (range_with_len a n)) ≡ map (home_in (descriptor_of x index)) (range_with_len a n)
    homes_of_range a zero = refl
    homes_of_range a (suc n) = ap (λ l. home_in (descriptor_of x index) a ∷ l) (homes_of_range (a + 1) n)

-- the parts of a valid descriptor
pub record Valid (start : ℕ) (bytes : List ℕ) : Type 0 where
  pub some : 1 ≤ count_in bytes
  pub room : start + count_in bytes ≤ bodies
  pub distinct : IsTrue (are_apart (homes_in bytes))
  pub lawful : IsTrue (list_all is_lawful_home (homes_in bytes))

pub valid_parts : (start : ℕ) (bytes : List ℕ) → is_valid start bytes ≡ true → Valid start bytes
valid_parts start bytes h =
    let one = and_true_parts (nat_le 1 (count_in bytes) && nat_le (start + count_in bytes) bodies && are_apart (homes_in bytes)) (list_all is_lawful_home (homes_in bytes)) h in
    let two = and_true_parts (nat_le 1 (count_in bytes) && nat_le (start + count_in bytes) bodies) (are_apart (homes_in bytes)) one.0 in
    let three = and_true_parts (nat_le 1 (count_in bytes)) (nat_le (start + count_in bytes) bodies) two.0 in
    let some : nat_le 1 (count_in bytes) ≡ true = three.0 in
    let room : nat_le (start + count_in bytes) bodies ≡ true = three.1 in
    record { some = le_from 1 (count_in bytes) some; room = le_from (start + count_in bytes) bodies room; distinct = two.1; lawful = one.1 }
  where
    le_from : (a b : ℕ) → nat_le a b ≡ true → a ≤ b
    le_from a b h = grind (arith, nat_tests)

pub all_append : (test : ℕ → Bool) (ns ms : List ℕ) → list_all test ns ≡ true → list_all test ms ≡ true → list_all test (ns ++ ms) ≡ true
all_append test [] ms h k = k
all_append test (n ∷ ns) ms h k =
    let parts = and_true_parts (test n) (list_all test ns) h in
    rw parts.0 (all_append test ns ms parts.1 k)

-- the records from an index on: no more than are left, and lawful bodies up to the last
pub record Fits (start left : ℕ) (rs : List JournalRecord) : Type 0 where
  pub few : length rs ≤ left
  pub room : start + length (patches_of rs) ≤ bodies
  pub lawful : IsTrue (list_all is_lawful_home (homes_of (patches_of rs)))

pub fits_from : (left index start : ℕ) (x : Image) (rs : List JournalRecord) → open_from x index start left ≡ rs → start ≤ bodies → Fits start left rs
fits_from left index start x [] is low = record { few = omega arith; room = omega arith; lawful = refl }
fits_from zero index start x (r ∷ rs) is low = absurd (cc)
fits_from (suc left) index start x (r ∷ rs) is low =
    let b = begins x index start left r rs is in
    let v = valid_parts start (descriptor_of x index) b.valid in
    let rest = fits_from left (index + 1) (start + length r) x rs b.rest (omega (arith, v.room, b.count)) in
    let lawful : list_all is_lawful_home (homes_of r) ≡ true = ap (λ l. list_all is_lawful_home (homes_of l)) (sym b.first) ∙ ap (list_all is_lawful_home) (homes_of_record x index start) ∙ v.lawful in
    record {
      few = omega (arith, rest.few);
      room = omega (arith, rest.room, length_patches r rs);
      lawful = ap (list_all is_lawful_home) (homes_append r (patches_of rs)) ∙ all_append is_lawful_home (homes_of r) (homes_of (patches_of rs)) lawful rest.lawful;
    }

pub opened_lawful : (x : Image) → IsTrue (list_all is_lawful_home (homes_of (patches_of (open_records x))))
unfolding open_records
opened_lawful x = (fits_from records 0 0 x (open_records x) refl (omega arith)).lawful

pub opened_most : (x : Image) → (length (open_records x) ≤ records) × (length (patches_of (open_records x)) ≤ bodies)
unfolding open_records
opened_most x = let fits = fits_from records 0 0 x (open_records x) refl (omega arith) in (fits.few, omega (arith, fits.room))

-- ---- one record more
-- what was written of a batch reads as that batch
pub record_written : (y : Image) (index start : ℕ) (batch : List Patch) → IsBatch batch → descriptor_of y index ≡ descriptor_bytes (homes_of batch)
    → ((k : ℕ) (p : Patch) → slice_get batch k ≡ Some p → y (body_sector (start + k)) ≡ p.bytes) → record_at y index start ≡ batch
record_written y index start batch b named each =
    let bytes : List ℕ = descriptor_bytes (homes_of batch) in
    let patch : List ℕ → ℕ → Patch = λ names k. record { sector = home_in names k; bytes = y (body_sector (start + k)) } in
    let read : record_at y index start ≡ map (patch bytes) (range_with_len 0 (count_in bytes)) = ap (λ (names : List ℕ). map (patch names) (range_with_len 0 (count_in names))) named in
    read ∙ ap (λ n. map (patch bytes) (range_with_len 0 n)) (batch_count batch b)
    ∙ items_at (patch bytes) batch 0 (λ k p at. ap (patch bytes) (zero-add k) ∙ patch_written k p at)
  where
    patch_written : (k : ℕ) (p : Patch) → slice_get batch k ≡ Some p → ◌≡◌ {A = Patch} (record { sector = home_in (descriptor_bytes (homes_of batch)) k; bytes = y (body_sector (start + k)) }) p
    patch_written k p at =
        let home_is : home_in (descriptor_bytes (homes_of batch)) k ≡ p.sector = batch_home batch k p b at in
        let bytes_are : y (body_sector (start + k)) ≡ p.bytes = each k p at in
        λ i. record { sector = home_is i; bytes = bytes_are i }

pub more_from : (left index start : ℕ) (rs : List JournalRecord) (batch : List Patch) (x y : Image) → open_from x index start left ≡ rs → SameFrom index start rs x y → length rs < left → batch ≢ [] → IsBatch batch
    → (at from : ℕ) → at ≡ index + length rs → from ≡ start + length (patches_of rs) → from + length batch ≤ bodies
    → is_gate_open y at ≡ true → descriptor_of y at ≡ descriptor_bytes (homes_of batch)
    → ((k : ℕ) (p : Patch) → slice_get batch k ≡ Some p → y (body_sector (from + k)) ≡ p.bytes)
    → (length rs + 1 < left → is_gate_open y (at + 1) ≡ false) → (open_from y index start left ≡ rs ++ batch ∷ []) × (are_valid_from y index start left ≡ true)
more_from zero index start rs batch x y is same less some b at from at_is from_is room gate named each shut = absurd (omega arith)
more_from (suc left) index start [] batch x y is same less some b at from at_is from_is room gate named each shut =
    let here : at ≡ index = omega arith in
    let first : from ≡ start = omega arith in
    let gate_here : is_gate_open y index ≡ true = ap (is_gate_open y) (sym here) ∙ gate in
    let named_here : descriptor_of y index ≡ descriptor_bytes (homes_of batch) = ap (descriptor_of y) (sym here) ∙ named in
    let written : record_at y index start ≡ batch = record_written y index start batch b named_here (λ k p is_at. ap (λ f. y (body_sector (f + k))) (sym first) ∙ each k p is_at) in
    let valid : is_valid start (descriptor_of y index) ≡ true = ap (is_valid start) named_here ∙ descriptor_valid batch start b some (omega arith) in
    open_begins y index start left (start + count_in (descriptor_of y index)) batch [] gate_here valid written refl
    (closed_ends y (index + 1) (start + count_in (descriptor_of y index)) left (λ more. ap (λ i. is_gate_open y (i + 1)) (sym here) ∙ shut (omega arith)))
more_from (suc left) index start (r ∷ rs) batch x y is same less some b at from at_is from_is room gate named each shut =
    let front = begins x index start left r rs is in
    begins_alike x y index start left r rs front same (rs ++ batch ∷ [])
    (more_from left (index + 1) (start + length r) rs batch x y front.rest (same_rest index start r rs x y same) (omega arith) some b at from (omega arith) (omega (arith, length_patches r rs)) room gate named each (λ more. shut (omega arith)))

pub opened_more : (rs : List JournalRecord) (batch : List Patch) (x y : Image) → open_records x ≡ rs → SameUsed rs x y → length rs < records → batch ≢ [] → IsBatch batch → length (patches_of rs) + length batch ≤ bodies
    → is_gate_open y (length rs) ≡ true → descriptor_of y (length rs) ≡ descriptor_bytes (homes_of batch)
    → ((k : ℕ) (p : Patch) → slice_get batch k ≡ Some p → y (body_sector (length (patches_of rs) + k)) ≡ p.bytes)
    → (length rs + 1 < records → is_gate_open y (length rs + 1) ≡ false) → (open_records y ≡ rs ++ batch ∷ []) × (has_valid_records y ≡ true)
unfolding open_records has_valid_records
opened_more rs batch x y is same less some b room gate named each shut =
    more_from records 0 0 rs batch x y is (same_from_zero rs x y same) less some b (length rs) (length (patches_of rs)) (omega arith) (omega arith) room gate named each shut
