-- The bytes of slots, written and read back.
use Rattle.std.proofs.Common.{◌≡◌, ℕ, zero, suc, ◌+◌, ◌-◌, ◌*◌, ◌/◌, ◌%◌, ◌^◌, ◌<◌, ◌≤◌, false, cond, ◌==◌, inl, inr, List, [], ◌∷◌, ◌++◌, length, take, drop, set, add-one, refl, sym, ◌∙◌, ap, arith}
use Rattle.std.proofs.Common.{Option, Some, None}
use Rattle.pointer_table.proofs.Common.{cases_lt, cases_eq, eq-eqb, ne_eqb, append_assoc, length-append, length-take-le, length-set, take_at, drop_at, drop-drop, get_or_append_left, little_from, little_bytes, Geometry, put_at, slots_start, Image, slot_offset, slot_at, slot_of, stored_slot, IsStored, slot_bytes, row_bytes, slot_sector_bytes}
use Rattle.byteorder.specs.Numbers.{little_from-cons, little_number-reads_back}
use Rattle.pointer_table.proofs.SlotLaws.{set_other}

-- ---- the bytes of a row

pub row_bytes-more : (slots : List (Option (ℕ × ℕ))) (first n : ℕ) → row_bytes slots first (n + 1) ≡ row_bytes slots first n ++ slot_bytes (slot_at slots (first + n))
unfolding row_bytes
row_bytes-more slots first n = ap (row_bytes slots first) (add-one n)

pub row_bytes-none : (slots : List (Option (ℕ × ℕ))) (first : ℕ) → row_bytes slots first 0 ≡ []
unfolding row_bytes
row_bytes-none slots first = refl

length-slot_bytes : (slot : Option (ℕ × ℕ)) → length (slot_bytes slot) ≡ 8
length-slot_bytes None = refl
length-slot_bytes (Some e) = refl

pub length-row_bytes : (slots : List (Option (ℕ × ℕ))) (first n : ℕ) → length (row_bytes slots first n) ≡ 8 * n
unfolding row_bytes
length-row_bytes slots first zero = refl
length-row_bytes slots first (suc n) =
    let rest = length-row_bytes slots first n in
    let one = length-slot_bytes (slot_at slots (first + n)) in
    let both = length-append (row_bytes slots first n) (slot_bytes (slot_at slots (first + n))) in
    omega arith

-- ---- numbers in a part of a list

-- what stands in front moves the place on
little_from-behind : (xs ys : List ℕ) (k i n : ℕ) → k ≡ length xs + i → little_from k n (xs ++ ys) ≡ little_from i n ys
little_from-behind [] ys k i n e = ap (λ j. little_from j n ys) (let same : k ≡ i = omega arith in same)
little_from-behind (x ∷ xs) ys k i n e =
    let same : k ≡ suc (length xs + i) = omega arith in
    ap (λ j. little_from j n (x ∷ (xs ++ ys))) same
    ∙ (little_from-cons (length xs + i) n x (xs ++ ys) ∙ little_from-behind xs ys (length xs + i) i n refl)

-- what stands behind doesn't matter
little_from-before : (i n : ℕ) (xs ys : List ℕ) → i + n ≤ length xs → little_from i n (xs ++ ys) ≡ little_from i n xs
little_from-before i zero xs ys h = refl
little_from-before i (suc n) xs ys h =
    let byte = get_or_append_left xs ys 0 i (omega arith) in
    let rest = little_from-before (suc i) n xs ys (omega arith) in
    rw (byte, rest) refl

-- ---- a slot

-- both numbers of a pair fit four bytes
abbrev pub Fits4 : Option (ℕ × ℕ) → Type 0
Fits4 slot = (e : ℕ × ℕ) → slot ≡ Some e → (e.0 + 1 < 2 ^ 32) × (e.1 < 2 ^ 32)

slot_of_more : (a b : ℕ) → slot_of (a + 1) b ≡ Some (a, b)
slot_of_more a b =
    let off : (a + 1 == 0) ≡ false = ne_eqb (a + 1) 0 (λ e. omega arith) in
    let back : a + 1 - 1 ≡ a = omega arith in
    ap (λ t. cond t None (Some (a + 1 - 1, b))) off ∙ ap (λ x. Some (x, b)) back

slot_read : (slot : Option (ℕ × ℕ)) → Fits4 slot → slot_of (little_from 0 4 (slot_bytes slot)) (little_from 4 4 (slot_bytes slot)) ≡ slot
slot_read None fits = refl
slot_read (Some e) fits =
    let f = fits e refl in
    let source : little_from 0 4 (little_bytes 4 (e.0 + 1) ++ little_bytes 4 e.1) ≡ e.0 + 1 = little_number-reads_back 4 (e.0 + 1) (little_bytes 4 e.1) f.0 in
    let target : little_from 4 4 (little_bytes 4 (e.0 + 1) ++ little_bytes 4 e.1) ≡ e.1 =
    little_from-behind (little_bytes 4 (e.0 + 1)) (little_bytes 4 e.1) 4 0 4 refl ∙ little_number-reads_back 4 e.1 [] f.1 in
    ap (λ x. slot_of x (little_from 4 4 (slot_bytes (Some e)))) source ∙ (ap (slot_of (e.0 + 1)) target ∙ slot_of_more e.0 e.1)

-- ---- a slot of a row, read back

abbrev pub read_at : List ℕ → ℕ → Option (ℕ × ℕ)
read_at bytes at = slot_of (little_from at 4 bytes) (little_from (at + 4) 4 bytes)

row_read : (slots : List (Option (ℕ × ℕ))) (first n j : ℕ) → ((k : ℕ) → Fits4 (slot_at slots k)) → j < n → read_at (row_bytes slots first n) (8 * j) ≡ slot_at slots (first + j)
unfolding row_bytes
row_read slots first zero j fits h = absurd (omega arith)
row_read slots first (suc n) j fits h =
    let row = row_bytes slots first n in
    let last = slot_bytes (slot_at slots (first + n)) in
    let len : length row ≡ 8 * n = length-row_bytes slots first n in
    elim (cases_lt j n) [
      | inl before ↦
          let one : little_from (8 * j) 4 (row ++ last) ≡ little_from (8 * j) 4 row = little_from-before (8 * j) 4 row last (omega arith) in
          let other : little_from (8 * j + 4) 4 (row ++ last) ≡ little_from (8 * j + 4) 4 row = little_from-before (8 * j + 4) 4 row last (omega arith) in
          ap (λ x. slot_of x (little_from (8 * j + 4) 4 (row ++ last))) one
          ∙ (ap (slot_of (little_from (8 * j) 4 row)) other ∙ row_read slots first n j fits before)
      | inr from ↦
          let same : j ≡ n = omega arith in
          let one : little_from (8 * j) 4 (row ++ last) ≡ little_from 0 4 last = little_from-behind row last (8 * j) 0 4 (omega arith) in
          let other : little_from (8 * j + 4) 4 (row ++ last) ≡ little_from 4 4 last = little_from-behind row last (8 * j + 4) 4 4 (omega arith) in
          ap (λ x. slot_of x (little_from (8 * j + 4) 4 (row ++ last))) one
          ∙ (ap (slot_of (little_from 0 4 last)) other ∙ (slot_read (slot_at slots (first + n)) (fits (first + n)) ∙ ap (λ i. slot_at slots (first + i)) (sym same)))
    ]

pub sector_read : (slots : List (Option (ℕ × ℕ))) (part j k : ℕ) → ((i : ℕ) → Fits4 (slot_at slots i)) → j < 64 → k ≡ 64 * part + j → read_at (slot_sector_bytes slots part) (8 * j) ≡ slot_at slots k
sector_read slots part j k fits h e = row_read slots (64 * part) 64 j fits h ∙ ap (slot_at slots) (sym e)

-- ---- an image with the sector of a slot that changed

-- the place of a slot
pub slot_sector : (k : ℕ) → 8 * k / 512 ≡ k / 64
slot_sector k = omega arith

pub slot_byte : (k : ℕ) → 8 * k % 512 ≡ 8 * (k % 64)
slot_byte k = omega arith

pub stored_at : (image : Image) (g : Geometry) (k : ℕ) → stored_slot image g k ≡ read_at (image (slots_start g + k / 64)) (8 * (k % 64))
stored_at image g k =
    ap (λ s. slot_of (little_from (8 * k % 512) 4 (image (slots_start g + s))) (little_from (8 * k % 512 + 4) 4 (image (slots_start g + s)))) (slot_sector k)
    ∙ ap (λ b. read_at (image (slots_start g + k / 64)) b) (slot_byte k)

pub stored_kept : (slots : List (Option (ℕ × ℕ))) (g : Geometry) (position : ℕ) (slot : Option (ℕ × ℕ)) (sector : ℕ) (bytes : List ℕ) → ((i : ℕ) → Fits4 (slot_at (set slots position slot) i))
    → sector ≡ (slot_offset g position).sector → bytes ≡ slot_sector_bytes (set slots position slot) (position / 64) → (x : Image) → IsStored slots g x → IsStored (set slots position slot) g (put_at sector bytes x)
stored_kept slots g position slot sector bytes fits at is x old = record {
  count = length-set slots position slot ∙ old.count;
  each = λ k inside. stored_at (put_at sector bytes x) g k ∙ elim (cases_eq (slots_start g + k / 64) sector) [
    | inl here ↦
        let part : k / 64 ≡ position / 64 = let e = at ∙ ap (λ s. slots_start g + s) (slot_sector position) in omega arith in
        ap (λ t. read_at (cond t bytes (x (slots_start g + k / 64))) (8 * (k % 64))) (eq-eqb (slots_start g + k / 64) sector here)
        ∙ (ap (λ b. read_at b (8 * (k % 64))) is ∙ sector_read (set slots position slot) (position / 64) (k % 64) k fits (omega arith) (omega arith))
    | inr off ↦
        let other : k ≡ position → ⊥ = λ same. off (ap (λ i. slots_start g + i / 64) same ∙ (ap (λ s. slots_start g + s) (sym (slot_sector position)) ∙ sym at)) in
        ap (λ t. read_at (cond t bytes (x (slots_start g + k / 64))) (8 * (k % 64))) (ne_eqb (slots_start g + k / 64) sector off)
        ∙ (sym (stored_at x g k) ∙ (old.each k inside ∙ sym (set_other slots position k slot other)))
  ];
}

-- ---- writing

-- two numbers one after the other
pub put_two : (s0 s1 s2 f t : List ℕ) (at : ℕ) → at + 8 ≤ length s0 → length f ≡ 4 → length t ≡ 4 → s1 ≡ take at s0 ++ f ++ drop (at + 4) s0 → s2 ≡ take (at + 4) s1 ++ t ++ drop (at + 4 + 4) s1
    → s2 ≡ take at s0 ++ (f ++ t) ++ drop (at + 8) s0
put_two s0 s1 s2 f t at fits lf lt e1 e2 =
    let front = take at s0 ++ f in
    let len : length front ≡ at + 4 = length-append (take at s0) f ∙ (let l = length-take-le at s0 (omega arith) in omega arith) in
    let begins : take (at + 4) s1 ≡ front = ap (take (at + 4)) e1 ∙ take_at front (drop (at + 4) s0) (at + 4) len in
    let back : drop (at + 4) s1 ≡ drop (at + 4) s0 = ap (drop (at + 4)) e1 ∙ drop_at front (drop (at + 4) s0) (at + 4) len in
    let ends : drop (at + 4 + 4) s1 ≡ drop (at + 8) s0 =
    sym (drop-drop 4 (at + 4) s1) ∙ (ap (drop 4) back ∙ (drop-drop 4 (at + 4) s0 ∙ ap (λ n. drop n s0) (let n : at + 4 + 4 ≡ at + 8 = omega arith in n))) in
    e2 ∙ (ap (λ xs. xs ++ t ++ drop (at + 4 + 4) s1) begins ∙ (ap (λ xs. front ++ t ++ xs) ends ∙ ap (λ xs. xs ++ drop (at + 8) s0) (append_assoc (take at s0) f t)))

-- the bytes of a slot from its two numbers
pub slot_numbers : (source target kept : ℕ) → kept ≡ cond (source == 0) 0 target → little_bytes 4 source ++ little_bytes 4 kept ≡ slot_bytes (slot_of source target)
slot_numbers zero target kept e = ap (λ t. little_bytes 4 0 ++ little_bytes 4 t) e
slot_numbers (suc a) target kept e =
    let off : (suc a == 0) ≡ false = ne_eqb (suc a) 0 (λ z. omega arith) in
    let same : kept ≡ target = e ∙ ap (λ t. cond t 0 target) off in
    let back : suc a ≡ (suc a - 1) + 1 = omega arith in
    ap (λ t. little_bytes 4 (suc a) ++ little_bytes 4 t) same
    ∙ (ap (λ x. little_bytes 4 x ++ little_bytes 4 target) back ∙ ap (λ t. slot_bytes (cond t None (Some (suc a - 1, target)))) (sym off))

-- one slot more of a row
pub row_more : (old new : List ℕ) (slots : List (Option (ℕ × ℕ))) (first i : ℕ) → 8 * i + 8 ≤ length old
    → new ≡ take (8 * i) old ++ slot_bytes (slot_at slots (first + i)) ++ drop (8 * i + 8) old → take (8 * i) old ≡ row_bytes slots first i
    → take (8 * (i + 1)) new ≡ row_bytes slots first (i + 1)
row_more old new slots first i fits e so_far =
    let bytes = slot_bytes (slot_at slots (first + i)) in
    let front = take (8 * i) old ++ bytes in
    let len : length front ≡ 8 * (i + 1) = length-append (take (8 * i) old) bytes ∙ (let l = length-take-le (8 * i) old (omega arith) in let m = length-slot_bytes (slot_at slots (first + i)) in omega arith) in
    ap (take (8 * (i + 1))) e ∙ (take_at front (drop (8 * i + 8) old) (8 * (i + 1)) len ∙ (ap (λ xs. xs ++ bytes) so_far ∙ sym (row_bytes-more slots first i)))
