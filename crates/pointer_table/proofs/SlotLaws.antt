-- Slots and the pairs that they hold.
use Rattle.std.proofs.Common.{◌≡◌, ℕ, zero, suc, ◌+◌, ◌<◌, ◌≤◌, true, false, cond, not, ◌&&◌, ◌||◌, List, [], ◌∷◌, length, set, refl, sym, ◌∙◌, ap, arith, inl, inr}
use Rattle.std.proofs.Common.{Option, Some, None}
use Rattle.pointer_table.proofs.Common.{count_by, is_some, ◌≢◌, list_any, or_cases, or_left, or_right, and_parts, and_from, cases_eq, both_ways, false_from_ne_true, not_from_false, not-true, sum_by-cons, get_or-set_same, get_or-set_other, is_pair, holds, is_rising, with_pair, without_pair, slot_at, pairs_in, is_at, same_tests, is_pair_ext, is_pair_same, holds-with_pair, holds-filter, is_rising-with_pair, is_rising-filter, rising_same, length-with_new_pair}
use Rattle.tsd_model.proofs.SizeLaws.{length-with_pair}

-- ---- which pairs are held

pub holds-pairs_in : (slots : List (Option (ℕ × ℕ))) (a b : ℕ) → holds (pairs_in slots) a b ≡ list_any (is_at a b) slots
holds-pairs_in [] a b = refl
holds-pairs_in (None ∷ slots) a b = holds-pairs_in slots a b
holds-pairs_in (Some e ∷ slots) a b = holds-with_pair e (pairs_in slots) a b ∙ ap (λ t. is_pair a b e || t) (holds-pairs_in slots a b)

pub rising-pairs_in : (slots : List (Option (ℕ × ℕ))) → is_rising (pairs_in slots) ≡ true
rising-pairs_in [] = refl
rising-pairs_in (None ∷ slots) = rising-pairs_in slots
rising-pairs_in (Some e ∷ slots) = is_rising-with_pair e (pairs_in slots) (rising-pairs_in slots)

pub is_at_same : (a b : ℕ) (slot : Option (ℕ × ℕ)) → slot ≡ Some (a, b) → is_at a b slot ≡ true
is_at_same a b slot e = ap (is_at a b) e ∙ is_pair_same (a, b)

pub is_at_some : (a b : ℕ) (slot : Option (ℕ × ℕ)) → is_at a b slot ≡ true → slot ≡ Some (a, b)
is_at_some a b None h = absurd (cc)
is_at_some a b (Some e) h = ap Some (is_pair_ext a b e h)

any_at : (slots : List (Option (ℕ × ℕ))) (k a b : ℕ) → slot_at slots k ≡ Some (a, b) → list_any (is_at a b) slots ≡ true
any_at [] k a b h = absurd (cc)
any_at (s ∷ slots) zero a b h = or_left (is_at a b s) (list_any (is_at a b) slots) (is_at_same a b s h)
any_at (s ∷ slots) (suc k) a b h = or_right (is_at a b s) (list_any (is_at a b) slots) (any_at slots k a b h)

at_any : (slots : List (Option (ℕ × ℕ))) (a b : ℕ) → list_any (is_at a b) slots ≡ true → (k : ℕ) × (k < length slots) × (slot_at slots k ≡ Some (a, b))
at_any [] a b h = absurd (cc)
at_any (s ∷ slots) a b h = elim (or_cases (is_at a b s) (list_any (is_at a b) slots) h) [
  | inl here ↦ (0, omega arith, is_at_some a b s here)
  | inr later ↦ let k = at_any slots a b later in (suc k.0, (let short = k.1 in omega arith), k.2)
]

-- a pair is held exactly where a slot holds it
pub holds_from_slot : (slots : List (Option (ℕ × ℕ))) (k a b : ℕ) → slot_at slots k ≡ Some (a, b) → holds (pairs_in slots) a b ≡ true
holds_from_slot slots k a b h = holds-pairs_in slots a b ∙ any_at slots k a b h

pub slot_from_holds : (slots : List (Option (ℕ × ℕ))) (a b : ℕ) → holds (pairs_in slots) a b ≡ true → (k : ℕ) × (k < length slots) × (slot_at slots k ≡ Some (a, b))
slot_from_holds slots a b h = at_any slots a b (sym (holds-pairs_in slots a b) ∙ h)

-- a slot holds a pair or none
pub some_is : (slot : Option (ℕ × ℕ)) → is_some slot ≡ true → (e : ℕ × ℕ) × (slot ≡ Some e)
some_is None on = absurd (cc)
some_is (Some e) on = (e, refl)

pub none_is : (slot : Option (ℕ × ℕ)) → is_some slot ≡ false → slot ≡ None
none_is None off = refl
none_is (Some e) off = absurd (cc)

-- a slot past the last one is empty
pub some_inside : (slots : List (Option (ℕ × ℕ))) (k : ℕ) (e : ℕ × ℕ) → slot_at slots k ≡ Some e → k < length slots
some_inside [] k e h = absurd (cc)
some_inside (s ∷ slots) zero e h = omega arith
some_inside (s ∷ slots) (suc k) e h = let short = some_inside slots k e h in omega arith

-- ---- a slot that changes

-- no pair stands in two slots
abbrev pub AreApart : List (Option (ℕ × ℕ)) → Type 0
AreApart slots = (i j : ℕ) (e : ℕ × ℕ) → slot_at slots i ≡ Some e → slot_at slots j ≡ Some e → i ≡ j

-- what the others hold stays
pub set_same : (slots : List (Option (ℕ × ℕ))) (k : ℕ) (s : Option (ℕ × ℕ)) → k < length slots → slot_at (set slots k s) k ≡ s
set_same slots k s h = get_or-set_same slots k s None h

pub set_other : (slots : List (Option (ℕ × ℕ))) (k j : ℕ) (s : Option (ℕ × ℕ)) → (j ≡ k → ⊥) → slot_at (set slots k s) j ≡ slot_at slots j
set_other slots k j s h = get_or-set_other slots k j s None h

holds_added : (slots : List (Option (ℕ × ℕ))) (k : ℕ) (e : ℕ × ℕ) → k < length slots → slot_at slots k ≡ None → (x y : ℕ)
    → holds (pairs_in (set slots k (Some e))) x y ≡ (is_pair x y e || holds (pairs_in slots) x y)
holds_added slots k e inside empty x y = same_tests (holds (pairs_in (set slots k (Some e))) x y) (is_pair x y e || holds (pairs_in slots) x y) there back
  where
    there : holds (pairs_in (set slots k (Some e))) x y ≡ true → (is_pair x y e || holds (pairs_in slots) x y) ≡ true
    there h = let j = slot_from_holds (set slots k (Some e)) x y h in
        elim (cases_eq j.0 k) [
          | inl here ↦
              let same : Some e ≡ Some (x, y) = sym (ap (slot_at (set slots k (Some e))) here ∙ set_same slots k (Some e) inside) ∙ j.2 in
              let one : e ≡ (x, y) = cc in
              or_left (is_pair x y e) (holds (pairs_in slots) x y) (ap (is_pair x y) one ∙ is_pair_same (x, y))
          | inr other ↦ or_right (is_pair x y e) (holds (pairs_in slots) x y) (holds_from_slot slots j.0 x y (sym (set_other slots k j.0 (Some e) other) ∙ j.2))
        ]

    back : (is_pair x y e || holds (pairs_in slots) x y) ≡ true → holds (pairs_in (set slots k (Some e))) x y ≡ true
    back h = elim (or_cases (is_pair x y e) (holds (pairs_in slots) x y) h) [
      | inl here ↦ holds_from_slot (set slots k (Some e)) k x y (set_same slots k (Some e) inside ∙ ap Some (is_pair_ext x y e here))
      | inr held ↦ let j = slot_from_holds slots x y held in
          holds_from_slot (set slots k (Some e)) j.0 x y (set_other slots k j.0 (Some e) (λ same. let none = ap (slot_at slots) same ∙ empty in let some = j.2 in absurd (cc)) ∙ j.2)
    ]

pub pairs_added : (slots : List (Option (ℕ × ℕ))) (k : ℕ) (e : ℕ × ℕ) → k < length slots → slot_at slots k ≡ None
    → pairs_in (set slots k (Some e)) ≡ with_pair e (pairs_in slots)
pairs_added slots k e inside empty =
    rising_same (pairs_in (set slots k (Some e))) (with_pair e (pairs_in slots)) (rising-pairs_in (set slots k (Some e)))
    (is_rising-with_pair e (pairs_in slots) (rising-pairs_in slots))
    (λ x y. holds_added slots k e inside empty x y ∙ sym (holds-with_pair e (pairs_in slots) x y))

holds_removed : (slots : List (Option (ℕ × ℕ))) (k a b : ℕ) → AreApart slots → slot_at slots k ≡ Some (a, b) → (x y : ℕ)
    → holds (pairs_in (set slots k None)) x y ≡ (holds (pairs_in slots) x y && not (is_pair a b (x, y)))
holds_removed slots k a b apart here x y = same_tests (holds (pairs_in (set slots k None)) x y) (holds (pairs_in slots) x y && not (is_pair a b (x, y))) there back
  where
    inside : k < length slots
    inside = some_inside slots k (a, b) here

    there : holds (pairs_in (set slots k None)) x y ≡ true → (holds (pairs_in slots) x y && not (is_pair a b (x, y))) ≡ true
    there h = let j = slot_from_holds (set slots k None) x y h in
        let other : j.0 ≡ k → ⊥ = λ same. let none = ap (slot_at (set slots k None)) same ∙ set_same slots k None inside in let some = j.2 in absurd (cc) in
        let held : slot_at slots j.0 ≡ Some (x, y) = sym (set_other slots k j.0 None other) ∙ j.2 in
        and_from (holds (pairs_in slots) x y) (not (is_pair a b (x, y))) (holds_from_slot slots j.0 x y held)
        (not_from_false (is_pair a b (x, y)) (false_from_ne_true (is_pair a b (x, y)) (λ p.
        other (apart j.0 k (a, b) (held ∙ ap Some (is_pair_ext a b (x, y) p)) here))))

    back : (holds (pairs_in slots) x y && not (is_pair a b (x, y))) ≡ true → holds (pairs_in (set slots k None)) x y ≡ true
    back h = let parts = and_parts (holds (pairs_in slots) x y) (not (is_pair a b (x, y))) h in
        let j = slot_from_holds slots x y parts.0 in
        holds_from_slot (set slots k None) j.0 x y (set_other slots k j.0 None (λ same.
        let at : Some (x, y) ≡ Some (a, b) = sym j.2 ∙ ap (slot_at slots) same ∙ here in
        let one : (x, y) ≡ (a, b) = cc in
        both_ways (is_pair a b (x, y)) (not-true (is_pair a b (x, y)) parts.1) (ap (is_pair a b) one ∙ is_pair_same (a, b))) ∙ j.2)

pub pairs_removed : (slots : List (Option (ℕ × ℕ))) (k a b : ℕ) → AreApart slots → slot_at slots k ≡ Some (a, b)
    → pairs_in (set slots k None) ≡ without_pair a b (pairs_in slots)
pairs_removed slots k a b apart here =
    rising_same (pairs_in (set slots k None)) (without_pair a b (pairs_in slots)) (rising-pairs_in (set slots k None))
    (is_rising-filter (λ e. not (is_pair a b e)) (pairs_in slots) (rising-pairs_in slots))
    (λ x y. holds_removed slots k a b apart here x y ∙ sym (holds-filter (λ e. not (is_pair a b e)) (pairs_in slots) x y))

-- ---- how many

apart_rest : (s : Option (ℕ × ℕ)) (slots : List (Option (ℕ × ℕ))) → AreApart (s ∷ slots) → AreApart slots
apart_rest s slots apart i j e p q = let same : suc i ≡ suc j = apart (suc i) (suc j) e p q in omega arith

count_some : (e : ℕ × ℕ) (slots : List (Option (ℕ × ℕ))) → count_by is_some (Some e ∷ slots) ≡ 1 + count_by is_some slots
count_some e slots = sum_by-cons (λ (s : Option (ℕ × ℕ)). cond (is_some s) 1 0) (Some e) slots

pub length-pairs_in : (slots : List (Option (ℕ × ℕ))) → AreApart slots → length (pairs_in slots) ≡ count_by is_some slots
length-pairs_in [] apart = refl
length-pairs_in (None ∷ slots) apart = length-pairs_in slots (apart_rest None slots apart) ∙ omega arith
length-pairs_in (Some e ∷ slots) apart =
    let absent : holds (pairs_in slots) e.0 e.1 ≡ false = false_from_ne_true (holds (pairs_in slots) e.0 e.1) (λ h.
    let j = slot_from_holds slots e.0 e.1 h in
    let same : 0 ≡ suc j.0 = apart 0 (suc j.0) e refl j.2 in
    omega arith) in
    let rest = length-pairs_in slots (apart_rest (Some e) slots apart) in
    let one = length-with_new_pair e (pairs_in slots) absent in
    let more = count_some e slots in
    omega arith

pub length-pairs_in_le : (slots : List (Option (ℕ × ℕ))) → length (pairs_in slots) ≤ length slots
length-pairs_in_le [] = omega arith
length-pairs_in_le (None ∷ slots) = let rest = length-pairs_in_le slots in omega arith
length-pairs_in_le (Some e ∷ slots) = let rest = length-pairs_in_le slots in let one = length-with_pair e (pairs_in slots) in omega arith

-- an empty slot leaves room
pub room_at : (slots : List (Option (ℕ × ℕ))) (k : ℕ) → k < length slots → slot_at slots k ≡ None → length (pairs_in slots) < length slots
room_at [] k inside empty = absurd (omega arith)
room_at (None ∷ slots) zero inside empty = let rest = length-pairs_in_le slots in omega arith
room_at (Some e ∷ slots) zero inside empty = absurd (cc)
room_at (None ∷ slots) (suc k) inside empty = let rest = length-pairs_in_le slots in omega arith
room_at (Some e ∷ slots) (suc k) inside empty =
    let rest = room_at slots k (omega arith) empty in
    let one = length-with_pair e (pairs_in slots) in omega arith

full_count : (slots : List (Option (ℕ × ℕ))) → ((k : ℕ) → k < length slots → slot_at slots k ≢ None) → count_by is_some slots ≡ length slots
full_count [] full = refl
full_count (None ∷ slots) full = absurd (full 0 (omega arith) refl)
full_count (Some e ∷ slots) full =
    let rest = full_count slots (λ k h. full (suc k) (omega arith)) in
    let more = count_some e slots in
    omega arith

-- where no slot is empty, as many pairs are held as there are slots
pub full_at : (slots : List (Option (ℕ × ℕ))) → AreApart slots → ((k : ℕ) → k < length slots → slot_at slots k ≢ None) → length (pairs_in slots) ≡ length slots
full_at slots apart full = length-pairs_in slots apart ∙ full_count slots full
