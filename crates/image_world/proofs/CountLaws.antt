-- The number of pairs to a block, counted slot by slot.
use Rattle.std.proofs.Common.{◌≡◌, ℕ, zero, suc, ◌+◌, ◌<◌, ◌≤◌, false, cond, ◌==◌, List, [], ◌∷◌, length, take, get_or, set, refl, sym, ◌∙◌, ap, arith, inl, inr}
use Rattle.std.proofs.Common.{Option, Some, None}
use Rattle.image_world.proofs.Common.{cases_eq, false_from_ne_true, eq-eqb, ne_eqb, get_or-set_same, get_or-set_other, length-take, take_all, holds, count_to, slot_at, pairs_in, AreApart, slot_from_holds, leads_to, slots_to}
use Rattle.std.proofs.lemmas.List.Sums.{sum_by-cons, count_by_more_no, count_by_more_yes, count_by-le-length}
use Rattle.tsd_model.proofs.CountLaws.{count-with_pair}

-- ---- where no pair stands twice, slots and pairs give one number

one_slot : (b : ℕ) (s : Option (ℕ × ℕ)) (slots : List (Option (ℕ × ℕ))) → slots_to (s ∷ slots) b ≡ cond (leads_to b s) 1 0 + slots_to slots b
one_slot b s slots = sum_by-cons (λ (t : Option (ℕ × ℕ)). cond (leads_to b t) 1 0) s slots

apart_rest : (s : Option (ℕ × ℕ)) (slots : List (Option (ℕ × ℕ))) → AreApart (s ∷ slots) → AreApart slots
apart_rest s slots apart i j e p q = let same : suc i ≡ suc j = apart (suc i) (suc j) e p q in omega arith

absent_rest : (e : ℕ × ℕ) (slots : List (Option (ℕ × ℕ))) → AreApart (Some e ∷ slots) → holds (pairs_in slots) e.0 e.1 ≡ false
absent_rest e slots apart = false_from_ne_true (holds (pairs_in slots) e.0 e.1) (λ held.
    let k = slot_from_holds slots e.0 e.1 held in
    let same : 0 ≡ suc k.0 = apart 0 (suc k.0) e refl k.2 in
    omega arith)

pub slots_to_pairs : (slots : List (Option (ℕ × ℕ))) (b : ℕ) → AreApart slots → slots_to slots b ≡ count_to (pairs_in slots) b
slots_to_pairs [] b apart = refl
slots_to_pairs (None ∷ slots) b apart = let rest = slots_to_pairs slots b (apart_rest None slots apart) in one_slot b None slots ∙ (omega arith)
slots_to_pairs (Some e ∷ slots) b apart =
    let rest = slots_to_pairs slots b (apart_rest (Some e) slots apart) in
    one_slot b (Some e) slots
    ∙ (ap (λ n. cond (e.1 == b) 1 0 + n) rest ∙ sym (count-with_pair (λ f. f.1 == b) e (pairs_in slots) (absent_rest e slots apart)))

-- ---- one slot more

pub slots_to_most : (slots : List (Option (ℕ × ℕ))) (b : ℕ) → slots_to slots b ≤ length slots
slots_to_most slots b = count_by-le-length (leads_to b) slots

pub none_counted : (slots : List (Option (ℕ × ℕ))) (k b : ℕ) → k < length slots → slot_at slots k ≡ None → slots_to (take (k + 1) slots) b ≡ slots_to (take k slots) b
none_counted slots k b inside empty = count_by_more_no (leads_to b) slots k None inside (ap (leads_to b) empty)

-- where none of the slots from one on holds a pair
pub none_from : (slots : List (Option (ℕ × ℕ))) (k n b : ℕ) → k + n ≡ length slots → ((j : ℕ) → k ≤ j → slot_at slots j ≡ None) → slots_to (take (length slots) slots) b ≡ slots_to (take k slots) b
none_from slots k zero b all empty = ap (λ m. slots_to (take m slots) b) (let end : length slots ≡ k = omega arith in end)
none_from slots k (suc n) b all empty = none_from slots (k + 1) n b (omega arith) (λ j far. empty j (omega arith)) ∙ none_counted slots k b (omega arith) (empty k (omega arith))

pub same_counted : (slots : List (Option (ℕ × ℕ))) (k a b : ℕ) → k < length slots → slot_at slots k ≡ Some (a, b) → slots_to (take (k + 1) slots) b ≡ slots_to (take k slots) b + 1
same_counted slots k a b inside held = count_by_more_yes (leads_to b) slots k None inside (ap (leads_to b) held ∙ eq-eqb b b refl)

pub other_counted : (slots : List (Option (ℕ × ℕ))) (k a t b : ℕ) → k < length slots → slot_at slots k ≡ Some (a, t) → (t ≡ b → ⊥) → slots_to (take (k + 1) slots) b ≡ slots_to (take k slots) b
other_counted slots k a t b inside held other = count_by_more_no (leads_to b) slots k None inside (ap (leads_to b) held ∙ ne_eqb t b other)

-- the count of the pair's target is one more
pub found_more : (found : List ℕ) (slots : List (Option (ℕ × ℕ))) (k a t now : ℕ) → k < length slots → slot_at slots k ≡ Some (a, t) → t < length found → now ≡ get_or found t 0 + 1
    → ((b : ℕ) → b < length found → get_or found b 0 ≡ slots_to (take k slots) b)
    → (b : ℕ) → b < length found → get_or (set found t now) b 0 ≡ slots_to (take (k + 1) slots) b
found_more found slots k a t now inside held block is so_far b within = elim (cases_eq b t) [
  | inl here ↦
      let at : get_or (set found t now) b 0 ≡ now = ap (λ k. get_or (set found t now) k 0) here ∙ get_or-set_same found t now 0 block in
      let before : get_or found t 0 ≡ slots_to (take k slots) t = so_far t block in
      let after : slots_to (take (k + 1) slots) t ≡ slots_to (take k slots) t + 1 = same_counted slots k a t inside held in
      let there : now ≡ slots_to (take (k + 1) slots) t = omega arith in
      at ∙ (there ∙ ap (λ c. slots_to (take (k + 1) slots) c) (sym here))
  | inr other ↦ get_or-set_other found t b now 0 other ∙ (so_far b within ∙ sym (other_counted slots k a t b inside held (λ e. other (sym e))))
]

pub few_to : (slots : List (Option (ℕ × ℕ))) (k b : ℕ) → slots_to (take k slots) b ≤ length slots
few_to slots k b = omega (arith, slots_to_most (take k slots) b, length-take k slots)

pub all_counted : (slots : List (Option (ℕ × ℕ))) (k b : ℕ) → length slots ≤ k → AreApart slots → slots_to (take k slots) b ≡ count_to (pairs_in slots) b
all_counted slots k b all apart = ap (λ ss. slots_to ss b) (take_all k slots all) ∙ slots_to_pairs slots b apart
