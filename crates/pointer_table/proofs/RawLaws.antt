-- Slots in memory, and behind them those that are empty.
use Rattle.std.proofs.Common.{◌≡◌, ℕ, zero, suc, ◌+◌, ◌-◌, ◌<◌, ◌≤◌, ◌++◌, cond, List, [], ◌∷◌, length, replicate, set, refl, sym, ◌∙◌, ap, arith, inl, inr}
use Rattle.std.proofs.Common.{Option, None}
use Rattle.pointer_table.proofs.Common.{count_by, is_some, cases_lt, map-set, map-append, length-map, length-append, length-set, length-replicate, get_or_append_left, get_or-append_right, get_or_past, set-append_left, set-get_or, append_assoc, sum_by-cons, sum_by-append, slot_in, slots_in, all_slots, slot_at, RawSlot}

pub length-slots_in : (raws : List RawSlot) → length (slots_in raws) ≡ length raws
length-slots_in raws = length-map raws slot_in

pub slots_in-set : (raws : List RawSlot) (k : ℕ) (r : RawSlot) → slots_in (set raws k r) ≡ set (slots_in raws) k (slot_in r)
slots_in-set raws k r = map-set slot_in raws k r

-- ---- with the empty ones behind them

none_at : (n k : ℕ) → slot_at (replicate n None) k ≡ None
none_at zero k = refl
none_at (suc n) zero = refl
none_at (suc n) (suc k) = none_at n k

none_counted : (n : ℕ) → count_by is_some (replicate {A = Option (ℕ × ℕ)} n None) ≡ 0
none_counted zero = refl
none_counted (suc n) =
    let one = sum_by-cons (λ (s : Option (ℕ × ℕ)). cond (is_some s) 1 0) None (replicate {A = Option (ℕ × ℕ)} n None) in
    let rest = none_counted n in
    omega arith

pub length_all : (count : ℕ) (raws : List RawSlot) → length raws ≤ count → length (all_slots count raws) ≡ count
length_all count raws within =
    let all = length-append (slots_in raws) (replicate (count - length raws) None) in
    let front = length-slots_in raws in
    let rest = length-replicate {A = Option (ℕ × ℕ)} (count - length raws) None in
    omega arith

-- what they hold is what those in memory hold
pub slot_all : (count : ℕ) (raws : List RawSlot) (k : ℕ) → slot_at (slots_in raws) k ≡ slot_at (all_slots count raws) k
slot_all count raws k = elim (cases_lt k (length raws)) [
  | inl low ↦ sym (get_or_append_left (slots_in raws) (replicate (count - length raws) None) None k (let front = length-slots_in raws in omega arith))
  | inr far ↦
      get_or_past (slots_in raws) k None (let front = length-slots_in raws in omega arith)
      ∙ sym (get_or-append_right (slots_in raws) (replicate (count - length raws) None) (length raws) k None (length-slots_in raws) far
      ∙ none_at (count - length raws) (k - length raws))
]

pub none_behind : (count : ℕ) (raws : List RawSlot) (k : ℕ) → length raws ≤ k → slot_at (all_slots count raws) k ≡ None
none_behind count raws k far = sym (slot_all count raws k) ∙ get_or_past (slots_in raws) k None (let front = length-slots_in raws in omega arith)

pub count_all : (count : ℕ) (raws : List RawSlot) → count_by is_some (slots_in raws) ≡ count_by is_some (all_slots count raws)
count_all count raws =
    let parts = sum_by-append (λ (s : Option (ℕ × ℕ)). cond (is_some s) 1 0) (slots_in raws) (replicate (count - length raws) None) in
    let rest = none_counted (count - length raws) in
    omega arith

-- one of them more in memory
pub touched : (count : ℕ) (raws : List RawSlot) → length raws < count → all_slots count (raws ++ record { source = 0; target = 0 } ∷ []) ≡ all_slots count raws
touched count raws within =
    let longer : length (raws ++ record { source = 0; target = 0 } ∷ []) ≡ length raws + 1 = length-append raws (record { source = 0; target = 0 } ∷ []) in
    let left : count - length raws ≡ suc (count - (length raws + 1)) = omega arith in
    ap (λ (n : ℕ). slots_in (raws ++ record { source = 0; target = 0 } ∷ []) ++ replicate (count - n) None) longer
    ∙ (ap (λ (front : List (Option (ℕ × ℕ))). front ++ replicate (count - (length raws + 1)) None) (map-append slot_in raws (record { source = 0; target = 0 } ∷ []))
    ∙ (append_assoc (slots_in raws) (None ∷ []) (replicate (count - (length raws + 1)) None)
    ∙ sym (ap (λ (n : ℕ). slots_in raws ++ replicate n None) left)))

-- one of those in memory set
pub set_touched : (count : ℕ) (raws : List RawSlot) (k : ℕ) (raw : RawSlot) → k < length raws → all_slots count (set raws k raw) ≡ set (all_slots count raws) k (slot_in raw)
set_touched count raws k raw inside =
    ap (λ (n : ℕ). slots_in (set raws k raw) ++ replicate (count - n) None) (length-set raws k raw)
    ∙ (ap (λ (front : List (Option (ℕ × ℕ))). front ++ replicate (count - length raws) None) (slots_in-set raws k raw)
    ∙ sym (set-append_left (slots_in raws) (replicate (count - length raws) None) k (slot_in raw) (let front = length-slots_in raws in omega arith)))

-- a slot set to what it is
pub set_again : (slots : List (Option (ℕ × ℕ))) (k : ℕ) (s : Option (ℕ × ℕ)) → slot_at slots k ≡ s → slots ≡ set slots k s
set_again slots k s is = sym (ap (set slots k) (sym is) ∙ set-get_or slots k None)

pub none_kept : (count : ℕ) (raws : List RawSlot) → raws ≡ [] → all_slots count raws ≡ replicate count None
none_kept count raws none =
    ap (all_slots count) none ∙ ap (λ (n : ℕ). replicate {A = Option (ℕ × ℕ)} n None) (let all : count - 0 ≡ count = omega arith in all)
