-- Lists of numbers, none twice.
use Rattle.std.proofs.Common.{◌≡◌, ℕ, zero, suc, ◌+◌, ◌<◌, ◌≤◌, Bool, true, false, not, ◌||◌, ◌==◌, List, [], ◌∷◌, ◌++◌, length, refl, sym, ◌∙◌, ap, subst, arith, take, inl, inr}
use Rattle.reclaim.proofs.Common.{eq-eqb, eqb-true, ne_eqb, and_parts, and_from, or_cases, or_left, or_right, or_parts, or_from, not-true, both_ways, false_from_ne_true, take_more, option_to_list, IfSome, IsSome, IsNone, has_number, are_apart, HeldTargets, IsHeld, IsPopped}
use Rattle.std.proofs.lemmas.List.{append-nil}
use Rattle.std.proofs.Common.{Option, Some, None}
use Rattle.std.specs.Prelude.{get_or, ◌↔◌}
use Rattle.graph_laws.proofs.CountLaws.{apart_fits}
use Rattle.tsd_model.proofs.ValueLaws.{or_false}

pub has-push : (xs : List ℕ) (b c : ℕ) → has_number (xs ++ b ∷ []) c ≡ (has_number xs c || (b == c))
has-push [] b c = or_false (b == c)
has-push (x ∷ xs) b c = ap (λ t. (x == c) || t) (has-push xs b c) ∙ assoc (x == c) (has_number xs c) (b == c)
  where
    assoc : (s t u : Bool) → (s || (t || u)) ≡ ((s || t) || u)
    assoc true t u = refl
    assoc false t u = refl

pub apart-push : (xs : List ℕ) (b : ℕ) → are_apart xs ≡ true → has_number xs b ≡ false → are_apart (xs ++ b ∷ []) ≡ true
apart-push [] b once new = refl
apart-push (x ∷ xs) b once new =
    let parts = and_parts (not (has_number xs x)) (are_apart xs) once in
    let out = or_parts (x == b) (has_number xs b) new in
    and_from (not (has_number (xs ++ b ∷ []) x)) (are_apart (xs ++ b ∷ []))
    (ap not (has-push xs b x ∙ or_from (has_number xs x) (b == x) (not-true (has_number xs x) parts.0) (ne_eqb b x (λ e. both_ways (x == b) out.0 (eq-eqb x b (sym e))))))
    (apart-push xs b parts.1 out.1)

pub has-take : (n : ℕ) (xs : List ℕ) (b : ℕ) → has_number (take n xs) b ≡ true → has_number xs b ≡ true
has-take zero [] b h = absurd (cc)
has-take zero (x ∷ xs) b h = absurd (cc)
has-take (suc n) [] b h = absurd (cc)
has-take (suc n) (x ∷ xs) b h = elim (or_cases (x == b) (has_number (take n xs) b) h) [
  | inl here ↦ or_left (x == b) (has_number xs b) here
  | inr later ↦ or_right (x == b) (has_number xs b) (has-take n xs b later)
]

pub apart-take : (n : ℕ) (xs : List ℕ) → are_apart xs ≡ true → are_apart (take n xs) ≡ true
apart-take zero [] once = refl
apart-take zero (x ∷ xs) once = refl
apart-take (suc n) [] once = refl
apart-take (suc n) (x ∷ xs) once = let parts = and_parts (not (has_number xs x)) (are_apart xs) once in
    and_from (not (has_number (take n xs) x)) (are_apart (take n xs))
    (ap not (false_from_ne_true (has_number (take n xs) x) (λ h. both_ways (has_number xs x) (not-true (has_number xs x) parts.0) (has-take n xs x h))))
    (apart-take n xs parts.1)

pub take-whole : (n : ℕ) (xs : List ℕ) → length xs ≤ n → take n xs ≡ xs
take-whole zero [] h = refl
take-whole zero (x ∷ xs) h = absurd (omega arith)
take-whole (suc n) [] h = refl
take-whole (suc n) (x ∷ xs) h = ap (λ ys. x ∷ ys) (take-whole n xs (omega arith))

-- a longer list has a number more
pub has-beyond : (n : ℕ) (xs : List ℕ) → are_apart xs ≡ true → n < length xs → (b : ℕ) × (has_number xs b ≡ true) × (has_number (take n xs) b ≡ false)
has-beyond n [] once long = absurd (omega arith)
has-beyond zero (x ∷ xs) once long = (x, or_left (x == x) (has_number xs x) (eq-eqb x x refl), refl)
has-beyond (suc n) (x ∷ xs) once long =
    let parts = and_parts (not (has_number xs x)) (are_apart xs) once in
    let rest = has-beyond n xs parts.1 (omega arith) in (
      rest.0,
      or_right (x == rest.0) (has_number xs rest.0) rest.1,
      or_from (x == rest.0) (has_number (take n xs) rest.0)
          (ne_eqb x rest.0 (λ e. both_ways (has_number xs x) (not-true (has_number xs x) parts.0) (subst (λ k. has_number xs k ≡ true) (sym e) rest.1))) rest.2,
    )

-- there is room for one that isn't held
pub room_for : (h : HeldTargets) (b : ℕ) → IsHeld h → b < h.room → has_number h.blocks b ≡ false → length h.blocks < h.room
room_for h b held within new = let fits = apart_fits (b ∷ h.blocks) h.room (and_from (not (has_number h.blocks b)) (are_apart h.blocks) (ap not new) held.once)
    (λ c is. elim (or_cases (b == c) (has_number h.blocks c) is) [ inl same ↦ subst (λ k. k < h.room) (eqb-true b c same) within | inr old ↦ held.below c old ]) in omega (arith, fits)

pub held-push : (h : HeldTargets) (b : ℕ) → IsHeld h → b < h.room → has_number h.blocks b ≡ false → IsHeld (record h { blocks = h.blocks ++ b ∷ [] })
held-push h b held within new = record {
  once = apart-push h.blocks b held.once new;
  below = λ c is. elim (or_cases (has_number h.blocks c) (b == c) (sym (has-push h.blocks b c) ∙ is)) [ inl old ↦ held.below c old | inr same ↦ subst (λ k. k < h.room) (eqb-true b c same) within ];
}

held_pop : (h : HeldTargets) (b : ℕ) (xs : List ℕ) → IsHeld h → h.blocks ≡ xs ++ b ∷ [] → IsHeld (record h { blocks = xs }) × ((b < h.room) × (has_number xs b ≡ false))
held_pop h b xs held e = (
  record { once = (unpush xs (subst (λ ys. are_apart ys ≡ true) e held.once)).0; below = λ c is. held.below c (ap (λ ys. has_number ys c) e ∙ (has-push xs b c ∙ or_left (has_number xs c) (b == c) is)) },
  (held.below b (ap (λ ys. has_number ys b) e ∙ (has-push xs b b ∙ or_right (has_number xs b) (b == b) (eq-eqb b b refl))), (unpush xs (subst (λ ys. are_apart ys ≡ true) e held.once)).1),
)
  where
    unpush : (ys : List ℕ) → are_apart (ys ++ b ∷ []) ≡ true → (are_apart ys ≡ true) × (has_number ys b ≡ false)
    unpush [] once = (refl, refl)
    unpush (y ∷ ys) once =
        let parts = and_parts (not (has_number (ys ++ b ∷ []) y)) (are_apart (ys ++ b ∷ [])) once in
        let rest = unpush ys parts.1 in
        let out = or_parts (has_number ys y) (b == y) (sym (has-push ys b y) ∙ not-true (has_number (ys ++ b ∷ []) y) parts.0) in
        (and_from (not (has_number ys y)) (are_apart ys) (ap not out.0) rest.0, or_from (y == b) (has_number ys b) (ne_eqb y b (λ e. both_ways (b == y) out.1 (eq-eqb b y (sym e)))) rest.1)

pub popped : (old : HeldTargets) (xs : List ℕ) (x : ℕ) → IsHeld old → old.blocks ≡ xs ++ x ∷ [] → IsHeld (record old { blocks = xs }) × IsPopped old (record old { blocks = xs }) x
popped old xs x held last =
    let parts = held_pop old x xs held last in
    (parts.0, record { room = refl; last = last; within = parts.1.0; once = parts.1.1 })

pub pop_held : (old : HeldTargets) (xs : List ℕ) (x : Option ℕ) → IsHeld old → old.blocks ≡ xs ++ option_to_list x → IsHeld (record old { blocks = xs })
pop_held old xs None held last = subst (λ (ys : List ℕ). IsHeld (record old { blocks = ys })) (last ∙ append-nil xs) (record { once = held.once; below = held.below })
pop_held old xs (Some x) held last = (popped old xs x held last).0

pub pop_some : (old : HeldTargets) (xs : List ℕ) (x : Option ℕ) → IsHeld old → old.blocks ≡ xs ++ option_to_list x → IfSome x (IsPopped old (record old { blocks = xs }))
pop_some old xs None held last = tt
pop_some old xs (Some x) held last = (popped old xs x held last).1

pub pop_none : (xs : List ℕ) (x : Option ℕ) → (IsSome x ↔ (0 < length xs)) → IsNone x ↔ (xs ≡ [])
pop_none [] None is = (λ none. refl, λ empty. refl)
pop_none [] (Some x) is = absurd (let some = is.0 refl in omega arith)
pop_none (y ∷ ys) None is = absurd (let some = is.1 (omega arith) in cc)
pop_none (y ∷ ys) (Some x) is = (λ none. absurd (cc), λ empty. absurd (cc))

-- ---- numbers by their places

pub has-at : (xs : List ℕ) (i : ℕ) → i < length xs → has_number xs (get_or xs i 0) ≡ true
has-at [] i h = absurd (omega arith)
has-at (x ∷ xs) zero h = or_left (x == x) (has_number xs x) (eq-eqb x x refl)
has-at (x ∷ xs) (suc i) h = or_right (x == get_or xs i 0) (has_number xs (get_or xs i 0)) (has-at xs i (omega arith))

-- none twice: the one at a position isn't among those before it
pub not_before : (xs : List ℕ) (i : ℕ) → are_apart xs ≡ true → i < length xs → has_number (take i xs) (get_or xs i 0) ≡ false
not_before [] i once h = absurd (omega arith)
not_before (x ∷ xs) zero once h = refl
not_before (x ∷ xs) (suc i) once h = let parts = and_parts (not (has_number xs x)) (are_apart xs) once in
    or_from (x == get_or xs i 0) (has_number (take i xs) (get_or xs i 0))
    (ne_eqb x (get_or xs i 0) (λ e. both_ways (has_number xs x) (not-true (has_number xs x) parts.0) (subst (λ k. has_number xs k ≡ true) (sym e) (has-at xs i (omega arith)))))
    (not_before xs i parts.1 (omega arith))

-- one place more
pub has-take_more : (xs : List ℕ) (i b : ℕ) → i < length xs → has_number (take (i + 1) xs) b ≡ (has_number (take i xs) b || (get_or xs i 0 == b))
has-take_more xs i b h = ap (λ ys. has_number ys b) (take_more xs i 0 h) ∙ has-push (take i xs) (get_or xs i 0) b
