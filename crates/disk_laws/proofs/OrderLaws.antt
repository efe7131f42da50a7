-- The reclaimed blocks stand in an order.
use Rattle.std.proofs.Common.{◌≡◌, ℕ, zero, suc, ◌+◌, nat_le, nat_lt, arith, Bool, true, false, not, ◌&&◌, ◌||◌, ◌==◌, cond, length, List, [], ◌∷◌, ◌++◌, refl, sym, ◌∙◌, ap, subst, append_assoc, append-nil}
use Rattle.disk_laws.proofs.Common.{and_parts, and_from, eq-eqb, not-true, or_left, or_right, nat_tests, filter, range_with_len, holds, World, is_live, is_primary, has_number, all_blocks, are_apart, is_led_only_from, hangs_on, doomed_rounds, InOrder, and_false, all_of_held}
use Rattle.std.proofs.lemmas.List.Folds.{list_any-append}
use Rattle.disk_laws.proofs.GraphLaws.{has_number-filter, has_number-range}
use Rattle.disk_laws.proofs.DoomLaws.{doomed_more}

-- what a round adds
abbrev pub added : World → ℕ → List ℕ
added w r = filter (λ b. not (has_number (doomed_rounds w r) b)) (doomed_rounds w (suc r))

abbrev pub by_round : World → ℕ → List ℕ
by_round w zero = []
by_round w (suc r) = by_round w r ++ added w r

join : (s t : Bool) → (s ≡ true → t ≡ true) → (s || (t && not s)) ≡ t
join true true h = refl
join true false h = sym (h refl)
join false true h = refl
join false false h = refl

pub has-by_round : (w : World) (r b : ℕ) → has_number (by_round w r) b ≡ has_number (doomed_rounds w r) b
has-by_round w zero b = refl
has-by_round w (suc r) b =
    list_any-append (λ x. x == b) (by_round w r) (added w r)
    ∙ ap (λ s. s || has_number (added w r) b) (has-by_round w r b)
    ∙ ap (λ t. has_number (doomed_rounds w r) b || t) (has_number-filter (λ c. not (has_number (doomed_rounds w r) c)) (doomed_rounds w (suc r)) b)
    ∙ join (has_number (doomed_rounds w r) b) (has_number (doomed_rounds w (suc r)) b) (doomed_more w r b)

in_order-append : (es : List (ℕ × ℕ)) (before xs ys : List ℕ) → InOrder es before xs → InOrder es (before ++ xs) ys → InOrder es before (xs ++ ys)
in_order-append es before [] ys p q = subst (λ zs. InOrder es zs ys) (append-nil before) q
in_order-append es before (x ∷ xs) ys p q = (p.0, in_order-append es (before ++ x ∷ []) xs ys p.1 (subst (λ zs. InOrder es zs ys) (sym (append_assoc before (x ∷ []) xs)) q))

has_longer : (xs ys : List ℕ) (a : ℕ) → has_number xs a ≡ true → has_number (xs ++ ys) a ≡ true
has_longer xs ys a h = list_any-append (λ x. x == a) xs ys ∙ or_left (has_number xs a) (has_number ys a) h

-- blocks whose pairs all come from those before them
in_order-any : (es : List (ℕ × ℕ)) (before xs : List ℕ) → ((b : ℕ) → has_number xs b ≡ true → (a : ℕ) → holds es a b ≡ true → has_number before a ≡ true) → InOrder es before xs
in_order-any es before [] h = tt
in_order-any es before (x ∷ xs) h = (
  λ a e. h x (or_left (x == x) (has_number xs x) (eq-eqb x x refl)) a e,
  in_order-any es (before ++ x ∷ []) xs (λ b m a e. has_longer before (x ∷ []) a (h b (or_right (x == b) (has_number xs b) m) a e)),
)

source_before : (w : World) (r a b : ℕ) → has_number (added w r) b ≡ true → holds w.pairs a b ≡ true → has_number (by_round w r) a ≡ true
source_before w r a b m e =
    let late = (and_parts (has_number (doomed_rounds w (suc r)) b) (not (has_number (doomed_rounds w r) b)) (sym (has_number-filter (λ c. not (has_number (doomed_rounds w r) c)) (doomed_rounds w (suc r)) b) ∙ m)).0 in
    let hangs = (and_parts (has_number (all_blocks w) b) (hangs_on w (doomed_rounds w r) b) (sym (has_number-filter (hangs_on w (doomed_rounds w r)) (all_blocks w) b) ∙ late)).1 in
    let each = (and_parts (is_live w b && not (is_primary w b)) (is_led_only_from w (doomed_rounds w r) b) hangs).1 in
    let one = all_of_held (λ f. not (f.1 == b) || has_number (doomed_rounds w r) f.0) w.pairs a b each e in
    has-by_round w r a ∙ only (b == b) (has_number (doomed_rounds w r) a) (eq-eqb b b refl) one
  where
    only : (s t : Bool) → s ≡ true → (not s || t) ≡ true → t ≡ true
    only true t p q = q
    only false t p q = absurd (cc)

pub rounds_in_order : (w : World) (r : ℕ) → InOrder w.pairs [] (by_round w r)
rounds_in_order w zero = tt
rounds_in_order w (suc r) = in_order-append w.pairs [] (by_round w r) (added w r) (rounds_in_order w r) (in_order-any w.pairs (by_round w r) (added w r) (λ b m a e. source_before w r a b m e))

-- ---- each once

pub apart-filter : (p : ℕ → Bool) (xs : List ℕ) → are_apart xs ≡ true → are_apart (filter p xs) ≡ true
apart-filter p [] h = refl
apart-filter p (x ∷ xs) h = let parts = and_parts (not (has_number xs x)) (are_apart xs) h in
    elim (p x) as (λ t. are_apart (cond t (x ∷ filter p xs) (filter p xs)) ≡ true) [
      | true ↦ and_from (not (has_number (filter p xs) x)) (are_apart (filter p xs)) (ap not (has_number-filter p xs x ∙ ap (λ t. t && p x) (not-true (has_number xs x) parts.0))) (apart-filter p xs parts.1)
      | false ↦ apart-filter p xs parts.1
    ]

pub apart-range : (i n : ℕ) → are_apart (range_with_len i n) ≡ true
apart-range i zero = refl
apart-range i (suc n) = and_from (not (has_number (range_with_len (i + 1) n) i)) (are_apart (range_with_len (i + 1) n)) (ap not (has_number-range (i + 1) n i ∙ below)) (apart-range (i + 1) n)
  where
    below : (nat_le (i + 1) i && nat_lt i ((i + 1) + n)) ≡ false
    below = grind (arith, nat_tests)

pub apart-append : (xs ys : List ℕ) → are_apart xs ≡ true → are_apart ys ≡ true → ((b : ℕ) → has_number xs b ≡ true → has_number ys b ≡ false) → are_apart (xs ++ ys) ≡ true
apart-append [] ys p q h = q
apart-append (x ∷ xs) ys p q h = let parts = and_parts (not (has_number xs x)) (are_apart xs) p in
    and_from (not (has_number (xs ++ ys) x)) (are_apart (xs ++ ys))
    (ap not (list_any-append (λ y. y == x) xs ys ∙ (ap (λ t. t || has_number ys x) (not-true (has_number xs x) parts.0) ∙ h x (or_left (x == x) (has_number xs x) (eq-eqb x x refl)))))
    (apart-append xs ys parts.1 q (λ b m. h b (or_right (x == b) (has_number xs b) m)))

doomed_apart : (w : World) (r : ℕ) → are_apart (doomed_rounds w r) ≡ true
doomed_apart w zero = refl
doomed_apart w (suc r) = apart-filter (hangs_on w (doomed_rounds w r)) (all_blocks w) (apart-range 0 (length w.blocks))

pub rounds_apart : (w : World) (r : ℕ) → are_apart (by_round w r) ≡ true
rounds_apart w zero = refl
rounds_apart w (suc r) = apart-append (by_round w r) (added w r) (rounds_apart w r) (apart-filter (λ b. not (has_number (doomed_rounds w r) b)) (doomed_rounds w (suc r)) (doomed_apart w (suc r)))
    (λ b m. has_number-filter (λ c. not (has_number (doomed_rounds w r) c)) (doomed_rounds w (suc r)) b ∙ (ap (λ t. has_number (doomed_rounds w (suc r)) b && not t) (sym (has-by_round w r b) ∙ m) ∙ and_false (has_number (doomed_rounds w (suc r)) b)))
