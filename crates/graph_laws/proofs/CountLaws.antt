-- Counts of the pairs, and of the numbers, that pass a test.
use Rattle.std.proofs.Common.{◌≡◌, ℕ, zero, suc, ◌+◌, ◌<◌, ◌≤◌, Bool, true, false, not, cond, ◌&&◌, ◌||◌, ◌==◌, nat_lt, nat_le, List, [], ◌∷◌, length, refl, sym, ◌∙◌, ap, subst, arith, ◌⊎◌, inl, inr}
use Rattle.graph_laws.proofs.Common.{eq-eqb, eqb-true, ne_eqb, and_parts, and_right, not-true, not-false, both_ways, cases_Bool, cases_eq, false_from_ne_true, or_left, or_right, nat_tests, filter_agree, filter, list_all, range_with_len, is_pair, holds, is_rising, has_number, are_apart, count-without_pair, all_of_held, one_fails, length-filter_le, has_number-filter, has_number-range, length-range}
use Rattle.tsd_model.proofs.ValueLaws.{and_true}

-- ---- pairs that pass

pub filter_twice : (p q : (ℕ × ℕ) → Bool) (es : List (ℕ × ℕ)) → filter p (filter q es) ≡ filter (λ e. p e && q e) es
filter_twice p q [] = refl
filter_twice p q (e ∷ es) = let rest = filter_twice p q es in
    elim (q e) as (λ t. filter p (cond t (e ∷ filter q es) (filter q es)) ≡ cond (p e && t) (e ∷ filter (λ f. p f && q f) es) (filter (λ f. p f && q f) es)) [
      | true ↦ elim (p e) as (λ u. cond u (e ∷ filter p (filter q es)) (filter p (filter q es)) ≡ cond (u && true) (e ∷ filter (λ f. p f && q f) es) (filter (λ f. p f && q f) es)) [ true ↦ ap (λ fs. e ∷ fs) rest | false ↦ rest ]
      | false ↦ elim (p e) as (λ u. filter p (filter q es) ≡ cond (u && false) (e ∷ filter (λ f. p f && q f) es) (filter (λ f. p f && q f) es)) [ true ↦ rest | false ↦ rest ]
    ]

-- a test that one held pair less passes
pub count_but_pair : (p : (ℕ × ℕ) → Bool) (es : List (ℕ × ℕ)) (a b : ℕ) → is_rising es ≡ true → holds es a b ≡ true
    → length (filter p es) ≡ cond (p (a, b)) 1 0 + length (filter (λ e. p e && not (is_pair a b e)) es)
count_but_pair p es a b r h = count-without_pair p es a b r h ∙ ap (λ fs. cond (p (a, b)) 1 0 + length fs) (filter_twice p (λ e. not (is_pair a b e)) es)

-- ---- whether a block is led to

pub led_or_alone : (es : List (ℕ × ℕ)) (b : ℕ) → ((a : ℕ) × (holds es a b ≡ true)) ⊎ ((a : ℕ) → holds es a b ≡ false)
led_or_alone es b = elim (cases_Bool (list_all (λ e. not (e.1 == b)) es)) [
  | inl none ↦ inr (λ a. false_from_ne_true (holds es a b) (λ held. both_ways (b == b) (not-true (b == b) (all_of_held (λ e. not (e.1 == b)) es a b none held)) (eq-eqb b b refl)))
  | inr some ↦ let found = one_fails (λ e. not (e.1 == b)) es some in
      inl (found.0, subst (λ k. holds es found.0 k ≡ true) (eqb-true found.1 b (not-false (found.1 == b) found.3)) found.2)
]

-- ---- numbers that pass

filter_in : (p q : ℕ → Bool) (xs : List ℕ) → ((x : ℕ) → has_number xs x ≡ true → p x ≡ q x) → filter p xs ≡ filter q xs
filter_in p q [] h = refl
filter_in p q (x ∷ xs) h =
    let here : p x ≡ q x = h x (or_left (x == x) (has_number xs x) (eq-eqb x x refl)) in
    let rest : filter p xs ≡ filter q xs = filter_in p q xs (λ y m. h y (or_right (x == y) (has_number xs y) m)) in
    ap (λ t. cond t (x ∷ filter p xs) (filter p xs)) here ∙ ap (λ ys. cond (q x) (x ∷ ys) ys) rest

-- a filter keeps what it keeps
pub filter_self : (p : ℕ → Bool) (xs : List ℕ) → filter (has_number (filter p xs)) xs ≡ filter p xs
filter_self p xs = filter_in (has_number (filter p xs)) p xs (λ x m. has_number-filter p xs x ∙ ap (λ t. t && p x) m)

-- one number of a range less
pub count_but_number : (p : ℕ → Bool) (i n b : ℕ) → i ≤ b → b < i + n → p b ≡ true
    → length (filter p (range_with_len i n)) ≡ suc (length (filter (λ x. p x && not (x == b)) (range_with_len i n)))
count_but_number p i zero b low high is = absurd (omega arith)
count_but_number p i (suc n) b low high is = elim (cases_eq i b) [
  | inl here ↦
      let yes_i : p i ≡ true = subst (λ k. p k ≡ true) (sym here) is in
      let no_i : (p i && not (i == b)) ≡ false = and_right (p i) (not (i == b)) (ap not (eq-eqb i b here)) in
      let rest : filter p (range_with_len (i + 1) n) ≡ filter (λ x. p x && not (x == b)) (range_with_len (i + 1) n) = filter_in p (λ x. p x && not (x == b)) (range_with_len (i + 1) n)
      (λ x m. let above = and_parts (nat_le (i + 1) x) (nat_lt x ((i + 1) + n)) (sym (has_number-range (i + 1) n x) ∙ m) in
      let other : (x == b) ≡ false = ne_eqb x b (λ e. clash x above.0 e here) in
      sym (ap (λ t. p x && not t) other ∙ and_true (p x))) in
      ap (λ t. length (cond t (i ∷ filter p (range_with_len (i + 1) n)) (filter p (range_with_len (i + 1) n)))) yes_i
      ∙ (ap (λ ys. suc (length ys)) rest
      ∙ sym (ap (λ t. suc (length (cond t (i ∷ filter (λ x. p x && not (x == b)) (range_with_len (i + 1) n)) (filter (λ x. p x && not (x == b)) (range_with_len (i + 1) n))))) no_i))
  | inr other ↦
      let rest = count_but_number p (i + 1) n b (omega arith) (omega arith) is in
      let not_b : (i == b) ≡ false = ne_eqb i b other in
      step (p i) rest ∙ sym (ap (λ t. suc (length (cond (p i && not t) (i ∷ filter (λ x. p x && not (x == b)) (range_with_len (i + 1) n)) (filter (λ x. p x && not (x == b)) (range_with_len (i + 1) n))))) not_b)
]
  where
    clash : (x : ℕ) → nat_le (i + 1) x ≡ true → x ≡ b → i ≡ b → ⊥
    clash x le e f = grind (arith, nat_tests)

    step : (t : Bool) → length (filter p (range_with_len (i + 1) n)) ≡ suc (length (filter (λ x. p x && not (x == b)) (range_with_len (i + 1) n)))
        → length (cond t (i ∷ filter p (range_with_len (i + 1) n)) (filter p (range_with_len (i + 1) n)))
        ≡ suc (length (cond (t && not false) (i ∷ filter (λ x. p x && not (x == b)) (range_with_len (i + 1) n)) (filter (λ x. p x && not (x == b)) (range_with_len (i + 1) n))))
    step true rest = ap suc rest
    step false rest = rest

-- ---- numbers below a bound, none twice, are no more than it

marked_fit : (xs : List ℕ) (n : ℕ) → are_apart xs ≡ true → ((b : ℕ) → has_number xs b ≡ true → b < n) → length (filter (has_number xs) (range_with_len 0 n)) ≡ length xs
marked_fit [] n once below = nothing (range_with_len 0 n)
  where
    nothing : (ys : List ℕ) → length (filter (has_number []) ys) ≡ 0
    nothing [] = refl
    nothing (y ∷ ys) = nothing ys
marked_fit (x ∷ xs) n once below = let parts = and_parts (not (has_number xs x)) (are_apart xs) once in
    let within : x < n = below x (or_left (x == x) (has_number xs x) (eq-eqb x x refl)) in
    count_but_number (has_number (x ∷ xs)) 0 n x (omega arith) (omega arith) (or_left (x == x) (has_number xs x) (eq-eqb x x refl))
    ∙ ap suc (ap length (filter_agree (λ y. has_number (x ∷ xs) y && not (y == x)) (has_number xs) (one (not-true (has_number xs x) parts.0)) (range_with_len 0 n))
    ∙ marked_fit xs n parts.1 (λ b h. below b (or_right (x == b) (has_number xs b) h)))
  where
    one : has_number xs x ≡ false → (y : ℕ) → (((x == y) || has_number xs y) && not (y == x)) ≡ has_number xs y
    one out y = elim (cases_eq y x) [
      | inl same ↦ and_right ((x == y) || has_number xs y) (not (y == x)) (ap not (eq-eqb y x same)) ∙ sym (ap (has_number xs) same ∙ out)
      | inr other ↦ ap (λ t. ((x == y) || has_number xs y) && not t) (ne_eqb y x other) ∙ (ap (λ t. (t || has_number xs y) && true) (ne_eqb x y (λ e. other (sym e))) ∙ and_true (has_number xs y))
    ]

pub apart_fits : (xs : List ℕ) (n : ℕ) → are_apart xs ≡ true → ((b : ℕ) → has_number xs b ≡ true → b < n) → length xs ≤ n
apart_fits xs n once below = omega (arith, marked_fit xs n once below, length-filter_le (has_number xs) (range_with_len 0 n), length-range 0 n)
