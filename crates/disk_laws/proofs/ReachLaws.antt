-- What is reached is closed under pairs, and the world on it is valid.
use Rattle.std.proofs.Common.{◌≡◌, ℕ, zero, suc, ◌+◌, ◌-◌, ◌<◌, ◌≤◌, Bool, true, false, cond, ◌&&◌, ◌||◌, ◌==◌, nat_lt, nat_le, List, [], ◌∷◌, length, refl, sym, ◌∙◌, ap, subst, arith, inl, inr}
use Rattle.disk_laws.proofs.Common.{and_parts, and_from, or_cases, eq-eqb, eqb-true, ltb-true, or_left, or_right, nat_tests, filter, list_any, range_with_len, holds, is_pair, World, is_live, all_blocks, primary_blocks, has_number, is_led_from, reach_round, reach_rounds, reach_from, reach, swept, IsRaw, IsValid}
use Rattle.disk_laws.proofs.GraphLaws.{has_number-filter, has_number-range, length-range, rounds_from, from_more, from_end}
use Rattle.disk_laws.proofs.DoomLaws.{live_below, in_all, restricted_is_valid}

-- reached, or led to from what is
abbrev pub leads : World → List ℕ → ℕ → Bool
leads w xs b = has_number xs b || is_led_from w xs b

pub any_more : (xs ys : List ℕ) (b : ℕ) → ((c : ℕ) → has_number xs c ≡ true → has_number ys c ≡ true) → (es : List (ℕ × ℕ)) → list_any (λ e. (e.1 == b) && has_number xs e.0) es ≡ true → list_any (λ e. (e.1 == b) && has_number ys e.0) es ≡ true
any_more xs ys b more [] h = absurd (cc)
any_more xs ys b more (e ∷ es) h = elim (or_cases ((e.1 == b) && has_number xs e.0) (list_any (λ f. (f.1 == b) && has_number xs f.0) es) h) [
  | inl here ↦ let parts = and_parts (e.1 == b) (has_number xs e.0) here in or_left _ _ (and_from (e.1 == b) (has_number ys e.0) parts.0 (more e.0 parts.1))
  | inr later ↦ or_right ((e.1 == b) && has_number ys e.0) _ (any_more xs ys b more es later)
]

pub leads_stays : (w : World) (xs : List ℕ) (b : ℕ) → has_number xs b ≡ true → leads w xs b ≡ true
leads_stays w xs b h = or_left (has_number xs b) _ h

pub leads_grows : (w : World) (xs ys : List ℕ) → ((b : ℕ) → has_number xs b ≡ true → has_number ys b ≡ true) → (b : ℕ) → leads w xs b ≡ true → leads w ys b ≡ true
leads_grows w xs ys more b h = elim (or_cases (has_number xs b) (list_any (λ e. (e.1 == b) && has_number xs e.0) w.pairs) h) [
  | inl here ↦ or_left (has_number ys b) _ (more b here)
  | inr led ↦ or_right (has_number ys b) _ (any_more xs ys b more w.pairs led)
]

-- the first numbers of all
prefix : (p i n : ℕ) → i ≤ p → p ≤ i + n → range_with_len i (p - i) ≡ filter (λ b. nat_lt b p) (range_with_len i n)
prefix p i zero h k = let e : p - i ≡ 0 = omega arith in ap (range_with_len i) e
prefix p i (suc n) h k = elim (nat_lt i p) as (λ t. nat_lt i p ≡ t → range_with_len i (p - i) ≡ cond t (i ∷ filter (λ b. nat_lt b p) (range_with_len (i + 1) n)) (filter (λ b. nat_lt b p) (range_with_len (i + 1) n))) [
  | true ↦ λ e. let below : i < p = ltb-true i p e in let less : p - i ≡ suc (p - (i + 1)) = omega arith in
      ap (range_with_len i) less ∙ ap (λ xs. i ∷ xs) (prefix p (i + 1) n (omega arith) (omega arith))
  | false ↦ λ e. let none : p - i ≡ 0 = grind (arith, nat_tests) in ap (range_with_len i) none ∙ sym (all_above (i + 1) n (grind (arith, nat_tests)))
] refl
  where
    all_above : (j m : ℕ) → p ≤ j → filter (λ b. nat_lt b p) (range_with_len j m) ≡ []
    all_above j zero g = refl
    all_above j (suc m) g = let no : nat_lt j p ≡ false = grind (arith, nat_tests) in
        ap (λ t. cond t (j ∷ filter (λ b. nat_lt b p) (range_with_len (j + 1) m)) (filter (λ b. nat_lt b p) (range_with_len (j + 1) m))) no ∙ all_above (j + 1) m (omega arith)

pub found_any : (xs : List ℕ) (b : ℕ) (es : List (ℕ × ℕ)) → list_any (λ e. (e.1 == b) && has_number xs e.0) es ≡ true → (a : ℕ) × (holds es a b ≡ true) × (has_number xs a ≡ true)
found_any xs b [] h = absurd (cc)
found_any xs b (e ∷ es) h = elim (or_cases ((e.1 == b) && has_number xs e.0) (list_any (λ f. (f.1 == b) && has_number xs f.0) es) h) [
  | inl here ↦ let parts = and_parts (e.1 == b) (has_number xs e.0) here in (e.0, or_left (is_pair e.0 b e) _ (and_from (e.0 == e.0) (e.1 == b) (eq-eqb e.0 e.0 refl) parts.0), parts.1)
  | inr later ↦ let rest = found_any xs b es later in (rest.0, or_right (is_pair rest.0 b e) _ rest.1, rest.2)
]

-- ---- from any start

module _ (w : World) (raw : IsRaw w) (start : List ℕ) (first : ℕ → Bool) (begins : start ≡ filter first (all_blocks w)) where
  rounds_are : (r : ℕ) → reach_rounds w start r ≡ rounds_from (all_blocks w) start first (leads w) r
  rounds_are zero = refl
  rounds_are (suc r) = ap (reach_round w) (rounds_are r)

  pub from_reach_more : (r : ℕ) (b : ℕ) → has_number (reach_rounds w start r) b ≡ true → has_number (reach_rounds w start (suc r)) b ≡ true
  from_reach_more r b h = ap (λ xs. has_number xs b) (rounds_are (suc r)) ∙ from_more (all_blocks w) start first (leads w) begins (leads_stays w) (leads_grows w) r b (ap (λ xs. has_number xs b) (sym (rounds_are r)) ∙ h)

  pub from_is_closed : reach_round w (reach_from w start) ≡ reach_from w start
  from_is_closed =
      let n = length (all_blocks w) in
      let count : w.geometry.blocks ≡ length (all_blocks w) = sym raw.sized.each_block ∙ sym (length-range 0 (length w.blocks)) in
      ap (λ k. reach_rounds w start (suc k)) count ∙ rounds_are (suc n)
      ∙ from_end (all_blocks w) start first (leads w) begins (leads_stays w) (leads_grows w)
      ∙ sym (rounds_are n) ∙ ap (reach_rounds w start) (sym count)

  -- the target of a pair from a reached block is reached
  pub from_target_reached : (a b : ℕ) → holds w.pairs a b ≡ true → has_number (reach_from w start) a ≡ true → has_number (reach_from w start) b ≡ true
  from_target_reached a b h k =
      let live = raw.targets a b h in
      ap (λ xs. has_number xs b) (sym from_is_closed) ∙ has_number-filter (leads w (reach_from w start)) (all_blocks w) b
      ∙ and_from (has_number (all_blocks w) b) (leads w (reach_from w start) b) (in_all w b (live_below w.blocks b live)) (or_right (has_number (reach_from w start) b) _ (led w.pairs h))
    where
      led : (es : List (ℕ × ℕ)) → holds es a b ≡ true → list_any (λ e. (e.1 == b) && has_number (reach_from w start) e.0) es ≡ true
      led [] g = absurd (cc)
      led (e ∷ es) g = elim (or_cases (is_pair a b e) (holds es a b) g) [
        | inl here ↦ let at = and_parts (e.0 == a) (e.1 == b) here in or_left ((e.1 == b) && has_number (reach_from w start) e.0) _ (and_from (e.1 == b) (has_number (reach_from w start) e.0) at.1 (subst (λ c. has_number (reach_from w start) c ≡ true) (sym (eqb-true e.0 a at.0)) k))
        | inr later ↦ or_right ((e.1 == b) && has_number (reach_from w start) e.0) _ (led es later)
      ]

  -- a live block of the start is reached
  pub from_start_reached : (b : ℕ) → is_live w b ≡ true → first b ≡ true → has_number (reach_from w start) b ≡ true
  from_start_reached b live h = at w.geometry.blocks
    where
      at : (r : ℕ) → has_number (reach_rounds w start r) b ≡ true
      at zero = ap (λ xs. has_number xs b) begins ∙ has_number-filter first (all_blocks w) b ∙ and_from (has_number (all_blocks w) b) (first b) (in_all w b (live_below w.blocks b live)) h
      at (suc r) = from_reach_more r b (at r)

-- ---- from the primary blocks

module _ (w : World) (raw : IsRaw w) where
  begins : primary_blocks w ≡ filter (λ b. nat_lt b w.geometry.primaries) (all_blocks w)
  begins = let e : w.geometry.primaries ≡ w.geometry.primaries - 0 = omega arith in ap (range_with_len 0) e ∙ prefix w.geometry.primaries 0 (length w.blocks) (omega arith) (omega (arith, raw.sized.lawful.primaries.2, raw.sized.each_block))

  pub reach_more : (r : ℕ) (b : ℕ) → has_number (reach_rounds w (primary_blocks w) r) b ≡ true → has_number (reach_rounds w (primary_blocks w) (suc r)) b ≡ true
  reach_more = from_reach_more w raw (primary_blocks w) (λ b. nat_lt b w.geometry.primaries) begins

  pub reach_is_closed : reach_round w (reach w) ≡ reach w
  reach_is_closed = from_is_closed w raw (primary_blocks w) (λ b. nat_lt b w.geometry.primaries) begins

  pub target_reached : (a b : ℕ) → holds w.pairs a b ≡ true → has_number (reach w) a ≡ true → has_number (reach w) b ≡ true
  target_reached = from_target_reached w raw (primary_blocks w) (λ b. nat_lt b w.geometry.primaries) begins

  primary_in : (r b : ℕ) → b < w.geometry.primaries → has_number (reach_rounds w (primary_blocks w) r) b ≡ true
  primary_in zero b h = has_number-range 0 w.geometry.primaries b ∙ grind (arith, nat_tests)
  primary_in (suc r) b h = reach_more r b (primary_in r b h)

  pub primary_reached : (b : ℕ) → b < w.geometry.primaries → has_number (reach w) b ≡ true
  primary_reached b h = primary_in w.geometry.blocks b h

  -- a reached block that isn't primary is led to from one
  led_from : (r b : ℕ) → w.geometry.primaries ≤ b → has_number (reach_rounds w (primary_blocks w) r) b ≡ true → (a : ℕ) × (holds w.pairs a b ≡ true) × (has_number (reach_rounds w (primary_blocks w) r) a ≡ true)
  led_from zero b le h = absurd (outside (sym (has_number-range 0 w.geometry.primaries b) ∙ h))
    where
      outside : (nat_le 0 b && nat_lt b (0 + w.geometry.primaries)) ≡ true → ⊥
      outside g = grind (arith, nat_tests)
  led_from (suc r) b le h =
      let xs = reach_rounds w (primary_blocks w) r in
      let passes = (and_parts (has_number (all_blocks w) b) (leads w xs b) (sym (has_number-filter (leads w xs) (all_blocks w) b) ∙ h)).1 in
      elim (or_cases (has_number xs b) (list_any (λ e. (e.1 == b) && has_number xs e.0) w.pairs) passes) [
        | inl old ↦ let before = led_from r b le old in (before.0, before.1, reach_more r before.0 before.2)
        | inr new ↦ let found = found_any xs b w.pairs new in (found.0, found.1, reach_more r found.0 found.2)
      ]

  pub reached_is_led_to : (b : ℕ) → w.geometry.primaries ≤ b → has_number (reach w) b ≡ true → (a : ℕ) × (holds w.pairs a b ≡ true) × (has_number (reach w) a ≡ true)
  reached_is_led_to b le h = led_from w.geometry.blocks b le h

  pub swept_is_valid : IsValid (swept w)
  swept_is_valid = restricted_is_valid w (has_number (reach w)) raw primary_reached target_reached (λ b le k _. reached_is_led_to b le k)
