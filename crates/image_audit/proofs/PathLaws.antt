-- What is reached is what a path leads to.
use Rattle.std.proofs.Common.{◌≡◌, ℕ, zero, suc, ◌+◌, ◌-◌, ◌<◌, ◌≤◌, true, ◌&&◌, ◌==◌, List, [], ◌∷◌, length, refl, sym, ◌∙◌, ap, subst, arith, inl, inr}
use Rattle.image_audit.proofs.Common.{and_parts, and_from, or_cases, eqb-true, or_left, or_right, cases_lt, filter, list_any, same_tests, holds, is_pair, World, all_blocks, has_number, is_led_from, reach_round, reach_rounds, reach_from, has_number-filter, length-range, rounds_from, from_end, live_below, in_all, IsPath, IsWholeWorld, ReachedByPaths}
use Rattle.disk_laws.proofs.ReachLaws.{leads, leads_stays, leads_grows, found_any}

-- the pair leads to b from one of these blocks
led : (es : List (ℕ × ℕ)) (from : List ℕ) (a b : ℕ) → holds es a b ≡ true → has_number from a ≡ true → list_any (λ e. (e.1 == b) && has_number from e.0) es ≡ true
led [] from a b h k = absurd (cc)
led (e ∷ es) from a b h k = elim (or_cases (is_pair a b e) (holds es a b) h) [
  | inl here ↦ let at = and_parts (e.0 == a) (e.1 == b) here in
      or_left ((e.1 == b) && has_number from e.0) _ (and_from (e.1 == b) (has_number from e.0) at.1 (subst (λ c. has_number from c ≡ true) (sym (eqb-true e.0 a at.0)) k))
  | inr later ↦ or_right ((e.1 == b) && has_number from e.0) _ (led es from a b later k)
]

module _ (w : World) (roots : List ℕ) (whole : IsWholeWorld w) (inside : (b : ℕ) → has_number roots b ≡ true → b < w.geometry.blocks) where
  below_in : (b : ℕ) → b < w.geometry.blocks → has_number (all_blocks w) b ≡ true
  below_in b h = in_all w b (omega (arith, whole.each_block))

  -- what a round has
  round_is : (xs : List ℕ) (b : ℕ) → has_number (reach_round w xs) b ≡ (has_number (all_blocks w) b && leads w xs b)
  round_is xs b = has_number-filter (leads w xs) (all_blocks w) b

  -- ---- paths as long as there are rounds

  -- what a round has, a path leads to that is no longer than there were rounds
  pub path_of_round : (r b : ℕ) → has_number (reach_rounds w roots r) b ≡ true → (n : ℕ) × (n ≤ r) × IsPath w roots n b
  path_of_round zero b h = (zero, omega arith, h)
  path_of_round (suc r) b h =
      let xs = reach_rounds w roots r in
      elim (or_cases (has_number xs b) (is_led_from w xs b) (and_parts (has_number (all_blocks w) b) (leads w xs b) (sym (round_is xs b) ∙ h)).1) [
        | inl old ↦ let p = path_of_round r b old in (p.0, omega (arith, p.1), p.2)
        | inr new ↦ let found = found_any xs b w.pairs new in
            let p = path_of_round r found.0 found.2 in (suc p.0, omega (arith, p.1), (found.0, p.2, found.1))
      ]

  -- and the other way
  round_of_path : (n b : ℕ) → IsPath w roots n b → has_number (reach_rounds w roots n) b ≡ true
  round_of_path zero b p = p
  round_of_path (suc n) b p =
      let xs = reach_rounds w roots n in
      let before = round_of_path n p.0 p.1 in
      let live = whole.targets p.0 b p.2 in
      round_is xs b ∙ and_from (has_number (all_blocks w) b) (leads w xs b) (in_all w b (live_below w.blocks b live))
      (or_right (has_number xs b) (is_led_from w xs b) (led w.pairs xs p.0 b p.2 before))

  -- rounds only add
  within : (r b : ℕ) → has_number (reach_rounds w roots r) b ≡ true → has_number (all_blocks w) b ≡ true
  within zero b h = below_in b (inside b h)
  within (suc r) b h = (and_parts (has_number (all_blocks w) b) (leads w (reach_rounds w roots r) b) (sym (round_is (reach_rounds w roots r) b) ∙ h)).0

  more : (r b : ℕ) → has_number (reach_rounds w roots r) b ≡ true → has_number (reach_rounds w roots (suc r)) b ≡ true
  more r b h = round_is (reach_rounds w roots r) b ∙ and_from (has_number (all_blocks w) b) (leads w (reach_rounds w roots r) b) (within r b h) (leads_stays w (reach_rounds w roots r) b h)

  many_more : (k r t b : ℕ) → k + r ≡ t → has_number (reach_rounds w roots r) b ≡ true → has_number (reach_rounds w roots t) b ≡ true
  many_more zero r t b e h = let same : r ≡ t = omega arith in subst (λ n. has_number (reach_rounds w roots n) b ≡ true) same h
  many_more (suc k) r t b e h = many_more k (suc r) t b (omega arith) (more r b h)

  -- a path no longer than there are blocks leads to what is reached
  pub reached_by_short : (n b : ℕ) → n ≤ w.geometry.blocks → IsPath w roots n b → has_number (reach_from w roots) b ≡ true
  reached_by_short n b le p =
      many_more (w.geometry.blocks - n) n w.geometry.blocks b (omega arith) (round_of_path n b p)

  -- ---- as many rounds as there are blocks are enough

  -- the roots, ascending
  abbrev sorted : List ℕ
  sorted = filter (has_number roots) (all_blocks w)

  same_start : (b : ℕ) → has_number sorted b ≡ has_number roots b
  same_start b = has_number-filter (has_number roots) (all_blocks w) b ∙ same_tests (has_number (all_blocks w) b && has_number roots b) (has_number roots b)
      (λ h. (and_parts (has_number (all_blocks w) b) (has_number roots b) h).1)
      (λ h. and_from (has_number (all_blocks w) b) (has_number roots b) (below_in b (inside b h)) h)

  same_rounds : (r b : ℕ) → has_number (reach_rounds w sorted r) b ≡ has_number (reach_rounds w roots r) b
  same_rounds zero b = same_start b
  same_rounds (suc r) b =
      let xs = reach_rounds w sorted r in
      let ys = reach_rounds w roots r in
      round_is xs b ∙ (ap (λ t. has_number (all_blocks w) b && t) (same_tests (leads w xs b) (leads w ys b)
      (leads_grows w xs ys (λ c h. sym (same_rounds r c) ∙ h) b) (leads_grows w ys xs (λ c h. same_rounds r c ∙ h) b)) ∙ sym (round_is ys b))

  rounds_are : (r : ℕ) → reach_rounds w sorted r ≡ rounds_from (all_blocks w) sorted (has_number roots) (leads w) r
  rounds_are zero = refl
  rounds_are (suc r) = ap (reach_round w) (rounds_are r)

  ends : reach_rounds w sorted (suc w.geometry.blocks) ≡ reach_rounds w sorted w.geometry.blocks
  ends =
      let n = length (all_blocks w) in
      let count : w.geometry.blocks ≡ length (all_blocks w) = sym whole.each_block ∙ sym (length-range 0 (length w.blocks)) in
      ap (λ k. reach_rounds w sorted (suc k)) count ∙ rounds_are (suc n)
      ∙ from_end (all_blocks w) sorted (has_number roots) (leads w) refl (leads_stays w) (leads_grows w)
      ∙ sym (rounds_are n) ∙ ap (reach_rounds w sorted) (sym count)

  ended : (k r t : ℕ) → k + r ≡ t → reach_rounds w sorted r ≡ reach_rounds w sorted w.geometry.blocks → reach_rounds w sorted t ≡ reach_rounds w sorted w.geometry.blocks
  ended zero r t e h = let same : r ≡ t = omega arith in subst (λ n. reach_rounds w sorted n ≡ reach_rounds w sorted w.geometry.blocks) same h
  ended (suc k) r t e h = ended k (suc r) t (omega arith) (ap (reach_round w) h ∙ ends)

  -- a path of any length does
  pub reached_by_path : (n b : ℕ) → IsPath w roots n b → has_number (reach_from w roots) b ≡ true
  reached_by_path n b p = elim (cases_lt w.geometry.blocks n) [
    | inr short ↦ reached_by_short n b short p
    | inl long ↦
        sym (same_rounds w.geometry.blocks b) ∙ (ap (λ xs. has_number xs b) (sym (ended (n - w.geometry.blocks) w.geometry.blocks n (omega arith) refl))
        ∙ (same_rounds n b ∙ round_of_path n b p))
  ]

  pub reached_at_path : (b : ℕ) → has_number (reach_from w roots) b ≡ true → (n : ℕ) × IsPath w roots n b
  reached_at_path b h = let p = path_of_round w.geometry.blocks b h in (p.0, p.2)

pub reached_by_paths : ReachedByPaths
reached_by_paths w roots whole inside b = (reached_at_path w roots whole inside b, λ p. reached_by_path w roots whole inside p.0 b p.1)
