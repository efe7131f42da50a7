-- What a root reaches is closed under pairs, and is the least such set.
use Rattle.std.proofs.Common.{◌≡◌, ℕ, zero, suc, ◌+◌, ◌<◌, ◌≤◌, true, false, cond, ◌&&◌, ◌==◌, List, [], ◌∷◌, length, refl, sym, ◌∙◌, ap, subst, arith, inl, inr}
use Rattle.fs_laws.proofs.Common.{and_parts, and_from, or_cases, eq-eqb, eqb-true, cases_eq, or_left, or_right, nat_tests, filter, list_any, range_with_len, holds, World, all_blocks, has_number, reach_round, reach_rounds, reach_from, IsRaw, has_number-filter, length-range, rounds_from, from_more, from_end, live_below, in_all, leads, leads_stays, leads_grows, found_any, is_under}
use Rattle.fs_laws.proofs.ListLaws.{led_by}

-- one number of a range
none_there : (root i n : ℕ) → root < i → filter (λ b. b == root) (range_with_len i n) ≡ []
none_there root i zero h = refl
none_there root i (suc n) h = let off : (i == root) ≡ false = grind (arith, nat_tests) in
    ap (λ t. cond t (i ∷ filter (λ b. b == root) (range_with_len (i + 1) n)) (filter (λ b. b == root) (range_with_len (i + 1) n))) off ∙ none_there root (i + 1) n (omega arith)

one_there : (root i n : ℕ) → i ≤ root → root < i + n → root ∷ [] ≡ filter (λ b. b == root) (range_with_len i n)
one_there root i zero h k = absurd (omega arith)
one_there root i (suc n) h k = elim (cases_eq i root) [
  | inl same ↦ sym (ap (λ t. cond t (i ∷ filter (λ b. b == root) (range_with_len (i + 1) n)) (filter (λ b. b == root) (range_with_len (i + 1) n))) (eq-eqb i root same)
      ∙ (ap (λ xs. i ∷ xs) (none_there root (i + 1) n (omega arith)) ∙ ap (λ c. c ∷ []) same))
  | inr other ↦ let off : (i == root) ≡ false = grind (arith, nat_tests) in
      one_there root (i + 1) n (omega arith) (omega arith) ∙ sym (ap (λ t. cond t (i ∷ filter (λ b. b == root) (range_with_len (i + 1) n)) (filter (λ b. b == root) (range_with_len (i + 1) n))) off)
]

-- the least set: what holds of the root, and of targets with their sources, holds of all that is reached
pub each_under : (w : World) (root : ℕ) (P : ℕ → Type 0) → P root → ((a b : ℕ) → holds w.pairs a b ≡ true → P a → P b) → (b : ℕ) → is_under w root b ≡ true → P b
each_under w root P first on b h = in_rounds w.geometry.blocks b h
  where
    in_start : (b : ℕ) → has_number (root ∷ []) b ≡ true → P b
    in_start b h = elim (or_cases (root == b) false h) [ inl same ↦ subst P (eqb-true root b same) first | inr never ↦ absurd (cc) ]

    one_more : (xs : List ℕ) → ((c : ℕ) → has_number xs c ≡ true → P c) → (b : ℕ) → has_number (reach_round w xs) b ≡ true → P b
    one_more xs each b h =
        let parts = and_parts (has_number (all_blocks w) b) (leads w xs b) (sym (has_number-filter (leads w xs) (all_blocks w) b) ∙ h) in
        elim (or_cases (has_number xs b) (list_any (λ e. (e.1 == b) && has_number xs e.0) w.pairs) parts.1) [
          | inl old ↦ each b old
          | inr led ↦ let found = found_any xs b w.pairs led in on found.0 b found.1 (each found.0 found.2)
        ]

    in_rounds : (r : ℕ) (b : ℕ) → has_number (reach_rounds w (root ∷ []) r) b ≡ true → P b
    in_rounds zero b h = in_start b h
    in_rounds (suc r) b h = one_more (reach_rounds w (root ∷ []) r) (λ c m. in_rounds r c m) b h

module _ (w : World) (raw : IsRaw w) (root : ℕ) (primary : root < w.geometry.primaries) where
  begins : root ∷ [] ≡ filter (λ b. b == root) (all_blocks w)
  begins = one_there root 0 (length w.blocks) (omega arith) (omega (arith, primary, raw.sized.lawful.primaries.2, raw.sized.each_block))

  rounds_are : (r : ℕ) → reach_rounds w (root ∷ []) r ≡ rounds_from (all_blocks w) (root ∷ []) (λ b. b == root) (leads w) r
  rounds_are zero = refl
  rounds_are (suc r) = ap (reach_round w) (rounds_are r)

  more : (r : ℕ) (b : ℕ) → has_number (reach_rounds w (root ∷ []) r) b ≡ true → has_number (reach_rounds w (root ∷ []) (suc r)) b ≡ true
  more r b h = ap (λ xs. has_number xs b) (rounds_are (suc r)) ∙ from_more (all_blocks w) (root ∷ []) (λ b. b == root) (leads w) begins (leads_stays w) (leads_grows w) r b (ap (λ xs. has_number xs b) (sym (rounds_are r)) ∙ h)

  closed : reach_round w (reach_from w (root ∷ [])) ≡ reach_from w (root ∷ [])
  closed =
      let n = length (all_blocks w) in
      let count : w.geometry.blocks ≡ length (all_blocks w) = sym raw.sized.each_block ∙ sym (length-range 0 (length w.blocks)) in
      ap (λ k. reach_rounds w (root ∷ []) (suc k)) count ∙ rounds_are (suc n)
      ∙ from_end (all_blocks w) (root ∷ []) (λ b. b == root) (leads w) begins (leads_stays w) (leads_grows w)
      ∙ sym (rounds_are n) ∙ ap (reach_rounds w (root ∷ [])) (sym count)

  pub root_under : is_under w root root ≡ true
  root_under = in_round w.geometry.blocks
    where
      in_round : (r : ℕ) → has_number (reach_rounds w (root ∷ []) r) root ≡ true
      in_round zero = or_left (root == root) _ (eq-eqb root root refl)
      in_round (suc r) = more r root (in_round r)

  -- the target of a pair from there is there
  pub target_under : (a b : ℕ) → holds w.pairs a b ≡ true → is_under w root a ≡ true → is_under w root b ≡ true
  target_under a b h k =
      let live = raw.targets a b h in
      ap (λ xs. has_number xs b) (sym closed) ∙ has_number-filter (leads w (reach_from w (root ∷ []))) (all_blocks w) b
      ∙ and_from (has_number (all_blocks w) b) (leads w (reach_from w (root ∷ [])) b) (in_all w b (live_below w.blocks b live)) (or_right (is_under w root b) _ (led_by w.pairs (reach_from w (root ∷ [])) a b h k))
