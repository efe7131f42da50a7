-- Sets that rounds build.
use Rattle.std.proofs.Common.{◌≡◌, ℕ, zero, suc, ◌+◌, ◌≤◌, Bool, true, false, cond, ◌&&◌, ◌||◌, ◌==◌, nat_lt, nat_le, List, [], ◌∷◌, ◌⊎◌, length, refl, sym, ◌∙◌, ap, subst, arith, inl, inr}
use Rattle.disk_laws.proofs.Common.{eq-eqb, eqb-true, and_parts, and_from, or_left, or_right, nat_tests, filter, range_with_len, has_number, length-filter_le, and_false}

-- of two tests, the weaker keeps the same or more
pub filter_weaker : (p q : ℕ → Bool) → ((x : ℕ) → p x ≡ true → q x ≡ true) → (xs : List ℕ) → (filter q xs ≡ filter p xs) ⊎ (suc (length (filter p xs)) ≤ length (filter q xs))
filter_weaker p q weaker [] = inl refl
filter_weaker p q weaker (x ∷ xs) = let rest = filter_weaker p q weaker xs in
    elim (p x) as (λ t. p x ≡ t → (cond (q x) (x ∷ filter q xs) (filter q xs) ≡ cond t (x ∷ filter p xs) (filter p xs)) ⊎ (suc (length (cond t (x ∷ filter p xs) (filter p xs))) ≤ length (cond (q x) (x ∷ filter q xs) (filter q xs)))) [
      | true ↦ λ e. let yes = weaker x e in subst (λ (u : Bool). (cond u (x ∷ filter q xs) (filter q xs) ≡ x ∷ filter p xs) ⊎ (suc (suc (length (filter p xs))) ≤ length (cond u (x ∷ filter q xs) (filter q xs)))) (sym yes)
          (elim rest [ inl same ↦ inl (ap (λ ys. x ∷ ys) same) | inr more ↦ inr (omega arith) ])
      | false ↦ λ e. elim (q x) as (λ u. (cond u (x ∷ filter q xs) (filter q xs) ≡ filter p xs) ⊎ (suc (length (filter p xs)) ≤ length (cond u (x ∷ filter q xs) (filter q xs)))) [
        | true ↦ elim rest [ inl same ↦ inr (omega (arith, ap length same)) | inr more ↦ inr (omega arith) ]
        | false ↦ rest
      ]
    ] refl

pub has_number-filter : (p : ℕ → Bool) (xs : List ℕ) (b : ℕ) → has_number (filter p xs) b ≡ (has_number xs b && p b)
has_number-filter p [] b = refl
has_number-filter p (x ∷ xs) b = let rest = has_number-filter p xs b in
    elim (p x) as (λ t. p x ≡ t → has_number (cond t (x ∷ filter p xs) (filter p xs)) b ≡ (((x == b) || has_number xs b) && p b)) [
      | true ↦ λ k. elim (x == b) as (λ u. (x == b) ≡ u → (u || has_number (filter p xs) b) ≡ ((u || has_number xs b) && p b)) [
        | true ↦ λ e. sym (ap p (sym (eqb-true x b e)) ∙ k)
        | false ↦ λ e. rest
      ] refl
      | false ↦ λ k. elim (x == b) as (λ u. (x == b) ≡ u → has_number (filter p xs) b ≡ ((u || has_number xs b) && p b)) [
        | true ↦ λ e. let no : p b ≡ false = ap p (sym (eqb-true x b e)) ∙ k in rest ∙ ap (λ z. has_number xs b && z) no ∙ and_false (has_number xs b) ∙ sym no
        | false ↦ λ e. rest
      ] refl
    ] refl

pub has_number-range : (i n b : ℕ) → has_number (range_with_len i n) b ≡ (nat_le i b && nat_lt b (i + n))
has_number-range i zero b = grind (arith, nat_tests)
has_number-range i (suc n) b = let rest = has_number-range (i + 1) n b in rw rest (grind (arith, nat_tests))

pub length-range : (i n : ℕ) → length (range_with_len i n) ≡ n
length-range i zero = refl
length-range i (suc n) = ap suc (length-range (i + 1) n)

-- ---- a set that rounds build from nothing, out of finitely many

module _ (within : List ℕ) (passes : List ℕ → ℕ → Bool) where
  abbrev pub one_round : List ℕ → List ℕ
  one_round xs = filter (passes xs) within

  abbrev pub rounds : ℕ → List ℕ
  rounds zero = []
  rounds (suc r) = one_round (rounds r)

  module _ (grows : (xs ys : List ℕ) → ((b : ℕ) → has_number xs b ≡ true → has_number ys b ≡ true) → (b : ℕ) → passes xs b ≡ true → passes ys b ≡ true) where
    pub round_more : (r : ℕ) (b : ℕ) → has_number (rounds r) b ≡ true → has_number (rounds (suc r)) b ≡ true
    round_more zero b h = absurd (cc)
    round_more (suc r) b h =
        let split = and_parts (has_number within b) (passes (rounds r) b) (sym (has_number-filter (passes (rounds r)) within b) ∙ h) in
        has_number-filter (passes (rounds (suc r))) within b ∙ and_from (has_number within b) (passes (rounds (suc r)) b) split.0 (grows (rounds r) (rounds (suc r)) (round_more r) b split.1)

    same_or_more : (r : ℕ) → (rounds (suc r) ≡ rounds r) ⊎ (suc r ≤ length (rounds (suc r)))
    same_or_more zero = elim (rounds (suc zero)) as (λ xs. (xs ≡ []) ⊎ (1 ≤ length xs)) [ [] ↦ inl refl | (x ∷ xs) ↦ inr (omega arith) ]
    same_or_more (suc r) = elim (same_or_more r) [
      | inl same ↦ inl (ap one_round same)
      | inr more ↦ elim (filter_weaker (passes (rounds r)) (passes (rounds (suc r))) (grows (rounds r) (rounds (suc r)) (round_more r)) within) [
        | inl same ↦ inl same
        | inr longer ↦ inr (omega arith)
      ]
    ]

    -- after as many rounds as there are members, no round adds one
    pub rounds_end : rounds (suc (length within)) ≡ rounds (length within)
    rounds_end = elim (same_or_more (length within)) [
      | inl same ↦ same
      | inr more ↦ absurd (omega (arith, length-filter_le (passes (rounds (length within))) within))
    ]

-- ---- a set that rounds build from some members on

-- the same, where the weaker holds only of members
filter_weaker_at : (xs : List ℕ) (p q : ℕ → Bool) → ((x : ℕ) → has_number xs x ≡ true → p x ≡ true → q x ≡ true) → (filter q xs ≡ filter p xs) ⊎ (suc (length (filter p xs)) ≤ length (filter q xs))
filter_weaker_at [] p q weaker = inl refl
filter_weaker_at (x ∷ xs) p q weaker = let rest = filter_weaker_at xs p q (λ y m e. weaker y (or_right (x == y) (has_number xs y) m) e) in
    elim (p x) as (λ t. p x ≡ t → (cond (q x) (x ∷ filter q xs) (filter q xs) ≡ cond t (x ∷ filter p xs) (filter p xs)) ⊎ (suc (length (cond t (x ∷ filter p xs) (filter p xs))) ≤ length (cond (q x) (x ∷ filter q xs) (filter q xs)))) [
      | true ↦ λ e. let yes = weaker x (or_left (x == x) (has_number xs x) (eq-eqb x x refl)) e in subst (λ (u : Bool). (cond u (x ∷ filter q xs) (filter q xs) ≡ x ∷ filter p xs) ⊎ (suc (suc (length (filter p xs))) ≤ length (cond u (x ∷ filter q xs) (filter q xs)))) (sym yes)
          (elim rest [ inl same ↦ inl (ap (λ ys. x ∷ ys) same) | inr more ↦ inr (omega arith) ])
      | false ↦ λ e. elim (q x) as (λ u. (cond u (x ∷ filter q xs) (filter q xs) ≡ filter p xs) ⊎ (suc (length (filter p xs)) ≤ length (cond u (x ∷ filter q xs) (filter q xs)))) [
        | true ↦ elim rest [ inl same ↦ inr (omega (arith, ap length same)) | inr more ↦ inr (omega arith) ]
        | false ↦ rest
      ]
    ] refl

module _ (within start : List ℕ) (first : ℕ → Bool) (passes : List ℕ → ℕ → Bool) where
  abbrev pub rounds_from : ℕ → List ℕ
  rounds_from zero = start
  rounds_from (suc r) = filter (passes (rounds_from r)) within

  module _ (begins : start ≡ filter first within) (stays : (xs : List ℕ) (b : ℕ) → has_number xs b ≡ true → passes xs b ≡ true)
      (grows : (xs ys : List ℕ) → ((b : ℕ) → has_number xs b ≡ true → has_number ys b ≡ true) → (b : ℕ) → passes xs b ≡ true → passes ys b ≡ true) where
    started : (b : ℕ) → has_number start b ≡ (has_number within b && first b)
    started b = ap (λ xs. has_number xs b) begins ∙ has_number-filter first within b

    pub from_more : (r : ℕ) (b : ℕ) → has_number (rounds_from r) b ≡ true → has_number (rounds_from (suc r)) b ≡ true
    from_more zero b h = let split = and_parts (has_number within b) (first b) (sym (started b) ∙ h) in
        has_number-filter (passes start) within b ∙ and_from (has_number within b) (passes start b) split.0 (stays start b h)
    from_more (suc r) b h =
        let split = and_parts (has_number within b) (passes (rounds_from r) b) (sym (has_number-filter (passes (rounds_from r)) within b) ∙ h) in
        has_number-filter (passes (rounds_from (suc r))) within b ∙ and_from (has_number within b) (passes (rounds_from (suc r)) b) split.0 (grows (rounds_from r) (rounds_from (suc r)) (from_more r) b split.1)

    from_same : (r : ℕ) → (rounds_from (suc r) ≡ rounds_from r) ⊎ (suc r ≤ length (rounds_from (suc r)))
    from_same zero = elim (filter_weaker_at within first (passes start) (λ b i e. stays start b (started b ∙ and_from (has_number within b) (first b) i e))) [
      | inl same ↦ inl (same ∙ sym begins)
      | inr more ↦ inr (omega arith)
    ]
    from_same (suc r) = elim (from_same r) [
      | inl same ↦ inl (ap (λ xs. filter (passes xs) within) same)
      | inr more ↦ elim (filter_weaker (passes (rounds_from r)) (passes (rounds_from (suc r))) (grows (rounds_from r) (rounds_from (suc r)) (from_more r)) within) [
        | inl same ↦ inl same
        | inr longer ↦ inr (omega arith)
      ]
    ]

    pub from_end : rounds_from (suc (length within)) ≡ rounds_from (length within)
    from_end = elim (from_same (length within)) [
      | inl same ↦ same
      | inr more ↦ absurd (omega (arith, length-filter_le (passes (rounds_from (length within))) within))
    ]
