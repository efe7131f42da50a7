-- How many pairs pass a test, and how many lead to a block.
use Rattle.std.proofs.Common.{◌≡◌, ℕ, suc, ◌+◌, ◌<◌, ◌≤◌, Bool, true, false, not, cond, ◌||◌, ◌==◌, List, [], ◌∷◌, length, refl, sym, ◌∙◌, ap, subst, arith, inl, inr}
use Rattle.std.proofs.lemmas.Bool.{eq-eqb, eqb-true, and_parts, and_from, both_ways, or_cases, or_parts, or_left, or_right}
use Rattle.std.proofs.lemmas.Bool.Decides.{nat_tests}
use Rattle.std.specs.Prelude.{filter, map}
use Rattle.tsd_model.specs.Pairs.{is_pair, holds, pair_lt, is_below_first, is_rising, with_pair, without_pair, sources_to, count_to}
use Rattle.tsd_model.proofs.PlaceLaws.{same_pair}
use Rattle.tsd_model.proofs.PairLaws.{is_pair_ext, is_pair_same, holds-filter, is_rising-with_pair, is_rising-filter, holds-with_pair, first_once, above_first, holds_first}

-- ---- pairs that pass

-- tests that agree on the pairs that are held keep the same
pub filter_held : (p q : (ℕ × ℕ) → Bool) (es : List (ℕ × ℕ)) → ((a b : ℕ) → holds es a b ≡ true → p (a, b) ≡ q (a, b)) → filter p es ≡ filter q es
filter_held p q [] h = refl
filter_held p q (e ∷ es) h =
    let here : p e ≡ q e = h e.0 e.1 (or_left (is_pair e.0 e.1 e) (holds es e.0 e.1) (is_pair_same e)) in
    let rest : filter p es ≡ filter q es = filter_held p q es (λ a b held. h a b (or_right (is_pair a b e) (holds es a b) held)) in
    ap (λ t. cond t (e ∷ filter p es) (filter p es)) here ∙ ap (λ fs. cond (q e) (e ∷ fs) fs) rest

-- none passes
pub none_pass : (p : (ℕ × ℕ) → Bool) (es : List (ℕ × ℕ)) → ((a b : ℕ) → holds es a b ≡ true → p (a, b) ≡ false) → length (filter p es) ≡ 0
none_pass p es h = ap length (filter_held p (λ e. false) es h ∙ nothing es)
  where
    nothing : (fs : List (ℕ × ℕ)) → filter (λ e. false) fs ≡ []
    nothing [] = refl
    nothing (f ∷ fs) = nothing fs

pub none_passes : (p : (ℕ × ℕ) → Bool) (es : List (ℕ × ℕ)) → length (filter p es) ≡ 0 → (a b : ℕ) → holds es a b ≡ true → p (a, b) ≡ false
none_passes p [] n a b h = absurd (cc)
none_passes p (e ∷ es) n a b h =
    elim (p e) as (λ t. p e ≡ t → length (cond t (e ∷ filter p es) (filter p es)) ≡ 0 → p (a, b) ≡ false) [
      | true ↦ λ _ m. absurd (cc)
      | false ↦ λ k m. elim (or_cases (is_pair a b e) (holds es a b) h) [
        | inl here ↦ ap p (sym (is_pair_ext a b e here)) ∙ k
        | inr later ↦ none_passes p es m a b later
      ]
    ] refl n

-- ---- one pair less, one pair more

without_none : (a b : ℕ) (es : List (ℕ × ℕ)) → holds es a b ≡ false → without_pair a b es ≡ es
without_none a b [] h = refl
without_none a b (e ∷ es) h = let parts = or_parts (is_pair a b e) (holds es a b) h in
    ap (λ t. cond (not t) (e ∷ without_pair a b es) (without_pair a b es)) parts.0 ∙ ap (λ fs. e ∷ fs) (without_none a b es parts.1)

pub count-without_pair : (p : (ℕ × ℕ) → Bool) (es : List (ℕ × ℕ)) (a b : ℕ) → is_rising es ≡ true → holds es a b ≡ true
    → length (filter p es) ≡ cond (p (a, b)) 1 0 + length (filter p (without_pair a b es))
count-without_pair p [] a b r h = absurd (cc)
count-without_pair p (e ∷ es) a b r h = let parts = and_parts (is_below_first e es) (is_rising es) r in
    elim (is_pair a b e) as (λ t. is_pair a b e ≡ t → (t || holds es a b) ≡ true → length (cond (p e) (e ∷ filter p es) (filter p es)) ≡ cond (p (a, b)) 1 0 + length (filter p (cond (not t) (e ∷ without_pair a b es) (without_pair a b es)))) [
      | true ↦ λ k _.
          let last : without_pair a b es ≡ es = without_none a b es (first_once e es a b parts.0 parts.1 k) in
          subst (λ f. length (cond (p e) (e ∷ filter p es) (filter p es)) ≡ cond (p f) 1 0 + length (filter p (without_pair a b es))) (is_pair_ext a b e k)
          (subst (λ fs. length (cond (p e) (e ∷ filter p es) (filter p es)) ≡ cond (p e) 1 0 + length (filter p fs)) (sym last) (one (p e)))
      | false ↦ λ _ later. let rest = count-without_pair p es a b parts.1 later in each (p e) rest
    ] refl h
  where
    one : (t : Bool) → length (cond t (e ∷ filter p es) (filter p es)) ≡ cond t 1 0 + length (filter p es)
    one true = omega arith
    one false = omega arith

    each : (t : Bool) → length (filter p es) ≡ cond (p (a, b)) 1 0 + length (filter p (without_pair a b es))
        → length (cond t (e ∷ filter p es) (filter p es)) ≡ cond (p (a, b)) 1 0 + length (cond t (e ∷ filter p (without_pair a b es)) (filter p (without_pair a b es)))
    each true rest = omega arith
    each false rest = rest

pub count-with_pair : (p : (ℕ × ℕ) → Bool) (e : ℕ × ℕ) (es : List (ℕ × ℕ)) → holds es e.0 e.1 ≡ false → length (filter p (with_pair e es)) ≡ cond (p e) 1 0 + length (filter p es)
count-with_pair p e [] h = one (p e)
  where
    one : (t : Bool) → length (cond t (e ∷ []) []) ≡ cond t 1 0 + 0
    one true = refl
    one false = refl
count-with_pair p e (f ∷ fs) h = let parts = or_parts (is_pair e.0 e.1 f) (holds fs e.0 e.1) h in
    elim (pair_lt e f) as (λ t. pair_lt e f ≡ t → length (filter p (cond t (e ∷ f ∷ fs) (cond (pair_lt f e) (f ∷ with_pair e fs) (f ∷ fs)))) ≡ cond (p e) 1 0 + length (cond (p f) (f ∷ filter p fs) (filter p fs))) [
      | true ↦ λ _. one (p e) (cond (p f) (f ∷ filter p fs) (filter p fs))
      | false ↦ λ k. elim (pair_lt f e) as (λ u. pair_lt f e ≡ u → length (filter p (cond u (f ∷ with_pair e fs) (f ∷ fs))) ≡ cond (p e) 1 0 + length (cond (p f) (f ∷ filter p fs) (filter p fs))) [
        | true ↦ λ _. each (p f) (count-with_pair p e fs parts.1)
        | false ↦ λ l. let both = same_pair e.0 e.1 f.0 f.1 k l in
            absurd (both_ways (is_pair e.0 e.1 f) parts.0 (and_from (f.0 == e.0) (f.1 == e.1) (eq-eqb f.0 e.0 (sym both.0)) (eq-eqb f.1 e.1 (sym both.1))))
      ] refl
    ] refl
  where
    one : (t : Bool) (gs : List (ℕ × ℕ)) → length (cond t (e ∷ gs) gs) ≡ cond t 1 0 + length gs
    one true gs = omega arith
    one false gs = omega arith

    each : (t : Bool) → length (filter p (with_pair e fs)) ≡ cond (p e) 1 0 + length (filter p fs)
        → length (cond t (f ∷ filter p (with_pair e fs)) (filter p (with_pair e fs))) ≡ cond (p e) 1 0 + length (cond t (f ∷ filter p fs) (filter p fs))
    each true rest = omega arith
    each false rest = rest

-- ---- the pairs to a block

pub length-sources_to : (es : List (ℕ × ℕ)) (b : ℕ) → length (sources_to es b) ≡ count_to es b
length-sources_to es b = firsts (filter (λ e. e.1 == b) es)
  where
    firsts : (fs : List (ℕ × ℕ)) → length (map (λ e. e.0) fs) ≡ length fs
    firsts [] = refl
    firsts (f ∷ fs) = ap suc (firsts fs)

-- with an absent pair added one more leads to its target, and to another block as many as before
pub count_to-with_pair : (a b c : ℕ) (es : List (ℕ × ℕ)) → holds es a b ≡ false → count_to (with_pair (a, b) es) c ≡ cond (b == c) 1 0 + count_to es c
count_to-with_pair a b c es absent = count-with_pair (λ e. e.1 == c) (a, b) es absent

-- with a held pair taken away one less leads to its target
pub count_to-without_pair : (a b c : ℕ) (es : List (ℕ × ℕ)) → is_rising es ≡ true → holds es a b ≡ true → count_to es c ≡ cond (b == c) 1 0 + count_to (without_pair a b es) c
count_to-without_pair a b c es rising held = count-without_pair (λ e. e.1 == c) es a b rising held

pub source_added : (a b : ℕ) (es : List (ℕ × ℕ)) → holds es a b ≡ false → count_to (with_pair (a, b) es) b ≡ suc (count_to es b)
source_added a b es absent = count_to-with_pair a b b es absent ∙ ap (λ t. cond t 1 0 + count_to es b) (eq-eqb b b refl) ∙ omega arith

pub source_removed : (a b : ℕ) (es : List (ℕ × ℕ)) → is_rising es ≡ true → holds es a b ≡ true → count_to es b ≡ suc (count_to (without_pair a b es) b)
source_removed a b es rising held = count_to-without_pair a b b es rising held ∙ ap (λ t. cond t 1 0 + count_to (without_pair a b es) b) (eq-eqb b b refl) ∙ omega arith

-- pairs to one block ascend by their sources, so there are no more of them than numbers that sources may have
above_then : (a b x y : ℕ) → pair_lt (a, b) (x, y) ≡ true → b ≡ y → a < x
above_then a b x y p same = grind (arith, nat_tests)

ascending : (b n : ℕ) (es : List (ℕ × ℕ)) (low : ℕ) → is_rising es ≡ true → ((x y : ℕ) → holds es x y ≡ true → (y ≡ b) × (low ≤ x) × (x < n)) → low ≤ n → length es + low ≤ n
ascending b n [] low rising each within = omega (arith, within)
ascending b n (e ∷ es) low rising each within =
    let parts = and_parts (is_below_first e es) (is_rising es) rising in
    let first = each e.0 e.1 (holds_first e es) in
    let from = first.1 in
    let to = first.2 in
    let rest = ascending b n es (e.0 + 1) parts.1 (λ x y h.
    let there = each x y (or_right (is_pair x y e) (holds es x y) h) in
    let above = above_first e es x y parts.0 parts.1 h in
    let less = above_then e.0 e.1 x y above (first.0 ∙ sym there.0) in
    (there.0, (omega (arith, less)), there.2)) (omega arith) in
    omega (arith, rest, from)

-- where each source is below n, no more than n lead to a block
pub count_to_most : (b n : ℕ) (es : List (ℕ × ℕ)) → is_rising es ≡ true → ((a : ℕ) → holds es a b ≡ true → a < n) → count_to es b ≤ n
count_to_most b n es rising below =
    let all = ascending b n (filter (λ e. e.1 == b) es) 0 (is_rising-filter (λ e. e.1 == b) es rising) (λ x y h.
    let parts = and_parts (holds es x y) (y == b) (sym (holds-filter (λ e. e.1 == b) es x y) ∙ h) in
    let same : y ≡ b = eqb-true y b parts.1 in
    (same, omega arith, below x (ap (holds es x) (sym same) ∙ parts.0))) (omega arith) in
    omega (arith, all)

-- a pair that isn't held has room in the count of its target: that stays below the number of blocks
pub count_to_below : (a b n : ℕ) (es : List (ℕ × ℕ)) → is_rising es ≡ true → ((x : ℕ) → holds es x b ≡ true → x < n) → a < n → holds es a b ≡ false → count_to es b < n
count_to_below a b n es rising below inside absent =
    let most = count_to_most b n (with_pair (a, b) es) (is_rising-with_pair (a, b) es rising) each in
    let more = source_added a b es absent in
    omega (arith, most, more)
  where
    each : (x : ℕ) → holds (with_pair (a, b) es) x b ≡ true → x < n
    each x h = elim (or_cases (is_pair x b (a, b)) (holds es x b) (sym (holds-with_pair (a, b) es x b) ∙ h)) [
      | inl new ↦ let here = eqb-true a x (and_parts (a == x) (b == b) new).0 in omega (arith, inside, here)
      | inr old ↦ below x old
    ]
