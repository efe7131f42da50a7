-- What is chosen is free, and each block once.
use Rattle.std.proofs.Common.{inl, inr, ◌≡◌, ℕ, zero, suc, ◌+◌, ◌<◌, ◌≤◌, Bool, true, false, not, cond, ◌==◌, nat_lt, List, [], ◌∷◌, length, take, refl, sym, ◌∙◌, ap, arith}
use Rattle.std.proofs.Common.{Option, Some}
use Rattle.block_alloc.proofs.Common.{filter, slice_get, range_with_len, cases_eq, and_parts, eq-eqb, ne_eqb, ltb-true, rank_of, in_rank_order, sorted_by_rank, first_block, PlaceKind, is_live, is_free, free_blocks, all_blocks, chosen, is_free_run, runs, chosen_run}
use Rattle.std.specs.Bool.{IsTrue}
use Rattle.std.proofs.lemmas.Option.{same_Some}

abbrev one_if : Bool → ℕ
one_if t = cond t 1 0

-- how often a block stands in a list
abbrev times : List ℕ → ℕ → ℕ
times [] b = 0
times (x ∷ xs) b = one_if (x == b) + times xs b

-- ---- an order by rank moves blocks and keeps them all
times-in_rank_order : (rank : ℕ → ℕ) (a : ℕ) (xs : List ℕ) (b : ℕ) → times (in_rank_order rank a xs) b ≡ times (a ∷ xs) b
times-in_rank_order rank a [] b = refl
times-in_rank_order rank a (x ∷ xs) b = elim (nat_lt (rank a) (rank x)) as (λ t. times (cond t (a ∷ x ∷ xs) (x ∷ in_rank_order rank a xs)) b ≡ times (a ∷ x ∷ xs) b) [
  | true ↦ refl
  | false ↦ let rest = times-in_rank_order rank a xs b in omega (arith, rest)
]

times-sorted : (rank : ℕ → ℕ) (xs : List ℕ) (b : ℕ) → times (sorted_by_rank rank xs) b ≡ times xs b
times-sorted rank [] b = refl
times-sorted rank (x ∷ xs) b = times-in_rank_order rank x (sorted_by_rank rank xs) b ∙ ap (λ n. one_if (x == b) + n) (times-sorted rank xs b)

-- ---- in a range no number comes twice, and so in none of its parts
none-below : (a len b : ℕ) → b < a → times (range_with_len a len) b ≡ 0
none-below a zero b h = refl
none-below a (suc len) b h =
    let here : one_if (a == b) ≡ 0 = ap one_if (ne_eqb a b (λ e. omega arith)) in
    let after = none-below (a + 1) len b (omega arith) in
    omega (arith, here, after)

once-in_range : (a len b : ℕ) → times (range_with_len a len) b ≤ 1
once-in_range a zero b = omega arith
once-in_range a (suc len) b = elim (cases_eq a b) [
  | inl e ↦
      let here : one_if (a == b) ≡ 1 = ap one_if (eq-eqb a b e) in
      let after = none-below (a + 1) len b (omega arith) in
      omega (arith, here, after)
  | inr ne ↦
      let here : one_if (a == b) ≡ 0 = ap one_if (ne_eqb a b ne) in
      let after = once-in_range (a + 1) len b in
      omega (arith, here, after)
]

times-filter : (p : ℕ → Bool) (xs : List ℕ) (b : ℕ) → times (filter p xs) b ≤ times xs b
times-filter p [] b = omega arith
times-filter p (x ∷ xs) b = let rest = times-filter p xs b in
    elim (p x) as (λ t. times (cond t (x ∷ filter p xs) (filter p xs)) b ≤ times (x ∷ xs) b) [
      | true ↦ omega (arith, rest)
      | false ↦ omega (arith, rest)
    ]

passes-filter : (p : ℕ → Bool) (xs : List ℕ) (b : ℕ) → 1 ≤ times (filter p xs) b → p b ≡ true
passes-filter p [] b h = absurd (omega arith)
passes-filter p (x ∷ xs) b h = here (passes-filter p xs b) (p x) refl h
  where
    here : (1 ≤ times (filter p xs) b → p b ≡ true) → (t : Bool) → p x ≡ t → 1 ≤ times (cond t (x ∷ filter p xs) (filter p xs)) b → p b ≡ true
    here rest false e g = rest g
    here rest true e g = elim (cases_eq x b) [
      | inl same ↦ sym (ap p same) ∙ e
      | inr ne ↦ let other : one_if (x == b) ≡ 0 = ap one_if (ne_eqb x b ne) in rest (omega (arith, g, other))
    ]

-- ---- places in a list
here-once : (x b : ℕ) → ◌≡◌ {A = Option ℕ} (Some x) (Some b) → one_if (x == b) ≡ 1
here-once x b e = ap one_if (eq-eqb x b (same_Some x b e))

stands-in : (xs : List ℕ) (i b : ℕ) → slice_get xs i ≡ Some b → 1 ≤ times xs b
stands-in [] i b e = absurd (cc)
stands-in (x ∷ xs) zero b e = let here = here-once x b e in omega (arith, here)
stands-in (x ∷ xs) (suc i) b e = let rest = stands-in xs i b e in omega (arith, rest)

one-place : (xs : List ℕ) (i j b : ℕ) → times xs b ≤ 1 → slice_get xs i ≡ Some b → slice_get xs j ≡ Some b → i ≡ j
one-place [] i j b once e f = absurd (cc)
one-place (x ∷ xs) zero zero b once e f = refl
one-place (x ∷ xs) zero (suc j) b once e f =
    let here = here-once x b e in
    let rest = stands-in xs j b f in
    absurd (omega (arith, once, here, rest))
one-place (x ∷ xs) (suc i) zero b once e f =
    let here = here-once x b f in
    let rest = stands-in xs i b e in
    absurd (omega (arith, once, here, rest))
one-place (x ∷ xs) (suc i) (suc j) b once e f = ap suc (one-place xs i j b (omega (arith, once)) e f)

get-take : (n : ℕ) (xs : List ℕ) (i b : ℕ) → slice_get (take n xs) i ≡ Some b → slice_get xs i ≡ Some b
get-take zero xs i b e = absurd (cc)
get-take (suc n) [] i b e = e
get-take (suc n) (x ∷ xs) zero b e = e
get-take (suc n) (x ∷ xs) (suc i) b e = get-take n xs i b e

get-first : (xs : List ℕ) (b : ℕ) → first_block xs ≡ Some b → slice_get xs 0 ≡ Some b
get-first [] b e = e
get-first (x ∷ xs) b e = e

-- what stands in the order of blocks that pass passes
passes-sorted : (rank : ℕ → ℕ) (p : ℕ → Bool) (xs : List ℕ) (i b : ℕ) → slice_get (sorted_by_rank rank (filter p xs)) i ≡ Some b → p b ≡ true
passes-sorted rank p xs i b e =
    let stands = stands-in (sorted_by_rank rank (filter p xs)) i b e in
    let all = times-sorted rank (filter p xs) b in
    passes-filter p xs b (omega (arith, stands, all))

-- ---- the law
pub chosen-free : (kind : PlaceKind) (live : List Bool) (hint count i b : ℕ) → slice_get (chosen kind live hint count) i ≡ Some b → IsTrue (is_free live b)
chosen-free kind live hint count i b e =
    let rank = rank_of kind hint in
    passes-sorted rank (is_free live) (all_blocks live) i b (get-take count (sorted_by_rank rank (free_blocks live)) i b e)

pub chosen-apart : (kind : PlaceKind) (live : List Bool) (hint count i j b : ℕ) → slice_get (chosen kind live hint count) i ≡ Some b → slice_get (chosen kind live hint count) j ≡ Some b → i ≡ j
chosen-apart kind live hint count i j b e f =
    let rank = rank_of kind hint in
    let order = sorted_by_rank rank (free_blocks live) in
    let all = times-sorted rank (free_blocks live) b in
    let part = times-filter (is_free live) (all_blocks live) b in
    let once = once-in_range 0 (length live) b in
    one-place order i j b (omega (arith, all, part, once)) (get-take count order i b e) (get-take count order j b f)

pub run-free : (kind : PlaceKind) (live : List Bool) (hint count first : ℕ) → chosen_run kind live hint count ≡ Some first → IsTrue (is_free_run live count first)
run-free kind live hint count first e =
    let rank = rank_of kind hint in
    passes-sorted rank (is_free_run live count) (all_blocks live) 0 first (get-first (sorted_by_rank rank (runs live count)) first e)

pub run-inside : (live : List Bool) (count first : ℕ) → 1 ≤ count → IsTrue (is_free_run live count first) → first + count ≤ length live
run-inside live zero first some free = absurd (omega arith)
run-inside live (suc zero) first some free =
    let here = (and_parts (is_free live first) true free).0 in
    let inside = ltb-true first (length live) (and_parts (nat_lt first (length live)) (not (is_live live first)) here).0 in
    omega (arith, inside)
run-inside live (suc (suc more)) first some free =
    let after = (and_parts (is_free live first) (is_free_run live (suc more) (first + 1)) free).1 in
    let rest = run-inside live (suc more) (first + 1) (omega arith) after in
    omega (arith, rest)
