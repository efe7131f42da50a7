-- A loop over a range that pushes what passes.
use Rattle.std.proofs.Common.{◌≡◌, ℕ, zero, suc, ◌+◌, ◌<◌, ◌≤◌, Bool, true, false, cond, List, [], ◌∷◌, ◌++◌, refl, ◌∙◌, ap, arith, add-one}
use Rattle.std.specs.Prelude.{filter, map}
use Rattle.std.proofs.lemmas.List.{map-append}
use Rattle.std.specs.List.{range_with_len}

-- the range with one more number
pub range_with_len-next : (a n b : ℕ) → b ≡ a + n → range_with_len a (suc n) ≡ range_with_len a n ++ b ∷ []
range_with_len-next a zero b e = ap (λ x. x ∷ []) (omega arith)
range_with_len-next a (suc n) b e = ap (λ xs. a ∷ xs) (range_with_len-next (a + 1) n b (omega arith))

pub filter-snoc : {X : Type 0} (p : X → Bool) (xs : List X) (x : X) → filter p (xs ++ x ∷ []) ≡ cond (p x) (filter p xs ++ x ∷ []) (filter p xs)
filter-snoc p [] x = elim (p x) as (λ t. cond t (x ∷ []) [] ≡ cond t ([] ++ x ∷ []) []) [ true ↦ refl | false ↦ refl ]
filter-snoc p (y ∷ ys) x =
    let rest = filter-snoc p ys x in
    elim (p y) as (λ t. cond t (y ∷ filter p (ys ++ x ∷ [])) (filter p (ys ++ x ∷ [])) ≡ cond (p x) (cond t (y ∷ filter p ys) (filter p ys) ++ x ∷ []) (cond t (y ∷ filter p ys) (filter p ys))) [
      | true ↦ ap (λ zs. y ∷ zs) rest ∙ elim (p x) as (λ u. y ∷ cond u (filter p ys ++ x ∷ []) (filter p ys) ≡ cond u ((y ∷ filter p ys) ++ x ∷ []) (y ∷ filter p ys)) [ true ↦ refl | false ↦ refl ]
      | false ↦ rest
    ]

pub range_next : (b : ℕ) → range_with_len 0 (b + 1) ≡ range_with_len 0 b ++ b ∷ []
range_next b = ap (range_with_len 0) (add-one b) ∙ range_with_len-next 0 b b (omega arith)

-- what passes of one more number
pub filter_range_next : (p : ℕ → Bool) (b : ℕ) → filter p (range_with_len 0 (b + 1)) ≡ cond (p b) (filter p (range_with_len 0 b) ++ b ∷ []) (filter p (range_with_len 0 b))
filter_range_next p b = ap (filter p) (range_next b) ∙ filter-snoc p (range_with_len 0 b) b

-- a function of one more number
pub map_range_next : {X : Type 0} (f : ℕ → X) (b : ℕ) → map f (range_with_len 0 (b + 1)) ≡ map f (range_with_len 0 b) ++ f b ∷ []
map_range_next f b = ap (map f) (range_next b) ∙ map-append f (range_with_len 0 b) (b ∷ [])

pub range_next_from : (a n : ℕ) → range_with_len a (n + 1) ≡ range_with_len a n ++ (a + n) ∷ []
range_next_from a n = ap (range_with_len a) (add-one n) ∙ range_with_len-next a n (a + n) refl

-- functions that agree on the numbers of a range make one list of it
pub map_range_alike : {X : Type 0} (f g : ℕ → X) (a n : ℕ) → ((k : ℕ) → a ≤ k → k < a + n → f k ≡ g k) → map f (range_with_len a n) ≡ map g (range_with_len a n)
map_range_alike f g a zero same = refl
map_range_alike f g a (suc n) same =
    let here : f a ≡ g a = same a (omega arith) (omega arith) in
    let rest : map f (range_with_len (a + 1) n) ≡ map g (range_with_len (a + 1) n) = map_range_alike f g (a + 1) n (λ k low high. same k (omega arith) (omega arith)) in
    cc
