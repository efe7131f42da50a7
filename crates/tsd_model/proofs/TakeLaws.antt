-- Lists that are cut off at a length.
use Rattle.std.proofs.Common.{◌≡◌, ℕ, zero, suc, ◌<◌, ◌≤◌, List, [], ◌∷◌, ◌++◌, length, take, refl, sym, ◌∙◌, ap, arith}
use Rattle.std.proofs.lemmas.List.{length-append}

-- what is cut later may be cut before
pub take-take-append : {X : Type 0} (n : ℕ) (xs ys : List X) → take n (take n xs ++ ys) ≡ take n (xs ++ ys)
take-take-append zero xs ys = refl
take-take-append (suc n) [] ys = refl
take-take-append (suc n) (x ∷ xs) ys = ap (λ zs. x ∷ zs) (take-take-append n xs ys)

pub append_nothing : (xs : List ℕ) → xs ++ [] ≡ xs
append_nothing [] = refl
append_nothing (x ∷ xs) = ap (λ zs. x ∷ zs) (append_nothing xs)

-- ---- a list of at most 64

take_whole : (n : ℕ) (xs : List ℕ) → length xs ≤ n → take n xs ≡ xs
take_whole zero [] h = refl
take_whole zero (x ∷ xs) h = absurd (omega arith)
take_whole (suc n) [] h = refl
take_whole (suc n) (x ∷ xs) h = ap (λ zs. x ∷ zs) (take_whole n xs (omega arith))

take_front : (n : ℕ) (xs ys : List ℕ) → length xs ≡ n → take n (xs ++ ys) ≡ xs
take_front zero [] ys h = refl
take_front zero (x ∷ xs) ys h = absurd (omega arith)
take_front (suc n) [] ys h = absurd (omega arith)
take_front (suc n) (x ∷ xs) ys h = ap (λ zs. x ∷ zs) (take_front n xs ys (omega arith))

pub pushed_with_room : (xs : List ℕ) (x : ℕ) → length xs < 64 → xs ++ x ∷ [] ≡ take 64 (xs ++ x ∷ [])
pushed_with_room xs x h = sym (take_whole 64 (xs ++ x ∷ []) (omega (arith, length-append xs (x ∷ []))))

pub not_pushed : (xs ys : List ℕ) → length xs ≡ 64 → xs ≡ take 64 (xs ++ ys)
not_pushed xs ys h = sym (take_front 64 xs ys h)

pub nothing_pushed : (xs : List ℕ) → length xs ≤ 64 → xs ≡ take 64 (xs ++ [])
nothing_pushed xs h = sym (ap (take 64) (append_nothing xs) ∙ take_whole 64 xs h)
