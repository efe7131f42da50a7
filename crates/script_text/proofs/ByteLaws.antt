-- Where a byte first stands.
use Rattle.std.proofs.Common.{◌≡◌, ℕ, zero, suc, ◌+◌, ◌<◌, Bool, true, false, cond, List, [], ◌∷◌, length, get_or, refl, sym, ◌∙◌, ap, arith}
use Rattle.std.specs.Prelude.{Option, Some, None, position}
use Rattle.std.specs.List.{position_from}
use Rattle.std.proofs.lemmas.Iterator.Adapters.{position_from-zero}
use Rattle.memchr.specs.Find.{IsFirstByte}

found_from : (p : ℕ → Bool) (xs : List ℕ) (i k : ℕ) → k < length xs → p (get_or xs k 0) ≡ true → ((j : ℕ) → j < k → p (get_or xs j 0) ≡ false) → position_from p i xs ≡ Some (i + k)
found_from p [] i k high here before = absurd (omega arith)
found_from p (x ∷ xs) i zero high here before = ap (λ t. cond t (Some i) (position_from p (i + 1) xs)) here ∙ ap (λ n. Some n) (let e : i ≡ i + 0 = omega arith in e)
found_from p (x ∷ xs) i (suc k) high here before =
    ap (λ t. cond t (Some i) (position_from p (i + 1) xs)) (before 0 (omega arith))
    ∙ found_from p xs (i + 1) k (omega arith) here (λ j less. before (suc j) (omega arith))
    ∙ ap (λ n. Some n) (let e : (i + 1) + k ≡ i + suc k = omega arith in e)

none_from : (p : ℕ → Bool) (xs : List ℕ) (i : ℕ) → ((j : ℕ) → j < length xs → p (get_or xs j 0) ≡ false) → position_from p i xs ≡ None
none_from p [] i none = refl
none_from p (x ∷ xs) i none =
    ap (λ t. cond t (Some i) (position_from p (i + 1) xs)) (none 0 (omega arith))
    ∙ none_from p xs (i + 1) (λ j less. none (suc j) (omega arith))

fails : (t : Bool) → ¬ (t ≡ true) → t ≡ false
fails true no_ = absurd (no_ refl)
fails false no_ = refl

-- the first place whose byte passes is the position of the first byte that passes
pub first_position : (p : ℕ → Bool) (xs : List ℕ) (r : Option ℕ) → IsFirstByte p xs r → r ≡ position p xs
first_position p xs None none = sym (position_from-zero p xs ∙ none_from p xs 0 (λ j less. fails (p (get_or xs j 0)) (none j (omega arith) less)))
first_position p xs (Some k) found = sym (position_from-zero p xs ∙ found_from p xs 0 k found.0.high found.1 (λ j less. fails (p (get_or xs j 0)) (found.0.before j (omega arith) less)) ∙ ap (λ n. Some n) (let e : 0 + k ≡ k = omega arith in e))
