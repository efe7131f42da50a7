-- A list from an offset on.
use Rattle.std.proofs.Common.{◌≡◌, ℕ, zero, suc, ◌+◌, ◌<◌, ◌≤◌, true, ◌==◌, List, [], ◌∷◌, length, refl, ◌∙◌, ap, arith}
use Rattle.fs_client.proofs.Common.{or_left, or_right, eq-eqb, drop, slice_index, has_number}

pub drop_at : (xs : List ℕ) (i : ℕ) → i < length xs → drop i xs ≡ slice_index xs i ∷ drop (i + 1) xs
drop_at [] i h = absurd (omega arith)
drop_at (x ∷ xs) zero h = refl
drop_at (x ∷ xs) (suc i) h = drop_at xs i (omega arith) ∙ (let on : suc (i + 1) ≡ suc i + 1 = omega arith in ap (λ j. slice_index xs i ∷ drop j (x ∷ xs)) on)

pub drop_end : (xs : List ℕ) (i : ℕ) → length xs ≤ i → drop i xs ≡ []
drop_end [] zero h = refl
drop_end [] (suc i) h = refl
drop_end (x ∷ xs) zero h = absurd (omega arith)
drop_end (x ∷ xs) (suc i) h = drop_end xs i (omega arith)

pub place_in : (xs : List ℕ) (i : ℕ) → i < length xs → has_number xs (slice_index xs i) ≡ true
place_in [] i h = absurd (omega arith)
place_in (x ∷ xs) zero h = or_left (x == x) _ (eq-eqb x x refl)
place_in (x ∷ xs) (suc i) h = or_right (x == slice_index xs i) _ (place_in xs i (omega arith))
