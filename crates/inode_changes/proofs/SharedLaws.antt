-- The blocks that a new file shares with an old one, as they stand in the old one's block.
use Rattle.std.proofs.Common.{◌≡◌, ℕ, zero, suc, ◌*◌, ◌≤◌, Bool, true, false, not, List, [], ◌∷◌, length, refl, ◌∙◌, ap, arith}
use Rattle.inode_changes.proofs.Common.{and_parts, and_from, not-true, take, little_number, has_number, are_apart, numbers}
use Rattle.inode_changes.proofs.GrownLaws.{in_take}
use Rattle.tsd_model.proofs.ValueLaws.{clash}

-- ---- as they stand there

-- the first numbers of a row are those of its first bytes
pub first_numbers : (k count : ℕ) (xs : List ℕ) → k ≤ count → 4 * count ≤ length xs → numbers k (take (4 * k) xs) ≡ take k (numbers count xs)
first_numbers zero count xs h l = refl
first_numbers (suc k) zero xs h l = absurd (omega arith)
first_numbers (suc k) (suc count) [] h l = absurd (omega arith)
first_numbers (suc k) (suc count) (a ∷ []) h l = absurd (omega arith)
first_numbers (suc k) (suc count) (a ∷ b ∷ []) h l = absurd (omega arith)
first_numbers (suc k) (suc count) (a ∷ b ∷ c ∷ []) h l = absurd (omega arith)
first_numbers (suc k) (suc count) (a ∷ b ∷ c ∷ d ∷ xs) h l =
    let four : 4 * suc k ≡ suc (suc (suc (suc (4 * k)))) = omega arith in
    ap (λ n. numbers (suc k) (take n (a ∷ b ∷ c ∷ d ∷ xs))) four
    ∙ ap (λ ns. little_number 4 (a ∷ b ∷ c ∷ d ∷ xs) ∷ ns) (first_numbers k count xs (omega arith) (omega arith))

-- none of the first stands twice, where none of all does
pub apart_take : (k : ℕ) (bs : List ℕ) → are_apart bs ≡ true → are_apart (take k bs) ≡ true
apart_take zero bs h = refl
apart_take (suc k) [] h = refl
apart_take (suc k) (b ∷ bs) h =
    let parts = and_parts (not (has_number bs b)) (are_apart bs) h in
    and_from (not (has_number (take k bs) b)) (are_apart (take k bs)) (ap not (off (has_number (take k bs) b) refl (not-true (has_number bs b) parts.0))) (apart_take k bs parts.1)
  where
    off : (t : Bool) → has_number (take k bs) b ≡ t → has_number bs b ≡ false → t ≡ false
    off true e f = absurd (clash (has_number bs b) (in_take k bs b e) f)
    off false e f = refl
