-- Numbers in a row, from one of them on.
use Rattle.std.proofs.Common.{◌≡◌, ℕ, suc, ◌+◌, ◌*◌, ◌-◌, ◌<◌, Bool, true, false, not, ◌&&◌, ◌||◌, ◌==◌, List, ◌∷◌, length, sym, ◌∙◌, ap, arith}
use Rattle.std.specs.Prelude.{take, drop}
use Rattle.std.proofs.lemmas.List.{take_rest}
use Rattle.byteorder.specs.Endian.{little_number}
use Rattle.tsd_model.specs.World.{has_number, are_apart}
use Rattle.fs_trees.specs.Fields.{numbers}
use Rattle.fs_fields.proofs.PadLaws.{drop-drop}

-- the row from one number on
pub numbers_from : (xs : List ℕ) (count i : ℕ) → i < count → numbers (count - i) (drop (4 * i) xs) ≡ little_number 4 (drop (4 * i) xs) ∷ numbers (count - (i + 1)) (drop (4 * (i + 1)) xs)
numbers_from xs count i h =
    let more : count - i ≡ suc (count - (i + 1)) = omega arith in
    let next : 4 * i + 4 ≡ 4 * (i + 1) = omega arith in
    ap (λ k. numbers k (drop (4 * i) xs)) more ∙ ap (λ ys. little_number 4 (drop (4 * i) xs) ∷ numbers (count - (i + 1)) ys) (drop-drop (4 * i) 4 xs ∙ ap (λ k. drop k xs) next)

-- by what the number there is
module _ (xs : List ℕ) (count i : ℕ) (h : i < count) where
  rest : List ℕ
  rest = numbers (count - (i + 1)) (drop (4 * (i + 1)) xs)

  first : ℕ
  first = little_number 4 (drop (4 * i) xs)

  split : numbers (count - i) (drop (4 * i) xs) ≡ first ∷ rest
  unfolding first rest
  split = numbers_from xs count i h

  pub among_stops : (n : ℕ) → (little_number 4 (drop (4 * i) xs) == n) ≡ true → has_number (numbers (count - i) (drop (4 * i) xs)) n ≡ true
  unfolding first rest
  among_stops n p = ap (λ ys. has_number ys n) split ∙ ap (λ t. t || has_number rest n) p

  pub among_goes_on : (n : ℕ) → (little_number 4 (drop (4 * i) xs) == n) ≡ false → has_number (numbers (count - i) (drop (4 * i) xs)) n ≡ has_number (numbers (count - (i + 1)) (drop (4 * (i + 1)) xs)) n
  unfolding first rest
  among_goes_on n p = ap (λ ys. has_number ys n) split ∙ ap (λ t. t || has_number rest n) p

  pub apart_stops : has_number (numbers (count - (i + 1)) (drop (4 * (i + 1)) xs)) (little_number 4 (drop (4 * i) xs)) ≡ true → are_apart (numbers (count - i) (drop (4 * i) xs)) ≡ false
  unfolding first rest
  apart_stops p = ap are_apart split ∙ ap (λ t. not t && are_apart rest) p

  pub apart_goes_on : has_number (numbers (count - (i + 1)) (drop (4 * (i + 1)) xs)) (little_number 4 (drop (4 * i) xs)) ≡ false → are_apart (numbers (count - i) (drop (4 * i) xs)) ≡ are_apart (numbers (count - (i + 1)) (drop (4 * (i + 1)) xs))
  unfolding first rest
  apart_goes_on p = ap are_apart split ∙ ap (λ t. not t && are_apart rest) p

-- whether the number is among those behind it, as they are cut out
pub among_rest : (xs : List ℕ) (count i : ℕ) → i < count → (n : ℕ) (found : Bool) → n ≡ little_number 4 (drop (4 * i) xs)
    → found ≡ has_number (numbers (count - i - 1) (take (length xs - (4 * i + 4)) (drop (4 * i + 4) xs))) n
    → has_number (numbers (count - (i + 1)) (drop (4 * (i + 1)) xs)) (little_number 4 (drop (4 * i) xs)) ≡ found
among_rest xs count i h n found is tells =
    let next : 4 * i + 4 ≡ 4 * (i + 1) = omega arith in
    let less : count - i - 1 ≡ count - (i + 1) = omega arith in
    let whole = take_rest xs (4 * i + 4) ∙ ap (λ k. drop k xs) next in
    sym (tells ∙ (ap (λ ys. has_number (numbers (count - i - 1) ys) n) whole
    ∙ (ap (λ k. has_number (numbers k (drop (4 * (i + 1)) xs)) n) less
    ∙ ap (has_number (numbers (count - (i + 1)) (drop (4 * (i + 1)) xs))) is)))
