-- Parts of lists, and of the bytes of blocks in a row.
use Rattle.std.proofs.Common.{◌≡◌, ℕ, zero, suc, ◌+◌, ◌-◌, ◌*◌, ◌<◌, ◌≤◌, ◌==◌, true, false, nat_le, List, [], ◌∷◌, ◌++◌, length, min, refl, sym, ◌∙◌, ap, arith, length-append}
use Rattle.inode_walks.proofs.Common.{eq-eqb, or_left, or_right, mul-suc, drop-drop, drop-take, drop, flat_map, slice_index, has_number, part}
use Rattle.std.proofs.lemmas.Bool.Decides.{nat_tests}
use Rattle.std.proofs.Math.Seq.{take-add, take-append_seam, drop-append-add}
use Rattle.std.specs.Prelude.{take}

-- a part, and what follows it
pub part_more : (xs : List ℕ) (i j k : ℕ) → i ≤ j → j ≤ k → part xs i j ++ part xs j k ≡ part xs i k
part_more xs i j k low high =
    let there : i + (j - i) ≡ j = omega arith in
    let all : (j - i) + (k - j) ≡ k - i = omega arith in
    ap (λ ys. part xs i j ++ take (k - j) ys) (ap (λ n. drop n xs) (sym there) ∙ sym (drop-drop (j - i) i xs))
    ∙ (sym (take-add (j - i) (k - j) (drop i xs)) ∙ ap (λ n. take n (drop i xs)) all)

pub part_none : (xs : List ℕ) (i : ℕ) → part xs i i ≡ []
part_none xs i = let none : i - i ≡ 0 = omega arith in ap (λ n. take n (drop i xs)) none

take_take : (n m : ℕ) (xs : List ℕ) → n ≤ m → take n (take m xs) ≡ take n xs
take_take zero m xs h = refl
take_take (suc n) zero xs h = absurd (omega arith)
take_take (suc n) (suc m) [] h = refl
take_take (suc n) (suc m) (x ∷ xs) h = ap (λ ys. x ∷ ys) (take_take n m xs (omega arith))

-- a part of a part
pub part_of_part : (xs : List ℕ) (o len first last : ℕ) → first ≤ last → last ≤ len → part (take len (drop o xs)) first last ≡ part xs (o + first) (o + last)
part_of_part xs o len first last low high =
    let room : first + (len - first) ≡ len = omega arith in
    let same : last - first ≡ (o + last) - (o + first) = omega arith in
    ap (λ n. take (last - first) (drop first (take n (drop o xs)))) (sym room)
    ∙ (ap (take (last - first)) (drop-take first (len - first) (drop o xs))
    ∙ (take_take (last - first) (len - first) (drop first (drop o xs)) (omega arith)
    ∙ (ap (take (last - first)) (drop-drop first o xs) ∙ ap (λ n. take n (drop (o + first) xs)) same)))

-- of lists of one length in a row, the one at a position
pub one_of_row : (f : ℕ → List ℕ) (len : ℕ) (bs : List ℕ) → ((b : ℕ) → has_number bs b ≡ true → length (f b) ≡ len) → (i : ℕ) → i < length bs → f (slice_index bs i) ≡ take len (drop (len * i) (flat_map f bs))
one_of_row f len [] full i h = absurd (omega arith)
one_of_row f len (b ∷ bs) full zero h =
    let here = full b (or_left (b == b) (has_number bs b) (eq-eqb b b refl)) in
    let none : len * 0 ≡ 0 = omega arith in
    sym (ap (λ n. take len (drop n (f b ++ flat_map f bs))) none ∙ (ap (λ n. take n (f b ++ flat_map f bs)) (sym here) ∙ take-append_seam (f b) (flat_map f bs)))
one_of_row f len (b ∷ bs) full (suc i) h =
    let here = full b (or_left (b == b) (has_number bs b) (eq-eqb b b refl)) in
    let more : len * suc i ≡ length (f b) + len * i = grind (arith, mul-suc len i, here) in
    one_of_row f len bs (λ c m. full c (or_right (b == c) (has_number bs c) m)) i (omega arith)
    ∙ sym (ap (λ n. take len (drop n (f b ++ flat_map f bs))) more ∙ ap (take len) (drop-append-add (f b) (flat_map f bs) (len * i)))

pub row_length : (f : ℕ → List ℕ) (len : ℕ) (bs : List ℕ) → ((b : ℕ) → has_number bs b ≡ true → length (f b) ≡ len) → length (flat_map f bs) ≡ len * length bs
row_length f len [] full = let none : len * 0 ≡ 0 = omega arith in sym none
row_length f len (b ∷ bs) full =
    let here = full b (or_left (b == b) (has_number bs b) (eq-eqb b b refl)) in
    let later = row_length f len bs (λ c m. full c (or_right (b == c) (has_number bs c) m)) in
    length-append (f b) (flat_map f bs) ∙ grind (arith, mul-suc len (length bs), here, later)

-- the front of a list, from an offset on
pub front_from : (xs : List ℕ) (size start most : ℕ) → start ≤ size → take most (drop start (take size xs)) ≡ part xs start (min size (start + most))
front_from xs size start most h =
    let room : start + (size - start) ≡ size = omega arith in
    let same : min most (size - start) ≡ min size (start + most) - start = omega arith in
    ap (λ n. take most (drop start (take n xs))) (sym room)
    ∙ (ap (take most) (drop-take start (size - start) xs)
    ∙ (twice most (size - start) (drop start xs) ∙ ap (λ n. take n (drop start xs)) same))
  where
    less : (n m : ℕ) (ys : List ℕ) → m ≤ n → take n (take m ys) ≡ take m ys
    less zero zero ys h = refl
    less (suc n) zero ys h = refl
    less zero (suc m) ys h = absurd (omega arith)
    less (suc n) (suc m) [] h = refl
    less (suc n) (suc m) (y ∷ ys) h = ap (λ zs. y ∷ zs) (less n m ys (omega arith))

    twice : (n m : ℕ) (ys : List ℕ) → take n (take m ys) ≡ take (min n m) ys
    twice n m ys = elim (nat_le n m) as (λ t. nat_le n m ≡ t → take n (take m ys) ≡ take (min n m) ys) [
      | true ↦ λ e. let le : n ≤ m = grind (arith, nat_tests) in let is : min n m ≡ n = omega arith in take_take n m ys le ∙ ap (λ k. take k ys) (sym is)
      | false ↦ λ e. let le : m ≤ n = grind (arith, nat_tests) in let is : min n m ≡ m = omega arith in less n m ys le ∙ ap (λ k. take k ys) (sym is)
    ] refl

pub part_length : (xs : List ℕ) (i j : ℕ) → length (part xs i j) ≤ j - i
part_length xs i j = taken (j - i) (drop i xs)
  where
    taken : (n : ℕ) (ys : List ℕ) → length (take n ys) ≤ n
    taken zero ys = omega arith
    taken (suc n) [] = omega arith
    taken (suc n) (y ∷ ys) = let rest = taken n ys in omega (arith, rest)
