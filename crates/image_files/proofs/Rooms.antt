-- Bytes of a room after a part of it was written.
use Rattle.std.proofs.Common.{◌≡◌, ℕ, ◌+◌, ◌-◌, ◌*◌, ◌<◌, ◌≤◌, ◌⊎◌, inl, inr, List, ◌++◌, length, take, drop, ap, sym, ◌∙◌, arith}
use Rattle.std.specs.Prelude.{slice_index}
use Rattle.std.proofs.lemmas.Bool.{cases_lt}
use Rattle.std.proofs.lemmas.List.{places, get_or-take, get_or_append_left}
use borrow.Rule.Slice.PartMut.{put_mid}

pub before : (a k i : ℕ) (xs ys : List ℕ) → a ≤ length xs → i < a → slice_index (put_mid a k xs ys) i ≡ slice_index xs i
before a k i xs ys fits is = grind (arith, places)

pub inside : (a k i : ℕ) (xs ys : List ℕ) → a ≤ length xs → a ≤ i → i < a + length ys
    → slice_index (put_mid a k xs ys) i ≡ slice_index ys (i - a)
inside a k i xs ys fits from is = grind (arith, places)

pub behind : (a k i : ℕ) (xs ys : List ℕ) → a + k ≤ length xs → length ys ≡ k → a + k ≤ i
    → slice_index (put_mid a k xs ys) i ≡ slice_index xs i
behind a k i xs ys fits size is = grind (arith, places)

pub long : (a k : ℕ) (xs ys : List ℕ) → a + k ≤ length xs → length ys ≡ k → length (put_mid a k xs ys) ≡ length xs
long a k xs ys fits size = grind (arith, places)

-- a part of a sector's length was written
pub part_long : (a : ℕ) (xs ys : List ℕ) → length ys ≡ length (take (a + 512 - a) (drop a xs)) → a + 512 ≤ length xs
    → length ys ≡ 512
part_long a xs ys size fits = grind (arith, places)

-- what a vector holds once its slice was written
pub kept : (n i : ℕ) (p rest : List ℕ) → i < n → i < length p → slice_index (take n (p ++ rest)) i ≡ slice_index p i
kept n i p rest below within = get_or-take n (p ++ rest) i 0 below ∙ get_or_append_left p rest 0 i within

-- a sector that is held was written: what is held is what the file has then
pub renewed : (n at k sector first count i : ℕ) (xs ys rest : List ℕ) (old new : ℕ → ℕ)
    → n ≡ length xs → 512 * count ≤ length xs → k ≡ 512 → length ys ≡ 512
    → at + 512 ≤ 512 * count → 512 * first + at ≡ 512 * sector
    → ((j : ℕ) → j < 512 * count → slice_index xs j ≡ old (512 * first + j))
    → ((j : ℕ) → j < length ys → slice_index ys j ≡ new (512 * sector + j))
    → ((offset : ℕ) → (offset < 512 * sector) ⊎ (512 * sector + length ys ≤ offset) → new offset ≡ old offset)
    → i < 512 * count → slice_index (take n (put_mid at k xs ys ++ rest)) i ≡ new (512 * first + i)
renewed n at k sector first count i xs ys rest old new whole room is_sector size fits place holds there elsewhere below =
    let size_k : length ys ≡ k = omega arith in
    let all : length (put_mid at k xs ys) ≡ length xs = long at k xs ys (omega arith) size_k in
    kept n i (put_mid at k xs ys) rest (omega arith) (omega arith) ∙ elim (cases_lt i at) [
      | inl l ↦ before at k i xs ys (omega arith) l ∙ holds i below ∙ sym (elsewhere (512 * first + i) (inl (omega arith)))
      | inr r ↦ elim (cases_lt i (at + 512)) [
        | inl l ↦ inside at k i xs ys (omega arith) r (omega arith) ∙ there (i - at) (omega arith) ∙ ap new (omega arith)
        | inr b ↦ behind at k i xs ys (omega arith) size_k (omega arith) ∙ holds i below ∙ sym (elsewhere (512 * first + i) (inr (omega arith)))
      ]
    ]

-- sectors were read into the front of a room
pub filled : (n k i : ℕ) (xs ys rest : List ℕ) → n ≡ length xs → k ≤ length xs → length ys ≡ k → i < k
    → slice_index (take n (put_mid 0 k xs ys ++ rest)) i ≡ slice_index ys i
filled n k i xs ys rest whole fits size below =
    let all : length (put_mid 0 k xs ys) ≡ length xs = long 0 k xs ys (omega arith) size in
    let same : i - 0 ≡ i = omega arith in
    kept n i (put_mid 0 k xs ys) rest (omega arith) (omega arith) ∙ inside 0 k i xs ys (omega arith) (omega arith) (omega arith)
    ∙ ap (λ (j : ℕ). slice_index ys j) same
