-- Bytes of a file with sectors in memory laid over them.
use Rattle.std.proofs.Common.{ℕ, Bool, true, false, ◌≡◌, ◌+◌, ◌-◌, ◌*◌, ◌/◌, ◌<◌, ◌≤◌, ◌⊎◌, inl, inr, List, ◌++◌, length, take, drop, ap, sym, subst, ◌∙◌, arith}
use Rattle.std.specs.Prelude.{slice_index, nat_le, nat_lt, ◌&&◌, cond, min}
use Rattle.std.proofs.Math.Path.{fun_ext}
use Rattle.std.proofs.lemmas.Bool.{cases_lt}
use Rattle.std.proofs.lemmas.List.{places, get_or-take, get_or-drop}
use borrow.Rule.Slice.PartMut.{put_mid}
use Rattle.image_files.specs.Bytes.{IsPart, IsWritten}
use Rattle.image_files.proofs.Rooms.{before, inside, behind, long, kept}

-- a file with this many sectors, from a first one on, laid over it
abbrev pub over : (first count : ℕ) → List ℕ → (ℕ → ℕ) → ℕ → ℕ
over first count items content offset =
    cond (nat_le (512 * first) offset && nat_lt offset (512 * first + 512 * count)) (slice_index items (offset - 512 * first)) (content offset)

pub shows : (first count : ℕ) (items : List ℕ) (content : ℕ → ℕ) (offset : ℕ) → 512 * first ≤ offset
    → offset < 512 * first + 512 * count → over first count items content offset ≡ slice_index items (offset - 512 * first)
shows first count items content offset from to = grind arith

pub shows_not : (first count : ℕ) (items : List ℕ) (content : ℕ → ℕ) (offset : ℕ)
    → (offset < 512 * first) ⊎ (512 * first + 512 * count ≤ offset) → over first count items content offset ≡ content offset
shows_not first count items content offset side = grind arith

-- the sectors are those of the file that they are laid over
pub own : (first count : ℕ) (items : List ℕ) (content : ℕ → ℕ) (i : ℕ) → i < 512 * count
    → slice_index items i ≡ over first count items content (512 * first + i)
own first count items content i below =
    let same : i ≡ 512 * first + i - 512 * first = omega arith in
    ap (λ (j : ℕ). slice_index items j) same
    ∙ sym (shows first count items content (512 * first + i) (omega arith) (omega arith))

-- where there are none the file is as it is
pub none : (first count : ℕ) (items : List ℕ) (content : ℕ → ℕ) → count ≡ 0 → over first count items content ≡ content
none first count items content empty =
    fun_ext (λ offset. shows_not first count items content offset (elim (cases_lt offset (512 * first)) [
      | inl l ↦ inl l
      | inr r ↦ inr (omega arith)
    ]))

-- they were written to the file
pub sent : (first count : ℕ) (items : List ℕ) (old new : ℕ → ℕ) → 512 * count ≤ length items
    → IsWritten (512 * first) (take (count * 512) items) old new → new ≡ over first count items old
sent first count items old new fits written =
    let size : length (take (count * 512) items) ≡ 512 * count = grind (arith, places) in
    fun_ext (λ offset. elim (cases_lt offset (512 * first)) [
      | inl l ↦ written.elsewhere offset (inl l) ∙ sym (shows_not first count items old offset (inl l))
      | inr r ↦ elim (cases_lt offset (512 * first + 512 * count)) [
        | inl l ↦
            let there : 512 * first + (offset - 512 * first) ≡ offset = omega arith in
            ap new (sym there) ∙ sym (written.there (offset - 512 * first) (omega arith))
            ∙ get_or-take (count * 512) items (offset - 512 * first) 0 (omega arith)
            ∙ sym (shows first count items old offset r l)
        | inr b ↦ written.elsewhere offset (inr (omega arith)) ∙ sym (shows_not first count items old offset (inr b))
      ]
    ])

-- they were laid over what was read of the file
pub laid : (at k count passed sector first rows i : ℕ) (xs ys items : List ℕ) (content : ℕ → ℕ)
    → passed ≡ 512 * sector - 512 * first → at ≡ 512 * first - 512 * sector
    → count ≡ min (length xs - at) (512 * rows - passed) → 0 < count → k ≡ count → length ys ≡ count
    → ((j : ℕ) → j < count → slice_index ys j ≡ slice_index items (passed + j))
    → IsPart content (512 * sector) xs → i < length xs
    → slice_index (put_mid at k xs ys) i ≡ over first rows items content (512 * sector + i)
laid at k count passed sector first rows i xs ys items content passes starts most some size_k size same part below =
    let fits : at + count ≤ length xs = omega arith in
    elim (cases_lt i at) [
      | inl l ↦ before at k i xs ys (omega arith) l ∙ part i below
          ∙ sym (shows_not first rows items content (512 * sector + i) (inl (omega arith)))
      | inr r ↦ elim (cases_lt i (at + count)) [
        | inl l ↦
            let there : passed + (i - at) ≡ 512 * sector + i - 512 * first = omega arith in
            inside at k i xs ys (omega arith) r (omega arith) ∙ same (i - at) (omega arith)
            ∙ ap (λ (j : ℕ). slice_index items j) there
            ∙ sym (shows first rows items content (512 * sector + i) (omega arith) (omega arith))
        | inr b ↦ behind at k i xs ys (omega arith) (omega arith) (omega arith) ∙ part i below
            ∙ sym (shows_not first rows items content (512 * sector + i) (inr (omega arith)))
      ]
    ]

-- none of them lies over what was read
pub laid_none : (at passed sector first rows i : ℕ) (xs items : List ℕ) (content : ℕ → ℕ)
    → passed ≡ 512 * sector - 512 * first → at ≡ 512 * first - 512 * sector
    → min (length xs - at) (512 * rows - passed) ≡ 0 → i < length xs
    → over first rows items content (512 * sector + i) ≡ content (512 * sector + i)
laid_none at passed sector first rows i xs items content passes starts most below =
    shows_not first rows items content (512 * sector + i) (elim (cases_lt (512 * sector + i) (512 * first)) [
      | inl l ↦ inl l
      | inr r ↦ inr (omega arith)
    ])

-- a part of a room was written
pub mid_long : (a k : ℕ) (xs ys : List ℕ) → length ys ≡ length (take k (drop a xs)) → a + k ≤ length xs → length ys ≡ k
mid_long a k xs ys size fits = grind (arith, places)

-- a byte lies outside of sectors that are none, or that begin as others do
out_of : (first count start offset : ℕ) → (count ≡ 0) ⊎ (start ≡ first)
    → (offset < 512 * start) ⊎ (512 * start + 512 * count ≤ offset) → (offset < 512 * first) ⊎ (512 * first + 512 * count ≤ offset)
out_of first count start offset starts side = elim (cases_lt offset (512 * first)) [
  | inl l ↦ inl l
  | inr r ↦ inr (omega arith)
]

-- a byte of the sectors that isn't among those that were taken
row : (n k at i : ℕ) (xs ys rest : List ℕ) → n ≡ length xs → at + k ≤ n → length ys ≡ k → i < n
    → (i < at) ⊎ (at + k ≤ i) → slice_index (take n (put_mid at k xs ys ++ rest)) i ≡ slice_index xs i
row n k at i xs ys rest whole room size below side =
    let all : length (put_mid at k xs ys) ≡ length xs = long at k xs ys (omega arith) size in
    kept n i (put_mid at k xs ys) rest below (omega arith) ∙ elim side [
      | inl l ↦ before at k i xs ys (omega arith) l
      | inr b ↦ behind at k i xs ys (omega arith) size b
    ]

-- where a byte of the file lies that isn't among those that were taken
side_in : (start sector position sectors k offset size : ℕ) → k ≡ 512 * sectors → size ≡ 512 * sectors → sector ≡ start + position
    → 512 * start ≤ offset → (offset < 512 * sector) ⊎ (512 * sector + size ≤ offset)
    → (offset - 512 * start < position * 512) ⊎ (position * 512 + k ≤ offset - 512 * start)
side_in start sector position sectors k offset size size_k is place from side = elim side [
  | inl l ↦ inl (omega arith)
  | inr b ↦ inr (omega arith)
]

-- whole sectors were taken: elsewhere all is as it was
untouched : (n k position sectors first count start all sector offset : ℕ) (xs ys rest items : List ℕ) (content : ℕ → ℕ)
    → n ≡ length xs → 512 * all ≤ n → xs ≡ items → k ≡ 512 * sectors → length ys ≡ 512 * sectors
    → sector ≡ start + position → position ≤ count → (count ≡ 0) ⊎ (start ≡ first)
    → count ≤ all → position + sectors ≤ all → (all ≡ count) ⊎ (all ≡ position + sectors)
    → (offset < 512 * sector) ⊎ (512 * sector + length ys ≤ offset)
    → over start all (take n (put_mid (position * 512) k xs ys ++ rest)) content offset ≡ over first count items content offset
untouched n k position sectors first count start all sector offset xs ys rest items content whole room same_xs size_k size place behind_it starts more end is_all side =
    let at = position * 512 in
    let now = take n (put_mid at k xs ys ++ rest) in
    elim (cases_lt offset (512 * start)) [
      | inl l ↦ shows_not start all now content offset (inl l)
          ∙ sym (shows_not first count items content offset (out_of first count start offset starts (inl l)))
      | inr r ↦ elim (cases_lt offset (512 * start + 512 * count)) [
        | inl l ↦
            let is_first : start ≡ first = omega arith in
            let same : offset - 512 * start ≡ offset - 512 * first = omega arith in
            shows start all now content offset r (omega arith)
            ∙ row n k at (offset - 512 * start) xs ys rest whole (omega arith) (omega arith) (omega arith) (side_in start sector position sectors k offset (length ys) size_k size place r side)
            ∙ ap (λ (l : List ℕ). slice_index l (offset - 512 * start)) same_xs
            ∙ ap (λ (j : ℕ). slice_index items j) same
            ∙ sym (shows first count items content offset (omega arith) (omega arith))
        | inr b ↦ shows_not start all now content offset (inr (omega arith))
            ∙ sym (shows_not first count items content offset (out_of first count start offset starts (inr b)))
      ]
    ]

-- whole sectors were taken among those that wait, or behind them
pub taken : (n k position sectors first count start all sector : ℕ) (xs ys rest items from : List ℕ) (content : ℕ → ℕ)
    → n ≡ length xs → 512 * all ≤ n → xs ≡ items → ys ≡ from → k ≡ 512 * sectors → length ys ≡ 512 * sectors
    → sector ≡ start + position → position ≤ count → (count ≡ 0) ⊎ (start ≡ first)
    → count ≤ all → position + sectors ≤ all → (all ≡ count) ⊎ (all ≡ position + sectors)
    → IsWritten (512 * sector) from (over first count items content)
    (over start all (take n (put_mid (position * 512) k xs ys ++ rest)) content)
taken n k position sectors first count start all sector xs ys rest items from content whole room same_xs same_ys size_k size place behind_it starts more end is_all =
    let at = position * 512 in
    let fits : at + k ≤ length xs = omega arith in
    let size_ys : length ys ≡ k = omega arith in
    let full : length (put_mid at k xs ys) ≡ length xs = long at k xs ys fits size_ys in
    let now = take n (put_mid at k xs ys ++ rest) in
    record {
      there = λ i below.
          let below_ys : i < length ys = subst (λ (l : List ℕ). i < length l) (sym same_ys) below in
          let position_in : 512 * sector + i - 512 * start ≡ at + i = omega arith in
          let back : at + i - at ≡ i = omega arith in
          sym (shows start all now content (512 * sector + i) (omega arith) (omega arith)
          ∙ ap (λ (j : ℕ). slice_index now j) position_in
          ∙ kept n (at + i) (put_mid at k xs ys) rest (omega arith) (omega arith)
          ∙ inside at k (at + i) xs ys (omega arith) (omega arith) (omega arith)
          ∙ ap (λ (j : ℕ). slice_index ys j) back ∙ ap (λ (l : List ℕ). slice_index l i) same_ys);
      elsewhere = λ offset side.
          let side_ys : (offset < 512 * sector) ⊎ (512 * sector + length ys ≤ offset) =
          subst (λ (l : List ℕ). (offset < 512 * sector) ⊎ (512 * sector + length l ≤ offset)) (sym same_ys) side in
          untouched n k position sectors first count start all sector offset xs ys rest items content
          whole room same_xs size_k size place behind_it starts more end is_all side_ys;
    }
