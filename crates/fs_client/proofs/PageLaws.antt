-- The targets of a block's pairs, page by page.
use Rattle.std.proofs.Common.{◌≡◌, ℕ, zero, suc, ◌+◌, ◌<◌, ◌≤◌, Bool, true, false, not, cond, ◌&&◌, ◌||◌, ◌==◌, nat_lt, nat_le, List, [], ◌∷◌, length, refl, sym, ◌∙◌, ap, arith}
use Rattle.fs_client.proofs.Common.{and_parts, and_from, eqb-true, eq-eqb, ltb-true, or_left, or_right, nat_tests, length-take, take-append-drop, drop, map, filter, slice_index, list_all, is_pair, holds, is_below_first, is_rising, above_first, next_in}
use Rattle.std.proofs.lemmas.List.{length-append}
use Rattle.std.proofs.lemmas.List.Elements.{filter-append}
use Rattle.std.specs.Prelude.{take}

-- ---- lists of numbers that climb

abbrev pub climbs : List ℕ → Bool
climbs [] = true
climbs (x ∷ xs) = list_all (nat_lt x) xs && climbs xs

abbrev pub targets_in : List (ℕ × ℕ) → ℕ → List ℕ
targets_in es a = map (λ e. e.1) (filter (λ e. e.0 == a) es)

-- what holds of each target
pub all_targets : (P : ℕ → Bool) (a : ℕ) (es : List (ℕ × ℕ)) → ((y : ℕ) → holds es a y ≡ true → P y ≡ true) → list_all P (targets_in es a) ≡ true
all_targets P a [] h = refl
all_targets P a (e ∷ es) h =
    let rest : list_all P (targets_in es a) ≡ true = all_targets P a es (λ y g. h y (or_right (is_pair a y e) (holds es a y) g)) in
    elim (e.0 == a) as (λ t. (e.0 == a) ≡ t → list_all P (map (λ f. f.1) (cond t (e ∷ filter (λ f. f.0 == a) es) (filter (λ f. f.0 == a) es))) ≡ true) [
      | true ↦ λ p. and_from (P e.1) (list_all P (targets_in es a)) (h e.1 (or_left (is_pair a e.1 e) (holds es a e.1) (and_from (e.0 == a) (e.1 == e.1) p (eq-eqb e.1 e.1 refl)))) rest
      | false ↦ λ p. rest
    ] refl

-- the targets of one block's pairs climb
pub targets_climb : (a : ℕ) (es : List (ℕ × ℕ)) → is_rising es ≡ true → climbs (targets_in es a) ≡ true
targets_climb a [] h = refl
targets_climb a (e ∷ es) h =
    let parts = and_parts (is_below_first e es) (is_rising es) h in
    let rest = targets_climb a es parts.1 in
    elim (e.0 == a) as (λ t. (e.0 == a) ≡ t → climbs (map (λ f. f.1) (cond t (e ∷ filter (λ f. f.0 == a) es) (filter (λ f. f.0 == a) es))) ≡ true) [
      | true ↦ λ p. and_from (list_all (nat_lt e.1) (targets_in es a)) (climbs (targets_in es a)) (all_targets (nat_lt e.1) a es (λ y g. above e.0 e.1 a y (eqb-true e.0 a p) (above_first e es a y parts.0 parts.1 g))) rest
      | false ↦ λ p. rest
    ] refl
  where
    above : (x y a z : ℕ) → x ≡ a → (nat_lt x a || ((x == a) && nat_lt y z)) ≡ true → nat_lt y z ≡ true
    above x y a z same h =
        let no : nat_lt x a ≡ false = grind (arith, nat_tests) in
        let yes : (x == a) ≡ true = eq-eqb x a same in
        sym (ap (λ t. t || ((x == a) && nat_lt y z)) no ∙ ap (λ t. t && nat_lt y z) yes) ∙ h

-- the targets from a start on are a part of all
pub from_start : (a start : ℕ) (es : List (ℕ × ℕ)) → map (λ e. e.1) (filter (λ e. (e.0 == a) && nat_le start e.1) es) ≡ filter (nat_le start) (targets_in es a)
from_start a start [] = refl
from_start a start (e ∷ es) = elim (e.0 == a) as
    (λ t. map (λ f. f.1) (cond (t && nat_le start e.1) (e ∷ filter (λ f. (f.0 == a) && nat_le start f.1) es) (filter (λ f. (f.0 == a) && nat_le start f.1) es))
    ≡ filter (nat_le start) (map (λ f. f.1) (cond t (e ∷ filter (λ f. f.0 == a) es) (filter (λ f. f.0 == a) es)))) [
      | true ↦ elim (nat_le start e.1) as
          (λ t. map (λ f. f.1) (cond t (e ∷ filter (λ f. (f.0 == a) && nat_le start f.1) es) (filter (λ f. (f.0 == a) && nat_le start f.1) es))
          ≡ cond t (e.1 ∷ filter (nat_le start) (targets_in es a)) (filter (nat_le start) (targets_in es a))) [
            | true ↦ ap (λ xs. e.1 ∷ xs) (from_start a start es)
            | false ↦ from_start a start es
          ]
      | false ↦ from_start a start es
    ]

-- ---- from a number on

none_below : (s : ℕ) (xs : List ℕ) → list_all (λ x. nat_lt x s) xs ≡ true → filter (nat_le s) xs ≡ []
none_below s [] h = refl
none_below s (x ∷ xs) h =
    let parts = and_parts (nat_lt x s) (list_all (λ y. nat_lt y s) xs) h in
    let no : nat_le s x ≡ false = grind (arith, nat_tests) in
    ap (λ t. cond t (x ∷ filter (nat_le s) xs) (filter (nat_le s) xs)) no ∙ none_below s xs parts.1

all_above : (s : ℕ) (xs : List ℕ) → list_all (nat_le s) xs ≡ true → filter (nat_le s) xs ≡ xs
all_above s [] h = refl
all_above s (x ∷ xs) h =
    let parts = and_parts (nat_le s x) (list_all (nat_le s) xs) h in
    ap (λ t. cond t (x ∷ filter (nat_le s) xs) (filter (nat_le s) xs)) parts.0 ∙ ap (λ ys. x ∷ ys) (all_above s xs parts.1)

just_above : (s : ℕ) (xs : List ℕ) → list_all (nat_lt s) xs ≡ true → list_all (nat_le (s + 1)) xs ≡ true
just_above s [] h = refl
just_above s (x ∷ xs) h =
    let parts = and_parts (nat_lt s x) (list_all (nat_lt s) xs) h in
    let one : nat_le (s + 1) x ≡ true = grind (arith, nat_tests) in
    and_from (nat_le (s + 1) x) (list_all (nat_le (s + 1)) xs) one (just_above s xs parts.1)

at_is_above : (x : ℕ) (xs : List ℕ) (k : ℕ) → k < length xs → list_all (nat_lt x) xs ≡ true → nat_lt x (slice_index xs k) ≡ true
at_is_above x [] k h all = absurd (omega arith)
at_is_above x (y ∷ xs) zero h all = (and_parts (nat_lt x y) (list_all (nat_lt x) xs) all).0
at_is_above x (y ∷ xs) (suc k) h all = at_is_above x xs k (omega arith) (and_parts (nat_lt x y) (list_all (nat_lt x) xs) all).1

-- behind one of them
behind : (xs : List ℕ) (k : ℕ) → k < length xs → climbs xs ≡ true → filter (nat_le (slice_index xs k + 1)) xs ≡ drop (k + 1) xs
behind [] k h up = absurd (omega arith)
behind (x ∷ xs) zero h up =
    let parts = and_parts (list_all (nat_lt x) xs) (climbs xs) up in
    let no : nat_le (x + 1) x ≡ false = grind (arith, nat_tests) in
    ap (λ t. cond t (x ∷ filter (nat_le (x + 1)) xs) (filter (nat_le (x + 1)) xs)) no ∙ all_above (x + 1) xs (just_above x xs parts.0)
behind (x ∷ xs) (suc k) h up =
    let parts = and_parts (list_all (nat_lt x) xs) (climbs xs) up in
    let above = at_is_above x xs k (omega arith) parts.0 in
    let no : nat_le (slice_index xs k + 1) x ≡ false = grind (arith, nat_tests) in
    ap (λ t. cond t (x ∷ filter (nat_le (slice_index xs k + 1)) xs) (filter (nat_le (slice_index xs k + 1)) xs)) no ∙ (behind xs k (omega arith) parts.1 ∙ (let next : suc (k + 1) ≡ suc k + 1 = omega arith in ap (λ j. drop j (x ∷ xs)) next))

-- a part of what climbs climbs
all_filter : (p q : ℕ → Bool) (xs : List ℕ) → list_all p xs ≡ true → list_all p (filter q xs) ≡ true
all_filter p q [] h = refl
all_filter p q (x ∷ xs) h =
    let parts = and_parts (p x) (list_all p xs) h in
    elim (q x) as (λ t. list_all p (cond t (x ∷ filter q xs) (filter q xs)) ≡ true) [
      | true ↦ and_from (p x) (list_all p (filter q xs)) parts.0 (all_filter p q xs parts.1)
      | false ↦ all_filter p q xs parts.1
    ]

climbs_filter : (q : ℕ → Bool) (xs : List ℕ) → climbs xs ≡ true → climbs (filter q xs) ≡ true
climbs_filter q [] h = refl
climbs_filter q (x ∷ xs) h =
    let parts = and_parts (list_all (nat_lt x) xs) (climbs xs) h in
    elim (q x) as (λ t. climbs (cond t (x ∷ filter q xs) (filter q xs)) ≡ true) [
      | true ↦ and_from (list_all (nat_lt x) (filter q xs)) (climbs (filter q xs)) (all_filter (nat_lt x) q xs parts.0) (climbs_filter q xs parts.1)
      | false ↦ climbs_filter q xs parts.1
    ]

passes : (q : ℕ → Bool) (xs : List ℕ) → list_all q (filter q xs) ≡ true
passes q [] = refl
passes q (x ∷ xs) = elim (q x) as (λ t. q x ≡ t → list_all q (cond t (x ∷ filter q xs) (filter q xs)) ≡ true) [
  | true ↦ λ e. and_from (q x) (list_all q (filter q xs)) e (passes q xs)
  | false ↦ λ e. passes q xs
] refl

-- a later start, from an earlier one
later_start : (s t : ℕ) (xs : List ℕ) → s ≤ t → filter (nat_le t) xs ≡ filter (nat_le t) (filter (nat_le s) xs)
later_start s t [] h = refl
later_start s t (x ∷ xs) h = elim (nat_le s x) as (λ u. nat_le s x ≡ u → cond (nat_le t x) (x ∷ filter (nat_le t) xs) (filter (nat_le t) xs) ≡ filter (nat_le t) (cond u (x ∷ filter (nat_le s) xs) (filter (nat_le s) xs))) [
  | true ↦ λ e. ap (λ ys. cond (nat_le t x) (x ∷ ys) ys) (later_start s t xs h)
  | false ↦ λ e.
      let no : nat_le t x ≡ false = grind (arith, nat_tests) in
      ap (λ u. cond u (x ∷ filter (nat_le t) xs) (filter (nat_le t) xs)) no ∙ later_start s t xs h
] refl

-- ---- a page and what is behind it

index_take : (n k : ℕ) (xs : List ℕ) → k < n → slice_index (take n xs) k ≡ slice_index xs k
index_take zero k xs h = absurd (omega arith)
index_take (suc n) k [] h = refl
index_take (suc n) zero (x ∷ xs) h = refl
index_take (suc n) (suc k) (x ∷ xs) h = index_take n k xs (omega arith)

index_passes : (q : ℕ → Bool) (xs : List ℕ) (k : ℕ) → k < length xs → list_all q xs ≡ true → q (slice_index xs k) ≡ true
index_passes q [] k h all = absurd (omega arith)
index_passes q (x ∷ xs) zero h all = (and_parts (q x) (list_all q xs) all).0
index_passes q (x ∷ xs) (suc k) h all = index_passes q xs k (omega arith) (and_parts (q x) (list_all q xs) all).1

short : (n : ℕ) (xs : List ℕ) → length (take n xs) < n → drop n xs ≡ []
short zero xs h = absurd (omega arith)
short (suc n) [] h = refl
short (suc n) (x ∷ xs) h = short n xs (omega arith)

long : (n : ℕ) (xs : List ℕ) → n ≤ length (take n xs) → n ≤ length xs
long n xs h = let e = length-take n xs in omega (arith, e)

-- the targets that are left behind a page
pub left_behind : (xs : List ℕ) (start end : ℕ) → start < end → climbs xs ≡ true → list_all (λ x. nat_lt x end) xs ≡ true
    → filter (nat_le (next_in (take 64 (filter (nat_le start) xs)) start end)) xs ≡ drop 64 (filter (nat_le start) xs)
left_behind xs start end some up within =
    let rest = filter (nat_le start) xs in
    let page = take 64 rest in
    let last = slice_index page 63 in
    elim (nat_lt (length page) 64) as (λ t. nat_lt (length page) 64 ≡ t → filter (nat_le (cond t end (cond (nat_le start last && nat_lt last end) (last + 1) end))) xs ≡ drop 64 rest) [
      | true ↦ λ e. none_below end xs within ∙ sym (short 64 rest (ltb-true (length page) 64 e))
      | false ↦ λ e.
          let many : 64 ≤ length page = grind (arith, nat_tests) in
          let all = long 64 rest many in
          let same : last ≡ slice_index rest 63 = index_take 64 63 rest (omega arith) in
          let above : nat_le start last ≡ true = ap (nat_le start) same ∙ index_passes (nat_le start) rest 63 (omega arith) (passes (nat_le start) xs) in
          let below : nat_lt last end ≡ true = ap (λ x. nat_lt x end) same ∙ index_passes (λ x. nat_lt x end) rest 63 (omega arith) (all_filter (λ x. nat_lt x end) (nat_le start) xs within) in
          let on : start ≤ last + 1 = grind (arith, nat_tests) in
          ap (λ t. filter (nat_le (cond t (last + 1) end)) xs) (and_from (nat_le start last) (nat_lt last end) above below)
          ∙ (later_start start (last + 1) xs on
          ∙ (ap (λ k. filter (nat_le (k + 1)) rest) same ∙ behind rest 63 (omega arith) (climbs_filter (nat_le start) xs up)))
    ] refl

-- ---- how many are named

-- the counts with a page
pub counted_page : (p : ℕ → Bool) (xs : List ℕ) → length (filter p (take 64 xs)) + length (filter p (drop 64 xs)) ≡ length (filter p xs)
counted_page p xs =
    let split = ap (λ ys. length (filter p ys)) (take-append-drop 64 xs) in
    let parts = ap length (filter-append p (take 64 xs) (drop 64 xs)) in
    let sum = length-append (filter p (take 64 xs)) (filter p (drop 64 xs)) in
    omega (arith, split, parts, sum)

pub length_page : (xs : List ℕ) → length (take 64 xs) + length (drop 64 xs) ≡ length xs
length_page xs =
    let split = ap length (take-append-drop 64 xs) in
    let sum = length-append (take 64 xs) (drop 64 xs) in
    omega (arith, split, sum)

pub both_kinds : (p : ℕ → Bool) (xs : List ℕ) → length (filter p xs) + length (filter (λ x. not (p x)) xs) ≡ length xs
both_kinds p [] = refl
both_kinds p (x ∷ xs) = let rest = both_kinds p xs in elim (p x) as
    (λ t. length (cond t (x ∷ filter p xs) (filter p xs)) + length (cond (not t) (x ∷ filter (λ y. not (p y)) xs) (filter (λ y. not (p y)) xs)) ≡ suc (length xs)) [
      | true ↦ omega (arith, rest)
      | false ↦ omega (arith, rest)
    ]

-- from 0 on they are all
pub from_zero : (xs : List ℕ) → filter (nat_le 0) xs ≡ xs
from_zero [] = refl
from_zero (x ∷ xs) =
    let yes : nat_le 0 x ≡ true = grind (arith, nat_tests) in
    ap (λ t. cond t (x ∷ filter (nat_le 0) xs) (filter (nat_le 0) xs)) yes ∙ ap (λ ys. x ∷ ys) (from_zero xs)

-- from the disk's end on there is none
pub none_from_end : (end : ℕ) (xs : List ℕ) → list_all (λ x. nat_lt x end) xs ≡ true → filter (nat_le end) xs ≡ []
none_from_end end xs h = none_below end xs h
