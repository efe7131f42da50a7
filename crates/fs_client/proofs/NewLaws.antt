-- New blocks of a world: which are chosen, and the world with them.
use Rattle.std.proofs.Common.{◌≡◌, ℕ, zero, suc, ◌+◌, ◌<◌, ◌≤◌, Bool, true, false, cond, ◌&&◌, ◌||◌, ◌==◌, nat_lt, nat_le, List, [], ◌∷◌, length, refl, sym, ◌∙◌, ap, subst, arith, inl, inr, Some, None}
use Rattle.fs_client.proofs.Common.{and_parts, or_cases, or_left, or_right, eq-eqb, eqb-true, length-take, length-set, ext_get_or, sum_by-cons, is_some, is_none, count_by, filter, map, range_with_len, World, contents, is_live, is_free, free_count, all_blocks, has_number, are_apart, holds, is_pair, hint_block, in_rank_order, sorted_by_rank, free_blocks, chosen, zeros, with_contents, with_pointer, with_new_blocks, Hint, PlaceKind, holds-with_pair, contents-other, contents-same, AllOf, chosen_are_free, has_number-range}
use Rattle.std.proofs.lemmas.List.FromFn.{length-map-range_with_len, get_or-map-range_with_len}
use Rattle.std.specs.Prelude.{take}
use Rattle.tsd_model.specs.Rank.{rank_of}
use Rattle.disk_laws.proofs.StayLaws.{live-new_blocks}
use Rattle.fs_laws.proofs.CountLaws.{times, times_apart}
use Rattle.tsd_model.proofs.ValueLaws.{clash, neither}

-- ---- none is chosen twice

times-in_order : (rank : ℕ → ℕ) (x b : ℕ) (bs : List ℕ) → times x (in_rank_order rank b bs) ≡ cond (b == x) 1 0 + times x bs
times-in_order rank x b [] = refl
times-in_order rank x b (c ∷ cs) =
    let later = times-in_order rank x b cs in
    elim (nat_lt (rank b) (rank c)) as (λ t. times x (cond t (b ∷ c ∷ cs) (c ∷ in_rank_order rank b cs)) ≡ cond (b == x) 1 0 + (cond (c == x) 1 0 + times x cs)) [
      | true ↦ refl
      | false ↦ omega (arith, later)
    ]

times-sorted : (rank : ℕ → ℕ) (x : ℕ) (bs : List ℕ) → times x (sorted_by_rank rank bs) ≡ times x bs
times-sorted rank x [] = refl
times-sorted rank x (b ∷ bs) =
    let here = times-in_order rank x b (sorted_by_rank rank bs) in
    let later = times-sorted rank x bs in
    omega (arith, here, later)

times-take : (x n : ℕ) (bs : List ℕ) → times x (take n bs) ≤ times x bs
times-take x zero [] = omega arith
times-take x zero (b ∷ bs) = omega arith
times-take x (suc n) [] = omega arith
times-take x (suc n) (b ∷ bs) = let later = times-take x n bs in omega (arith, later)

times-filter : (f : ℕ → Bool) (x : ℕ) (bs : List ℕ) → times x (filter f bs) ≤ times x bs
times-filter f x [] = omega arith
times-filter f x (b ∷ bs) =
    let later = times-filter f x bs in
    elim (f b) as (λ t. times x (cond t (b ∷ filter f bs) (filter f bs)) ≤ cond (b == x) 1 0 + times x bs) [
      | true ↦ omega (arith, later)
      | false ↦ omega (arith, later)
    ]

range_above : (first n x : ℕ) → x < first → times x (range_with_len first n) ≡ 0
range_above first zero x h = refl
range_above first (suc n) x h =
    let later = range_above (first + 1) n x (omega (arith, h)) in
    elim (first == x) as (λ t. (first == x) ≡ t → cond t 1 0 + times x (range_with_len (first + 1) n) ≡ 0) [
      | true ↦ λ e. let same = eqb-true first x e in absurd (omega (arith, h, same))
      | false ↦ λ e. omega (arith, later)
    ] refl

range_once : (first n x : ℕ) → times x (range_with_len first n) ≤ 1
range_once first zero x = omega arith
range_once first (suc n) x =
    let later = range_once (first + 1) n x in
    elim (first == x) as (λ t. (first == x) ≡ t → cond t 1 0 + times x (range_with_len (first + 1) n) ≤ 1) [
      | true ↦ λ e. let same = eqb-true first x e in let none = range_above (first + 1) n x (omega (arith, same)) in omega (arith, none)
      | false ↦ λ e. omega (arith, later)
    ] refl

pub chosen_apart : (kind : PlaceKind) (w : World) (h : Hint) (count : ℕ) → are_apart (chosen kind w h count) ≡ true
chosen_apart kind w h count = times_apart (chosen kind w h count) (λ x.
    let rank = rank_of kind (hint_block h) in
    let a = times-take x count (sorted_by_rank rank (free_blocks w)) in
    let b = times-sorted rank x (free_blocks w) in
    let c = times-filter (is_free w) x (all_blocks w) in
    let d = range_once 0 (length w.blocks) x in
    omega (arith, a, b, c, d))

-- each is free
pub all_of_number : (P : ℕ → Type 0) (bs : List ℕ) (b : ℕ) → AllOf P bs → has_number bs b ≡ true → P b
all_of_number P [] b all h = absurd (cc)
all_of_number P (x ∷ bs) b all h = elim (or_cases (x == b) (has_number bs b) h) [
  | inl here ↦ subst P (eqb-true x b here) all.0
  | inr later ↦ all_of_number P bs b all.1 later
]

pub chosen_free : (kind : PlaceKind) (w : World) (h : Hint) (count b : ℕ) → has_number (chosen kind w h count) b ≡ true → is_free w b ≡ true
chosen_free kind w h count b m = all_of_number (λ c. is_free w c ≡ true) (chosen kind w h count) b (chosen_are_free kind w h count) m

-- ---- the world with them

pub contents_off : (a : ℕ) (bs : List ℕ) (w : World) (c : ℕ) → has_number bs c ≡ false → contents (with_new_blocks w a bs) c ≡ contents w c
contents_off a [] w c h = refl
contents_off a (b ∷ bs) w c h =
    let off = neither (b == c) (has_number bs c) h in
    contents_off a bs (with_pointer (with_contents w b (zeros w)) a b) c off.1 ∙ contents-other w b c (zeros w) (λ e. clash (b == c) (eq-eqb b c (sym e)) off.0)

pub lives_new : (a : ℕ) (bs : List ℕ) (w : World) → ((b : ℕ) → has_number bs b ≡ true → b < length w.blocks) → (c : ℕ) → has_number bs c ≡ true → is_live (with_new_blocks w a bs) c ≡ true
lives_new a [] w inside c h = absurd (cc)
lives_new a (b ∷ bs) w inside c h = elim (or_cases (b == c) (has_number bs c) h) [
  | inl here ↦ live-new_blocks a bs (with_pointer (with_contents w b (zeros w)) a b) c
      (subst (λ k. is_live (with_contents w b (zeros w)) k ≡ true) (eqb-true b c here) (ap is_some (contents-same w b (zeros w) (inside b (or_left (b == b) _ (eq-eqb b b refl))))))
  | inr later ↦ lives_new a bs (with_pointer (with_contents w b (zeros w)) a b)
      (λ k m. subst (λ n. k < n) (sym (length-set w.blocks b (Some (zeros w)))) (inside k (or_right (b == k) _ m))) c later
]

pub holds_new : (a : ℕ) (bs : List ℕ) (w : World) (x y : ℕ) → holds (with_new_blocks w a bs).pairs x y ≡ (holds w.pairs x y || holds (map (λ c. (a, c)) bs) x y)
holds_new a [] w x y = or_none (holds w.pairs x y)
  where
    or_none : (t : Bool) → t ≡ (t || false)
    or_none true = refl
    or_none false = refl
holds_new a (b ∷ bs) w x y =
    holds_new a bs (with_pointer (with_contents w b (zeros w)) a b) x y
    ∙ (ap (λ t. t || holds (map (λ c. (a, c)) bs) x y) (holds-with_pair (a, b) w.pairs x y)
    ∙ turned (is_pair x y (a, b)) (holds w.pairs x y) (holds (map (λ c. (a, c)) bs) x y))
  where
    turned : (s t u : Bool) → ((s || t) || u) ≡ (t || (s || u))
    turned true true u = refl
    turned true false u = refl
    turned false true u = refl
    turned false false u = refl

-- ---- what is chosen where enough is free

length-in_order : (rank : ℕ → ℕ) (b : ℕ) (bs : List ℕ) → length (in_rank_order rank b bs) ≡ suc (length bs)
length-in_order rank b [] = refl
length-in_order rank b (c ∷ cs) = elim (nat_lt (rank b) (rank c)) as (λ t. length (cond t (b ∷ c ∷ cs) (c ∷ in_rank_order rank b cs)) ≡ suc (suc (length cs))) [
  | true ↦ refl
  | false ↦ ap suc (length-in_order rank b cs)
]

length-sorted : (rank : ℕ → ℕ) (bs : List ℕ) → length (sorted_by_rank rank bs) ≡ length bs
length-sorted rank [] = refl
length-sorted rank (b ∷ bs) = length-in_order rank b (sorted_by_rank rank bs) ∙ ap suc (length-sorted rank bs)

free_listed : (w : World) → free_count w ≡ length (free_blocks w)
free_listed w = ap (count_by is_none) all ∙ each (all_blocks w) (λ b h. h)
  where
    all : w.blocks ≡ map (contents w) (all_blocks w)
    all = ext_get_or None w.blocks (map (contents w) (all_blocks w)) (sym (length-map-range_with_len (contents w) 0 (length w.blocks)))
        (λ b h. sym (get_or-map-range_with_len (contents w) 0 (length w.blocks) b b None h (omega arith)))

    inside : (b : ℕ) → has_number (all_blocks w) b ≡ true → nat_lt b (length w.blocks) ≡ true
    inside b h = let e : 0 + length w.blocks ≡ length w.blocks = omega arith in sym (ap (nat_lt b) e) ∙ (and_parts (nat_le 0 b) (nat_lt b (0 + length w.blocks)) (sym (has_number-range 0 (length w.blocks) b) ∙ h)).1

    each : (xs : List ℕ) → ((b : ℕ) → has_number xs b ≡ true → has_number (all_blocks w) b ≡ true) → count_by is_none (map (contents w) xs) ≡ length (filter (is_free w) xs)
    each [] within = refl
    each (x ∷ xs) within = sum_by-cons (λ o. cond (is_none o) 1 0) (contents w x) (map (contents w) xs)
        ∙ (ap (λ n. cond (is_none (contents w x)) 1 0 + n) (each xs (λ b h. within b (or_right (x == b) _ h)))
        ∙ (more (is_none (contents w x)) (filter (is_free w) xs)
        ∙ ap (λ t. length (cond (t && is_none (contents w x)) (x ∷ filter (is_free w) xs) (filter (is_free w) xs))) (sym (inside x (within x (or_left (x == x) _ (eq-eqb x x refl)))))))
      where
        more : (t : Bool) (ys : List ℕ) → cond t 1 0 + length ys ≡ length (cond t (x ∷ ys) ys)
        more true ys = omega arith
        more false ys = omega arith

pub chosen_enough : (kind : PlaceKind) (w : World) (h : Hint) (count : ℕ) → count ≤ free_count w → length (chosen kind w h count) ≡ count
chosen_enough kind w h count enough =
    let rank = rank_of kind (hint_block h) in
    let sorted = length-sorted rank (free_blocks w) in
    let all = free_listed w in
    let taken = length-take count (sorted_by_rank rank (free_blocks w)) in
    omega (arith, taken, sorted, all, enough)

-- ---- what else new blocks leave

pub version_new : (a : ℕ) (bs : List ℕ) (w : World) → (with_new_blocks w a bs).version ≡ w.version
version_new a [] w = refl
version_new a (b ∷ bs) w = version_new a bs (with_pointer (with_contents w b (zeros w)) a b)

pub records_new : (a : ℕ) (bs : List ℕ) (w : World) → (with_new_blocks w a bs).records ≡ w.records
records_new a [] w = refl
records_new a (b ∷ bs) w = records_new a bs (with_pointer (with_contents w b (zeros w)) a b)
