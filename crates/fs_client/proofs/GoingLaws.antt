-- Pairs let go of one after the other: what holds so far.
use Rattle.std.proofs.Common.{◌≡◌, ℕ, zero, suc, ◌+◌, ◌<◌, ◌≤◌, Bool, true, false, not, cond, ◌&&◌, ◌||◌, ◌==◌, nat_lt, nat_le, List, [], ◌∷◌, length, refl, sym, ◌∙◌, ap, arith, inl, inr, ◌⊎◌, Ok}
use Rattle.fs_client.proofs.Common.{and_parts, and_from, or_cases, or_left, or_right, eqb-true, not-true, nat_tests, drop, filter, map, slice_index, list_all, World, has_number, are_apart, holds, IsValid, targets_from, Named, DiskView, Client, targets_of, next_in, MayDelete, Trims}
use Rattle.std.specs.Prelude.{take}
use Rattle.fs_client.proofs.Counting.{rest_of, page_is, behind_page}
use Rattle.fs_client.proofs.PageLaws.{targets_climb, climbs}
use Rattle.tsd_model.proofs.ValueLaws.{clash}

-- ---- in a page

-- the targets before place i are let go of, where they aren't named
pub record PageGoing (told : Type 0) (c : Client) (n : Named) (first now : DiskView) (a : ℕ) (targets names : List ℕ) (i : ℕ) : Type 0 where
  pub may : MayDelete told c n now a names
  pub trims : Trims {X = Unit {0}} told c n first now (Ok tt)
  pub held : told → (b : ℕ) → has_number (drop i targets) b ≡ true → holds now.world.pairs a b ≡ true
  pub gone : told → (b : ℕ) → has_number (take i targets) b ≡ true → has_number names b ≡ false → holds now.world.pairs a b ≡ false

-- the first of what is left, and the others
pub here_or_later : (xs : List ℕ) (i b : ℕ) → i < length xs → has_number (drop i xs) b ≡ ((slice_index xs i == b) || has_number (drop (i + 1) xs) b)
here_or_later [] i b h = absurd (omega arith)
here_or_later (x ∷ xs) zero b h = refl
here_or_later (x ∷ xs) (suc i) b h =
    let next : suc i + 1 ≡ suc (i + 1) = omega arith in
    here_or_later xs i b (omega arith) ∙ ap (λ n. (slice_index xs i == b) || has_number (drop n (x ∷ xs)) b) (sym next)

pub before_or_here : (xs : List ℕ) (i b : ℕ) → i < length xs → has_number (take (i + 1) xs) b ≡ (has_number (take i xs) b || (slice_index xs i == b))
before_or_here [] i b h = absurd (omega arith)
before_or_here (x ∷ xs) zero b h = turned (x == b)
  where
    turned : (t : Bool) → (t || false) ≡ (false || t)
    turned true = refl
    turned false = refl
before_or_here (x ∷ xs) (suc i) b h =
    let next : suc i + 1 ≡ suc (i + 1) = omega arith in
    ap (λ n. has_number (take n (x ∷ xs)) b) next ∙ (ap (λ t. (x == b) || t) (before_or_here xs i b (omega arith)) ∙ sym (grouped (x == b) (has_number (take i xs) b) (slice_index xs i == b)))
  where
    grouped : (s t u : Bool) → ((s || t) || u) ≡ (s || (t || u))
    grouped true t u = refl
    grouped false t u = refl

-- of blocks that are apart none comes again
pub none_again : (xs : List ℕ) (i : ℕ) → are_apart xs ≡ true → i < length xs → has_number (drop (i + 1) xs) (slice_index xs i) ≡ false
none_again [] i h k = absurd (omega arith)
none_again (x ∷ xs) zero h k = not-true (has_number xs x) (and_parts (not (has_number xs x)) (are_apart xs) h).0
none_again (x ∷ xs) (suc i) h k =
    let next : suc i + 1 ≡ suc (i + 1) = omega arith in
    ap (λ n. has_number (drop n (x ∷ xs)) (slice_index xs i)) next ∙ none_again xs i (and_parts (not (has_number xs x)) (are_apart xs) h).1 (omega arith)

pub later_is_other : (xs : List ℕ) (i b : ℕ) → are_apart xs ≡ true → i < length xs → has_number (drop (i + 1) xs) b ≡ true → (slice_index xs i == b) ≡ false
later_is_other xs i b h k m = elim (slice_index xs i == b) as (λ t. (slice_index xs i == b) ≡ t → t ≡ false) [
  | true ↦ λ e. absurd (clash (has_number (drop (i + 1) xs) (slice_index xs i)) (ap (has_number (drop (i + 1) xs)) (eqb-true (slice_index xs i) b e) ∙ m) (none_again xs i h k))
  | false ↦ λ e. refl
] refl

pub gone_still : (was is : Bool) → was ≡ false → (is ≡ true → was ≡ true) → is ≡ false
gone_still was true h on = let e = on refl in cc
gone_still was false h on = refl

pub drop_whole : (xs : List ℕ) (i b : ℕ) → length xs ≤ i → has_number xs b ≡ true → has_number (take i xs) b ≡ true
drop_whole xs i b h m = ap (λ ys. has_number ys b) (taken xs i h) ∙ m
  where
    taken : (xs : List ℕ) (i : ℕ) → length xs ≤ i → take i xs ≡ xs
    taken [] zero h = refl
    taken [] (suc i) h = refl
    taken (x ∷ xs) zero h = absurd (omega arith)
    taken (x ∷ xs) (suc i) h = ap (λ ys. x ∷ ys) (taken xs i (omega arith))

-- ---- page by page

-- the pairs to blocks before a start are let go of, where they aren't named
pub record OthersGoing (told : Type 0) (c : Client) (n : Named) (first now : DiskView) (a : ℕ) (names : List ℕ) (start : ℕ) : Type 0 where
  pub may : MayDelete told c n now a names
  pub trims : Trims {X = Unit {0}} told c n first now (Ok tt)
  pub passed : told → (b : ℕ) → b < start → holds now.world.pairs a b ≡ true → has_number names b ≡ true

-- a target is one of a block's
pub is_target : (a b : ℕ) (es : List (ℕ × ℕ)) → has_number (map (λ e. e.1) (filter (λ e. e.0 == a) es)) b ≡ holds es a b
is_target a b [] = refl
is_target a b (e ∷ es) = elim (e.0 == a) as (λ t. has_number (map (λ f. f.1) (cond t (e ∷ filter (λ f. f.0 == a) es) (filter (λ f. f.0 == a) es))) b ≡ ((t && (e.1 == b)) || holds es a b)) [
  | true ↦ ap (λ t. (e.1 == b) || t) (is_target a b es)
  | false ↦ is_target a b es
]

in_rest : (start b : ℕ) (xs : List ℕ) → has_number (filter (nat_le start) xs) b ≡ (nat_le start b && has_number xs b)
in_rest start b [] = none (nat_le start b)
  where
    none : (t : Bool) → false ≡ (t && false)
    none true = refl
    none false = refl
in_rest start b (x ∷ xs) = elim (x == b) as (λ t. (x == b) ≡ t → has_number (filter (nat_le start) (x ∷ xs)) b ≡ (nat_le start b && (t || has_number xs b))) [
  | true ↦ λ e. let same = eqb-true x b e in
      elim (nat_le start x) as (λ t. nat_le start x ≡ t → has_number (cond t (x ∷ filter (nat_le start) xs) (filter (nat_le start) xs)) b ≡ (nat_le start b && true)) [
        | true ↦ λ k. or_left (x == b) _ e ∙ sym (and_from (nat_le start b) true (ap (nat_le start) (sym same) ∙ k) refl)
        | false ↦ λ k. in_rest start b xs ∙ (ap (λ t. t && has_number xs b) (ap (nat_le start) (sym same) ∙ k) ∙ sym (ap (λ t. t && true) (ap (nat_le start) (sym same) ∙ k)))
      ] refl
  | false ↦ λ e.
      elim (nat_le start x) as (λ t. has_number (cond t (x ∷ filter (nat_le start) xs) (filter (nat_le start) xs)) b ≡ (nat_le start b && has_number xs b)) [
        | true ↦ ap (λ t. t || has_number (filter (nat_le start) xs) b) e ∙ in_rest start b xs
        | false ↦ in_rest start b xs
      ]
] refl

split_page : (n b : ℕ) (xs : List ℕ) → has_number xs b ≡ true → (has_number (take n xs) b ≡ true) ⊎ (has_number (drop n xs) b ≡ true)
split_page zero b xs h = inr h
split_page (suc n) b [] h = absurd (cc)
split_page (suc n) b (x ∷ xs) h = elim (or_cases (x == b) (has_number xs b) h) [
  | inl here ↦ inl (or_left (x == b) _ here)
  | inr later ↦ elim (split_page n b xs later) [ inl front ↦ inl (or_right (x == b) _ front) | inr behind ↦ inr behind ]
]

from_take : (n b : ℕ) (xs : List ℕ) → has_number (take n xs) b ≡ true → has_number xs b ≡ true
from_take zero b xs h = absurd (cc)
from_take (suc n) b [] h = absurd (cc)
from_take (suc n) b (x ∷ xs) h = elim (or_cases (x == b) (has_number (take n xs) b) h) [
  | inl here ↦ or_left (x == b) _ here
  | inr later ↦ or_right (x == b) _ (from_take n b xs later)
]

module _ (w : World) (a start end : ℕ) (page : List ℕ) (e : page ≡ targets_from w.pairs a start) where
  -- what is on the page is pointed to
  pub page_held : (b : ℕ) → has_number page b ≡ true → holds w.pairs a b ≡ true
  page_held b h =
      let listed : has_number (rest_of w a start) b ≡ true = from_take 64 b (rest_of w a start) (ap (λ xs. has_number xs b) (sym (page_is w a start page e)) ∙ h) in
      sym (is_target a b w.pairs) ∙ (and_parts (nat_le start b) (has_number (targets_of w a) b) (sym (in_rest start b (targets_of w a)) ∙ listed)).1

  -- and what is pointed to from the start on, before the next one, is on the page
  pub on_page : IsValid w → start < end → end ≡ w.geometry.blocks → (b : ℕ) → start ≤ b → b < next_in page start end → holds w.pairs a b ≡ true → has_number page b ≡ true
  on_page valid some whole b low high h =
      let from : nat_le start b ≡ true = grind (arith, nat_tests) in
      let listed : has_number (rest_of w a start) b ≡ true = in_rest start b (targets_of w a) ∙ and_from (nat_le start b) _ from (is_target a b w.pairs ∙ h) in
      elim (split_page 64 b (rest_of w a start) listed) [
        | inl front ↦ ap (λ xs. has_number xs b) (page_is w a start page e) ∙ front
        | inr behind ↦
            let later : has_number (rest_of w a (next_in page start end)) b ≡ true = ap (λ xs. has_number xs b) (behind_page w a start end page valid some whole e) ∙ behind in
            let far = (and_parts (nat_le (next_in page start end) b) (has_number (targets_of w a) b) (sym (in_rest (next_in page start end) b (targets_of w a)) ∙ later)).0 in
            absurd (never b (next_in page start end) far high)
      ]
    where
      never : (b n : ℕ) → nat_le n b ≡ true → b < n → ⊥
      never b n h k = let le : n ≤ b = grind (arith, nat_tests) in omega (arith, le, k)

-- the page's blocks are apart
pub page_apart : (w : World) (a start : ℕ) (page : List ℕ) → IsValid w → page ≡ targets_from w.pairs a start → are_apart page ≡ true
page_apart w a start page valid e = ap are_apart (page_is w a start page e) ∙ apart_take 64 (rest_of w a start) (apart_rest start (targets_of w a) (apart_climbs (targets_of w a) (targets_climb a w.pairs valid.raw.rising)))
  where
    gone_take : (n b : ℕ) (xs : List ℕ) → has_number xs b ≡ false → has_number (take n xs) b ≡ false
    gone_take n b xs h = elim (has_number (take n xs) b) as (λ t. has_number (take n xs) b ≡ t → t ≡ false) [
      | true ↦ λ k. absurd (clash (has_number xs b) (from_take n b xs k) h)
      | false ↦ λ k. refl
    ] refl

    apart_take : (n : ℕ) (xs : List ℕ) → are_apart xs ≡ true → are_apart (take n xs) ≡ true
    apart_take zero xs h = refl
    apart_take (suc n) [] h = refl
    apart_take (suc n) (x ∷ xs) h =
        let parts = and_parts (not (has_number xs x)) (are_apart xs) h in
        and_from (not (has_number (take n xs) x)) _ (ap not (gone_take n x xs (not-true (has_number xs x) parts.0))) (apart_take n xs parts.1)

    apart_rest : (start : ℕ) (xs : List ℕ) → are_apart xs ≡ true → are_apart (filter (nat_le start) xs) ≡ true
    apart_rest start [] h = refl
    apart_rest start (x ∷ xs) h =
        let parts = and_parts (not (has_number xs x)) (are_apart xs) h in
        elim (nat_le start x) as (λ t. are_apart (cond t (x ∷ filter (nat_le start) xs) (filter (nat_le start) xs)) ≡ true) [
          | true ↦ and_from (not (has_number (filter (nat_le start) xs) x)) _ (ap not (in_rest start x xs ∙ (ap (λ t. nat_le start x && t) (not-true (has_number xs x) parts.0) ∙ never (nat_le start x)))) (apart_rest start xs parts.1)
          | false ↦ apart_rest start xs parts.1
        ]
      where
        never : (t : Bool) → (t && false) ≡ false
        never true = refl
        never false = refl

    apart_climbs : (xs : List ℕ) → climbs xs ≡ true → are_apart xs ≡ true
    apart_climbs [] h = refl
    apart_climbs (x ∷ xs) h =
        let parts = and_parts (list_all (nat_lt x) xs) (climbs xs) h in
        and_from (not (has_number xs x)) _ (ap not (none_below x xs parts.0)) (apart_climbs xs parts.1)
      where
        none_below : (x : ℕ) (ys : List ℕ) → list_all (nat_lt x) ys ≡ true → has_number ys x ≡ false
        none_below x [] h = refl
        none_below x (y ∷ ys) h =
            let parts = and_parts (nat_lt x y) (list_all (nat_lt x) ys) h in
            let off : (y == x) ≡ false = grind (arith, nat_tests) in
            ap (λ t. t || has_number ys x) off ∙ none_below x ys parts.1
