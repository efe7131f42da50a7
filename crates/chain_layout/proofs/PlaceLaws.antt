-- A cluster's entries, from one of them on.
use Rattle.std.proofs.Common.{◌≡◌, ℕ, zero, suc, ◌+◌, ◌*◌, ◌-◌, ◌<◌, ◌≤◌, Bool, true, false, cond, ◌&&◌, ◌||◌, ◌==◌, List, [], ◌∷◌, length, refl, sym, ◌∙◌, ap, arith, Option, Some, None}
use Rattle.std.proofs.Common.{nat_lt, inl, inr, not}
use Rattle.std.proofs.lemmas.Bool.{and_parts, and_from, or_cases, or_left, or_right, eqb-true, eq-eqb}
use Rattle.std.proofs.lemmas.Bool.Decides.{nat_tests}
use Rattle.std.proofs.lemmas.List.{drop-take, take-take, take_rest}
use Rattle.std.specs.Prelude.{take, drop, slice_index, slice_get, bytes_eq}
use Rattle.std.specs.List.{position_from, list_any}
use Rattle.byteorder.specs.Endian.{little_number}
use Rattle.tsd_model.specs.World.{has_number}
use Rattle.fs_trees.specs.Names.{Name, name_lt, is_name, are_distinct}
use Rattle.fs_trees.specs.Fields.{unpadded, Entry, entry_in, entries, entry_names, all_named}
use Rattle.fs_laws.proofs.DirectoryLaws.{names_meet}
use Rattle.fs_fields.proofs.PadLaws.{drop-drop, entries_from}
use Rattle.chain_layout.specs.Listed.{is_among, name_in, lesser, if_above, least_above, entry_blocks}
use Rattle.tsd_model.proofs.ValueLaws.{clash}

-- by what the entry there is
module _ (xs : List ℕ) (amount i : ℕ) (h : i < amount) where
  here : Entry
  here = entry_in (drop (32 * i) xs)

  rest : List Entry
  rest = entries (amount - (i + 1)) (drop (32 * (i + 1)) xs)

  split : entries (amount - i) (drop (32 * i) xs) ≡ here ∷ rest
  unfolding here rest
  split = entries_from xs amount i h

  pub unnamed_stops : is_name (name_in xs i) ≡ false → all_named (entries (amount - i) (drop (32 * i) xs)) ≡ false
  unfolding here rest
  unnamed_stops p = ap all_named split ∙ ap (λ t. t && all_named rest) p

  pub named_goes_on : is_name (name_in xs i) ≡ true → all_named (entries (amount - i) (drop (32 * i) xs)) ≡ all_named (entries (amount - (i + 1)) (drop (32 * (i + 1)) xs))
  unfolding here rest
  named_goes_on p = ap all_named split ∙ ap (λ t. t && all_named rest) p

  pub place_stops : (test : Entry → Bool) → test (entry_in (drop (32 * i) xs)) ≡ true → position_from test i (entries (amount - i) (drop (32 * i) xs)) ≡ Some i
  unfolding here rest
  place_stops test p = ap (position_from test i) split ∙ ap (λ t. cond t (Some i) (position_from test (i + 1) rest)) p

  pub place_goes_on : (test : Entry → Bool) → test (entry_in (drop (32 * i) xs)) ≡ false → position_from test i (entries (amount - i) (drop (32 * i) xs)) ≡ position_from test (i + 1) (entries (amount - (i + 1)) (drop (32 * (i + 1)) xs))
  unfolding here rest
  place_goes_on test p = ap (position_from test i) split ∙ ap (λ t. cond t (Some i) (position_from test (i + 1) rest)) p

  pub among_stops : (n : Name) → bytes_eq n (name_in xs i) ≡ true → is_among (entry_names (entries (amount - i) (drop (32 * i) xs))) n ≡ true
  unfolding here rest
  among_stops n p = ap (λ es. is_among (entry_names es) n) split ∙ ap (λ t. t || is_among (entry_names rest) n) p

  pub among_goes_on : (n : Name) → bytes_eq n (name_in xs i) ≡ false → is_among (entry_names (entries (amount - i) (drop (32 * i) xs))) n ≡ is_among (entry_names (entries (amount - (i + 1)) (drop (32 * (i + 1)) xs))) n
  unfolding here rest
  among_goes_on n p = ap (λ es. is_among (entry_names es) n) split ∙ ap (λ t. t || is_among (entry_names rest) n) p

  pub distinct_stops : is_among (entry_names (entries (amount - (i + 1)) (drop (32 * (i + 1)) xs))) (name_in xs i) ≡ true → are_distinct (entry_names (entries (amount - i) (drop (32 * i) xs))) ≡ false
  unfolding here rest
  distinct_stops p = ap (λ es. are_distinct (entry_names es)) split ∙ ap (λ t. not t && are_distinct (entry_names rest)) p

  pub distinct_goes_on : is_among (entry_names (entries (amount - (i + 1)) (drop (32 * (i + 1)) xs))) (name_in xs i) ≡ false
      → are_distinct (entry_names (entries (amount - i) (drop (32 * i) xs))) ≡ are_distinct (entry_names (entries (amount - (i + 1)) (drop (32 * (i + 1)) xs)))
  unfolding here rest
  distinct_goes_on p = ap (λ es. are_distinct (entry_names es)) split ∙ ap (λ t. not t && are_distinct (entry_names rest)) p

  pub any_stops : (test : Name → Bool) → test (name_in xs i) ≡ true → list_any test (entry_names (entries (amount - i) (drop (32 * i) xs))) ≡ true
  unfolding here rest
  any_stops test p = ap (λ es. list_any test (entry_names es)) split ∙ ap (λ t. t || list_any test (entry_names rest)) p

  pub any_goes_on : (test : Name → Bool) → test (name_in xs i) ≡ false → list_any test (entry_names (entries (amount - i) (drop (32 * i) xs))) ≡ list_any test (entry_names (entries (amount - (i + 1)) (drop (32 * (i + 1)) xs)))
  unfolding here rest
  any_goes_on test p = ap (λ es. list_any test (entry_names es)) split ∙ ap (λ t. t || list_any test (entry_names rest)) p

  pub least_goes_on : (n : Name) → least_above n (entry_names (entries (amount - i) (drop (32 * i) xs))) ≡ lesser (if_above n (name_in xs i)) (least_above n (entry_names (entries (amount - (i + 1)) (drop (32 * (i + 1)) xs))))
  unfolding here rest
  least_goes_on n = ap (λ es. least_above n (entry_names es)) split

-- whether a name is among those behind its entry, as they are cut out
pub among_rest : (xs : List ℕ) (amount i : ℕ) → i < amount → (n : Name) (found : Bool) → n ≡ name_in xs i
    → found ≡ is_among (entry_names (entries (amount - i - 1) (take (length xs - (32 * i + 32)) (drop (32 * i + 32) xs)))) n
    → is_among (entry_names (entries (amount - (i + 1)) (drop (32 * (i + 1)) xs))) (name_in xs i) ≡ found
among_rest xs amount i h n found is tells =
    let next : 32 * i + 32 ≡ 32 * (i + 1) = omega arith in
    let less : amount - i - 1 ≡ amount - (i + 1) = omega arith in
    let whole = take_rest xs (32 * i + 32) ∙ ap (λ k. drop k xs) next in
    sym (tells ∙ (ap (λ ys. is_among (entry_names (entries (amount - i - 1) ys)) n) whole
    ∙ (ap (λ k. is_among (entry_names (entries k (drop (32 * (i + 1)) xs))) n) less
    ∙ ap (is_among (entry_names (entries (amount - (i + 1)) (drop (32 * (i + 1)) xs)))) is)))

-- ---- what stands at one place

pub block_there : (n i : ℕ) (x : List ℕ) → i < n → little_number 4 (drop (32 * i) x) ≡ slice_index (entry_blocks (entries n x)) i
block_there zero i x h = absurd (omega arith)
block_there (suc n) zero x h = refl
block_there (suc n) (suc i) x h =
    let on : 32 + 32 * i ≡ 32 * suc i = omega arith in
    ap (little_number 4) (sym (drop-drop 32 (32 * i) x ∙ ap (λ k. drop k x) on)) ∙ block_there n i (drop 32 x) (omega arith)

pub name_there : (n i : ℕ) (x : List ℕ) → i < n → slice_get (entry_names (entries n x)) i ≡ Some (name_in x i)
name_there zero i x h = absurd (omega arith)
name_there (suc n) zero x h = refl
name_there (suc n) (suc i) x h =
    let on : 32 + 32 * i ≡ 32 * suc i = omega arith in
    name_there n i (drop 32 x) (omega arith) ∙ ap (λ y. Some (entry_in y).name) (drop-drop 32 (32 * i) x ∙ ap (λ k. drop k x) on)

-- ---- whether a number is among others, from one on

drop_here : (xs : List ℕ) (i : ℕ) → i < length xs → drop i xs ≡ slice_index xs i ∷ drop (i + 1) xs
drop_here [] i h = absurd (omega arith)
drop_here (x ∷ xs) zero h = refl
drop_here (x ∷ xs) (suc i) h = let next : suc (i + 1) ≡ suc i + 1 = omega arith in drop_here xs i (omega arith) ∙ ap (λ k. slice_index xs i ∷ drop k (x ∷ xs)) next

pub is_here : (xs : List ℕ) (i b : ℕ) → i < length xs → (slice_index xs i == b) ≡ true → has_number (drop i xs) b ≡ true
is_here xs i b h e = ap (λ ys. has_number ys b) (drop_here xs i h) ∙ ap (λ t. t || has_number (drop (i + 1) xs) b) e

pub is_later : (xs : List ℕ) (i b : ℕ) → i < length xs → (slice_index xs i == b) ≡ false → has_number (drop i xs) b ≡ has_number (drop (i + 1) xs) b
is_later xs i b h e = ap (λ ys. has_number ys b) (drop_here xs i h) ∙ ap (λ t. t || has_number (drop (i + 1) xs) b) e

pub none_later : (xs : List ℕ) (i b : ℕ) → length xs ≤ i → has_number (drop i xs) b ≡ false
none_later [] zero b h = refl
none_later [] (suc i) b h = refl
none_later (x ∷ xs) zero b h = absurd (omega arith)
none_later (x ∷ xs) (suc i) b h = none_later xs i b (omega arith)

pub length-blocks : (n : ℕ) (x : List ℕ) → length (entry_blocks (entries n x)) ≡ n
length-blocks zero x = refl
length-blocks (suc n) x = ap suc (length-blocks n (drop 32 x))

-- ---- the least of names

-- a name of no entry but one, by the bytes of that one
pub one_above : (n : Name) (xs : List ℕ) (at : ℕ) → cond (name_lt n (entry_in (take (at + 32 - at) (drop at xs))).name) (Some (entry_in (take (at + 32 - at) (drop at xs))).name) None ≡ if_above n (entry_in (drop at xs)).name
one_above n xs at = ap (if_above n) (ap unpadded (front_field xs at))
  where
    front_field : (xs : List ℕ) (at : ℕ) → take 28 (drop 4 (take (at + 32 - at) (drop at xs))) ≡ take 28 (drop 4 (drop at xs))
    front_field xs at =
        let e : at + 32 - at ≡ 4 + 28 = omega arith in
        ap (λ k. take 28 (drop 4 (take k (drop at xs)))) e ∙ (ap (take 28) (drop-take 4 28 (drop at xs)) ∙ take-take 28 28 (drop 4 (drop at xs)) (omega arith))

-- ---- names are in a line

lt_trans : (a b c : Name) → name_lt a b ≡ true → name_lt b c ≡ true → name_lt a c ≡ true
lt_trans a [] c p q = absurd (cc)
lt_trans a (y ∷ b) [] p q = absurd (cc)
lt_trans [] (y ∷ b) (z ∷ c) p q = refl
lt_trans (x ∷ a) (y ∷ b) (z ∷ c) p q = elim (or_cases (nat_lt x y) ((x == y) && name_lt a b) p) [
  | inl xy ↦ elim (or_cases (nat_lt y z) ((y == z) && name_lt b c) q) [
    | inl yz ↦ or_left (nat_lt x z) _ (grind (arith, nat_tests))
    | inr e ↦ let yz = and_parts (y == z) (name_lt b c) e in let same : y ≡ z = eqb-true y z yz.0 in or_left (nat_lt x z) _ (grind (arith, nat_tests))
  ]
  | inr d ↦ let xy = and_parts (x == y) (name_lt a b) d in let same : x ≡ y = eqb-true x y xy.0 in elim (or_cases (nat_lt y z) ((y == z) && name_lt b c) q) [
    | inl yz ↦ or_left (nat_lt x z) _ (grind (arith, nat_tests))
    | inr e ↦ let yz = and_parts (y == z) (name_lt b c) e in or_right (nat_lt x z) _ (and_from (x == z) (name_lt a c) (eq-eqb x z (same ∙ eqb-true y z yz.0)) (lt_trans a b c xy.1 yz.1))
  ]
]

not_less : (a b c : Name) → name_lt b a ≡ false → name_lt c b ≡ false → name_lt c a ≡ false
not_less a b c p q = elim (name_lt c a) as (λ t. name_lt c a ≡ t → t ≡ false) [
  | false ↦ λ e. refl
  | true ↦ λ e. elim (name_lt a b) as (λ t. name_lt a b ≡ t → true ≡ false) [
    | true ↦ λ f. absurd (clash (name_lt c b) (lt_trans c a b e f) q)
    | false ↦ λ f. absurd (clash (name_lt c b) (ap (name_lt c) (sym (names_meet a b f p)) ∙ e) q)
  ] refl
] refl

pub lesser-assoc : (a b c : Option Name) → lesser (lesser a b) c ≡ lesser a (lesser b c)
lesser-assoc None b c = refl
lesser-assoc (Some x) None c = refl
lesser-assoc (Some x) (Some y) None = elim (name_lt y x) as (λ t. lesser (cond t (Some y) (Some x)) None ≡ cond t (Some y) (Some x)) [ true ↦ refl | false ↦ refl ]
lesser-assoc (Some x) (Some y) (Some z) = elim (name_lt y x) as (λ t. name_lt y x ≡ t → lesser (cond t (Some y) (Some x)) (Some z) ≡ lesser (Some x) (cond (name_lt z y) (Some z) (Some y))) [
  | true ↦ λ p. elim (name_lt z y) as (λ t. name_lt z y ≡ t → cond t (Some z) (Some y) ≡ lesser (Some x) (cond t (Some z) (Some y))) [
    | true ↦ λ q. sym (ap (λ t. cond t (Some z) (Some x)) (lt_trans z y x q p))
    | false ↦ λ q. sym (ap (λ t. cond t (Some y) (Some x)) p)
  ] refl
  | false ↦ λ p. elim (name_lt z y) as (λ t. name_lt z y ≡ t → cond (name_lt z x) (Some z) (Some x) ≡ lesser (Some x) (cond t (Some z) (Some y))) [
    | true ↦ λ q. refl
    | false ↦ λ q. ap (λ t. cond t (Some z) (Some x)) (not_less x y z p q) ∙ sym (ap (λ t. cond t (Some y) (Some x)) p)
  ] refl
] refl

pub lesser-none : (a : Option Name) → lesser a None ≡ a
lesser-none None = refl
lesser-none (Some x) = refl
