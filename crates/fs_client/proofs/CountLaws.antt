-- How many of a block's pairs lead to what it names.
use Rattle.std.proofs.Common.{◌≡◌, ℕ, suc, ◌+◌, ◌≤◌, Bool, true, false, not, cond, ◌&&◌, ◌||◌, ◌==◌, nat_lt, List, [], ◌∷◌, length, refl, sym, ◌∙◌, ap, arith}
use Rattle.fs_client.proofs.Common.{and_parts, and_from, eq-eqb, eqb-true, nat_tests, map, filter, list_all, World, has_number, are_apart, holds, IsValid, targets_of, named_targets}
use Rattle.fs_client.proofs.PageLaws.{climbs, targets_climb, targets_in}
use Rattle.fs_client.specs.Held.{are_held}
use Rattle.fs_client.proofs.ApartLaws.{is_false, no_or, apart_first, apart_with}
use Rattle.tsd_model.proofs.ValueLaws.{clash}

-- ---- a block's targets

pub in_targets : (a : ℕ) (es : List (ℕ × ℕ)) (c : ℕ) → has_number (targets_in es a) c ≡ holds es a c
in_targets a [] c = refl
in_targets a (e ∷ es) c = elim (e.0 == a) as (λ t. has_number (map (λ f. f.1) (cond t (e ∷ filter (λ f. f.0 == a) es) (filter (λ f. f.0 == a) es))) c ≡ ((t && (e.1 == c)) || holds es a c)) [
  | true ↦ ap (λ t. (e.1 == c) || t) (in_targets a es c)
  | false ↦ in_targets a es c
]

not_below : (x : ℕ) (xs : List ℕ) → list_all (nat_lt x) xs ≡ true → has_number xs x ≡ false
not_below x [] h = refl
not_below x (y ∷ ys) h =
    let parts = and_parts (nat_lt x y) (list_all (nat_lt x) ys) h in
    let other : (y == x) ≡ false = grind (arith, nat_tests) in
    no_or (y == x) (has_number ys x) other (not_below x ys parts.1)

pub climbs_apart : (xs : List ℕ) → climbs xs ≡ true → are_apart xs ≡ true
climbs_apart [] h = refl
climbs_apart (x ∷ xs) h = let parts = and_parts (list_all (nat_lt x) xs) (climbs xs) h in apart_with x xs (not_below x xs parts.0) (climbs_apart xs parts.1)

pub targets_apart : (w : World) (a : ℕ) → IsValid w → are_apart (targets_of w a) ≡ true
targets_apart w a valid = climbs_apart (targets_of w a) (targets_climb a w.pairs valid.raw.rising)

-- ---- counted

abbrev one_if : Bool → ℕ
one_if true = 1
one_if false = 0

left_no : (p q : Bool) → (p || q) ≡ false → p ≡ false
left_no true q h = absurd (cc)
left_no false q h = refl

right_no : (p q : Bool) → (p || q) ≡ false → q ≡ false
right_no true q h = absurd (cc)
right_no false q h = h

none_more : (c : ℕ) (cs xs : List ℕ) → has_number xs c ≡ false → length (filter (has_number (c ∷ cs)) xs) ≡ length (filter (has_number cs) xs)
none_more c cs [] h = refl
none_more c cs (x ∷ xs) h =
    let other : (x == c) ≡ false = left_no (x == c) (has_number xs c) h in
    let turned : (c == x) ≡ false = is_false (c == x) (λ e. clash (x == c) (eq-eqb x c (sym (eqb-true c x e))) other) in
    let rest = none_more c cs xs (right_no (x == c) (has_number xs c) h) in
    ap (λ t. length (cond (t || has_number cs x) (x ∷ filter (has_number (c ∷ cs)) xs) (filter (has_number (c ∷ cs)) xs))) turned
    ∙ (elim (has_number cs x) as (λ t. length (cond t (x ∷ filter (has_number (c ∷ cs)) xs) (filter (has_number (c ∷ cs)) xs)) ≡ length (cond t (x ∷ filter (has_number cs) xs) (filter (has_number cs) xs))) [
      | true ↦ ap suc rest
      | false ↦ rest
    ])

module _ (c : ℕ) (cs : List ℕ) (x : ℕ) (xs : List ℕ) (rest : length (filter (has_number (c ∷ cs)) xs) ≡ one_if (has_number xs c && not (has_number cs c)) + length (filter (has_number cs) xs)) where
  -- another number
  other_first : (u : Bool) → length (cond u (x ∷ filter (has_number (c ∷ cs)) xs) (filter (has_number (c ∷ cs)) xs)) ≡ one_if (has_number xs c && not (has_number cs c)) + length (cond u (x ∷ filter (has_number cs) xs) (filter (has_number cs) xs))
  other_first true = omega (arith, rest)
  other_first false = rest

  -- the number itself, which isn't there again
  same_first : length (filter (has_number (c ∷ cs)) xs) ≡ length (filter (has_number cs) xs) → (u : Bool) → suc (length (filter (has_number (c ∷ cs)) xs)) ≡ one_if (not u) + length (cond u (x ∷ filter (has_number cs) xs) (filter (has_number cs) xs))
  same_first same true = omega (arith, same)
  same_first same false = omega (arith, same)

one_more : (c : ℕ) (cs xs : List ℕ) → are_apart xs ≡ true → length (filter (has_number (c ∷ cs)) xs) ≡ one_if (has_number xs c && not (has_number cs c)) + length (filter (has_number cs) xs)
one_more c cs [] h = refl
one_more c cs (x ∷ xs) h = by_first (x == c) refl (one_more c cs xs (apart_first x xs h).1)
  where
    by_first : (u : Bool) → (x == c) ≡ u → length (filter (has_number (c ∷ cs)) xs) ≡ one_if (has_number xs c && not (has_number cs c)) + length (filter (has_number cs) xs)
        → length (filter (has_number (c ∷ cs)) (x ∷ xs)) ≡ one_if (has_number (x ∷ xs) c && not (has_number cs c)) + length (filter (has_number cs) (x ∷ xs))
    by_first true e rest =
        let same : x ≡ c = eqb-true x c e in
        let turned : (c == x) ≡ true = eq-eqb c x (sym same) in
        let gone : has_number xs c ≡ false = ap (has_number xs) (sym same) ∙ (apart_first x xs h).0 in
        let names : has_number cs x ≡ has_number cs c = ap (has_number cs) same in
        ap (λ t. length (cond (t || has_number cs x) (x ∷ filter (has_number (c ∷ cs)) xs) (filter (has_number (c ∷ cs)) xs))) turned
        ∙ (same_first c cs x xs rest (none_more c cs xs gone) (has_number cs x)
        ∙ (ap (λ t. one_if (not t) + length (cond (has_number cs x) (x ∷ filter (has_number cs) xs) (filter (has_number cs) xs))) names
        ∙ ap (λ t. one_if ((t || has_number xs c) && not (has_number cs c)) + length (cond (has_number cs x) (x ∷ filter (has_number cs) xs) (filter (has_number cs) xs))) (sym e)))
    by_first false e rest =
        let turned : (c == x) ≡ false = is_false (c == x) (λ f. clash (x == c) (eq-eqb x c (sym (eqb-true c x f))) e) in
        ap (λ t. length (cond (t || has_number cs x) (x ∷ filter (has_number (c ∷ cs)) xs) (filter (has_number (c ∷ cs)) xs))) turned
        ∙ (other_first c cs x xs rest (has_number cs x)
        ∙ ap (λ t. one_if ((t || has_number xs c) && not (has_number cs c)) + length (cond (has_number cs x) (x ∷ filter (has_number cs) xs) (filter (has_number cs) xs))) (sym e))

one_at_most : (t : Bool) → one_if t ≤ 1
one_at_most true = omega arith
one_at_most false = omega arith

at_most : (bs xs : List ℕ) → are_apart xs ≡ true → length (filter (has_number bs) xs) ≤ length bs
at_most [] xs h = none_at_all xs
  where
    none_at_all : (xs : List ℕ) → length (filter (has_number []) xs) ≤ 0
    none_at_all [] = omega arith
    none_at_all (x ∷ xs) = none_at_all xs
at_most (c ∷ cs) xs h =
    let more = one_more c cs xs h in
    let rest = at_most cs xs h in
    let one = one_at_most (has_number xs c && not (has_number cs c)) in
    omega (arith, more, rest, one)

is_one : (t : Bool) → 1 ≤ one_if t → t ≡ true
is_one true h = refl
is_one false h = absurd (omega (arith, h))

-- as many as are named, where none is named twice and all are there
pub all_there : (bs xs : List ℕ) → are_apart xs ≡ true → length (filter (has_number bs) xs) ≡ length bs → (are_apart bs && list_all (has_number xs) bs) ≡ true
all_there [] xs h e = refl
all_there (c ∷ cs) xs h e =
    let more = one_more c cs xs h in
    let le = at_most cs xs h in
    let one = one_at_most (has_number xs c && not (has_number cs c)) in
    let parts = and_parts (has_number xs c) (not (has_number cs c)) (is_one (has_number xs c && not (has_number cs c)) (omega (arith, more, le, e))) in
    let rest = and_parts (are_apart cs) (list_all (has_number xs) cs) (all_there cs xs h (omega (arith, more, le, one, e))) in
    and_from (are_apart (c ∷ cs)) (list_all (has_number xs) (c ∷ cs)) (and_from (not (has_number cs c)) (are_apart cs) parts.1 rest.0) (and_from (has_number xs c) (list_all (has_number xs) cs) parts.0 rest.1)

pub as_many : (bs xs : List ℕ) → are_apart xs ≡ true → (are_apart bs && list_all (has_number xs) bs) ≡ true → length (filter (has_number bs) xs) ≡ length bs
as_many [] xs h e = none_at_all xs
  where
    none_at_all : (xs : List ℕ) → length (filter (has_number []) xs) ≡ 0
    none_at_all [] = refl
    none_at_all (x ∷ xs) = none_at_all xs
as_many (c ∷ cs) xs h e =
    let parts = and_parts (are_apart (c ∷ cs)) (list_all (has_number xs) (c ∷ cs)) e in
    let own = and_parts (not (has_number cs c)) (are_apart cs) parts.0 in
    let there = and_parts (has_number xs c) (list_all (has_number xs) cs) parts.1 in
    let one : one_if (has_number xs c && not (has_number cs c)) ≡ 1 = ap one_if (and_from (has_number xs c) (not (has_number cs c)) there.0 own.0) in
    let rest = as_many cs xs h (and_from (are_apart cs) (list_all (has_number xs) cs) own.1 there.1) in
    let more = one_more c cs xs h in
    omega (arith, one, rest, more)

-- ---- of a valid world

same_all : (P Q : ℕ → Bool) (xs : List ℕ) → ((c : ℕ) → P c ≡ Q c) → list_all P xs ≡ list_all Q xs
same_all P Q [] h = refl
same_all P Q (x ∷ xs) h = ap (λ t. t && list_all P xs) (h x) ∙ ap (λ t. Q x && t) (same_all P Q xs h)

held_by_targets : (w : World) (b : ℕ) (bs : List ℕ) → are_held w b bs ≡ (are_apart bs && list_all (has_number (targets_of w b)) bs)
held_by_targets w b bs = ap (λ t. are_apart bs && t) (same_all (holds w.pairs b) (has_number (targets_of w b)) bs (λ c. sym (in_targets b w.pairs c)))

pub counted_held : (w : World) (b : ℕ) (bs : List ℕ) → IsValid w → length (named_targets w b bs) ≡ length bs → are_held w b bs ≡ true
counted_held w b bs valid e = held_by_targets w b bs ∙ all_there bs (targets_of w b) (targets_apart w b valid) e

pub held_counted : (w : World) (b : ℕ) (bs : List ℕ) → IsValid w → are_held w b bs ≡ true → length (named_targets w b bs) ≡ length bs
held_counted w b bs valid e = as_many bs (targets_of w b) (targets_apart w b valid) (sym (held_by_targets w b bs) ∙ e)

-- the count tells
pub told_by_count : (w : World) (b n : ℕ) (bs : List ℕ) (count : ℕ) → IsValid w → n ≡ length (named_targets w b bs) → count ≡ length bs → (n == count) ≡ are_held w b bs
told_by_count w b n bs count valid counts is = same_test (n == count) (are_held w b bs)
    (λ e. counted_held w b bs valid (sym counts ∙ (eqb-true n count e ∙ is)))
    (λ h. eq-eqb n count (counts ∙ (held_counted w b bs valid h ∙ sym is)))
  where
    same_test : (p q : Bool) → (p ≡ true → q ≡ true) → (q ≡ true → p ≡ true) → p ≡ q
    same_test true q f g = sym (f refl)
    same_test false true f g = g refl
    same_test false false f g = refl
