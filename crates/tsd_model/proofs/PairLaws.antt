-- Laws of ascending lists of pairs.
use Rattle.std.proofs.Common.{◌≡◌, ℕ, suc, Bool, true, false, cond, ◌&&◌, ◌||◌, ◌==◌, List, [], ◌∷◌, length, refl, sym, ◌∙◌, ap, arith, inl, inr}
use Rattle.std.proofs.lemmas.Bool.{eqb-true, and_parts, and_from, or_cases, or_left, or_right, or_parts, eq-eqb, both_ways, false_from_ne_true}
use Rattle.std.proofs.lemmas.Bool.Decides.{nat_tests}
use Rattle.std.specs.Prelude.{filter}
use Rattle.std.specs.List.{list_all}
use Rattle.tsd_model.specs.Pairs.{is_pair, holds, pair_lt, is_below_first, is_rising, with_pair}
use Rattle.tsd_model.proofs.PlaceLaws.{same_pair, not_both_ways, pair_ext}
use Rattle.tsd_model.proofs.ValueLaws.{and_false}

-- ---- tests

-- two tests that follow from one another are one
pub same_tests : (p q : Bool) → (p ≡ true → q ≡ true) → (q ≡ true → p ≡ true) → p ≡ q
same_tests true q f g = sym (f refl)
same_tests false true f g = g refl
same_tests false false f g = refl

or_swap : (a b c : Bool) → (a || (b || c)) ≡ (b || (a || c))
or_swap true true c = refl
or_swap true false c = refl
or_swap false b c = refl

or_twice : (a b : Bool) → (a || (a || b)) ≡ (a || b)
or_twice true b = refl
or_twice false b = refl

-- ---- which pairs are held

pub is_pair_ext : (x y : ℕ) (f : ℕ × ℕ) → is_pair x y f ≡ true → f ≡ (x, y)
is_pair_ext x y f e = let parts = and_parts (f.0 == x) (f.1 == y) e in pair_ext f (x, y) (eqb-true f.0 x parts.0) (eqb-true f.1 y parts.1)

pub is_pair_same : (e : ℕ × ℕ) → is_pair e.0 e.1 e ≡ true
is_pair_same e = and_from (e.0 == e.0) (e.1 == e.1) (eq-eqb e.0 e.0 refl) (eq-eqb e.1 e.1 refl)

pub holds-with_pair : (e : ℕ × ℕ) (es : List (ℕ × ℕ)) (x y : ℕ) → holds (with_pair e es) x y ≡ (is_pair x y e || holds es x y)
holds-with_pair e [] x y = refl
holds-with_pair e (f ∷ fs) x y =
    elim (pair_lt e f) as (λ t. pair_lt e f ≡ t → holds (cond t (e ∷ f ∷ fs) (cond (pair_lt f e) (f ∷ with_pair e fs) (f ∷ fs))) x y ≡ (is_pair x y e || (is_pair x y f || holds fs x y))) [
      | true ↦ λ _. refl
      | false ↦ λ p. elim (pair_lt f e) as (λ u. pair_lt f e ≡ u → holds (cond u (f ∷ with_pair e fs) (f ∷ fs)) x y ≡ (is_pair x y e || (is_pair x y f || holds fs x y))) [
        | true ↦ λ _. ap (λ z. is_pair x y f || z) (holds-with_pair e fs x y) ∙ or_swap (is_pair x y f) (is_pair x y e) (holds fs x y)
        | false ↦ λ q. let both = same_pair e.0 e.1 f.0 f.1 p q in
            sym (ap (λ g. is_pair x y g || (is_pair x y f || holds fs x y)) (pair_ext e f both.0 both.1) ∙ or_twice (is_pair x y f) (holds fs x y))
      ] refl
    ] refl

-- the pairs that pass a test
pub holds-filter : (p : (ℕ × ℕ) → Bool) (es : List (ℕ × ℕ)) (x y : ℕ) → holds (filter p es) x y ≡ (holds es x y && p (x, y))
holds-filter p [] x y = refl
holds-filter p (f ∷ fs) x y = let rest = holds-filter p fs x y in
    elim (p f) as (λ t. p f ≡ t → holds (cond t (f ∷ filter p fs) (filter p fs)) x y ≡ ((is_pair x y f || holds fs x y) && p (x, y))) [
      | true ↦ λ k. elim (is_pair x y f) as (λ u. is_pair x y f ≡ u → (u || holds (filter p fs) x y) ≡ ((u || holds fs x y) && p (x, y))) [
        | true ↦ λ e. sym (ap p (sym (is_pair_ext x y f e)) ∙ k)
        | false ↦ λ e. rest
      ] refl
      | false ↦ λ k. elim (is_pair x y f) as (λ u. is_pair x y f ≡ u → holds (filter p fs) x y ≡ ((u || holds fs x y) && p (x, y))) [
        | true ↦ λ e. let no : p (x, y) ≡ false = ap p (sym (is_pair_ext x y f e)) ∙ k in rest ∙ ap (λ z. holds fs x y && z) no ∙ and_false (holds fs x y) ∙ sym no
        | false ↦ λ e. rest
      ] refl
    ] refl

-- what holds of each pair holds of one that is held
pub all_of_held : (p : (ℕ × ℕ) → Bool) (es : List (ℕ × ℕ)) (a b : ℕ) → list_all p es ≡ true → holds es a b ≡ true → p (a, b) ≡ true
all_of_held p [] a b all h = absurd (cc)
all_of_held p (e ∷ es) a b all h = let parts = and_parts (p e) (list_all p es) all in
    elim (or_cases (is_pair a b e) (holds es a b) h) [
      | inl here ↦ sym (ap p (is_pair_ext a b e here)) ∙ parts.0
      | inr later ↦ all_of_held p es a b parts.1 later
    ]

-- one that doesn't pass
pub one_fails : (p : (ℕ × ℕ) → Bool) (es : List (ℕ × ℕ)) → list_all p es ≡ false → (a : ℕ) × (b : ℕ) × (holds es a b ≡ true) × (p (a, b) ≡ false)
one_fails p [] h = absurd (cc)
one_fails p (e ∷ es) h =
    elim (p e) as (λ t. p e ≡ t → (t && list_all p es) ≡ false → (a : ℕ) × (b : ℕ) × (holds (e ∷ es) a b ≡ true) × (p (a, b) ≡ false)) [
      | true ↦ λ _ g. let rest = one_fails p es g in (rest.0, rest.1, or_right (is_pair rest.0 rest.1 e) (holds es rest.0 rest.1) rest.2, rest.3)
      | false ↦ λ k g. (e.0, e.1, or_left (is_pair e.0 e.1 e) (holds es e.0 e.1) (and_from (e.0 == e.0) (e.1 == e.1) (eq-eqb e.0 e.0 refl) (eq-eqb e.1 e.1 refl)), k)
    ] refl h

-- ---- ascending

first-with_pair : (g e : ℕ × ℕ) (es : List (ℕ × ℕ)) → pair_lt g e ≡ true → is_below_first g es ≡ true → is_below_first g (with_pair e es) ≡ true
first-with_pair g e [] p h = p
first-with_pair g e (f ∷ fs) p h =
    elim (pair_lt e f) as (λ t. is_below_first g (cond t (e ∷ f ∷ fs) (cond (pair_lt f e) (f ∷ with_pair e fs) (f ∷ fs))) ≡ true) [
      | true ↦ p
      | false ↦ elim (pair_lt f e) as (λ u. is_below_first g (cond u (f ∷ with_pair e fs) (f ∷ fs)) ≡ true) [ true ↦ h | false ↦ h ]
    ]

pub is_rising-with_pair : (e : ℕ × ℕ) (es : List (ℕ × ℕ)) → is_rising es ≡ true → is_rising (with_pair e es) ≡ true
is_rising-with_pair e [] h = refl
is_rising-with_pair e (f ∷ fs) h = let parts = and_parts (is_below_first f fs) (is_rising fs) h in
    elim (pair_lt e f) as (λ t. pair_lt e f ≡ t → is_rising (cond t (e ∷ f ∷ fs) (cond (pair_lt f e) (f ∷ with_pair e fs) (f ∷ fs))) ≡ true) [
      | true ↦ λ p. and_from (pair_lt e f) (is_rising (f ∷ fs)) p h
      | false ↦ λ p. elim (pair_lt f e) as (λ u. pair_lt f e ≡ u → is_rising (cond u (f ∷ with_pair e fs) (f ∷ fs)) ≡ true) [
        | true ↦ λ q. and_from (is_below_first f (with_pair e fs)) (is_rising (with_pair e fs)) (first-with_pair f e fs q parts.0) (is_rising-with_pair e fs parts.1)
        | false ↦ λ q. h
      ] refl
    ] refl

pub lt_trans : (e f g : ℕ × ℕ) → pair_lt e f ≡ true → pair_lt f g ≡ true → pair_lt e g ≡ true
lt_trans e f g p q = grind (arith, nat_tests)

pub first_later : (e f : ℕ × ℕ) (es : List (ℕ × ℕ)) → pair_lt e f ≡ true → is_below_first f es ≡ true → is_below_first e es ≡ true
first_later e f [] p h = refl
first_later e f (g ∷ gs) p h = lt_trans e f g p h

first-filter : (p : (ℕ × ℕ) → Bool) (e : ℕ × ℕ) (es : List (ℕ × ℕ)) → is_below_first e es ≡ true → is_rising es ≡ true → is_below_first e (filter p es) ≡ true
first-filter p e [] h r = refl
first-filter p e (f ∷ fs) h r = let parts = and_parts (is_below_first f fs) (is_rising fs) r in
    elim (p f) as (λ t. is_below_first e (cond t (f ∷ filter p fs) (filter p fs)) ≡ true) [
      | true ↦ h
      | false ↦ first-filter p e fs (first_later e f fs h parts.0) parts.1
    ]

pub is_rising-filter : (p : (ℕ × ℕ) → Bool) (es : List (ℕ × ℕ)) → is_rising es ≡ true → is_rising (filter p es) ≡ true
is_rising-filter p [] r = refl
is_rising-filter p (e ∷ es) r = let parts = and_parts (is_below_first e es) (is_rising es) r in
    elim (p e) as (λ t. is_rising (cond t (e ∷ filter p es) (filter p es)) ≡ true) [
      | true ↦ and_from (is_below_first e (filter p es)) (is_rising (filter p es)) (first-filter p e es parts.0 parts.1) (is_rising-filter p es parts.1)
      | false ↦ is_rising-filter p es parts.1
    ]

-- each pair behind the first is above it
pub above_first : (e : ℕ × ℕ) (es : List (ℕ × ℕ)) (x y : ℕ) → is_below_first e es ≡ true → is_rising es ≡ true → holds es x y ≡ true → pair_lt e (x, y) ≡ true
above_first e [] x y b r h = absurd (cc)
above_first e (f ∷ fs) x y b r h = let parts = and_parts (is_below_first f fs) (is_rising fs) r in
    elim (or_cases (is_pair x y f) (holds fs x y) h) [
      | inl here ↦ ap (pair_lt e) (sym (is_pair_ext x y f here)) ∙ b
      | inr later ↦ lt_trans e f (x, y) b (above_first f fs x y parts.0 parts.1 later)
    ]

pub lt_itself : (e : ℕ × ℕ) → pair_lt e e ≡ true → ⊥
lt_itself e p = both_ways (pair_lt e e) (not_both_ways e e p) p

-- the first pair isn't held again
pub first_once : (e : ℕ × ℕ) (es : List (ℕ × ℕ)) (x y : ℕ) → is_below_first e es ≡ true → is_rising es ≡ true → is_pair x y e ≡ true → holds es x y ≡ false
first_once e es x y b r p = false_from_ne_true (holds es x y) (λ h.
    lt_itself e (ap (pair_lt e) (is_pair_ext x y e p) ∙ above_first e es x y b r h))

pub holds_first : (e : ℕ × ℕ) (es : List (ℕ × ℕ)) → holds (e ∷ es) e.0 e.1 ≡ true
holds_first e es = or_left (is_pair e.0 e.1 e) (holds es e.0 e.1) (is_pair_same e)

-- of two lists that hold the same, the first pair of one isn't below that of the other
not_below : (e : ℕ × ℕ) (es : List (ℕ × ℕ)) (f : ℕ × ℕ) (fs : List (ℕ × ℕ)) → is_rising (f ∷ fs) ≡ true
    → ((x y : ℕ) → holds (e ∷ es) x y ≡ holds (f ∷ fs) x y) → pair_lt e f ≡ false
not_below e es f fs r same = let parts = and_parts (is_below_first f fs) (is_rising fs) r in
    false_from_ne_true (pair_lt e f) (λ lt.
    let there : holds (f ∷ fs) e.0 e.1 ≡ true = sym (same e.0 e.1) ∙ holds_first e es in
    elim (or_cases (is_pair e.0 e.1 f) (holds fs e.0 e.1) there) [
      | inl here ↦ lt_itself e (ap (pair_lt e) (sym (is_pair_ext e.0 e.1 f here)) ∙ lt)
      | inr later ↦ lt_itself e (lt_trans e f e lt (above_first f fs e.0 e.1 parts.0 parts.1 later))
    ])

-- ascending lists that hold the same pairs are one
pub rising_same : (es fs : List (ℕ × ℕ)) → is_rising es ≡ true → is_rising fs ≡ true → ((x y : ℕ) → holds es x y ≡ holds fs x y) → es ≡ fs
rising_same [] [] r s same = refl
rising_same [] (f ∷ fs) r s same = absurd (both_ways (holds (f ∷ fs) f.0 f.1) (sym (same f.0 f.1)) (holds_first f fs))
rising_same (e ∷ es) [] r s same = absurd (both_ways (holds (e ∷ es) e.0 e.1) (same e.0 e.1) (holds_first e es))
rising_same (e ∷ es) (f ∷ fs) r s same =
    let rp = and_parts (is_below_first e es) (is_rising es) r in
    let sp = and_parts (is_below_first f fs) (is_rising fs) s in
    let both = same_pair e.0 e.1 f.0 f.1 (not_below e es f fs s same) (not_below f fs e es r (λ x y. sym (same x y))) in
    let one : e ≡ f = pair_ext e f both.0 both.1 in
    let rest : es ≡ fs = rising_same es fs rp.1 sp.1 (λ x y.
    elim (is_pair x y e) as (λ t. is_pair x y e ≡ t → (t || holds es x y) ≡ (is_pair x y f || holds fs x y) → holds es x y ≡ holds fs x y) [
      | true ↦ λ p _. first_once e es x y rp.0 rp.1 p ∙ sym (first_once f fs x y sp.0 sp.1 (ap (is_pair x y) (sym one) ∙ p))
      | false ↦ λ p h. h ∙ ap (λ t. t || holds fs x y) (ap (is_pair x y) (sym one) ∙ p)
    ] refl (same x y)) in
    cc

-- ---- how many

pub length-with_new_pair : (e : ℕ × ℕ) (es : List (ℕ × ℕ)) → holds es e.0 e.1 ≡ false → length (with_pair e es) ≡ suc (length es)
length-with_new_pair e [] h = refl
length-with_new_pair e (f ∷ fs) h = let parts = or_parts (is_pair e.0 e.1 f) (holds fs e.0 e.1) h in
    elim (pair_lt e f) as (λ t. pair_lt e f ≡ t → length (cond t (e ∷ f ∷ fs) (cond (pair_lt f e) (f ∷ with_pair e fs) (f ∷ fs))) ≡ suc (suc (length fs))) [
      | true ↦ λ p. refl
      | false ↦ λ p. elim (pair_lt f e) as (λ u. pair_lt f e ≡ u → length (cond u (f ∷ with_pair e fs) (f ∷ fs)) ≡ suc (suc (length fs))) [
        | true ↦ λ q. ap suc (length-with_new_pair e fs parts.1)
        | false ↦ λ q. let both = same_pair e.0 e.1 f.0 f.1 p q in
            absurd (both_ways (is_pair e.0 e.1 f) parts.0 (and_from (f.0 == e.0) (f.1 == e.1) (eq-eqb f.0 e.0 (sym both.0)) (eq-eqb f.1 e.1 (sym both.1))))
      ] refl
    ] refl
