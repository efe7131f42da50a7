-- Pairs along a chain.
use Rattle.std.proofs.Common.{◌≡◌, ℕ, Bool, true, false, not, ◌||◌, ◌==◌, List, [], ◌∷◌, ◌++◌, refl, sym, ◌∙◌, ap, subst, inl, inr, ◌⊎◌}
use Rattle.chain_changes.proofs.Common.{and_parts, and_from, or_cases, or_left, or_right, eq-eqb, eqb-true, not-true, false_from_ne_true, has_number, are_apart, holds, is_pair, links, in_append}
use Rattle.tsd_model.proofs.ValueLaws.{clash, neither}

-- the last of a chain's blocks, or what it hangs from
abbrev pub last_of : ℕ → List ℕ → ℕ
last_of a [] = a
last_of a (b ∷ bs) = last_of b bs

pub last_more : (a : ℕ) (bs : List ℕ) (d : ℕ) → d ≡ last_of a (bs ++ d ∷ [])
last_more a [] d = refl
last_more a (b ∷ bs) d = last_more b bs d

-- one block more: the pair from the last one
pub links-more : (a : ℕ) (bs : List ℕ) (d x y : ℕ) → holds (links (a ∷ (bs ++ d ∷ []))) x y ≡ (holds (links (a ∷ bs)) x y || is_pair x y (last_of a bs, d))
links-more a [] d x y = turned (is_pair x y (a, d))
  where
    turned : (t : Bool) → (t || false) ≡ (false || t)
    turned true = refl
    turned false = refl
links-more a (b ∷ bs) d x y = ap (λ t. is_pair x y (a, b) || t) (links-more b bs d x y) ∙ turned (is_pair x y (a, b)) (holds (links (b ∷ bs)) x y) (is_pair x y (last_of b bs, d))
  where
    turned : (s t u : Bool) → (s || (t || u)) ≡ ((s || t) || u)
    turned true t u = refl
    turned false t u = refl

pub link_target : (a : ℕ) (bs : List ℕ) (x y : ℕ) → holds (links (a ∷ bs)) x y ≡ true → has_number bs y ≡ true
link_target a [] x y h = absurd (cc)
link_target a (b ∷ bs) x y h = elim (or_cases (is_pair x y (a, b)) (holds (links (b ∷ bs)) x y) h) [
  | inl here ↦ or_left (b == y) _ (and_parts (a == x) (b == y) here).1
  | inr later ↦ or_right (b == y) _ (link_target b bs x y later)
]

pub link_source : (a : ℕ) (bs : List ℕ) (x y : ℕ) → holds (links (a ∷ bs)) x y ≡ true → has_number (a ∷ bs) x ≡ true
link_source a [] x y h = absurd (cc)
link_source a (b ∷ bs) x y h = elim (or_cases (is_pair x y (a, b)) (holds (links (b ∷ bs)) x y) h) [
  | inl here ↦ or_left (a == x) _ (and_parts (a == x) (b == y) here).0
  | inr later ↦ or_right (a == x) _ (link_source b bs x y later)
]

-- what holds of what a chain hangs from, and of each block with the one before it, holds of them all
pub along : (P : ℕ → Type 0) (a : ℕ) (bs : List ℕ) → P a → ((x y : ℕ) → holds (links (a ∷ bs)) x y ≡ true → P x → P y) → (b : ℕ) → has_number bs b ≡ true → P b
along P a [] first on b h = absurd (cc)
along P a (d ∷ bs) first on b h =
    let here : P d = on a d (or_left (is_pair a d (a, d)) _ (and_from (a == a) (d == d) (eq-eqb a a refl) (eq-eqb d d refl))) first in
    elim (or_cases (d == b) (has_number bs b) h) [
      | inl same ↦ subst P (eqb-true d b same) here
      | inr later ↦ along P d bs here (λ x y k. on x y (or_right (is_pair x y (a, d)) _ k)) b later
    ]

-- it holds of the last one
pub along_last : (P : ℕ → Type 0) (a : ℕ) (bs : List ℕ) → P a → ((b : ℕ) → has_number bs b ≡ true → P b) → P (last_of a bs)
along_last P a [] first each = first
along_last P a (b ∷ bs) first each = along_last P b bs (each b (or_left (b == b) _ (eq-eqb b b refl))) (λ d h. each d (or_right (b == d) _ h))

-- one number more
pub in_more : (bs : List ℕ) (d b : ℕ) → has_number (bs ++ d ∷ []) b ≡ true → (has_number bs b ≡ true) ⊎ (d ≡ b)
in_more bs d b h = elim (in_append bs (d ∷ []) b h) [
  | inl was ↦ inl was
  | inr last ↦ elim (or_cases (d == b) false last) [ inl same ↦ inr (eqb-true d b same) | inr never ↦ absurd (cc) ]
]

pub apart_more : (bs : List ℕ) (d : ℕ) → are_apart bs ≡ true → has_number bs d ≡ false → are_apart (bs ++ d ∷ []) ≡ true
apart_more [] d once off = refl
apart_more (b ∷ bs) d once off =
    let parts = and_parts (not (has_number bs b)) (are_apart bs) once in
    and_from (not (has_number (bs ++ d ∷ []) b)) (are_apart (bs ++ d ∷ []))
    (ap not (false_from_ne_true (has_number (bs ++ d ∷ []) b) (λ h. elim (in_more bs d b h) [
      | inl was ↦ clash (has_number bs b) was (not-true (has_number bs b) parts.0)
      | inr same ↦ clash (b == d) (eq-eqb b d (sym same)) (neither (b == d) (has_number bs d) off).0
    ])))
    (apart_more bs d parts.1 (neither (b == d) (has_number bs d) off).1)

pub not_in_more : (bs : List ℕ) (d b : ℕ) → has_number (bs ++ d ∷ []) b ≡ false → (has_number bs b ≡ false) × (has_number (d ∷ []) b ≡ false)
not_in_more [] d b h = (refl, h)
not_in_more (x ∷ bs) d b h = by_test (x == b) h (λ k. not_in_more bs d b k)
  where
    by_test : (t : Bool) → (t || has_number (bs ++ d ∷ []) b) ≡ false → (has_number (bs ++ d ∷ []) b ≡ false → (has_number bs b ≡ false) × (has_number (d ∷ []) b ≡ false)) → ((t || has_number bs b) ≡ false) × (has_number (d ∷ []) b ≡ false)
    by_test true e later = absurd (cc)
    by_test false e later = later e
