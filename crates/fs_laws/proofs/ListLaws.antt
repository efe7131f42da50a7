-- Laws of lists of blocks and of pairs.
use Rattle.std.proofs.Common.{◌≡◌, ℕ, Bool, true, false, ◌&&◌, ◌||◌, ◌==◌, ◌⊎◌, List, [], ◌∷◌, ◌++◌, refl, sym, ◌∙◌, ap, subst, inl, inr}
use Rattle.fs_laws.proofs.Common.{eq-eqb, eqb-true, and_parts, and_from, or_cases, or_left, or_right, flat_map, list_any, list_all, has_number, holds, is_pair, is_led_to, are_led_to}

pub any-append : {X : Type 0} (test : X → Bool) (xs ys : List X) → list_any test (xs ++ ys) ≡ (list_any test xs || list_any test ys)
any-append test [] ys = refl
any-append test (x ∷ xs) ys = ap (λ t. test x || t) (any-append test xs ys) ∙ or_assoc (test x) (list_any test xs) (list_any test ys)
  where
    or_assoc : (p q r : Bool) → (p || (q || r)) ≡ ((p || q) || r)
    or_assoc true q r = refl
    or_assoc false q r = refl

-- what is in one of two lists is in both together
pub number_left : (xs ys : List ℕ) (b : ℕ) → has_number xs b ≡ true → has_number (xs ++ ys) b ≡ true
number_left xs ys b h = any-append (λ x. x == b) xs ys ∙ or_left _ _ h

pub number_right : (xs ys : List ℕ) (b : ℕ) → has_number ys b ≡ true → has_number (xs ++ ys) b ≡ true
number_right xs ys b h = any-append (λ x. x == b) xs ys ∙ or_right (has_number xs b) _ h

pub held_left : (xs ys : List (ℕ × ℕ)) (a b : ℕ) → holds xs a b ≡ true → holds (xs ++ ys) a b ≡ true
held_left xs ys a b h = any-append (is_pair a b) xs ys ∙ or_left _ _ h

pub held_right : (xs ys : List (ℕ × ℕ)) (a b : ℕ) → holds ys a b ≡ true → holds (xs ++ ys) a b ≡ true
held_right xs ys a b h = any-append (is_pair a b) xs ys ∙ or_right (holds xs a b) _ h

pub held_append : (xs ys : List (ℕ × ℕ)) (a b : ℕ) → holds (xs ++ ys) a b ≡ true → (holds xs a b ≡ true) ⊎ (holds ys a b ≡ true)
held_append xs ys a b h = or_cases (holds xs a b) (holds ys a b) (sym (any-append (is_pair a b) xs ys) ∙ h)

pub in_append : (xs ys : List ℕ) (b : ℕ) → has_number (xs ++ ys) b ≡ true → (has_number xs b ≡ true) ⊎ (has_number ys b ≡ true)
in_append xs ys b h = or_cases (has_number xs b) (has_number ys b) (sym (any-append (λ x. x == b) xs ys) ∙ h)

pub first_in : (d : ℕ) (bs : List ℕ) → has_number (d ∷ bs) d ≡ true
first_in d bs = or_left (d == d) _ (eq-eqb d d refl)

-- each pair of a list is held among others, as a test
pub all_held : (es ps : List (ℕ × ℕ)) → ((a b : ℕ) → holds es a b ≡ true → holds ps a b ≡ true) → list_all (λ e. holds ps e.0 e.1) es ≡ true
all_held [] ps h = refl
all_held (e ∷ es) ps h = and_from (holds ps e.0 e.1) _
    (h e.0 e.1 (or_left (is_pair e.0 e.1 e) _ (and_from (e.0 == e.0) (e.1 == e.1) (eq-eqb e.0 e.0 refl) (eq-eqb e.1 e.1 refl))))
    (all_held es ps (λ a b m. h a b (or_right (is_pair a b e) _ m)))

-- ---- blocks that are led to

-- all of these are in that list
abbrev pub AreIn : List ℕ → List ℕ → Type 0
AreIn xs ys = (b : ℕ) → has_number xs b ≡ true → has_number ys b ≡ true

pub led_by : (es : List (ℕ × ℕ)) (from : List ℕ) (a b : ℕ) → holds es a b ≡ true → has_number from a ≡ true → is_led_to es from b ≡ true
led_by [] from a b h m = absurd (cc)
led_by (e ∷ es) from a b h m = elim (or_cases (is_pair a b e) (holds es a b) h) [
  | inl here ↦ let parts = and_parts (e.0 == a) (e.1 == b) here in
      or_left ((e.1 == b) && has_number from e.0) _ (and_from (e.1 == b) (has_number from e.0) parts.1 (subst (λ c. has_number from c ≡ true) (sym (eqb-true e.0 a parts.0)) m))
  | inr later ↦ or_right ((e.1 == b) && has_number from e.0) _ (led_by es from a b later m)
]

-- blocks each of which is led to from some that are there before all of them
pub all_led : (es : List (ℕ × ℕ)) (bs before : List ℕ) → ((b : ℕ) → has_number bs b ≡ true → (a : ℕ) × (holds es a b ≡ true) × (has_number before a ≡ true)) → are_led_to es before bs ≡ true
all_led es [] before h = refl
all_led es (b ∷ bs) before h =
    let here = h b (or_left (b == b) _ (eq-eqb b b refl)) in
    and_from (is_led_to es before b) _ (led_by es before here.0 b here.1 here.2)
    (all_led es bs (b ∷ before) (λ c m. let later = h c (or_right (b == c) _ m) in (later.0, later.1, or_right (b == later.0) _ later.2)))

pub flat_map_same : (f g : ℕ → List ℕ) (xs : List ℕ) → ((x : ℕ) → has_number xs x ≡ true → f x ≡ g x) → flat_map f xs ≡ flat_map g xs
flat_map_same f g [] h = refl
flat_map_same f g (x ∷ xs) h = ap (λ y. y ++ flat_map f xs) (h x (or_left (x == x) _ (eq-eqb x x refl))) ∙ ap (λ ys. g x ++ ys) (flat_map_same f g xs (λ y m. h y (or_right (x == y) _ m)))
