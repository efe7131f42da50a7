-- Tests, and lists none of whose blocks stands twice.
use Rattle.std.proofs.Common.{◌≡◌, ℕ, Bool, true, false, not, ◌||◌, ◌==◌, List, [], ◌∷◌, refl, sym, ◌∙◌, ap, inl, inr}
use Rattle.fs_client.proofs.Common.{and_parts, and_from, or_cases, or_left, or_right, eq-eqb, eqb-true, list_all, has_number, are_apart}

-- ---- tests

pub is_false : (t : Bool) → (t ≡ true → ⊥) → t ≡ false
is_false true h = absurd (h refl)
is_false false h = refl

pub no_or : (s t : Bool) → s ≡ false → t ≡ false → (s || t) ≡ false
no_or false false p q = refl
no_or true t p q = absurd (cc)
no_or s true p q = absurd (cc)

pub not_yes : (t : Bool) → not t ≡ true → t ≡ false
not_yes true h = absurd (cc)
not_yes false h = refl

pub yes_not : (t : Bool) → t ≡ false → not t ≡ true
yes_not true h = absurd (cc)
yes_not false h = refl

-- ---- lists none of which stands twice

pub apart_first : (b : ℕ) (bs : List ℕ) → are_apart (b ∷ bs) ≡ true → (has_number bs b ≡ false) × (are_apart bs ≡ true)
apart_first b bs h = let parts = and_parts (not (has_number bs b)) (are_apart bs) h in (not_yes (has_number bs b) parts.0, parts.1)

pub apart_with : (b : ℕ) (bs : List ℕ) → has_number bs b ≡ false → are_apart bs ≡ true → are_apart (b ∷ bs) ≡ true
apart_with b bs p q = and_from (not (has_number bs b)) (are_apart bs) (yes_not (has_number bs b) p) q

-- ---- what holds of all

pub all_in : (P : ℕ → Bool) (xs : List ℕ) (c : ℕ) → list_all P xs ≡ true → has_number xs c ≡ true → P c ≡ true
all_in P [] c h m = absurd (cc)
all_in P (x ∷ xs) c h m =
    let parts = and_parts (P x) (list_all P xs) h in
    elim (or_cases (x == c) (has_number xs c) m) [ inl e ↦ ap P (sym (eqb-true x c e)) ∙ parts.0 | inr later ↦ all_in P xs c parts.1 later ]

pub each_in : (P : ℕ → Bool) (xs : List ℕ) → ((c : ℕ) → has_number xs c ≡ true → P c ≡ true) → list_all P xs ≡ true
each_in P [] h = refl
each_in P (x ∷ xs) h = and_from (P x) (list_all P xs) (h x (or_left (x == x) _ (eq-eqb x x refl))) (each_in P xs (λ c m. h c (or_right (x == c) _ m)))
