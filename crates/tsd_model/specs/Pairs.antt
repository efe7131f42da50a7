-- Pointers: an ascending list of pairs (source, target), none twice.
use Rattle.std.specs.Prelude.{ℕ, Bool, true, not, cond, ◌&&◌, ◌||◌, ◌==◌, nat_lt, List, [], ◌∷◌, length, filter, map}
use Rattle.std.specs.List.{list_any}

abbrev pub is_pair : ℕ → ℕ → (ℕ × ℕ) → Bool
is_pair a b e = (e.0 == a) && (e.1 == b)

-- the pair (a, b) is held
abbrev pub holds : List (ℕ × ℕ) → ℕ → ℕ → Bool
holds es a b = list_any (is_pair a b) es

-- by source, then by target
abbrev pub pair_lt : (ℕ × ℕ) → (ℕ × ℕ) → Bool
pair_lt e f = nat_lt e.0 f.0 || ((e.0 == f.0) && nat_lt e.1 f.1)

abbrev pub is_below_first : (ℕ × ℕ) → List (ℕ × ℕ) → Bool
is_below_first e [] = true
is_below_first e (f ∷ fs) = pair_lt e f

-- ascending, and so none twice
abbrev pub is_rising : List (ℕ × ℕ) → Bool
is_rising [] = true
is_rising (e ∷ es) = is_below_first e es && is_rising es

-- with this pair in its place; a pair that is held already stays the only one
abbrev pub with_pair : (ℕ × ℕ) → List (ℕ × ℕ) → List (ℕ × ℕ)
with_pair e [] = e ∷ []
with_pair e (f ∷ fs) = cond (pair_lt e f) (e ∷ f ∷ fs) (cond (pair_lt f e) (f ∷ with_pair e fs) (f ∷ fs))

abbrev pub without_pair : ℕ → ℕ → List (ℕ × ℕ) → List (ℕ × ℕ)
without_pair a b es = filter (λ e. not (is_pair a b e)) es

-- the sources of the pairs to b, ascending
abbrev pub sources_to : List (ℕ × ℕ) → ℕ → List ℕ
sources_to es b = map (λ e. e.0) (filter (λ e. e.1 == b) es)

-- how many of these pairs lead to b
abbrev pub count_to : List (ℕ × ℕ) → ℕ → ℕ
count_to es b = length (filter (λ e. e.1 == b) es)
