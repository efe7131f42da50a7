-- A directory's entries, from one of them on.
use Rattle.std.proofs.Common.{◌≡◌, ℕ, suc, ◌+◌, ◌*◌, ◌-◌, ◌<◌, Bool, true, false, cond, ◌&&◌, List, [], ◌∷◌, length, refl, sym, ◌∙◌, ap, arith, Some}
use Rattle.std.specs.Prelude.{drop, find}
use Rattle.fs_trees.specs.Names.{Name, name_lt, is_name, is_below_first_name, are_ascending}
use Rattle.fs_trees.specs.Fields.{Entry, entry_in, entries, entry_names, all_named}
use Rattle.fs_fields.specs.Around.{listed_before, place_in}
use Rattle.fs_fields.proofs.PadLaws.{entries_from}
use Rattle.tsd_model.proofs.ValueLaws.{and_false}

-- by what the name in the entry is tested to be
module _ (n : Name) (xs : List ℕ) (amount i : ℕ) (h : i < amount) (m : Name) (is : m ≡ (entry_in (drop (32 * i) xs)).name) where
  here : Entry
  here = entry_in (drop (32 * i) xs)

  rest : List Entry
  rest = entries (amount - (i + 1)) (drop (32 * (i + 1)) xs)

  split : entries (amount - i) (drop (32 * i) xs) ≡ here ∷ rest
  unfolding here rest
  split = entries_from xs amount i h

  pub place_stops : name_lt m n ≡ false → place_in n (entries (amount - i) (drop (32 * i) xs)) ≡ 0
  unfolding here rest
  place_stops p = ap (place_in n) split ∙ ap (λ t. length (cond t (here ∷ listed_before n rest) [])) (ap (λ k. name_lt k n) (sym is) ∙ p)

  place_goes : name_lt m n ≡ true → place_in n (entries (amount - i) (drop (32 * i) xs)) ≡ suc (place_in n rest)
  unfolding here rest
  place_goes p = ap (place_in n) split ∙ ap (λ t. length (cond t (here ∷ listed_before n rest) [])) (ap (λ k. name_lt k n) (sym is) ∙ p)

  pub place_goes_on : name_lt m n ≡ true → i + place_in n (entries (amount - i) (drop (32 * i) xs)) ≡ (i + 1) + place_in n (entries (amount - (i + 1)) (drop (32 * (i + 1)) xs))
  unfolding rest
  place_goes_on p = let e = place_goes p in omega (arith, e)

  pub next_stops : name_lt n m ≡ true → find (name_lt n) (entry_names (entries (amount - i) (drop (32 * i) xs))) ≡ Some m
  unfolding here rest
  next_stops p = ap (λ es. find (name_lt n) (entry_names es)) split
      ∙ (ap (λ k. find (name_lt n) (k ∷ entry_names rest)) (sym is)
      ∙ ap (λ t. cond t (Some m) (find (name_lt n) (entry_names rest))) p)

  pub next_goes_on : name_lt n m ≡ false → find (name_lt n) (entry_names (entries (amount - i) (drop (32 * i) xs))) ≡ find (name_lt n) (entry_names (entries (amount - (i + 1)) (drop (32 * (i + 1)) xs)))
  unfolding here rest
  next_goes_on p = ap (λ es. find (name_lt n) (entry_names es)) split
      ∙ (ap (λ k. find (name_lt n) (k ∷ entry_names rest)) (sym is)
      ∙ ap (λ t. cond t (Some m) (find (name_lt n) (entry_names rest))) p)

-- ---- names that ascend

-- they are names, ascend, and stand above this one
abbrev pub follow : Name → List Entry → Bool
follow last es = all_named es && (is_below_first_name last (entry_names es) && are_ascending (entry_names es))

-- the empty name is below each name
pub follow_none : (es : List Entry) → (all_named es && are_ascending (entry_names es)) ≡ follow [] es
follow_none [] = refl
follow_none (e ∷ es) = first e.name (all_named es) (are_ascending (entry_names (e ∷ es)))
  where
    first : (m : Name) (others up : Bool) → (is_name m && others && up) ≡ (is_name m && others && (name_lt [] m && up))
    first [] others up = refl
    first (c ∷ m) others up = refl

module _ (last : Name) (xs : List ℕ) (amount i : ℕ) (h : i < amount) (m : Name) (is : m ≡ (entry_in (drop (32 * i) xs)).name) where
  later : List Entry
  later = entries (amount - (i + 1)) (drop (32 * (i + 1)) xs)

  step : follow last (entries (amount - i) (drop (32 * i) xs)) ≡ ((is_name m && all_named later) && (name_lt last m && (is_below_first_name m (entry_names later) && are_ascending (entry_names later))))
  unfolding later
  step = ap (follow last) (entries_from xs amount i h)
      ∙ ap (λ k. (is_name k && all_named later) && (name_lt last k && (is_below_first_name k (entry_names later) && are_ascending (entry_names later)))) (sym is)

  pub no_name_stops : is_name m ≡ false → follow last (entries (amount - i) (drop (32 * i) xs)) ≡ false
  no_name_stops p = step ∙ ap (λ t. (t && all_named later) && (name_lt last m && (is_below_first_name m (entry_names later) && are_ascending (entry_names later)))) p

  pub not_above_stops : name_lt last m ≡ false → follow last (entries (amount - i) (drop (32 * i) xs)) ≡ false
  not_above_stops p = step ∙ (ap (λ t. (is_name m && all_named later) && (t && (is_below_first_name m (entry_names later) && are_ascending (entry_names later)))) p ∙ and_false (is_name m && all_named later))

  pub follow_goes_on : is_name m ≡ true → name_lt last m ≡ true → follow last (entries (amount - i) (drop (32 * i) xs)) ≡ follow m (entries (amount - (i + 1)) (drop (32 * (i + 1)) xs))
  unfolding later
  follow_goes_on p q = step ∙ (ap (λ t. (t && all_named later) && (name_lt last m && (is_below_first_name m (entry_names later) && are_ascending (entry_names later)))) p
      ∙ ap (λ t. all_named later && (t && (is_below_first_name m (entry_names later) && are_ascending (entry_names later)))) q)

-- at first
pub follow_first : (xs : List ℕ) (amount : ℕ) → (all_named (entries amount xs) && are_ascending (entry_names (entries amount xs))) ≡ follow [] (entries (amount - 0) (drop (32 * 0) xs))
follow_first xs amount =
    let e : amount ≡ amount - 0 = omega arith in
    follow_none (entries amount xs) ∙ ap (λ k. follow [] (entries k xs)) e
