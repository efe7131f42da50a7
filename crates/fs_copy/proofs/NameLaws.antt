-- The order of names, and the entries behind one.
use Rattle.std.proofs.Common.{◌≡◌, ℕ, Bool, true, false, cond, List, [], ◌∷◌, refl, sym, ◌∙◌, ap, subst, Some, None}
use Rattle.fs_copy.proofs.Common.{and_parts, ⊤, list_all, Name, name_lt, is_name, is_below_first_name, are_ascending, Entries, none, file, dir, nothing, a_file, a_dir, Tree, entry, is_there, names, names_in, before, lt_trans, lt_irreflexive, below_only, above, inside, entries_behind}

-- a name in front of others stands below each that is found among them
below_found : (m a n : Name) (ns : List Name) → is_below_first_name m ns ≡ true → are_ascending ns ≡ true → above a ns ≡ Some n → name_lt m n ≡ true
below_found m a n [] h up e = absurd (cc)
below_found m a n (k ∷ ks) h up e =
    let parts = and_parts (is_below_first_name k ks) (are_ascending ks) up in
    elim (name_lt a k) as (λ t. cond t (Some k) (above a ks) ≡ Some n → name_lt m n ≡ true) [
      | true ↦ λ g. let same : k ≡ n = cc in ap (name_lt m) (sym same) ∙ h
      | false ↦ λ g. lt_trans m k n h (below_found k a n ks parts.0 parts.1 g)
    ] e

-- behind a name that stands in front of all, all of them are
all_behind : (m : Name) (es : Entries ⊤ (List ℕ)) → is_below_first_name m (names es) ≡ true → entries_behind m es ≡ es
all_behind m none h = refl
all_behind m (file k x rest) h = ap (λ t. cond t (file k x rest) (entries_behind m rest)) h
all_behind m (dir k d i rest) h = ap (λ t. cond t (dir k d i rest) (entries_behind m rest)) h

-- nothing is found: nothing stands behind
pub none_behind : (a : Name) (es : Entries ⊤ (List ℕ)) → above a (names es) ≡ None → entries_behind a es ≡ none
none_behind a none e = refl
none_behind a (file k x rest) e = elim (name_lt a k) as (λ t. cond t (Some k) (above a (names rest)) ≡ None → cond t (file k x rest) (entries_behind a rest) ≡ none) [
  | true ↦ λ g. absurd (cc)
  | false ↦ λ g. none_behind a rest g
] e
none_behind a (dir k d i rest) e = elim (name_lt a k) as (λ t. cond t (Some k) (above a (names rest)) ≡ None → cond t (dir k d i rest) (entries_behind a rest) ≡ none) [
  | true ↦ λ g. absurd (cc)
  | false ↦ λ g. none_behind a rest g
] e

-- The name that is found stands first behind, with what it is, and the others behind it.
abbrev pub StandsNext : Name → Name → Entries ⊤ (List ℕ) → Type 0
StandsNext a n es = (entries_behind a es ≡ before n (entry n es) (entries_behind n es)) × (is_there (entry n es) ≡ true)

module _ (a n k : Name) (x : Tree) (there : is_there x ≡ true) (rest : Entries ⊤ (List ℕ)) (low : is_below_first_name k (names rest) ≡ true) (up : are_ascending (names rest) ≡ true) where
  abbrev first : Entries ⊤ (List ℕ)
  first = before k x rest

  entry_k : (m : Name) → entry m first ≡ cond (name_lt m k) nothing (cond (name_lt k m) (entry m rest) x)
  entry_k m = by x there
    where
      by : (y : Tree) → is_there y ≡ true → entry m (before k y rest) ≡ cond (name_lt m k) nothing (cond (name_lt k m) (entry m rest) y)
      by nothing h = absurd (cc)
      by (a_file z) h = refl
      by (a_dir d i) h = refl

  behind_k : (m : Name) → entries_behind m first ≡ cond (name_lt m k) first (entries_behind m rest)
  behind_k m = by x there
    where
      by : (y : Tree) → is_there y ≡ true → entries_behind m (before k y rest) ≡ cond (name_lt m k) (before k y rest) (entries_behind m rest)
      by nothing h = absurd (cc)
      by (a_file z) h = refl
      by (a_dir d i) h = refl

  pub next_of : cond (name_lt a k) (Some k) (above a (names rest)) ≡ Some n → (above a (names rest) ≡ Some n → StandsNext a n rest) → StandsNext a n first
  next_of e later = by (name_lt a k) refl e
    where
      here : name_lt a k ≡ true → k ≡ n → StandsNext a n first
      here h same =
          let itself = lt_irreflexive k in
          let own : entry k first ≡ x = entry_k k ∙ (ap (λ t. cond t nothing (cond t (entry k rest) x)) itself) in
          let others : entries_behind k first ≡ rest = behind_k k ∙ (ap (λ t. cond t first (entries_behind k rest)) itself ∙ all_behind k rest low) in
          let all : entries_behind a first ≡ before k (entry k first) (entries_behind k first) =
          behind_k a ∙ (ap (λ t. cond t first (entries_behind a rest)) h ∙ (ap (λ y. before k y rest) (sym own) ∙ ap (before k (entry k first)) (sym others))) in
          let there_k : is_there (entry k first) ≡ true = ap is_there own ∙ there in
          subst (λ m. StandsNext a m first) same (all, there_k)

      further : name_lt a k ≡ false → above a (names rest) ≡ Some n → StandsNext a n first
      further h e =
          let found = later e in
          let less = below_found k a n (names rest) low up e in
          let own : entry n first ≡ entry n rest = entry_k n ∙ (ap (λ t. cond t nothing (cond (name_lt k n) (entry n rest) x)) (below_only k n less) ∙ ap (λ t. cond t (entry n rest) x) less) in
          let others : entries_behind n first ≡ entries_behind n rest = behind_k n ∙ ap (λ t. cond t first (entries_behind n rest)) (below_only k n less) in
          (behind_k a ∙ (ap (λ t. cond t first (entries_behind a rest)) h ∙ (found.0 ∙ (ap (λ y. before n y (entries_behind n rest)) (sym own) ∙ ap (before n (entry n first)) (sym others)))), ap is_there own ∙ found.1)

      by : (t : Bool) → name_lt a k ≡ t → cond t (Some k) (above a (names rest)) ≡ Some n → StandsNext a n first
      by true h g = let same : k ≡ n = cc in here h same
      by false h g = further h g

pub stands_next : (a n : Name) (es : Entries ⊤ (List ℕ)) → are_ascending (names es) ≡ true → above a (names es) ≡ Some n → StandsNext a n es
stands_next a n none up e = absurd (cc)
stands_next a n (file k x rest) up e =
    let parts = and_parts (is_below_first_name k (names rest)) (are_ascending (names rest)) up in
    next_of a n k (a_file x) refl rest parts.0 parts.1 e (stands_next a n rest parts.1)
stands_next a n (dir k d i rest) up e =
    let parts = and_parts (is_below_first_name k (names rest)) (are_ascending (names rest)) up in
    next_of a n k (a_dir d i) refl rest parts.0 parts.1 e (stands_next a n rest parts.1)

-- the empty name stands in front of all
pub behind_empty : (es : Entries ⊤ (List ℕ)) → list_all is_name (names es) ≡ true → entries_behind [] es ≡ es
behind_empty none h = refl
behind_empty (file k x rest) h = ap (λ t. cond t (file k x rest) (entries_behind [] rest)) (not_empty k (and_parts (is_name k) (list_all is_name (names rest)) h).0)
  where
    not_empty : (k : Name) → is_name k ≡ true → name_lt [] k ≡ true
    not_empty [] h = absurd (cc)
    not_empty (c ∷ k) h = refl
behind_empty (dir k d i rest) h = ap (λ t. cond t (dir k d i rest) (entries_behind [] rest)) (not_empty k (and_parts (is_name k) (list_all is_name (names rest)) h).0)
  where
    not_empty : (k : Name) → is_name k ≡ true → name_lt [] k ≡ true
    not_empty [] h = absurd (cc)
    not_empty (c ∷ k) h = refl

-- what is found is one of the names
pub found_named : (a n : Name) (ns : List Name) → list_all is_name ns ≡ true → above a ns ≡ Some n → is_name n ≡ true
found_named a n [] h e = absurd (cc)
found_named a n (k ∷ ks) h e =
    let parts = and_parts (is_name k) (list_all is_name ks) h in
    elim (name_lt a k) as (λ t. cond t (Some k) (above a ks) ≡ Some n → is_name n ≡ true) [
      | true ↦ λ g. let same : k ≡ n = cc in ap is_name (sym same) ∙ parts.0
      | false ↦ λ g. found_named a n ks parts.1 g
    ] e

pub names_inside : (t : Tree) → names_in t ≡ names (inside t)
names_inside nothing = refl
names_inside (a_file x) = refl
names_inside (a_dir d es) = refl
