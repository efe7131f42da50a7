-- The least name above another is the next in the tree's order.
use Rattle.std.proofs.Common.{◌≡◌, ℕ, true, false, not, cond, List, [], ◌∷◌, refl, sym, ◌∙◌, ap, Option, Some, None}
use Rattle.chain_reading.proofs.Common.{and_parts, not-true, find, Name, name_lt, are_distinct, Entries, none, file, dir, Node, nothing, a_file, a_dir, entry, before, with_entry, names, is_there, ChainFile, chain_bytes, tree_of_files, is_among, lesser, if_above, least_above, lesser-none, file_names, clash, lt_trans, below_only}
use Rattle.chain_reading.proofs.FileLaws.{others_tested, tree_lacks}

abbrev FileEntries : Type 0
FileEntries = Entries (Unit {0}) (List ℕ)

module _ (after m : Name) (x : List ℕ) where
  -- by the entry in front
  step : (k : Name) (z : Node (Unit {0}) (List ℕ)) (rest : FileEntries) → is_there z ≡ true
      → find (name_lt after) (names (before k z rest)) ≡ cond (name_lt after k) (Some k) (find (name_lt after) (names rest))
  step k nothing rest h = absurd (cc)
  step k (a_file f) rest h = refl
  step k (a_dir d inside) rest h = refl

  put_before : (k : Name) (z : Node (Unit {0}) (List ℕ)) (rest : FileEntries) → is_there z ≡ true → name_lt m k ≡ true → with_entry m (a_file x) (before k z rest) ≡ file m x (before k z rest)
  put_before k nothing rest h p = absurd (cc)
  put_before k (a_file f) rest h p = ap (λ t. cond t (file m x (file k f rest)) (cond (name_lt k m) (file k f (with_entry m (a_file x) rest)) (file m x rest))) p
  put_before k (a_dir d inside) rest h p = ap (λ t. cond t (file m x (dir k d inside rest)) (cond (name_lt k m) (dir k d inside (with_entry m (a_file x) rest)) (file m x rest))) p

  put_later : (k : Name) (z : Node (Unit {0}) (List ℕ)) (rest : FileEntries) → is_there z ≡ true → name_lt k m ≡ true → with_entry m (a_file x) (before k z rest) ≡ before k z (with_entry m (a_file x) rest)
  put_later k nothing rest h p = absurd (cc)
  put_later k (a_file f) rest h p = ap (λ t. cond t (file m x (file k f rest)) (cond (name_lt k m) (file k f (with_entry m (a_file x) rest)) (file m x rest))) (below_only k m p) ∙ ap (λ t. cond t (file k f (with_entry m (a_file x) rest)) (file m x rest)) p
  put_later k (a_dir d inside) rest h p = ap (λ t. cond t (file m x (dir k d inside rest)) (cond (name_lt k m) (dir k d inside (with_entry m (a_file x) rest)) (file m x rest))) (below_only k m p) ∙ ap (λ t. cond t (dir k d inside (with_entry m (a_file x) rest)) (file m x rest)) p

  entry_here : (k : Name) (z : Node (Unit {0}) (List ℕ)) (rest : FileEntries) → is_there z ≡ true → name_lt m k ≡ false → name_lt k m ≡ false → entry m (before k z rest) ≡ z
  entry_here k nothing rest h p q = absurd (cc)
  entry_here k (a_file f) rest h p q = ap (λ t. cond t nothing (cond (name_lt k m) (entry m rest) (a_file f))) p ∙ ap (λ t. cond t (entry m rest) (a_file f)) q
  entry_here k (a_dir d inside) rest h p q = ap (λ t. cond t nothing (cond (name_lt k m) (entry m rest) (a_dir d inside))) p ∙ ap (λ t. cond t (entry m rest) (a_dir d inside)) q

  entry_later : (k : Name) (z : Node (Unit {0}) (List ℕ)) (rest : FileEntries) → is_there z ≡ true → name_lt k m ≡ true → entry m (before k z rest) ≡ entry m rest
  entry_later k nothing rest h q = absurd (cc)
  entry_later k (a_file f) rest h q = ap (λ t. cond t nothing (cond (name_lt k m) (entry m rest) (a_file f))) (below_only k m q) ∙ ap (λ t. cond t (entry m rest) (a_file f)) q
  entry_later k (a_dir d inside) rest h q = ap (λ t. cond t nothing (cond (name_lt k m) (entry m rest) (a_dir d inside))) (below_only k m q) ∙ ap (λ t. cond t (entry m rest) (a_dir d inside)) q

  -- the new name is below the first
  new_first : (k : Name) (others : Option Name) → name_lt m k ≡ true → cond (name_lt after m) (Some m) (cond (name_lt after k) (Some k) others) ≡ lesser (if_above after m) (cond (name_lt after k) (Some k) others)
  new_first k others mk = elim (name_lt after m) as (λ t. name_lt after m ≡ t → cond t (Some m) (cond (name_lt after k) (Some k) others) ≡ lesser (cond t (Some m) None) (cond (name_lt after k) (Some k) others)) [
    | true ↦ λ am. sym (ap (λ t. lesser (Some m) (cond t (Some k) others)) (lt_trans after m k am mk) ∙ ap (λ t. cond t (Some k) (Some m)) (below_only m k mk))
    | false ↦ λ am. refl
  ] refl

  -- and it is above it
  old_first : (k : Name) (others now : Option Name) → name_lt k m ≡ true → now ≡ lesser (if_above after m) others → cond (name_lt after k) (Some k) now ≡ lesser (if_above after m) (cond (name_lt after k) (Some k) others)
  old_first k others now km is = elim (name_lt after k) as (λ t. name_lt after k ≡ t → cond t (Some k) now ≡ lesser (if_above after m) (cond t (Some k) others)) [
    | true ↦ λ ak. sym (ap (λ t. lesser (cond t (Some m) None) (Some k)) (lt_trans after k m ak km) ∙ ap (λ t. cond t (Some k) (Some m)) km)
    | false ↦ λ ak. is
  ] refl

  next_at : (k : Name) (z : Node (Unit {0}) (List ℕ)) (rest : FileEntries) → is_there z ≡ true
      → (entry m rest ≡ nothing → find (name_lt after) (names (with_entry m (a_file x) rest)) ≡ lesser (if_above after m) (find (name_lt after) (names rest)))
      → entry m (before k z rest) ≡ nothing → find (name_lt after) (names (with_entry m (a_file x) (before k z rest))) ≡ lesser (if_above after m) (find (name_lt after) (names (before k z rest)))
  next_at k z rest there later gone = elim (name_lt m k) as (λ t. name_lt m k ≡ t → find (name_lt after) (names (with_entry m (a_file x) (before k z rest))) ≡ lesser (if_above after m) (find (name_lt after) (names (before k z rest)))) [
    | true ↦ λ mk.
        ap (λ es. find (name_lt after) (names es)) (put_before k z rest there mk)
        ∙ (ap (cond (name_lt after m) (Some m)) (step k z rest there)
        ∙ (new_first k (find (name_lt after) (names rest)) mk ∙ ap (lesser (if_above after m)) (sym (step k z rest there))))
    | false ↦ λ mk. elim (name_lt k m) as (λ t. name_lt k m ≡ t → find (name_lt after) (names (with_entry m (a_file x) (before k z rest))) ≡ lesser (if_above after m) (find (name_lt after) (names (before k z rest)))) [
      | false ↦ λ km. absurd (clash (is_there (entry m (before k z rest))) (ap is_there (entry_here k z rest there mk km) ∙ there) (ap is_there gone))
      | true ↦ λ km.
          ap (λ es. find (name_lt after) (names es)) (put_later k z rest there km)
          ∙ (step k z (with_entry m (a_file x) rest) there
          ∙ (old_first k (find (name_lt after) (names rest)) (find (name_lt after) (names (with_entry m (a_file x) rest))) km (later (sym (entry_later k z rest there km) ∙ gone))
          ∙ ap (lesser (if_above after m)) (sym (step k z rest there))))
    ] refl
  ] refl

  next_with : (es : FileEntries) → entry m es ≡ nothing → find (name_lt after) (names (with_entry m (a_file x) es)) ≡ lesser (if_above after m) (find (name_lt after) (names es))
  next_with none gone = sym (lesser-none (if_above after m))
  next_with (file k f rest) gone = next_at k (a_file f) rest refl (next_with rest) gone
  next_with (dir k d inside rest) gone = next_at k (a_dir d inside) rest refl (next_with rest) gone

pub next_name : (after : Name) (fs : List ChainFile) → are_distinct (file_names fs) ≡ true → find (name_lt after) (names (tree_of_files fs)) ≡ least_above after (file_names fs)
next_name after [] h = refl
next_name after (f ∷ fs) h =
    let parts = and_parts (not (is_among (file_names fs) f.name)) (are_distinct (file_names fs)) h in
    next_with after f.name (chain_bytes f.chain) (tree_of_files fs) (tree_lacks f.name fs (others_tested f.name (file_names fs) (not-true (is_among (file_names fs) f.name) parts.0)))
    ∙ ap (lesser (if_above after f.name)) (next_name after fs parts.1)
