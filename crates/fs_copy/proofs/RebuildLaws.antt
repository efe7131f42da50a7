-- The steps of a copy make the tree again.
use Rattle.std.proofs.Common.{◌≡◌, ◌*◌, ◌-◌, ◌≤◌, ℕ, zero, suc, Bool, true, false, cond, List, [], ◌∷◌, ◌++◌, length, map, take, drop, refl, sym, ◌∙◌, ap, arith, append_assoc, append-nil, length-drop, take-append-drop}
use Rattle.fs_copy.proofs.Common.{and_parts, div_ceil_times, div_ceil, ⊤, file_pieces, further_pieces, file_steps, entry_steps, copy_steps, after_asks, Name, Path, name_lt, is_below_first_name, are_ascending, change, empty_tree, Entries, none, file, dir, nothing, a_file, a_dir, Tree, child, entry, at, is_there, names, bytes_in, before, with_entry, with_child, with_at, AllListed, lt_trans, below_only, with_entry-again, entry-same}
use Rattle.fs_trees.specs.declared.ask.ShellAsk.TheVariants as ask
use Rattle.fs_laws.proofs.DirectoryLaws.{with_last, names_meet}
use Rattle.fs_copy.proofs.GoingLaws.{after-append, there_with}
use Rattle.fs_laws.proofs.AtLaws.{nowhere, root_there, at_last}

-- ---- a node at a path

-- what was put at a path is there
at_with : (p : Path) (z t : Tree) → is_there (at t p) ≡ true → is_there z ≡ true → at (with_at p z t) p ≡ z
at_with [] z t h k = refl
at_with (n ∷ ns) z nothing h k = absurd (nowhere _ _ ns h)
at_with (n ∷ ns) z (a_file x) h k = absurd (nowhere _ _ ns h)
at_with (n ∷ ns) z (a_dir d es) h k =
    let u = with_at ns z (entry n es) in
    let there : is_there u ≡ true = there_with ns z (entry n es) k (root_there (entry n es) ns h) in
    ap (λ x. at x ns) (entry-same n u es there) ∙ at_with ns z (entry n es) h k

-- what is put there then takes its place
with_again : (p : Path) (z y t : Tree) → is_there (at t p) ≡ true → is_there y ≡ true → with_at p z (with_at p y t) ≡ with_at p z t
with_again [] z y t h k = refl
with_again (n ∷ ns) z y nothing h k = refl
with_again (n ∷ ns) z y (a_file x) h k = refl
with_again (n ∷ ns) z y (a_dir d es) h k =
    let u = with_at ns y (entry n es) in
    let there : is_there u ≡ true = there_with ns y (entry n es) k (root_there (entry n es) ns h) in
    ap (λ x. a_dir d (with_entry n (with_at ns z x) (with_entry n u es))) (entry-same n u es there)
    ∙ (ap (λ x. a_dir d (with_entry n x (with_entry n u es))) (with_again ns z y (entry n es) h k)
    ∙ ap (a_dir d) (with_entry-again n (with_at ns z (entry n es)) u es there))

-- what is there may be put again
entry_again : (n : Name) (es : Entries ⊤ (List ℕ)) → is_there (entry n es) ≡ true → with_entry n (entry n es) es ≡ es
entry_again n none h = absurd (cc)
entry_again n (file m x rest) h = by (λ k. entry_again n rest k) (name_lt n m) (name_lt m n) refl refl h
  where
    by : (is_there (entry n rest) ≡ true → with_entry n (entry n rest) rest ≡ rest) → (s t : Bool) → name_lt n m ≡ s → name_lt m n ≡ t → is_there (cond s nothing (cond t (entry n rest) (a_file x))) ≡ true
        → cond s (before n (cond s nothing (cond t (entry n rest) (a_file x))) (file m x rest)) (cond t (file m x (with_entry n (cond s nothing (cond t (entry n rest) (a_file x))) rest)) (before n (cond s nothing (cond t (entry n rest) (a_file x))) rest)) ≡ file m x rest
    by later true t p q k = absurd (cc)
    by later false true p q k = ap (file m x) (later k)
    by later false false p q k = ap (λ k. file k x rest) (names_meet n m p q)
entry_again n (dir m d i rest) h = by (λ k. entry_again n rest k) (name_lt n m) (name_lt m n) refl refl h
  where
    by : (is_there (entry n rest) ≡ true → with_entry n (entry n rest) rest ≡ rest) → (s t : Bool) → name_lt n m ≡ s → name_lt m n ≡ t → is_there (cond s nothing (cond t (entry n rest) (a_dir d i))) ≡ true
        → cond s (before n (cond s nothing (cond t (entry n rest) (a_dir d i))) (dir m d i rest)) (cond t (dir m d i (with_entry n (cond s nothing (cond t (entry n rest) (a_dir d i))) rest)) (before n (cond s nothing (cond t (entry n rest) (a_dir d i))) rest)) ≡ dir m d i rest
    by later true t p q k = absurd (cc)
    by later false true p q k = ap (dir m d i) (later k)
    by later false false p q k = ap (λ k. dir k d i rest) (names_meet n m p q)

with_same : (p : Path) (t : Tree) → is_there (at t p) ≡ true → with_at p (at t p) t ≡ t
with_same [] t h = refl
with_same (n ∷ ns) nothing h = absurd (nowhere _ _ ns h)
with_same (n ∷ ns) (a_file x) h = absurd (nowhere _ _ ns h)
with_same (n ∷ ns) (a_dir d es) h =
    ap (λ x. a_dir d (with_entry n x es)) (with_same ns (entry n es) h) ∙ ap (a_dir d) (entry_again n es (root_there (entry n es) ns h))

-- ---- entries behind others

abbrev joined : Entries ⊤ (List ℕ) → Entries ⊤ (List ℕ) → Entries ⊤ (List ℕ)
joined none es = es
joined (file n x rest) es = file n x (joined rest es)
joined (dir n d i rest) es = dir n d i (joined rest es)

-- all of them stand below a name
abbrev AllBelow : Name → Entries ⊤ (List ℕ) → Type 0
AllBelow n none = Unit {0}
AllBelow n (file m x rest) = (name_lt m n ≡ true) × AllBelow n rest
AllBelow n (dir m d i rest) = (name_lt m n ≡ true) × AllBelow n rest

-- a name above all of them goes to the end
put_last : (n : Name) (y : Tree) (xs : Entries ⊤ (List ℕ)) → AllBelow n xs → with_entry n y xs ≡ joined xs (before n y none)
put_last n y none h = refl
put_last n y (file m x rest) h =
    ap (λ t. cond t (before n y (file m x rest)) (cond (name_lt m n) (file m x (with_entry n y rest)) (before n y rest))) (below_only m n h.0)
    ∙ (ap (λ t. cond t (file m x (with_entry n y rest)) (before n y rest)) h.0 ∙ ap (file m x) (put_last n y rest h.1))
put_last n y (dir m d i rest) h =
    ap (λ t. cond t (before n y (dir m d i rest)) (cond (name_lt m n) (dir m d i (with_entry n y rest)) (before n y rest))) (below_only m n h.0)
    ∙ (ap (λ t. cond t (dir m d i (with_entry n y rest)) (before n y rest)) h.0 ∙ ap (dir m d i) (put_last n y rest h.1))

joined_on : (n : Name) (y : Tree) (xs es : Entries ⊤ (List ℕ)) → is_there y ≡ true → joined (joined xs (before n y none)) es ≡ joined xs (before n y es)
joined_on n nothing none es h = absurd (cc)
joined_on n (a_file z) none es h = refl
joined_on n (a_dir e j) none es h = refl
joined_on n y (file m x rest) es h = ap (file m x) (joined_on n y rest es h)
joined_on n y (dir m d i rest) es h = ap (dir m d i) (joined_on n y rest es h)

joined_none : (xs : Entries ⊤ (List ℕ)) → joined xs none ≡ xs
joined_none none = refl
joined_none (file m x rest) = ap (file m x) (joined_none rest)
joined_none (dir m d i rest) = ap (dir m d i) (joined_none rest)

below_more : (n k : Name) (y : Tree) (xs : Entries ⊤ (List ℕ)) → name_lt n k ≡ true → AllBelow n xs → AllBelow k (joined xs (before n y none))
below_more n k nothing none less h = tt
below_more n k (a_file z) none less h = (less, tt)
below_more n k (a_dir e j) none less h = (less, tt)
below_more n k y (file m x rest) less h = (lt_trans m n k h.0 less, below_more n k y rest less h.1)
below_more n k y (dir m d i rest) less h = (lt_trans m n k h.0 less, below_more n k y rest less h.1)

-- these stand below those
abbrev StandBelow : Entries ⊤ (List ℕ) → Entries ⊤ (List ℕ) → Type 0
StandBelow xs none = Unit {0}
StandBelow xs (file n x rest) = AllBelow n xs
StandBelow xs (dir n d i rest) = AllBelow n xs

still_below : (n : Name) (y : Tree) (xs rest : Entries ⊤ (List ℕ)) → AllBelow n xs → is_below_first_name n (names rest) ≡ true → StandBelow (joined xs (before n y none)) rest
still_below n y xs none h low = tt
still_below n y xs (file k x rest) h low = below_more n k y xs low h
still_below n y xs (dir k d i rest) h low = below_more n k y xs low h

-- the directories below are in order
abbrev InOrder : Entries ⊤ (List ℕ) → Type 0
InOrder none = Unit {0}
InOrder (file n x rest) = InOrder rest
InOrder (dir n d i rest) = (are_ascending (names i) ≡ true) × InOrder i × InOrder rest

-- ---- a directory at a path that gets an entry more

module _ (p : Path) (t : Tree) (xs : Entries ⊤ (List ℕ)) (is : at t p ≡ a_dir tt xs) (n : Name) (below : AllBelow n xs) where
  there : is_there (at t p) ≡ true
  there = ap is_there is

  -- the tree with it
  abbrev grown : Tree → Tree
  grown y = with_at p (a_dir tt (joined xs (before n y none))) t

  put_new : (y : Tree) → with_at (p ++ n ∷ []) y t ≡ grown y
  put_new y = with_last p n y t ∙ (ap (λ x. with_at p (with_child n y x) t) is ∙ ap (λ zs. with_at p (a_dir tt zs) t) (put_last n y xs below))

  at_grown : (y : Tree) → at (grown y) p ≡ a_dir tt (joined xs (before n y none))
  at_grown y = at_with p (a_dir tt (joined xs (before n y none))) t there refl

  entry_grown : (y : Tree) → is_there y ≡ true → at (grown y) (p ++ n ∷ []) ≡ y
  entry_grown y h = at_last p n (grown y) ∙ (ap (child n) (at_grown y) ∙ (ap (entry n) (sym (put_last n y xs below)) ∙ entry-same n y xs h))

  put_over : (y z : Tree) → is_there y ≡ true → with_at (p ++ n ∷ []) z (grown y) ≡ grown z
  put_over y z h =
      with_last p n z (grown y)
      ∙ (ap (λ x. with_at p (with_child n z x) (grown y)) (at_grown y)
      ∙ (ap (λ zs. with_at p (a_dir tt zs) (grown y)) (ap (with_entry n z) (sym (put_last n y xs below)) ∙ (with_entry-again n z y xs h ∙ put_last n z xs below))
      ∙ with_again p (a_dir tt (joined xs (before n z none))) (a_dir tt (joined xs (before n y none))) t there refl))

  -- ---- a file, piece by piece

  append_one : (x y : List ℕ) → (change (grown (a_file x)) 0 (ask.Append (p ++ n ∷ []) y)).tree ≡ grown (a_file (x ++ y))
  append_one x y =
      ap (λ z. with_at (p ++ n ∷ []) (a_file (bytes_in z ++ y)) (grown (a_file x))) (entry_grown (a_file x) refl)
      ∙ put_over (a_file x) (a_file (x ++ y)) refl

  append_all : (k : ℕ) (x y : List ℕ) → length y ≤ k * 4096 → after_asks (grown (a_file x)) (map (ask.Append (p ++ n ∷ [])) (file_pieces k y)) ≡ grown (a_file (x ++ y))
  append_all zero x [] h = ap (λ z. grown (a_file z)) (sym (append-nil x))
  append_all zero x (c ∷ y) h = absurd (omega (arith, h))
  append_all (suc k) x y h =
      ap (λ t. after_asks t (map (ask.Append (p ++ n ∷ [])) (file_pieces k (drop 4096 y)))) (append_one x (take 4096 y))
      ∙ (append_all k (x ++ take 4096 y) (drop 4096 y) (omega (arith, h, length-drop 4096 y))
      ∙ ap (λ z. grown (a_file z)) (append_assoc x (take 4096 y) (drop 4096 y) ∙ ap (λ z. x ++ z) (take-append-drop 4096 y)))

  pub file_made : (x : List ℕ) → after_asks t (file_steps (p ++ n ∷ []) x) ≡ grown (a_file x)
  file_made x =
      let all = div_ceil_times (length x) 4096 (omega arith) in
      let few : length (drop 4096 x) ≤ (div_ceil (length x) 4096 - 1) * 4096 = omega (arith, all.0, length-drop 4096 x) in
      ap (λ u. after_asks u (map (ask.Append (p ++ n ∷ [])) (further_pieces x))) (put_new (a_file (take 4096 x)))
      ∙ (append_all (div_ceil (length x) 4096 - 1) (take 4096 x) (drop 4096 x) few
      ∙ ap (λ z. grown (a_file z)) (take-append-drop 4096 x))

-- ---- all entries of a directory

rebuilt : (es : Entries ⊤ (List ℕ)) → are_ascending (names es) ≡ true → InOrder es → (p : Path) (t : Tree) (xs : Entries ⊤ (List ℕ)) → at t p ≡ a_dir tt xs → StandBelow xs es
    → after_asks t (entry_steps p es) ≡ with_at p (a_dir tt (joined xs es)) t
rebuilt none up order p t xs is below =
    sym (with_same p t (ap is_there is)) ∙ (ap (λ x. with_at p x t) is ∙ ap (λ zs. with_at p (a_dir tt zs) t) (sym (joined_none xs)))
rebuilt (file n x rest) up order p t xs is below =
    let parts = and_parts (is_below_first_name n (names rest)) (are_ascending (names rest)) up in
    let now = with_at p (a_dir tt (joined xs (file n x none))) t in
    after-append t (file_steps (p ++ n ∷ []) x) (entry_steps p rest)
    ∙ (ap (λ u. after_asks u (entry_steps p rest)) (file_made p t xs is n below x)
    ∙ (rebuilt rest parts.1 order p now (joined xs (file n x none)) (at_grown p t xs is n below (a_file x)) (still_below n (a_file x) xs rest below parts.0)
    ∙ (with_again p (a_dir tt (joined (joined xs (file n x none)) rest)) (a_dir tt (joined xs (file n x none))) t (ap is_there is) refl
    ∙ ap (λ zs. with_at p (a_dir tt zs) t) (joined_on n (a_file x) xs rest refl))))
rebuilt (dir n d i rest) up order p t xs is below =
    let parts = and_parts (is_below_first_name n (names rest)) (are_ascending (names rest)) up in
    let q = p ++ n ∷ [] in
    let begun = with_at p (a_dir tt (joined xs (before n empty_tree none))) t in
    let now = with_at p (a_dir tt (joined xs (dir n tt i none))) t in
    let inner : after_asks begun (entry_steps q i) ≡ now =
    rebuilt i order.0 order.1 q begun none (entry_grown p t xs is n below empty_tree refl) (nothing_below i) ∙ put_over p t xs is n below empty_tree (a_dir tt i) refl in
    after-append (with_at q empty_tree t) (entry_steps q i) (entry_steps p rest)
    ∙ (ap (λ u. after_asks (after_asks u (entry_steps q i)) (entry_steps p rest)) (put_new p t xs is n below empty_tree)
    ∙ (ap (λ u. after_asks u (entry_steps p rest)) inner
    ∙ (rebuilt rest parts.1 order.2 p now (joined xs (dir n tt i none)) (at_grown p t xs is n below (a_dir tt i)) (still_below n (a_dir tt i) xs rest below parts.0)
    ∙ (with_again p (a_dir tt (joined (joined xs (dir n tt i none)) rest)) (a_dir tt (joined xs (dir n tt i none))) t (ap is_there is) refl
    ∙ ap (λ zs. with_at p (a_dir tt zs) t) (joined_on n (a_dir tt i) xs rest refl)))))
  where
    nothing_below : (es : Entries ⊤ (List ℕ)) → StandBelow none es
    nothing_below none = tt
    nothing_below (file m y rest) = tt
    nothing_below (dir m e j rest) = tt

-- what directories list is in order
pub in_order : (es : Entries ⊤ (List ℕ)) → AllListed es → InOrder es
in_order none h = tt
in_order (file n x rest) h = in_order rest h
in_order (dir n d i rest) h = (h.0.1, in_order i h.1, in_order rest h.2)

-- The steps of a copy make the tree.
pub whole_copy : (d : ⊤) (es : Entries ⊤ (List ℕ)) → are_ascending (names es) ≡ true → InOrder es → after_asks nothing (copy_steps (a_dir d es)) ≡ a_dir d es
whole_copy d es up order = rebuilt es up order [] empty_tree none refl (nothing_below es)
  where
    nothing_below : (es : Entries ⊤ (List ℕ)) → StandBelow none es
    nothing_below none = tt
    nothing_below (file m y rest) = tt
    nothing_below (dir m e j rest) = tt
