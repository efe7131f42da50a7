-- What is left of a copy, from one place of the walk to the next.
use Rattle.std.proofs.Common.{◌≡◌, ◌+◌, ◌≤◌, ◌*◌, ℕ, zero, suc, true, List, [], ◌∷◌, ◌++◌, length, map, drop, refl, sym, ◌∙◌, ap, subst, arith, append_assoc, append-nil, length-take, length-drop, ◌-◌, None}
use Rattle.fs_copy.proofs.Common.{⊤, div_ceil_times, div_ceil, file_pieces, further_pieces, file_steps, entry_steps, Name, Path, are_ascending, Entries, none, file, dir, nothing, a_file, a_dir, Tree, child, entry, at, is_dir, is_there, names, names_in, before, ShellAsk, IsNameListing, entry_count, above, file_count, byte_count, own_steps, first_made, inside, entries_behind, outer, todo, files_made, bytes_made, turns, IsNextName}
use Rattle.fs_trees.specs.declared.ask.ShellAsk.TheVariants as ask
use Rattle.fs_copy.proofs.NameLaws.{none_behind, stands_next, behind_empty, names_inside}
use Rattle.fs_laws.proofs.AtLaws.{at_last}

-- ---- where the walk leaves a directory

pub outer_last : (here : Path) (t : Tree) (p : Path) (n : Name) → outer here t (p ++ n ∷ []) ≡ entry_steps (here ++ p) (entries_behind n (inside (at t p))) ++ outer here t p
outer_last here t [] n = ap (λ q. entry_steps q (entries_behind n (inside t))) (sym (append-nil here)) ∙ sym (append-nil (entry_steps (here ++ []) (entries_behind n (inside t))))
outer_last here t (m ∷ ms) n =
    let behind_m = entry_steps here (entries_behind m (inside t)) in
    let later = outer (here ++ m ∷ []) (child m t) ms in
    ap (λ s. s ++ behind_m) (outer_last (here ++ m ∷ []) (child m t) ms n)
    ∙ (append_assoc (entry_steps ((here ++ m ∷ []) ++ ms) (entries_behind n (inside (at (child m t) ms)))) later behind_m
    ∙ ap (λ q. entry_steps q (entries_behind n (inside (at (child m t) ms))) ++ (later ++ behind_m)) (append_assoc here (m ∷ []) ms))

-- nothing is left in the directory
pub todo_none : (t : Tree) (p : Path) (a : Name) → above a (names_in (at t p)) ≡ None → todo t p a ≡ outer [] t p
todo_none t p a e = ap (λ es. entry_steps p es ++ outer [] t p) (none_behind a (inside (at t p)) (ap (above a) (sym (names_inside (at t p))) ∙ e))

pub todo_leave : (t : Tree) (q : Path) (n a : Name) → above a (names_in (at t (q ++ n ∷ []))) ≡ None → todo t (q ++ n ∷ []) a ≡ todo t q n
todo_leave t q n a e = todo_none t (q ++ n ∷ []) a e ∙ outer_last [] t q n

-- ---- where it goes on

-- the place after an entry: inside, where it is a directory
abbrev pub next_path : Path → Name → Tree → Path
next_path p n nothing = p
next_path p n (a_file x) = p
next_path p n (a_dir d es) = p ++ n ∷ []

abbrev pub next_after : Name → Tree → Name
next_after n nothing = n
next_after n (a_file x) = n
next_after n (a_dir d es) = []

module _ (t : Tree) (p : Path) (a n : Name) (next : IsNextName t p a n) where
  abbrev es : Entries ⊤ (List ℕ)
  es = inside (at t p)

  child_is : child n (at t p) ≡ entry n es
  child_is = by (at t p) next.dir
    where
      by : (x : Tree) → is_dir x ≡ true → child n x ≡ entry n (inside x)
      by nothing h = absurd (cc)
      by (a_file y) h = absurd (cc)
      by (a_dir d i) h = refl

  pub there_is : at t (p ++ n ∷ []) ≡ entry n es
  there_is = at_last p n t ∙ child_is

  listed : names_in (at t p) ≡ names es
  listed = names_inside (at t p)

  stands : (entries_behind a es ≡ before n (entry n es) (entries_behind n es)) × (is_there (entry n es) ≡ true)
  stands = stands_next a n es (subst (λ ns. are_ascending ns ≡ true) listed next.listing.1) (ap (above a) (sym listed) ∙ next.next)

  pub there_now : is_there (at t (p ++ n ∷ [])) ≡ true
  there_now = ap is_there there_is ∙ stands.1

  -- the names inside what is entered are names
  pub todo_enter : (y : Tree) → at t (p ++ n ∷ []) ≡ y → IsNameListing (names_in y) → todo t p a ≡ own_steps (p ++ n ∷ []) y ++ todo t (next_path p n y) (next_after n y)
  todo_enter y is listing =
      let same : entry n es ≡ y = sym there_is ∙ is in
      ap (λ xs. entry_steps p xs ++ outer [] t p) (stands.0 ∙ ap (λ x. before n x (entries_behind n es)) same) ∙ by y is listing (ap is_there (sym is) ∙ there_now)
    where
      R : Entries ⊤ (List ℕ)
      R = entries_behind n es

      by : (y : Tree) → at t (p ++ n ∷ []) ≡ y → IsNameListing (names_in y) → is_there y ≡ true → entry_steps p (before n y (entries_behind n es)) ++ outer [] t p ≡ own_steps (p ++ n ∷ []) y ++ todo t (next_path p n y) (next_after n y)
      by nothing is listing h = absurd (cc)
      by (a_file x) is listing h = append_assoc (file_steps (p ++ n ∷ []) x) (entry_steps p (entries_behind n es)) (outer [] t p)
      by (a_dir d i) is listing h =
          let q = p ++ n ∷ [] in
          ap (λ s. ask.MakeDir q ∷ s) (append_assoc (entry_steps q i) (entry_steps p (entries_behind n es)) (outer [] t p)
          ∙ (ap (λ xs. entry_steps q xs ++ (entry_steps p (entries_behind n es) ++ outer [] t p)) (sym (ap (λ x. entries_behind [] (inside x)) is ∙ behind_empty i listing.0))
          ∙ ap (λ s. entry_steps q (entries_behind [] (inside (at t q))) ++ s) (sym (outer_last [] t p n))))

-- ---- counts of steps

pub turns-append : (xs ys : List ShellAsk) → turns (xs ++ ys) ≡ turns xs + turns ys
turns-append [] ys = omega arith
turns-append (ask.Put path x ∷ xs) ys = omega (arith, turns-append xs ys)
turns-append (ask.MakeDir path ∷ xs) ys = omega (arith, turns-append xs ys)
turns-append (ask.Append path x ∷ xs) ys = turns-append xs ys
turns-append (ask.Bad ∷ xs) ys = turns-append xs ys
turns-append (ask.Make ∷ xs) ys = turns-append xs ys
turns-append (ask.Cat path ∷ xs) ys = turns-append xs ys
turns-append (ask.Ls path ∷ xs) ys = turns-append xs ys
turns-append (ask.Rm path ∷ xs) ys = turns-append xs ys
turns-append (ask.Copy path new ∷ xs) ys = turns-append xs ys
turns-append (ask.Df ∷ xs) ys = turns-append xs ys

pub files-append : (xs ys : List ShellAsk) → files_made (xs ++ ys) ≡ files_made xs + files_made ys
files-append [] ys = omega arith
files-append (ask.Put path x ∷ xs) ys = omega (arith, files-append xs ys)
files-append (ask.MakeDir path ∷ xs) ys = files-append xs ys
files-append (ask.Append path x ∷ xs) ys = files-append xs ys
files-append (ask.Bad ∷ xs) ys = files-append xs ys
files-append (ask.Make ∷ xs) ys = files-append xs ys
files-append (ask.Cat path ∷ xs) ys = files-append xs ys
files-append (ask.Ls path ∷ xs) ys = files-append xs ys
files-append (ask.Rm path ∷ xs) ys = files-append xs ys
files-append (ask.Copy path new ∷ xs) ys = files-append xs ys
files-append (ask.Df ∷ xs) ys = files-append xs ys

pub bytes-append : (xs ys : List ShellAsk) → bytes_made (xs ++ ys) ≡ bytes_made xs + bytes_made ys
bytes-append [] ys = omega arith
bytes-append (ask.Put path x ∷ xs) ys = omega (arith, bytes-append xs ys)
bytes-append (ask.Append path x ∷ xs) ys = omega (arith, bytes-append xs ys)
bytes-append (ask.MakeDir path ∷ xs) ys = bytes-append xs ys
bytes-append (ask.Bad ∷ xs) ys = bytes-append xs ys
bytes-append (ask.Make ∷ xs) ys = bytes-append xs ys
bytes-append (ask.Cat path ∷ xs) ys = bytes-append xs ys
bytes-append (ask.Ls path ∷ xs) ys = bytes-append xs ys
bytes-append (ask.Rm path ∷ xs) ys = bytes-append xs ys
bytes-append (ask.Copy path new ∷ xs) ys = bytes-append xs ys
bytes-append (ask.Df ∷ xs) ys = bytes-append xs ys

-- appends alone
appends_turns : (path : Path) (xs : List (List ℕ)) → turns (map (ask.Append path) xs) ≡ 0
appends_turns path [] = refl
appends_turns path (x ∷ xs) = appends_turns path xs

appends_files : (path : Path) (xs : List (List ℕ)) → files_made (map (ask.Append path) xs) ≡ 0
appends_files path [] = refl
appends_files path (x ∷ xs) = appends_files path xs

appends_bytes : (path : Path) (n : ℕ) (x : List ℕ) → length x ≤ n * 4096 → bytes_made (map (ask.Append path) (file_pieces n x)) ≡ length x
appends_bytes path zero x h = let none_left : length x ≡ 0 = omega (arith, h) in sym none_left
appends_bytes path (suc n) x h =
    let later = appends_bytes path n (drop 4096 x) (omega (arith, h, length-drop 4096 x)) in
    omega (arith, later, length-drop 4096 x, length-take 4096 x)

pub file_turns : (path : Path) (x : List ℕ) → turns (file_steps path x) ≡ 1
file_turns path x = ap suc (appends_turns path (further_pieces x))

pub file_files : (path : Path) (x : List ℕ) → files_made (file_steps path x) ≡ 1
file_files path x = ap suc (appends_files path (further_pieces x))

pub file_bytes : (path : Path) (x : List ℕ) → bytes_made (file_steps path x) ≡ length x
file_bytes path x =
    let all = div_ceil_times (length x) 4096 (omega arith) in
    let later = appends_bytes path (div_ceil (length x) 4096 - 1) (drop 4096 x) (omega (arith, all.0, length-drop 4096 x)) in
    omega (arith, later, length-drop 4096 x, length-take 4096 x)

-- ---- all the steps of a tree

pub all_turns : (p : Path) (es : Entries ⊤ (List ℕ)) → turns (entry_steps p es) ≤ 2 * entry_count es
all_turns p none = omega arith
all_turns p (file n x rest) = omega (arith, turns-append (file_steps (p ++ n ∷ []) x) (entry_steps p rest), file_turns (p ++ n ∷ []) x, all_turns p rest)
all_turns p (dir n d i rest) = omega (arith, turns-append (entry_steps (p ++ n ∷ []) i) (entry_steps p rest), all_turns (p ++ n ∷ []) i, all_turns p rest)

pub all_files : (p : Path) (es : Entries ⊤ (List ℕ)) → files_made (entry_steps p es) ≡ file_count es
all_files p none = refl
all_files p (file n x rest) = omega (arith, files-append (file_steps (p ++ n ∷ []) x) (entry_steps p rest), file_files (p ++ n ∷ []) x, all_files p rest)
all_files p (dir n d i rest) = omega (arith, files-append (entry_steps (p ++ n ∷ []) i) (entry_steps p rest), all_files (p ++ n ∷ []) i, all_files p rest)

pub all_bytes : (p : Path) (es : Entries ⊤ (List ℕ)) → bytes_made (entry_steps p es) ≡ byte_count es
all_bytes p none = refl
all_bytes p (file n x rest) = omega (arith, bytes-append (file_steps (p ++ n ∷ []) x) (entry_steps p rest), file_bytes (p ++ n ∷ []) x, all_bytes p rest)
all_bytes p (dir n d i rest) = omega (arith, bytes-append (entry_steps (p ++ n ∷ []) i) (entry_steps p rest), all_bytes (p ++ n ∷ []) i, all_bytes p rest)

-- ---- directories that are made

pub made_later : (xs ys : List ShellAsk) → first_made (xs ++ ys) ≡ None → first_made ys ≡ None
made_later [] ys h = h
made_later (ask.MakeDir path ∷ xs) ys h = absurd (cc)
made_later (ask.Put path x ∷ xs) ys h = made_later xs ys h
made_later (ask.Append path x ∷ xs) ys h = made_later xs ys h
made_later (ask.Bad ∷ xs) ys h = made_later xs ys h
made_later (ask.Make ∷ xs) ys h = made_later xs ys h
made_later (ask.Cat path ∷ xs) ys h = made_later xs ys h
made_later (ask.Ls path ∷ xs) ys h = made_later xs ys h
made_later (ask.Rm path ∷ xs) ys h = made_later xs ys h
made_later (ask.Copy path new ∷ xs) ys h = made_later xs ys h
made_later (ask.Df ∷ xs) ys h = made_later xs ys h

appends_none : (path : Path) (xs : List (List ℕ)) (ys : List ShellAsk) → first_made (map (ask.Append path) xs ++ ys) ≡ first_made ys
appends_none path [] ys = refl
appends_none path (x ∷ xs) ys = appends_none path xs ys

pub file_none : (path : Path) (x : List ℕ) (ys : List ShellAsk) → first_made (file_steps path x ++ ys) ≡ first_made ys
file_none path x ys = appends_none path (further_pieces x) ys
