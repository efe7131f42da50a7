-- The words that spell an ask are read as it; and the same of whole lines.
use Rattle.std.proofs.Common.{◌≡◌, ◌≢◌, ℕ, ◌<◌, ◌≤◌, Bool, true, false, cond, nat_lt, List, [], ◌∷◌, length, take, refl, sym, ◌∙◌, ap, subst, arith, inl, inr, ◌⊎◌, Option, Some, None}
use Rattle.std.specs.Prelude.{codes, option_map, unwrap_or}
use Rattle.std.proofs.lemmas.Bool.{and_parts, and_from, ltb-true, lt-ltb, ltb-false, le-ltb}
use Rattle.std.specs.List.{list_all}
use Rattle.std.proofs.lemmas.List.{length-take}
use Rattle.script_text.specs.Grammar.{line_max, held_max}
use Rattle.script_text.specs.Pieces.{pieces}
use Rattle.script_text.specs.Reading.{data_of, reads, Words}
use Rattle.script_text.proofs.PiecesLaws.{take_all, join-pieces, pieces-join, lacks, some_pieces}
use Rattle.script_text.proofs.WordLaws.{data_back}
use Rattle.script_text.proofs.SpellingLaws.{bind_some, ends_back, data_lacks}
use Rattle.fs_trees.specs.Names.{Path}
use Rattle.fs_trees.specs.declared.ask.ShellAsk.{ShellAsk}
use Rattle.fs_trees.specs.declared.ask.ShellAsk.TheVariants as ask
use Rattle.fs_trees.specs.declared.ask.ShellKind.{ShellKind}
use Rattle.fs_trees.specs.declared.ask.ShellKind.TheVariants.{Inode, Chain}
use Rattle.shell_text.specs.Grammar.{Field, Verb, PathWord, Bytes, fields, IsField, AreFields, IsShellLine}
use Rattle.shell_text.specs.Reading.{path_of, put_of, append_of, cat_of, ls_of, rm_of, make_dir_of, copy_of, dispatch, forms, named, asked, ask_of}
use Rattle.shell_text.proofs.PathLaws.{path_back, path_lacks}
use Rattle.shell_text.proofs.AskedLaws.{asked_is}

-- the reader reads the value, and the words that it leaves spell the other fields
abbrev Reads : {A : Type 0} → (Words → Option (A × Words)) → Words → A → List Field → Type 0
Reads {A} reader ws x fs = (rest : Words) × (reader ws ≡ Some (x, rest)) × AreFields fs rest

word_back : {A : Type 0} (f : List ℕ → Option A) (x : A) (field : Field) (fs : List Field) (ws : Words) → ((w : List ℕ) → IsField field w → f w ≡ Some x) → AreFields (field ∷ fs) ws → Reads (reads f) ws x fs
word_back f x field fs [] back h = absurd h
word_back f x field fs (w ∷ ws) back h = (ws, ap (option_map (λ v. (v, ws))) (back w h.0), h.1)

path_next : (p : Path) (fs : List Field) (ws : Words) → AreFields (PathWord p ∷ fs) ws → Reads (reads path_of) ws p fs
path_next p fs ws h = word_back path_of p (PathWord p) fs ws (λ w g. path_back w p g) h

bytes_next : (x : List ℕ) (fs : List Field) (ws : Words) → AreFields (Bytes x ∷ fs) ws → Reads (reads data_of) ws x fs
bytes_next x fs ws h = word_back data_of x (Bytes x) fs ws (λ w g. data_back w x g) h

put_back : (p : Path) (x : List ℕ) (ws : Words) → AreFields (PathWord p ∷ Bytes x ∷ []) ws → put_of ws ≡ Some (ask.Put p x)
unfolding put_of
put_back p x ws g =
    let p1 = path_next p (Bytes x ∷ []) ws g in
    let x1 = bytes_next x [] p1.0 p1.2 in
    bind_some _ _ _ _ p1.1 (bind_some _ _ _ _ x1.1 (ends_back x1.0 _ x1.2))

append_back : (p : Path) (x : List ℕ) (ws : Words) → AreFields (PathWord p ∷ Bytes x ∷ []) ws → append_of ws ≡ Some (ask.Append p x)
unfolding append_of
append_back p x ws g =
    let p1 = path_next p (Bytes x ∷ []) ws g in
    let x1 = bytes_next x [] p1.0 p1.2 in
    bind_some _ _ _ _ p1.1 (bind_some _ _ _ _ x1.1 (ends_back x1.0 _ x1.2))

cat_back : (p : Path) (ws : Words) → AreFields (PathWord p ∷ []) ws → cat_of ws ≡ Some (ask.Cat p)
unfolding cat_of
cat_back p ws g = let p1 = path_next p [] ws g in bind_some _ _ _ _ p1.1 (ends_back p1.0 _ p1.2)

ls_back : (p : Path) (ws : Words) → AreFields (PathWord p ∷ []) ws → ls_of ws ≡ Some (ask.Ls p)
unfolding ls_of
ls_back p ws g = let p1 = path_next p [] ws g in bind_some _ _ _ _ p1.1 (ends_back p1.0 _ p1.2)

rm_back : (p : Path) (ws : Words) → AreFields (PathWord p ∷ []) ws → rm_of ws ≡ Some (ask.Rm p)
unfolding rm_of
rm_back p ws g = let p1 = path_next p [] ws g in bind_some _ _ _ _ p1.1 (ends_back p1.0 _ p1.2)

make_dir_back : (p : Path) (ws : Words) → AreFields (PathWord p ∷ []) ws → make_dir_of ws ≡ Some (ask.MakeDir p)
unfolding make_dir_of
make_dir_back p ws g = let p1 = path_next p [] ws g in bind_some _ _ _ _ p1.1 (ends_back p1.0 _ p1.2)

copy_back : (p q : Path) (ws : Words) → AreFields (PathWord p ∷ PathWord q ∷ []) ws → copy_of ws ≡ Some (ask.Copy p q)
unfolding copy_of
copy_back p q ws g =
    let p1 = path_next p (PathWord q ∷ []) ws g in
    let q1 = path_next q [] p1.0 p1.2 in
    bind_some _ _ _ _ p1.1 (bind_some _ _ _ _ q1.1 (ends_back q1.0 _ q1.2))

under_name : (kind : ShellKind) (name v : List ℕ) (ws : Words) (a : ShellAsk) → v ≡ name → dispatch (forms kind) name ws ≡ Some a → asked kind (v ∷ ws) ≡ Some a
unfolding asked named
under_name kind name v ws a e f = ap (λ w. dispatch (forms kind) w ws) e ∙ f

asked_back : (kind : ShellKind) (a : ShellAsk) (ws : Words) → 1 ≤ length ws → AreFields (fields kind a) ws → asked kind ws ≡ Some a
asked_back kind a [] some h = absurd (omega (arith, some))
asked_back kind ask.Bad (v ∷ ws) some h = absurd h
asked_back kind ask.Make (v ∷ ws) some g = under_name kind (codes "mkfs") v ws ask.Make g.0 (ends_back ws _ g.1)
asked_back kind (ask.Put p x) (v ∷ ws) some g = under_name kind (codes "put") v ws (ask.Put p x) g.0 (put_back p x ws g.1)
asked_back kind (ask.Append p x) (v ∷ ws) some g = under_name kind (codes "append") v ws (ask.Append p x) g.0 (append_back p x ws g.1)
asked_back kind (ask.Cat p) (v ∷ ws) some g = under_name kind (codes "cat") v ws (ask.Cat p) g.0 (cat_back p ws g.1)
asked_back kind (ask.Ls p) (v ∷ ws) some g = under_name kind (codes "ls") v ws (ask.Ls p) g.0 (ls_back p ws g.1)
asked_back Inode (ask.MakeDir p) (v ∷ ws) some g = under_name Inode (codes "mkdir") v ws (ask.MakeDir p) g.0 (make_dir_back p ws g.1)
asked_back Chain (ask.MakeDir p) (v ∷ ws) some h = absurd h
asked_back kind (ask.Rm p) (v ∷ ws) some g = under_name kind (codes "rm") v ws (ask.Rm p) g.0 (rm_back p ws g.1)
asked_back Inode (ask.Copy p q) (v ∷ ws) some g = under_name Inode (codes "cp") v ws (ask.Copy p q) g.0 (copy_back p q ws g.1)
asked_back Chain (ask.Copy p q) (v ∷ ws) some h = absurd h
asked_back kind ask.Df (v ∷ ws) some g = under_name kind (codes "df") v ws ask.Df g.0 (ends_back ws _ g.1)

-- ---- no word has a space in it

command_lacks : Field → Bool
command_lacks (Verb name) = lacks 32 name
command_lacks f = true

field_lacks : (f : Field) (w : List ℕ) → command_lacks f ≡ true → IsField f w → lacks 32 w ≡ true
unfolding command_lacks
field_lacks (Verb name) w n h = subst (λ v. lacks 32 v ≡ true) (sym h) n
field_lacks (PathWord p) w n h = path_lacks w p h
field_lacks (Bytes bytes) w n h = data_lacks w bytes h

all_lack : (fs : List Field) (ws : Words) → list_all command_lacks fs ≡ true → AreFields fs ws → list_all (lacks 32) ws ≡ true
all_lack [] [] n h = refl
all_lack [] (w ∷ ws) n h = absurd h
all_lack (f ∷ fs) [] n h = absurd h
all_lack (f ∷ fs) (w ∷ ws) n h = let parts = and_parts (command_lacks f) (list_all command_lacks fs) n in
    and_from (lacks 32 w) (list_all (lacks 32) ws) (field_lacks f w parts.0 h.0) (all_lack fs ws parts.1 h.1)

commands_lack : (kind : ShellKind) (a : ShellAsk) → list_all command_lacks (fields kind a) ≡ true
unfolding command_lacks
commands_lack kind ask.Bad = refl
commands_lack kind ask.Make = refl
commands_lack kind (ask.Put p x) = refl
commands_lack kind (ask.Append p x) = refl
commands_lack kind (ask.Cat p) = refl
commands_lack kind (ask.Ls p) = refl
commands_lack Inode (ask.MakeDir p) = refl
commands_lack Chain (ask.MakeDir p) = refl
commands_lack kind (ask.Rm p) = refl
commands_lack Inode (ask.Copy p q) = refl
commands_lack Chain (ask.Copy p q) = refl
commands_lack kind ask.Df = refl

-- ---- lines

-- what is read is spelled so
pub line_is : (kind : ShellKind) (line : List ℕ) → (ask_of kind line ≡ ask.Bad) ⊎ IsShellLine kind line (ask_of kind line)
unfolding ask_of
line_is kind line =
    elim (nat_lt line_max (length line)) as (λ t. nat_lt line_max (length line) ≡ t → (cond t ask.Bad (unwrap_or (asked kind (pieces 32 line)) ask.Bad) ≡ ask.Bad) ⊎ IsShellLine kind line (cond t ask.Bad (unwrap_or (asked kind (pieces 32 line)) ask.Bad))) [
      | true ↦ λ e. inl refl
      | false ↦ λ e. elim (asked kind (pieces 32 line)) as (λ o. asked kind (pieces 32 line) ≡ o → (unwrap_or o ask.Bad ≡ ask.Bad) ⊎ IsShellLine kind line (unwrap_or o ask.Bad)) [
        | None ↦ λ f. inl refl
        | Some a ↦ λ f. inr (record { short = ltb-false line_max (length line) e; words = pieces 32 line; some = some_words (pieces 32 line) (some_pieces 32 line); spelled = asked_is kind (pieces 32 line) a f; parted = sym (join-pieces 32 line) })
      ] refl
    ] refl
  where
    some_words : (ws : Words) → ws ≢ [] → 1 ≤ length ws
    some_words [] n = absurd (n refl)
    some_words (w ∷ ws) n = omega arith

-- what is spelled is read
pub line_back : (kind : ShellKind) (line : List ℕ) (a : ShellAsk) → IsShellLine kind line a → ask_of kind line ≡ a
unfolding ask_of
line_back kind line a h =
    let cut : pieces 32 line ≡ h.words = ap (pieces 32) h.parted ∙ pieces-join 32 h.words h.some (all_lack (fields kind a) h.words (commands_lack kind a) h.spelled) in
    ap (λ t. cond t ask.Bad (unwrap_or (asked kind (pieces 32 line)) ask.Bad)) (le-ltb line_max (length line) h.short)
    ∙ ap (λ o. unwrap_or o ask.Bad) (ap (asked kind) cut ∙ asked_back kind a h.words h.some h.spelled)

-- a line that is cut after `held_max` bytes is as bad as the whole
pub ask_of-cut : (kind : ShellKind) (l : List ℕ) → ask_of kind (take held_max l) ≡ ask_of kind l
unfolding ask_of
ask_of-cut kind l = elim (nat_lt line_max (length l)) as (λ t. nat_lt line_max (length l) ≡ t → cond (nat_lt line_max (length (take held_max l))) ask.Bad (unwrap_or (asked kind (pieces 32 (take held_max l))) ask.Bad) ≡ cond t ask.Bad (unwrap_or (asked kind (pieces 32 l)) ask.Bad)) [
  | true ↦ λ e. let long : line_max < length (take held_max l) = omega (arith, length-take held_max l, ltb-true line_max (length l) e) in
      ap (λ t. cond t ask.Bad (unwrap_or (asked kind (pieces 32 (take held_max l))) ask.Bad)) (lt-ltb line_max (length (take held_max l)) long)
  | false ↦ λ e. let short : length l ≤ held_max = omega (arith, ltb-false line_max (length l) e) in
      ap (λ m. cond (nat_lt line_max (length m)) ask.Bad (unwrap_or (asked kind (pieces 32 m)) ask.Bad)) (take_all l held_max short) ∙ ap (λ t. cond t ask.Bad (unwrap_or (asked kind (pieces 32 l)) ask.Bad)) e
] refl
