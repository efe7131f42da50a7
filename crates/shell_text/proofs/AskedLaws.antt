-- The words that are read as an ask spell it.
use Rattle.std.proofs.Common.{◌≡◌, ℕ, true, false, cond, List, [], ◌∷◌, refl, sym, subst, Option, Some}
use Rattle.std.specs.Prelude.{codes, bytes_eq}
use Rattle.std.proofs.lemmas.Slice.Eq.{bytes_eq-Decides}
use Rattle.script_text.specs.Reading.{data_of, Words}
use Rattle.script_text.proofs.WordLaws.{data_is}
use Rattle.script_text.proofs.ReadingLaws.{read_word, no_more}
use Rattle.fs_trees.specs.declared.ask.ShellAsk.{ShellAsk}
use Rattle.fs_trees.specs.declared.ask.ShellKind.{ShellKind}
use Rattle.fs_trees.specs.declared.ask.ShellKind.TheVariants.{Inode, Chain}
use Rattle.shell_text.specs.Grammar.{Field, PathWord, Bytes, fields, IsField, AreFields}
use Rattle.shell_text.specs.Reading.{path_of, make_of, put_of, append_of, cat_of, ls_of, rm_of, make_dir_of, copy_of, df_of, of_inodes, dispatch, forms, named, asked}
use Rattle.shell_text.proofs.PathLaws.{path_is}

-- the first word and the others spell the first field and the others
next : (f : Field) (fs : List Field) (w : List ℕ) (rest ws : Words) → ws ≡ w ∷ rest → IsField f w → AreFields fs rest → AreFields (f ∷ fs) ws
next f fs w rest ws e h more = subst (AreFields (f ∷ fs)) (sym e) (h, more)

last : (ws : Words) → ws ≡ [] → AreFields [] ws
last ws e = subst (AreFields []) (sym e) tt

-- what these words are read as, they spell after the command
abbrev Sound : ShellKind → List ℕ → (Words → Option ShellAsk) → Type 0
Sound kind name form = (ws : Words) (a : ShellAsk) → form ws ≡ Some a → AreFields (fields kind a) (name ∷ ws)

make_is : (kind : ShellKind) → Sound kind (codes "mkfs") make_of
make_is kind ws a e =
    let d = no_more ws _ a e in
    subst (λ r. AreFields (fields kind r) (codes "mkfs" ∷ ws)) d.1 (refl, last ws d.0)

put_is : (kind : ShellKind) → Sound kind (codes "put") put_of
unfolding put_of
put_is kind ws a e =
    let p = read_word path_of _ ws a e in
    let x = read_word data_of _ p.1 a p.5 in
    let d = no_more x.1 _ a x.5 in
    subst (λ r. AreFields (fields kind r) (codes "put" ∷ ws)) d.1 (refl, next (PathWord p.2) (Bytes x.2 ∷ []) p.0 p.1 ws p.3 (path_is p.0 p.2 p.4) (next (Bytes x.2) [] x.0 x.1 p.1 x.3 (data_is x.0 x.2 x.4) (last x.1 d.0)))

append_is : (kind : ShellKind) → Sound kind (codes "append") append_of
unfolding append_of
append_is kind ws a e =
    let p = read_word path_of _ ws a e in
    let x = read_word data_of _ p.1 a p.5 in
    let d = no_more x.1 _ a x.5 in
    subst (λ r. AreFields (fields kind r) (codes "append" ∷ ws)) d.1 (refl, next (PathWord p.2) (Bytes x.2 ∷ []) p.0 p.1 ws p.3 (path_is p.0 p.2 p.4) (next (Bytes x.2) [] x.0 x.1 p.1 x.3 (data_is x.0 x.2 x.4) (last x.1 d.0)))

cat_is : (kind : ShellKind) → Sound kind (codes "cat") cat_of
unfolding cat_of
cat_is kind ws a e =
    let p = read_word path_of _ ws a e in
    let d = no_more p.1 _ a p.5 in
    subst (λ r. AreFields (fields kind r) (codes "cat" ∷ ws)) d.1 (refl, next (PathWord p.2) [] p.0 p.1 ws p.3 (path_is p.0 p.2 p.4) (last p.1 d.0))

ls_is : (kind : ShellKind) → Sound kind (codes "ls") ls_of
unfolding ls_of
ls_is kind ws a e =
    let p = read_word path_of _ ws a e in
    let d = no_more p.1 _ a p.5 in
    subst (λ r. AreFields (fields kind r) (codes "ls" ∷ ws)) d.1 (refl, next (PathWord p.2) [] p.0 p.1 ws p.3 (path_is p.0 p.2 p.4) (last p.1 d.0))

rm_is : (kind : ShellKind) → Sound kind (codes "rm") rm_of
unfolding rm_of
rm_is kind ws a e =
    let p = read_word path_of _ ws a e in
    let d = no_more p.1 _ a p.5 in
    subst (λ r. AreFields (fields kind r) (codes "rm" ∷ ws)) d.1 (refl, next (PathWord p.2) [] p.0 p.1 ws p.3 (path_is p.0 p.2 p.4) (last p.1 d.0))

make_dir_is : (kind : ShellKind) → Sound kind (codes "mkdir") (of_inodes kind make_dir_of)
unfolding make_dir_of
make_dir_is Chain ws a e = absurd (cc)
make_dir_is Inode ws a e =
    let p = read_word path_of _ ws a e in
    let d = no_more p.1 _ a p.5 in
    subst (λ r. AreFields (fields Inode r) (codes "mkdir" ∷ ws)) d.1 (refl, next (PathWord p.2) [] p.0 p.1 ws p.3 (path_is p.0 p.2 p.4) (last p.1 d.0))

copy_is : (kind : ShellKind) → Sound kind (codes "cp") (of_inodes kind copy_of)
unfolding copy_of
copy_is Chain ws a e = absurd (cc)
copy_is Inode ws a e =
    let p = read_word path_of _ ws a e in
    let q = read_word path_of _ p.1 a p.5 in
    let d = no_more q.1 _ a q.5 in
    subst (λ r. AreFields (fields Inode r) (codes "cp" ∷ ws)) d.1 (refl, next (PathWord p.2) (PathWord q.2 ∷ []) p.0 p.1 ws p.3 (path_is p.0 p.2 p.4) (next (PathWord q.2) [] q.0 q.1 p.1 q.3 (path_is q.0 q.2 q.4) (last q.1 d.0)))

df_is : (kind : ShellKind) → Sound kind (codes "df") df_of
df_is kind ws a e =
    let d = no_more ws _ a e in
    subst (λ r. AreFields (fields kind r) (codes "df" ∷ ws)) d.1 (refl, last ws d.0)

abbrev AllSound : ShellKind → List (List ℕ × (Words → Option ShellAsk)) → Type 0
AllSound kind [] = Unit {0}
AllSound kind (f ∷ fs) = Sound kind f.0 f.1 × AllSound kind fs

chosen_is : (kind : ShellKind) (fs : List (List ℕ × (Words → Option ShellAsk))) → AllSound kind fs → (w : List ℕ) (ws : Words) (a : ShellAsk) → dispatch fs w ws ≡ Some a → AreFields (fields kind a) (w ∷ ws)
chosen_is kind [] all w ws a e = absurd (cc)
chosen_is kind (f ∷ fs) all w ws a e =
    elim (bytes_eq w f.0) as (λ t. bytes_eq w f.0 ≡ t → cond t (f.1 ws) (dispatch fs w ws) ≡ Some a → AreFields (fields kind a) (w ∷ ws)) [
      | true ↦ λ p g. subst (λ v. AreFields (fields kind a) (v ∷ ws)) (sym ((bytes_eq-Decides w f.0).0 p)) (all.0 ws a g)
      | false ↦ λ p g. chosen_is kind fs all.1 w ws a g
    ] refl e

all_sound : (kind : ShellKind) → AllSound kind (forms kind)
all_sound kind = (make_is kind, (put_is kind, (append_is kind, (cat_is kind, (ls_is kind, (make_dir_is kind, (rm_is kind, (copy_is kind, (df_is kind, tt)))))))))

pub asked_is : (kind : ShellKind) (ws : Words) (a : ShellAsk) → asked kind ws ≡ Some a → AreFields (fields kind a) ws
unfolding asked named
asked_is kind [] a e = absurd (cc)
asked_is kind (w ∷ ws) a e = chosen_is kind (forms kind) (all_sound kind) w ws a e
