-- What is read as an ask is a body of it, and its body is read as it.
use Rattle.std.proofs.Common.{◌≡◌, ◌≢◌, ◌⊎◌, inl, inr, ℕ, suc, true, false, cond, ◌==◌, List, [], ◌∷◌, refl, sym, ◌∙◌, ap, subst, Option, Some, None}
use Rattle.std.specs.Prelude.{unwrap_or}
use Rattle.std.proofs.lemmas.Bool.{eqb-true}
use Rattle.request_frames.specs.Reading.{◌>>=◌, num_of, data_of, ends, dispatch}
use Rattle.request_frames.proofs.FieldLaws.{AreBytes, no_more, bind_some, num_sound, data_sound, num_back, data_back}
use Rattle.fs_trees.specs.Names.{Name, Path}
use Rattle.fs_trees.specs.declared.ask.ShellAsk.TheVariants as ask
use Rattle.fs_trees.specs.declared.ask.ShellKind.{ShellKind}
use Rattle.fs_trees.specs.declared.ask.ShellKind.TheVariants.{Inode, Chain}
use Rattle.shell_text.specs.declared.file_ask.FileAsk.{FileAsk}
use Rattle.shell_text.specs.declared.file_ask.FileAsk.TheVariants as file
use Rattle.shell_text.specs.FileBodies.{BodyField, Code, PathPart, NamePart, Start, Count, Rest, AllFit, bytes_of, body_fields, ask_body, IsAskBody}
use Rattle.shell_text.specs.FileReading.{start_of, after_at, path_at, make_of, put_of, append_of, cat_of, ls_of, make_dir_of, rm_of, copy_of, df_of, size_of, read_of, next_of, of_inodes, forms, coded, asked, file_ask_of}
use Rattle.shell_text.proofs.BodyLaws.{Sound, Spelled, took, next, last, start_sound, after_sound, path_sound, start_back, after_back, path_back}

count_sound : Sound (λ n. Count n) num_of
count_sound bs x rest all e = num_sound bs x rest all e

rest_sound : Sound (λ bytes. Rest bytes) data_of
rest_sound bs x rest all e = data_sound bs x rest all e

-- what is read after the code is spelled by it and the bytes
abbrev pub Asks : ShellKind → ℕ → (List ℕ → Option FileAsk) → Type 0
Asks kind code form = (bs : List ℕ) (a : FileAsk) → AreBytes bs → form bs ≡ Some a → IsAskBody kind (code ∷ bs) a

not_none : (f : BodyField) (fs : List BodyField) → f ∷ fs ≢ []
not_none f fs e = cc

-- so it is, where the bytes spell the fields after the code
spells : (kind : ShellKind) (a r : FileAsk) (code : ℕ) (fs : List BodyField) (bs : List ℕ) → body_fields kind r ≡ Code code ∷ fs → r ≡ a → Spelled fs bs → IsAskBody kind (code ∷ bs) a
spells kind a r code fs bs f e h = subst (IsAskBody kind (code ∷ bs)) e (record {
  some = subst (λ gs. gs ≢ []) (sym f) (not_none (Code code) fs);
  fits = subst AllFit (sym f) (tt, h.0);
  spelled = ap (λ xs. code ∷ xs) h.1 ∙ ap bytes_of (sym f);
})

-- a path alone
path_alone : (kind : ShellKind) (code : ℕ) (r : Path → FileAsk) → ((p : Path) → body_fields kind (r p) ≡ Code code ∷ PathPart p ∷ []) → Asks kind code (λ bs. path_at bs >>= λ p. ends p.1 (r p.0))
path_alone kind code r f bs a all e =
    let p = took (λ p. PathPart p) path_at path_sound _ bs a all e in
    let end = no_more p.1 _ a p.5 in
    spells kind a (r p.0) code (PathPart p.0 ∷ []) bs (f p.0) end.1 (next (PathPart p.0) [] p.1 bs p.2 p.3 (last p.1 end.0))

-- a path and bytes
path_rest : (kind : ShellKind) (code : ℕ) (r : Path → List ℕ → FileAsk) → ((p : Path) (x : List ℕ) → body_fields kind (r p x) ≡ Code code ∷ PathPart p ∷ Rest x ∷ []) → Asks kind code (λ bs. path_at bs >>= λ p. data_of p.1 >>= λ x. ends x.1 (r p.0 x.0))
path_rest kind code r f bs a all e =
    let p = took (λ p. PathPart p) path_at path_sound _ bs a all e in
    let x = took (λ bytes. Rest bytes) data_of rest_sound _ p.1 a p.4 p.5 in
    let end = no_more x.1 _ a x.5 in
    spells kind a (r p.0 x.0) code (PathPart p.0 ∷ Rest x.0 ∷ []) bs (f p.0 x.0) end.1 (next (PathPart p.0) (Rest x.0 ∷ []) p.1 bs p.2 p.3 (next (Rest x.0) [] x.1 p.1 x.2 x.3 (last x.1 end.0)))

make_is : (kind : ShellKind) → Asks kind 1 make_of
make_is kind bs a all e =
    let end = no_more bs _ a e in
    spells kind a (file.Shell ask.Make) 1 [] bs refl end.1 (last bs end.0)

put_is : (kind : ShellKind) → Asks kind 2 put_of
unfolding put_of
put_is kind bs a all e = path_rest kind 2 (λ p x. file.Shell (ask.Put p x)) (λ p x. refl) bs a all e

append_is : (kind : ShellKind) → Asks kind 3 append_of
unfolding append_of
append_is kind bs a all e = path_rest kind 3 (λ p x. file.Shell (ask.Append p x)) (λ p x. refl) bs a all e

cat_is : (kind : ShellKind) → Asks kind 4 cat_of
unfolding cat_of
cat_is kind bs a all e = path_alone kind 4 (λ p. file.Shell (ask.Cat p)) (λ p. refl) bs a all e

ls_is : (kind : ShellKind) → Asks kind 5 ls_of
unfolding ls_of
ls_is kind bs a all e = path_alone kind 5 (λ p. file.Shell (ask.Ls p)) (λ p. refl) bs a all e

make_dir_is : (kind : ShellKind) → Asks kind 6 (of_inodes kind make_dir_of)
unfolding make_dir_of
make_dir_is Chain bs a all e = absurd (cc)
make_dir_is Inode bs a all e = path_alone Inode 6 (λ p. file.Shell (ask.MakeDir p)) (λ p. refl) bs a all e

rm_is : (kind : ShellKind) → Asks kind 7 rm_of
unfolding rm_of
rm_is kind bs a all e = path_alone kind 7 (λ p. file.Shell (ask.Rm p)) (λ p. refl) bs a all e

copy_is : (kind : ShellKind) → Asks kind 8 (of_inodes kind copy_of)
unfolding copy_of
copy_is Chain bs a all e = absurd (cc)
copy_is Inode bs a all e =
    let p = took (λ p. PathPart p) path_at path_sound _ bs a all e in
    let q = took (λ p. PathPart p) path_at path_sound _ p.1 a p.4 p.5 in
    let end = no_more q.1 _ a q.5 in
    spells Inode a (file.Shell (ask.Copy p.0 q.0)) 8 (PathPart p.0 ∷ PathPart q.0 ∷ []) bs refl end.1 (next (PathPart p.0) (PathPart q.0 ∷ []) p.1 bs p.2 p.3 (next (PathPart q.0) [] q.1 p.1 q.2 q.3 (last q.1 end.0)))

df_is : (kind : ShellKind) → Asks kind 9 df_of
df_is kind bs a all e =
    let end = no_more bs _ a e in
    spells kind a (file.Shell ask.Df) 9 [] bs refl end.1 (last bs end.0)

size_is : (kind : ShellKind) → Asks kind 16 size_of
unfolding size_of
size_is kind bs a all e = path_alone kind 16 (λ p. file.Size p) (λ p. refl) bs a all e

read_is : (kind : ShellKind) → Asks kind 17 read_of
unfolding read_of
read_is kind bs a all e =
    let p = took (λ p. PathPart p) path_at path_sound _ bs a all e in
    let s = took (λ n. Start n) start_of start_sound _ p.1 a p.4 p.5 in
    let n = took (λ n. Count n) num_of count_sound _ s.1 a s.4 s.5 in
    let end = no_more n.1 _ a n.5 in
    spells kind a (file.Read p.0 s.0 n.0) 17 (PathPart p.0 ∷ Start s.0 ∷ Count n.0 ∷ []) bs refl end.1 (next (PathPart p.0) (Start s.0 ∷ Count n.0 ∷ []) p.1 bs p.2 p.3 (next (Start s.0) (Count n.0 ∷ []) s.1 p.1 s.2 s.3 (next (Count n.0) [] n.1 s.1 n.2 n.3 (last n.1 end.0))))

next_is : (kind : ShellKind) → Asks kind 18 next_of
unfolding next_of
next_is kind bs a all e =
    let p = took (λ p. PathPart p) path_at path_sound _ bs a all e in
    let n = took (λ n. NamePart n) after_at after_sound _ p.1 a p.4 p.5 in
    let end = no_more n.1 _ a n.5 in
    spells kind a (file.Next p.0 n.0) 18 (PathPart p.0 ∷ NamePart n.0 ∷ []) bs refl end.1 (next (PathPart p.0) (NamePart n.0 ∷ []) p.1 bs p.2 p.3 (next (NamePart n.0) [] n.1 p.1 n.2 n.3 (last n.1 end.0)))

abbrev AllAsk : ShellKind → List (ℕ × (List ℕ → Option FileAsk)) → Type 0
AllAsk kind [] = Unit {0}
AllAsk kind (f ∷ fs) = Asks kind f.0 f.1 × AllAsk kind fs

chosen_is : (kind : ShellKind) (fs : List (ℕ × (List ℕ → Option FileAsk))) → AllAsk kind fs → (code : ℕ) (bs : List ℕ) (a : FileAsk) → AreBytes bs → dispatch fs code bs ≡ Some a → IsAskBody kind (code ∷ bs) a
chosen_is kind [] asks code bs a all e = absurd (cc)
chosen_is kind (f ∷ fs) asks code bs a all e =
    elim (code == f.0) as (λ t. (code == f.0) ≡ t → cond t (f.1 bs) (dispatch fs code bs) ≡ Some a → IsAskBody kind (code ∷ bs) a) [
      | true ↦ λ p g. subst (λ c. IsAskBody kind (c ∷ bs) a) (sym (eqb-true code f.0 p)) (asks.0 bs a all g)
      | false ↦ λ p g. chosen_is kind fs asks.1 code bs a all g
    ] refl e

all_ask : (kind : ShellKind) → AllAsk kind (forms kind)
all_ask kind = (make_is kind, (put_is kind, (append_is kind, (cat_is kind, (ls_is kind, (make_dir_is kind, (rm_is kind, (copy_is kind, (df_is kind, (size_is kind, (read_is kind, (next_is kind, tt))))))))))))

asked_is : (kind : ShellKind) (body : List ℕ) (a : FileAsk) → AreBytes body → asked kind body ≡ Some a → IsAskBody kind body a
unfolding asked coded
asked_is kind [] a all e = absurd (cc)
asked_is kind (b ∷ bs) a all e = chosen_is kind (forms kind) (all_ask kind) b bs a (λ i. all (suc i)) e

abbrev bad : FileAsk
bad = file.Shell ask.Bad

-- what is read is spelled
pub body_is : (kind : ShellKind) (body : List ℕ) → AreBytes body → (file_ask_of kind body ≡ file.Shell ask.Bad) ⊎ IsAskBody kind body (file_ask_of kind body)
unfolding file_ask_of
body_is kind body all = elim (asked kind body) as (λ o. asked kind body ≡ o → (unwrap_or o bad ≡ bad) ⊎ IsAskBody kind body (unwrap_or o bad)) [
  | None ↦ λ e. inl refl
  | Some a ↦ λ e. inr (asked_is kind body a all e)
] refl

-- ---- what is spelled is read

path_then : {B : Type 0} (p : Path) (fs : List BodyField) (k : Path × List ℕ → Option B) (y : Option B) → AllFit (PathPart p ∷ fs) → k (p, bytes_of fs) ≡ y → (path_at (bytes_of (PathPart p ∷ fs)) >>= k) ≡ y
path_then p fs k y h e = bind_some _ _ _ _ (path_back p (bytes_of fs) h.0) e

put_back : (p : Path) (x : List ℕ) → AllFit (PathPart p ∷ Rest x ∷ []) → put_of (bytes_of (PathPart p ∷ Rest x ∷ [])) ≡ Some (file.Shell (ask.Put p x))
unfolding put_of
put_back p x h = path_then p (Rest x ∷ []) _ _ h (bind_some _ _ _ _ (data_back x h.1.0) refl)

append_back : (p : Path) (x : List ℕ) → AllFit (PathPart p ∷ Rest x ∷ []) → append_of (bytes_of (PathPart p ∷ Rest x ∷ [])) ≡ Some (file.Shell (ask.Append p x))
unfolding append_of
append_back p x h = path_then p (Rest x ∷ []) _ _ h (bind_some _ _ _ _ (data_back x h.1.0) refl)

cat_back : (p : Path) → AllFit (PathPart p ∷ []) → cat_of (bytes_of (PathPart p ∷ [])) ≡ Some (file.Shell (ask.Cat p))
unfolding cat_of
cat_back p h = path_then p [] _ _ h refl

ls_back : (p : Path) → AllFit (PathPart p ∷ []) → ls_of (bytes_of (PathPart p ∷ [])) ≡ Some (file.Shell (ask.Ls p))
unfolding ls_of
ls_back p h = path_then p [] _ _ h refl

make_dir_back : (p : Path) → AllFit (PathPart p ∷ []) → make_dir_of (bytes_of (PathPart p ∷ [])) ≡ Some (file.Shell (ask.MakeDir p))
unfolding make_dir_of
make_dir_back p h = path_then p [] _ _ h refl

rm_back : (p : Path) → AllFit (PathPart p ∷ []) → rm_of (bytes_of (PathPart p ∷ [])) ≡ Some (file.Shell (ask.Rm p))
unfolding rm_of
rm_back p h = path_then p [] _ _ h refl

copy_back : (p q : Path) → AllFit (PathPart p ∷ PathPart q ∷ []) → copy_of (bytes_of (PathPart p ∷ PathPart q ∷ [])) ≡ Some (file.Shell (ask.Copy p q))
unfolding copy_of
copy_back p q h = path_then p (PathPart q ∷ []) _ _ h (path_then q [] _ _ h.1 refl)

size_back : (p : Path) → AllFit (PathPart p ∷ []) → size_of (bytes_of (PathPart p ∷ [])) ≡ Some (file.Size p)
unfolding size_of
size_back p h = path_then p [] _ _ h refl

read_back : (p : Path) (s n : ℕ) → AllFit (PathPart p ∷ Start s ∷ Count n ∷ []) → read_of (bytes_of (PathPart p ∷ Start s ∷ Count n ∷ [])) ≡ Some (file.Read p s n)
unfolding read_of
read_back p s n h = path_then p (Start s ∷ Count n ∷ []) _ _ h (bind_some _ _ _ _ (start_back s (bytes_of (Count n ∷ [])) h.1.0) (bind_some _ _ _ _ (num_back n [] h.1.1.0) refl))

next_back : (p : Path) (n : Name) → AllFit (PathPart p ∷ NamePart n ∷ []) → next_of (bytes_of (PathPart p ∷ NamePart n ∷ [])) ≡ Some (file.Next p n)
unfolding next_of
next_back p n h = path_then p (NamePart n ∷ []) _ _ h (bind_some _ _ _ _ (after_back n [] h.1.0) refl)

asked_back : (kind : ShellKind) (a : FileAsk) → body_fields kind a ≢ [] → AllFit (body_fields kind a) → asked kind (ask_body kind a) ≡ Some a
unfolding asked coded
asked_back kind (file.Shell ask.Bad) some h = absurd (some refl)
asked_back kind (file.Shell ask.Make) some h = refl
asked_back kind (file.Shell (ask.Put p x)) some h = put_back p x h.1
asked_back kind (file.Shell (ask.Append p x)) some h = append_back p x h.1
asked_back kind (file.Shell (ask.Cat p)) some h = cat_back p h.1
asked_back kind (file.Shell (ask.Ls p)) some h = ls_back p h.1
asked_back Inode (file.Shell (ask.MakeDir p)) some h = make_dir_back p h.1
asked_back Chain (file.Shell (ask.MakeDir p)) some h = absurd (some refl)
asked_back kind (file.Shell (ask.Rm p)) some h = rm_back p h.1
asked_back Inode (file.Shell (ask.Copy p q)) some h = copy_back p q h.1
asked_back Chain (file.Shell (ask.Copy p q)) some h = absurd (some refl)
asked_back kind (file.Shell ask.Df) some h = refl
asked_back kind (file.Size p) some h = size_back p h.1
asked_back kind (file.Read p s n) some h = read_back p s n h.1
asked_back kind (file.Next p n) some h = next_back p n h.1

-- what is spelled is read
pub body_back : (kind : ShellKind) (body : List ℕ) (a : FileAsk) → IsAskBody kind body a → file_ask_of kind body ≡ a
unfolding file_ask_of
body_back kind body a h = ap (λ bs. unwrap_or (asked kind bs) bad) h.spelled ∙ ap (λ o. unwrap_or o bad) (asked_back kind a h.some h.fits)
