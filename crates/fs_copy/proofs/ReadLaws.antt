-- What the source answers of its tree.
use Rattle.std.proofs.Common.{◌≡◌, ◌≢◌, ℕ, true, cond, List, [], ◌∷◌, length, take, drop, sym, ◌∙◌, ap, inl, inr, ◌⊎◌, Result, Ok, Err, Option}
use Rattle.fs_copy.proofs.Common.{IfErr, IfOk, free_count, Answer, bytes, listed, refused, step_in, Name, Path, need_of, nothing, a_file, Tree, at, is_dir, is_there, names_in, bytes_in, ShellAsk, FsRefusal, DiskView, FilesView, Answers, TellsNext, TellsPart, TellsSize, above, step_on, tree_under, IsFileAt, IsSource}
use Rattle.fs_trees.specs.declared.ask.ShellAsk.TheVariants as ask
use Rattle.fs_trees.specs.declared.refusal.FsRefusal.TheVariants as no
use Rattle.fs_laws.proofs.AtLaws.{file_or_dir, cat_file, cat_dir, ls_dir}

-- ---- the answers

bytes_same : (x y : List ℕ) → bytes x ≡ bytes y → x ≡ y
bytes_same x y e = cc

never_bytes : (x : List ℕ) (e : FsRefusal) → bytes x ≡ refused e → ⊥
never_bytes x e h = cc

never_listed : (ns : List Name) (e : FsRefusal) → listed ns ≡ refused e → ⊥
never_listed ns e h = cc

same_refusal : (d e : FsRefusal) → refused d ≡ refused e → d ≡ e
same_refusal d e h = cc

listed_same : (ms ns : List Name) → listed ms ≡ listed ns → ms ≡ ns
listed_same ms ns e = cc

module _ (f : FilesView) (v : DiskView) (mounted : f.mounted ≡ true) (p : Path) where
  abbrev t : Tree
  t = tree_under f v

  at_view : (a : ShellAsk) → (step_on f v a).answer ≡ (step_in f.kind v.world f.root t a).answer
  at_view a = ap (λ m. (step_in f.kind v.world f.root (cond m t nothing) a).answer) mounted

  says_file : (x : List ℕ) → at t p ≡ a_file x → (step_on f v (ask.Cat p)).answer ≡ bytes x
  says_file x is = at_view (ask.Cat p) ∙ cat_file f.kind v.world.geometry (free_count v.world) (length v.world.pairs) (need_of f.kind v.world f.root t (ask.Cat p)) t p x is

  says_dir : is_dir (at t p) ≡ true → (step_on f v (ask.Cat p)).answer ≡ refused no.IsDir
  says_dir is = at_view (ask.Cat p) ∙ cat_dir f.kind v.world.geometry (free_count v.world) (length v.world.pairs) (need_of f.kind v.world f.root t (ask.Cat p)) t p is

  says_names : is_dir (at t p) ≡ true → (step_on f v (ask.Ls p)).answer ≡ listed (names_in (at t p))
  says_names is = at_view (ask.Ls p) ∙ ls_dir f.kind v.world.geometry (free_count v.world) (length v.world.pairs) (need_of f.kind v.world f.root t (ask.Ls p)) t p is

  -- the size is that of a file
  size_tells : is_there (at t p) ≡ true → (n : ℕ) → TellsSize n (step_on f v (ask.Cat p)).answer → (x : List ℕ) × (at t p ≡ a_file x) × (n ≡ length x)
  size_tells there n tells = elim (file_or_dir (at t p) there) [
    | inl file ↦ (file.0, file.1, tells.2 ∙ ap length (bytes_same tells.0 file.0 (sym tells.1 ∙ says_file file.0 file.1)))
    | inr dir ↦ absurd (never_bytes tells.0 no.IsDir (sym tells.1 ∙ says_dir dir))
  ]

  -- only a directory has none
  size_refused : is_there (at t p) ≡ true → (e : FsRefusal) → (step_on f v (ask.Cat p)).answer ≡ refused e → (is_dir (at t p) ≡ true) × (e ≡ no.IsDir)
  size_refused there e is = elim (file_or_dir (at t p) there) [
    | inl file ↦ absurd (never_bytes file.0 e (sym (says_file file.0 file.1) ∙ is))
    | inr dir ↦ (dir, sym (same_refusal no.IsDir e (sym (says_dir dir) ∙ is)))
  ]

  -- a part is that of a file
  part_stands : is_there (at t p) ≡ true → (start : ℕ) (part : List ℕ) → TellsPart start part (step_on f v (ask.Cat p)).answer → (x : List ℕ) × (at t p ≡ a_file x) × (part ≡ take 4096 (drop start x))
  part_stands there start part tells = elim (file_or_dir (at t p) there) [
    | inl file ↦ (file.0, file.1, tells.2 ∙ ap (λ y. take 4096 (drop start y)) (bytes_same tells.0 file.0 (sym tells.1 ∙ says_file file.0 file.1)))
    | inr dir ↦ absurd (never_bytes tells.0 no.IsDir (sym tells.1 ∙ says_dir dir))
  ]

  pub part_tells : IsFileAt t p → (start : ℕ) (part : List ℕ) → TellsPart start part (step_on f v (ask.Cat p)).answer → part ≡ take 4096 (drop start (bytes_in (at t p)))
  part_tells file start part tells = tells.2 ∙ ap (λ y. take 4096 (drop start y)) (bytes_same tells.0 file.0 (sym tells.1 ∙ says_file file.0 file.1) ∙ sym (ap bytes_in file.1))

  pub part_refused : IsFileAt t p → (e : FsRefusal) → (step_on f v (ask.Cat p)).answer ≡ refused e → ⊥
  part_refused file e is = never_bytes file.0 e (sym (says_file file.0 file.1) ∙ is)

  pub next_tells : is_dir (at t p) ≡ true → (after : Name) (next : Option Name) → TellsNext after next (step_on f v (ask.Ls p)).answer → next ≡ above after (names_in (at t p))
  next_tells dir after next tells = tells.2 ∙ ap (above after) (listed_same tells.0 (names_in (at t p)) (sym tells.1 ∙ says_names dir))

  pub next_refused : is_dir (at t p) ≡ true → (e : FsRefusal) → (step_on f v (ask.Ls p)).answer ≡ refused e → ⊥
  next_refused dir e is = never_listed (names_in (at t p)) e (sym (says_names dir) ∙ is)

-- a call that no tree refuses
pub never_refused : {X : Type 0} (f : FilesView) (v new : DiskView) (a : ShellAsk) (r : Result X FsRefusal) (tells : X → Answer → Type 0) → ((e : FsRefusal) → (step_on f v a).answer ≡ refused e → ⊥) → Answers f v new a r tells → IfErr r (λ e. e ≢ no.Device → ⊥)
never_refused f v new a (Ok x) tells never h = tt
never_refused f v new a (Err e) tells never h = λ ne. never e (h.err ne).0

-- the size at a path where something stands
module _ {told : Type 0} {f : FilesView} {v new : DiskView} {p : Path} (source : IsSource told f v) (there : told → is_there (at (tree_under f v) p) ≡ true) where
  pub told_file : {n : ℕ} → (told → Answers f v new (ask.Cat p) (Ok n) TellsSize) → told → (x : List ℕ) × (at (tree_under f v) p ≡ a_file x) × (n ≡ length x)
  told_file {n} answers t = size_tells f v source.mounted p (there t) n (answers t).ok.0

  -- or a part of what is there
  pub told_part : {part : List ℕ} → (told → Answers {X = Unit {0}} f v new (ask.Cat p) (Ok tt) (λ _. TellsPart 0 part)) → told → (x : List ℕ) × (at (tree_under f v) p ≡ a_file x) × (part ≡ take 4096 x)
  told_part {part} answers t = part_stands f v source.mounted p (there t) 0 part (answers t).ok.0

  pub told_dir : {X : Type 0} {tells : X → Answer → Type 0} {e : FsRefusal} → (told → Answers f v new (ask.Cat p) (Err e) tells) → told → e ≢ no.Device → (is_dir (at (tree_under f v) p) ≡ true) × (e ≡ no.IsDir)
  told_dir {e = e} answers t ne = size_refused f v source.mounted p (there t) e ((answers t).err ne).0

file_there : (t : Tree) (p : Path) → IsFileAt t p → is_there (at t p) ≡ true
file_there t p file = ap is_there file.1

-- the size of a file that is there
module _ {told : Type 0} {f : FilesView} {v new : DiskView} {p : Path} (source : IsSource told f v) (file : told → IsFileAt (tree_under f v) p) where
  pub size_sized : (r : Result ℕ FsRefusal) → (told → Answers f v new (ask.Cat p) r TellsSize) → told → IfOk r (λ n. n ≡ length (bytes_in (at (tree_under f v) p)))
  size_sized (Ok n) answers t = let size = size_tells f v source.mounted p (file_there (tree_under f v) p (file t)) n (answers t).ok.0 in size.2 ∙ ap (λ y. length (bytes_in y)) (sym size.1)
  size_sized (Err e) answers t = tt

  pub size_never : (r : Result ℕ FsRefusal) → (told → Answers f v new (ask.Cat p) r TellsSize) → told → IfErr r (λ e. e ≢ no.Device → ⊥)
  size_never r answers t = never_refused f v new (ask.Cat p) r TellsSize (part_refused f v source.mounted p (file t)) (answers t)

pub dir_no_fault : (e : FsRefusal) → e ≡ no.IsDir → e ≢ no.Device
dir_no_fault e is same = let both : no.IsDir ≡ no.Device = sym is ∙ same in absurd (cc)

pub other_fault : no.NotThisFs ≢ no.Device
other_fault e = cc
