-- One entry, by what its first piece tells.
use Rattle.std.proofs.Common.{◌≡◌, ◌≢◌, ℕ, true, false, List, [], ◌∷◌, length, take, refl, sym, ◌∙◌, ap, subst, Result, Ok, Err, Option, Some, None}
use Rattle.fs_copy.proofs.Common.{IfOk, file_steps, Path, nothing, a_file, a_dir, Tree, at, is_dir, is_there, bytes_in, FsRefusal, DiskView, IsDiskSound, FilesView, Answer, Answers, TellsPart, Looks, tree_under, AreSet, MakesSteps, IsFileAt, own_steps, file_size}
use Rattle.fs_trees.specs.declared.ask.ShellAsk.TheVariants as ask
use Rattle.fs_trees.specs.declared.refusal.FsRefusal.TheVariants as no
use Rattle.fs_copy.proofs.GoingLaws.{AfterLook, after_look, err_as, err_same, look_lost, look_then, ok_as, source_of}
use Rattle.fs_copy.proofs.NestedLaws.{looks_dir}
use Rattle.fs_copy.proofs.ReadLaws.{dir_no_fault, told_dir, told_part}

-- ---- a file

-- After its size is told a file stands there, of so many bytes.
pub record AfterSize (told : Type 0) (f h g : FilesView) (old mid : DiskView) (path : Path) (n : ℕ) : Type 0 where
  pub look : AfterLook told f h g old mid
  pub file : told → (x : List ℕ) × (at (tree_under f old) path ≡ a_file x) × (n ≡ length x)

pub after_size : {told : Type 0} {f h g : FilesView} {old mid : DiskView} {path : Path} {n : ℕ} → AreSet told f g old → (told → old.spent ≡ false → IsDiskSound old) → (told → IsFileAt (tree_under f old) path)
    → h ≡ f → (told → n ≡ length (bytes_in (at (tree_under f old) path))) → Looks told old mid (Ok n) → AfterSize told f h g old mid path n
after_size set sound file same sized looks = record { look = after_look set sound same looks; file = λ t. ((file t).0, (file t).1, sized t ∙ ap (λ y. length (bytes_in y)) (file t).1) }

module _ {told : Type 0} {f h g : FilesView} {old mid : DiskView} {path : Path} {n : ℕ} (size : AfterSize told f h g old mid path n) where
  at_now : (t : told) → at (tree_under h mid) path ≡ a_file (size.file t).0
  at_now t = ap (λ u. at u path) (size.look.tree t) ∙ (size.file t).1

  pub file_now : told → IsFileAt (tree_under h mid) path
  file_now t = ((size.file t).0, at_now t)

  -- its first piece is what it was
  pub first_now : {first : List ℕ} → (told → first ≡ take 4096 (bytes_in (at (tree_under f old) path))) → told → first ≡ take 4096 (bytes_in (at (tree_under h mid) path))
  first_now first t = first t ∙ ap (λ u. take 4096 (bytes_in (at u path))) (sym (size.look.tree t))

  pub size_now : told → n ≡ length (bytes_in (at (tree_under h mid) path))
  size_now t = (size.file t).2 ∙ ap (λ y. length (bytes_in y)) (sym (at_now t))

  pub size_so : told → Some n ≡ file_size (at (tree_under f old) path)
  size_so t = ap (λ k. Some k) (size.file t).2 ∙ ap file_size (sym (size.file t).1)

  steps_so : told → file_steps path (bytes_in (at (tree_under h mid) path)) ≡ own_steps path (at (tree_under f old) path)
  steps_so t = ap (λ y. file_steps path (bytes_in y)) (at_now t) ∙ ap (own_steps path) (sym (size.file t).1)

  -- it is copied, or not
  pub file_done : {new : DiskView} {x : Unit {0}} → MakesSteps told g mid new (file_steps path (bytes_in (at (tree_under h mid) path))) (Ok x) → MakesSteps told g old new (own_steps path (at (tree_under f old) path)) (Ok (Some n))
  file_done {new} {x} goes = ok_as (look_then size.look steps_so goes)

  pub file_lost : {new : DiskView} {e : FsRefusal} → MakesSteps {X = Unit {0}} told g mid new (file_steps path (bytes_in (at (tree_under h mid) path))) (Err e) → MakesSteps {X = Option ℕ} told g old new (own_steps path (at (tree_under f old) path)) (Err e)
  file_lost {new} {e} goes = err_same (look_then size.look steps_so goes)

-- its size is not told
pub begun_lost : {told : Type 0} {f g : FilesView} {old mid : DiskView} (path : Path) {e : FsRefusal} → AreSet told f g old → (told → e ≢ no.Device → ⊥) → Looks {X = ℕ} told old mid (Err e) → MakesSteps {X = Option ℕ} told g old mid (own_steps path (at (tree_under f old) path)) (Err e)
begun_lost {f = f} {old = old} path set only looks = err_as (own_steps path (at (tree_under f old) path)) (look_lost set only looks)

-- After its first piece is read a file stands there.
pub record AfterFirst (told : Type 0) (f h g : FilesView) (old mid : DiskView) (path : Path) (first : List ℕ) : Type 0 where
  pub look : AfterLook told f h g old mid
  pub stands : told → (x : List ℕ) × (at (tree_under f old) path ≡ a_file x) × (first ≡ take 4096 x)

pub after_first : {told : Type 0} {f h g : FilesView} {old mid : DiskView} {path : Path} {first : List ℕ} → AreSet told f g old → (told → old.spent ≡ false → IsDiskSound old) → (told → is_there (at (tree_under f old) path) ≡ true)
    → h ≡ f → (told → Answers {X = Unit {0}} f old mid (ask.Cat path) (Ok tt) (λ _. TellsPart 0 first)) → Looks {X = Unit {0}} told old mid (Ok tt) → AfterFirst told f h g old mid path first
after_first set sound there same answers looks = record { look = after_look set sound same looks; stands = told_part (source_of set) there answers }

module _ {told : Type 0} {f h g : FilesView} {old mid : DiskView} {path : Path} {first : List ℕ} (read : AfterFirst told f h g old mid path first) where
  there_now : (t : told) → at (tree_under h mid) path ≡ a_file (read.stands t).0
  there_now t = ap (λ u. at u path) (read.look.tree t) ∙ (read.stands t).1

  pub first_file : told → IsFileAt (tree_under h mid) path
  first_file t = ((read.stands t).0, there_now t)

  pub first_piece : told → first ≡ take 4096 (bytes_in (at (tree_under h mid) path))
  first_piece t = (read.stands t).2 ∙ ap (λ y. take 4096 (bytes_in y)) (sym (there_now t))

  -- what is made of it then
  pub first_goes : {X : Type 0} {new : DiskView} {r : Result X FsRefusal} → MakesSteps told g mid new (own_steps path (at (tree_under h mid) path)) r → MakesSteps told g old new (own_steps path (at (tree_under f old) path)) r
  first_goes goes = look_then read.look (λ t. ap (λ u. own_steps path (at u path)) (read.look.tree t)) goes

  pub first_told : (r : Result (Option ℕ) FsRefusal) → (told → IfOk r (λ x. x ≡ file_size (at (tree_under h mid) path))) → told → IfOk r (λ x. x ≡ file_size (at (tree_under f old) path))
  first_told r sized t = subst (λ u. IfOk r (λ x. x ≡ file_size (at u path))) (read.look.tree t) (sized t)

-- ---- a directory

-- After its first piece is refused, with no fault, a directory stands there.
pub record AfterRefusal (told : Type 0) (f h g : FilesView) (old mid : DiskView) (path : Path) : Type 0 where
  pub look : AfterLook told f h g old mid
  pub dir : told → is_dir (at (tree_under f old) path) ≡ true

module _ {told : Type 0} {f g : FilesView} {old mid : DiskView} {path : Path} {e : FsRefusal} (set : AreSet told f g old) (there : told → is_there (at (tree_under f old) path) ≡ true) {X : Type 0} {tells : X → Answer → Type 0} (answers : told → Answers f old mid (ask.Cat path) (Err e) tells) where
  -- any other refusal is a fault
  pub first_lost : (e ≡ no.IsDir → ⊥) → Looks {X = X} told old mid (Err e) → MakesSteps {X = Option ℕ} told g old mid (own_steps path (at (tree_under f old) path)) (Err e)
  first_lost other looks = err_as (own_steps path (at (tree_under f old) path)) (look_lost set (λ t ne. other (told_dir (source_of set) there answers t ne).1) looks)

  pub after_refusal : {h : FilesView} → (told → old.spent ≡ false → IsDiskSound old) → h ≡ f → e ≡ no.IsDir → Looks {X = X} told old mid (Err e) → AfterRefusal told f h g old mid path
  after_refusal sound same is looks =
      let no_fault = dir_no_fault e is in
      let looked : Looks {X = Unit {0}} told old mid (Ok tt) = looks_dir no_fault looks in
      record { look = after_look set sound same looked; dir = λ t. (told_dir (source_of set) there answers t no_fault).0 }

module _ {told : Type 0} {f h g : FilesView} {old mid : DiskView} {path : Path} (refusal : AfterRefusal told f h g old mid path) where
  -- it is made
  pub dir_goes : {X : Type 0} {new : DiskView} {r : Result X FsRefusal} → MakesSteps told g mid new (ask.MakeDir path ∷ []) r → MakesSteps told g old new (own_steps path (at (tree_under f old) path)) r
  dir_goes goes = look_then refusal.look (λ t. by (at (tree_under f old) path) (refusal.dir t)) goes
    where
      by : (y : Tree) → is_dir y ≡ true → ask.MakeDir path ∷ [] ≡ own_steps path y
      by nothing k = absurd (cc)
      by (a_file x) k = absurd (cc)
      by (a_dir d es) k = refl

  -- and it has no size
  pub dir_told : (r : Result (Option ℕ) FsRefusal) → IfOk r (λ x. x ≡ None) → told → IfOk r (λ x. x ≡ file_size (at (tree_under f old) path))
  dir_told (Err e) h t = tt
  dir_told (Ok x) h t = h ∙ by (at (tree_under f old) path) (refusal.dir t)
    where
      by : (y : Tree) → is_dir y ≡ true → None ≡ file_size y
      by nothing k = absurd (cc)
      by (a_file z) k = absurd (cc)
      by (a_dir d es) k = refl
