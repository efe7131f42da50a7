-- What is put into an empty tree is read back.
use Rattle.std.proofs.Common.{◌≡◌, ℕ, not, cond, [], ◌∷◌, length, List, refl, sym, ◌∙◌, ap, subst, true, Option, Some, None, Result, Ok, Err}
use Rattle.std.specs.Prelude.{take, OnOk}
use Rattle.tsd_model.specs.declared.geometry.Geometry.{Geometry}
use Rattle.tsd_model.specs.World.{free_count}
use Rattle.fs_trees.specs.Answer.{done, bytes}
use Rattle.fs_trees.specs.Names.{Name, Path}
use Rattle.fs_trees.specs.Needs.{need_of}
use Rattle.fs_trees.specs.Refusals.{RoomNeed, refusal, first_of, when}
use Rattle.fs_trees.specs.Step.{empty_tree, judged, tree_step}
use Rattle.fs_trees.specs.Tree.{Tree, none, file, nothing, a_file, a_dir, entry, is_there, is_dir, bytes_in}
use Rattle.fs_trees.specs.declared.ask.ShellAsk.TheVariants as ask
use Rattle.fs_trees.specs.declared.ask.ShellKind.{ShellKind}
use Rattle.fs_trees.specs.declared.refusal.FsRefusal.{FsRefusal}
use Rattle.fs_trees.specs.declared.refusal.FsRefusal.TheVariants as no
use Rattle.fs_trees.specs.Layouts.{tree_at}
use Rattle.fs_port.specs.View.{DiskView}
use Rattle.fs_port.specs.Files.{FilesView, Answers, HasTree, TellsPart, mounted_now}
use Rattle.fs_laws.proofs.OrderLaws.{lt_irreflexive}

-- the entry of a name that stands alone
alone : (n : Name) (x : List ℕ) → ◌≡◌ {A = Tree} (entry n (file n x none)) (a_file x)
alone n x = ap (λ t. cond t nothing (cond t nothing (a_file x))) (lt_irreflexive n)

-- the file that stands alone is read
read_alone : (kind : ShellKind) (g : Geometry) (free held : ℕ) (need : RoomNeed) (n : Name) (x : List ℕ) → (tree_step kind g (a_dir tt (file n x none)) (ask.Cat (n ∷ [])) free held need).answer ≡ bytes x
read_alone kind g free held need n x =
    let granted = ap (λ (y : Tree). first_of (when (not (is_there y)) no.NoEntry ∷ when (is_dir y) no.IsDir ∷ [])) (alone n x) in
    ap (λ o. (judged (a_dir tt (file n x none)) free (ask.Cat (n ∷ [])) o).answer) granted ∙ ap (λ (y : Tree). bytes (bytes_in y)) (alone n x)

module _ (kind : ShellKind) (g h : Geometry) (free held free_then held_then : ℕ) (need need_then : RoomNeed) (x : List ℕ) where
  pub read_back : (p : Path) → (tree_step kind g empty_tree (ask.Put p x) free held need).answer ≡ done
      → (tree_step kind h (tree_step kind g empty_tree (ask.Put p x) free held need).tree (ask.Cat p) free_then held_then need_then).answer ≡ bytes x
  read_back [] put = absurd (cc)
  read_back (n ∷ m ∷ ns) put = absurd (cc)
  read_back (n ∷ []) put = by_refusal (refusal kind g empty_tree free held need (ask.Put (n ∷ []) x)) put
    where
      by_refusal : (o : Option FsRefusal) → (judged empty_tree free (ask.Put (n ∷ []) x) o).answer ≡ done
          → (tree_step kind h (judged empty_tree free (ask.Put (n ∷ []) x) o).tree (ask.Cat (n ∷ [])) free_then held_then need_then).answer ≡ bytes x
      by_refusal None e = read_alone kind h free_then held_then need_then n x
      by_refusal (Some r) e = absurd (cc)

  -- of whatever tree is that one
  pub read_from : (p : Path) (t u : Tree) → t ≡ empty_tree → (tree_step kind g t (ask.Put p x) free held need).answer ≡ done
      → u ≡ (tree_step kind g t (ask.Put p x) free held need).tree → (tree_step kind h u (ask.Cat p) free_then held_then need_then).answer ≡ bytes x
  read_from p t u e put is =
      ap (λ y. (tree_step kind h y (ask.Cat p) free_then held_then need_then).answer) (is ∙ ap (λ y. (tree_step kind g y (ask.Put p x) free held need).tree) e)
      ∙ read_back p (ap (λ y. (tree_step kind g y (ask.Put p x) free held need).answer) (sym e) ∙ put)

  put_there : (p : Path) → (tree_step kind g empty_tree (ask.Put p x) free held need).answer ≡ done → is_there (tree_step kind g empty_tree (ask.Put p x) free held need).tree ≡ true
  put_there [] put = absurd (cc)
  put_there (n ∷ m ∷ ns) put = absurd (cc)
  put_there (n ∷ []) put = by_refusal (refusal kind g empty_tree free held need (ask.Put (n ∷ []) x)) put
    where
      by_refusal : (o : Option FsRefusal) → (judged empty_tree free (ask.Put (n ∷ []) x) o).answer ≡ done → is_there (judged empty_tree free (ask.Put (n ∷ []) x) o).tree ≡ true
      by_refusal None e = refl
      by_refusal (Some r) e = absurd (cc)

  pub there_from : (p : Path) (t u : Tree) → t ≡ empty_tree → (tree_step kind g t (ask.Put p x) free held need).answer ≡ done → u ≡ (tree_step kind g t (ask.Put p x) free held need).tree → is_there u ≡ true
  there_from p t u e put is =
      ap is_there (is ∙ ap (λ y. (tree_step kind g y (ask.Put p x) free held need).tree) e) ∙ put_there p (ap (λ y. (tree_step kind g y (ask.Put p x) free held need).answer) (sym e) ∙ put)

-- ---- of a file system that has made its tree

bytes_same : {x y : List ℕ} → bytes x ≡ bytes y → x ≡ y
bytes_same e = cc

-- it was put
abbrev IsPut : FilesView → DiskView → DiskView → Path → List ℕ → Type 0
IsPut f v w p x = Answers {X = Unit {0}} f v w (ask.Put p x) (Ok tt) (λ _ answer. answer ≡ done)

-- and read
abbrev IsRead : FilesView → DiskView → DiskView → Path → List ℕ → Result (Unit {0}) FsRefusal → Type 0
IsRead f w z p into r = Answers f w z (ask.Cat p) r (λ _. TellsPart 0 into)

module _ (f : FilesView) (v w : DiskView) (p : Path) (x : List ℕ) (made : tree_at f.kind v.world f.root ≡ empty_tree) where
  there_mounted : IsPut (mounted_now f) v w p x → HasTree (mounted_now f) w
  there_mounted put = λ _. there_from f.kind v.world.geometry w.world.geometry (free_count v.world) (length v.world.pairs) (free_count w.world) (length w.world.pairs) (need_of f.kind v.world f.root (tree_at f.kind v.world f.root) (ask.Put p x)) (need_of f.kind w.world f.root (tree_at f.kind w.world f.root) (ask.Cat p)) x p (tree_at f.kind v.world f.root) (tree_at f.kind w.world f.root) made put.ok.0 put.ok.1

  back_mounted : (z : DiskView) (into : List ℕ) (r : Result (Unit {0}) FsRefusal) → IsPut (mounted_now f) v w p x → IsRead (mounted_now f) w z p into r → OnOk r (into ≡ take 4096 x)
  back_mounted z into (Err e) put read = tt
  back_mounted z into (Ok u) put read =
      let told = read.ok.0 in
      let said = read_from f.kind v.world.geometry w.world.geometry (free_count v.world) (length v.world.pairs) (free_count w.world) (length w.world.pairs) (need_of f.kind v.world f.root (tree_at f.kind v.world f.root) (ask.Put p x)) (need_of f.kind w.world f.root (tree_at f.kind w.world f.root) (ask.Cat p)) x p (tree_at f.kind v.world f.root) (tree_at f.kind w.world f.root) made put.ok.0 put.ok.1 in
      told.2 ∙ ap (take 4096) (bytes_same (sym told.1 ∙ said))

  module _ (next last : FilesView) (same : next ≡ mounted_now f) (still : last ≡ next) (put : IsPut next v w p x) where
    put_mounted : IsPut (mounted_now f) v w p x
    put_mounted = subst (λ h. IsPut h v w p x) same put

    pub tree_then : HasTree last w
    tree_then = subst (λ h. HasTree h w) (sym (still ∙ same)) (there_mounted put_mounted)

    pub came_back : (z : DiskView) (into : List ℕ) (r : Result (Unit {0}) FsRefusal) → IsRead last w z p into r → OnOk r (into ≡ take 4096 x)
    came_back z into r read = back_mounted z into r put_mounted (subst (λ h. IsRead h w z p into r) (still ∙ same) read)
