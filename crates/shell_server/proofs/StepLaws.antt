-- The step of an ask that changes the tree.
use Rattle.std.proofs.Common.{◌≡◌, ◌≢◌, ◌⊎◌, inl, inr, ℕ, Bool, true, false, cond, List, [], ◌∷◌, ◌++◌, length, refl, sym, ◌∙◌, ap, subst}
use Rattle.shell_server.proofs.Common.{IsTrue, World, free_count, Geometry, Name, Path, nothing, a_file, a_dir, Tree, at, bytes_in, is_there, with_at, Answer, done, refused, need_of, RoomNeed, refusal, first_of, not_mounted, lost_on_the_way, missing, no_file, dir_full, no_room, AskOutcome, empty_tree, change, judged, step_in, ShellAsk, ShellKind, FsRefusal, FilesView, files_after, tree_under, Option, Some, None, is_change}
use Rattle.fs_trees.specs.declared.ask.ShellAsk.TheVariants as ask
use Rattle.fs_trees.specs.declared.refusal.FsRefusal.TheVariants as no

pub no_done : (r : FsRefusal) → done ≡ refused r → ⊥
no_done r e = cc

pub make_or_not : (q : ShellAsk) → (q ≡ ask.Make) ⊎ (q ≢ ask.Make)
make_or_not ask.Make = inl refl
make_or_not q = inr (λ e. cc)

-- a refused ask leaves the tree
pub judged_refused : (t : Tree) (free : ℕ) (a : ShellAsk) (o : Option FsRefusal) (r : FsRefusal) → (judged t free a o).answer ≡ refused r → (judged t free a o).tree ≡ t
judged_refused t free a (Some s) r e = refl
judged_refused t free ask.Bad None r e = refl
judged_refused t free (ask.Cat path) None r e = refl
judged_refused t free (ask.Ls path) None r e = refl
judged_refused t free ask.Df None r e = refl
judged_refused t free a None r e = absurd (cc)

-- so does what is no change
pub looks_stay : (t : Tree) (free : ℕ) (q : ShellAsk) (o : Option FsRefusal) → is_change q ≡ false → (judged t free q o).tree ≡ t
looks_stay t free q (Some r) none = refl
looks_stay t free ask.Bad None none = refl
looks_stay t free (ask.Cat path) None none = refl
looks_stay t free (ask.Ls path) None none = refl
looks_stay t free ask.Df None none = refl
looks_stay t free q None none = absurd (cc)

-- what isn't heard is none
pub heard_looks : (heard : Bool) (q : ShellAsk) → is_change q ≡ false → is_change (cond heard q ask.Bad) ≡ false
heard_looks true q none = none
heard_looks false q none = refl

-- it is done or refused
abbrev pub IsOfChange : Answer → Type 0
IsOfChange answer = (answer ≡ done) ⊎ ((r : FsRefusal) × (answer ≡ refused r))

pub of_change : (t : Tree) (free : ℕ) (q : ShellAsk) (o : Option FsRefusal) → IsTrue (is_change q) → IsOfChange (judged t free q o).answer
of_change t free q (Some r) changes = inr (r, refl)
of_change t free ask.Bad None changes = absurd (cc)
of_change t free (ask.Cat path) None changes = absurd (cc)
of_change t free (ask.Ls path) None changes = absurd (cc)
of_change t free ask.Df None changes = absurd (cc)
of_change t free q None changes = inl refl

-- ---- the tree is there afterwards

with_at_there : (path : Path) (z t : Tree) → IsTrue (is_there t) → IsTrue (is_there z) → IsTrue (is_there (with_at path z t))
with_at_there [] z t there new = new
with_at_there (n ∷ ns) z nothing there new = there
with_at_there (n ∷ ns) z (a_file x) there new = refl
with_at_there (n ∷ ns) z (a_dir d es) there new = refl

with_at_below : (n : Name) (ns : Path) (z t : Tree) → IsTrue (is_there t) → IsTrue (is_there (with_at (n ∷ ns) z t))
with_at_below n ns z nothing there = there
with_at_below n ns z (a_file x) there = refl
with_at_below n ns z (a_dir d es) there = refl

-- some refusal is the first
some_first : (os : List (Option FsRefusal)) (r : FsRefusal) (more : List (Option FsRefusal)) → (s : FsRefusal) × (first_of (os ++ Some r ∷ more) ≡ Some s)
some_first [] r more = (r, refl)
some_first (None ∷ os) r more = some_first os r more
some_first (Some s ∷ os) r more = (s, refl)

-- the root is neither taken away nor copied to
module _ (kind : ShellKind) (g : Geometry) (free held : ℕ) (need : RoomNeed) where
  rm_root : (t : Tree) → IsTrue (is_there t) → (r : FsRefusal) × (refusal kind g t free held need (ask.Rm []) ≡ Some r)
  rm_root nothing there = absurd (cc)
  rm_root (a_file x) there = (no.IsDir, refl)
  rm_root (a_dir d es) there = (no.IsDir, refl)

  copy_root : (t : Tree) (path : Path) → IsTrue (is_there t) → (r : FsRefusal) × (refusal kind g t free held need (ask.Copy path []) ≡ Some r)
  copy_root nothing path there = absurd (cc)
  copy_root (a_file x) path there =
      some_first (not_mounted (a_file x) ∷ lost_on_the_way (a_file x) path ∷ missing (a_file x) path ∷ no_file (a_file x) path ∷ None ∷ []) no.Exists (dir_full kind g (a_file x) [] ∷ no_room g free held need)
  copy_root (a_dir d es) path there =
      some_first (not_mounted (a_dir d es) ∷ lost_on_the_way (a_dir d es) path ∷ missing (a_dir d es) path ∷ no_file (a_dir d es) path ∷ None ∷ []) no.Exists (dir_full kind g (a_dir d es) [] ∷ no_room g free held need)

  module _ (t : Tree) (there : IsTrue (is_there t)) where
    abbrev outcome_of : ShellAsk → AskOutcome
    outcome_of q = judged t free q (refusal kind g t free held need q)

    by_change : (q : ShellAsk) (o : Option FsRefusal) → IsTrue (is_there (change t free q).tree) → (judged t free q o).answer ≡ done → IsTrue (is_there (judged t free q o).tree)
    by_change q (Some r) new ok = absurd (no_done r (sym ok))
    by_change q None new ok = new

    refused_not : (q : ShellAsk) → (r : FsRefusal) × (refusal kind g t free held need q ≡ Some r) → (outcome_of q).answer ≡ done → ⊥
    refused_not q r ok = no_done r.0 (sym ok ∙ ap (λ o. (judged t free q o).answer) r.1)

    there_after : (q : ShellAsk) → IsTrue (is_change q) → (outcome_of q).answer ≡ done → IsTrue (is_there (outcome_of q).tree)
    there_after ask.Make changes ok = refl
    there_after (ask.Put path x) changes ok = by_change (ask.Put path x) (refusal kind g t free held need (ask.Put path x)) (with_at_there path (a_file x) t there refl) ok
    there_after (ask.Append path x) changes ok = by_change (ask.Append path x) (refusal kind g t free held need (ask.Append path x)) (with_at_there path (a_file (bytes_in (at t path) ++ x)) t there refl) ok
    there_after (ask.MakeDir path) changes ok = by_change (ask.MakeDir path) (refusal kind g t free held need (ask.MakeDir path)) (with_at_there path empty_tree t there refl) ok
    there_after (ask.Rm []) changes ok = absurd (refused_not (ask.Rm []) (rm_root t there) ok)
    there_after (ask.Rm (n ∷ ns)) changes ok = by_change (ask.Rm (n ∷ ns)) (refusal kind g t free held need (ask.Rm (n ∷ ns))) (with_at_below n ns nothing t there) ok
    there_after (ask.Copy path []) changes ok = absurd (refused_not (ask.Copy path []) (copy_root t path there) ok)
    there_after (ask.Copy path (n ∷ ns)) changes ok = by_change (ask.Copy path (n ∷ ns)) (refusal kind g t free held need (ask.Copy path (n ∷ ns))) (with_at_below n ns (at t path) t there) ok
    there_after q changes ok = absurd (cc)

  -- nothing but an empty tree is made where none is mounted
  not_yet : (q : ShellAsk) → IsTrue (is_change q) → q ≢ ask.Make → (judged nothing free q (refusal kind g nothing free held need q)).answer ≡ refused no.NotThisFs
  not_yet ask.Make changes other = absurd (other refl)
  not_yet ask.Bad changes other = absurd (cc)
  not_yet (ask.Cat path) changes other = absurd (cc)
  not_yet (ask.Ls path) changes other = absurd (cc)
  not_yet ask.Df changes other = absurd (cc)
  not_yet q changes other = refl

-- ---- of the tree that a world has under a root

-- the tree that is mounted there
abbrev pub tree_shown : FilesView → World → Tree
tree_shown f w = cond f.mounted (tree_under f w) nothing

-- the step of an ask there
abbrev pub step_shown : FilesView → World → ShellAsk → AskOutcome
step_shown f w q = step_in f.kind w f.root (tree_shown f w) q

module _ (f : FilesView) (w : World) (q : ShellAsk) (changes : IsTrue (is_change q)) where
  pub step_of_change : IsOfChange (step_shown f w q).answer
  step_of_change = of_change (tree_shown f w) (free_count w) q (refusal f.kind w.geometry (tree_shown f w) (free_count w) (length w.pairs) (need_of f.kind w f.root (tree_shown f w) q) q) changes

  -- what isn't refused is mounted
  pub mounted_or_making : q ≢ ask.Make → (step_shown f w q).answer ≡ done → f.mounted ≡ true
  mounted_or_making other ok = shown f.mounted refl
    where
      shown : (b : Bool) → f.mounted ≡ b → f.mounted ≡ true
      shown true e = e
      shown false e = absurd (no_done no.NotThisFs (sym ok ∙ ap (λ b. (step_in f.kind w f.root (cond b (tree_under f w) nothing) q).answer) e ∙ not_yet f.kind w.geometry (free_count w) (length w.pairs) (need_of f.kind w f.root nothing q) q changes other))

  pub tree_there : (f.mounted ≡ true → IsTrue (is_there (tree_under f w))) → (step_shown f w q).answer ≡ done → IsTrue (is_there (step_shown f w q).tree)
  tree_there there ok = elim (make_or_not q) [
    | inl make ↦ subst (λ a. IsTrue (is_there (step_shown f w a).tree)) (sym make) refl
    | inr other ↦
        let on = mounted_or_making other ok in
        there_after f.kind w.geometry (free_count w) (length w.pairs) (need_of f.kind w f.root (tree_shown f w) q) (tree_shown f w)
        (subst (λ b. IsTrue (is_there (cond b (tree_under f w) nothing))) (sym on) (there on)) q changes ok
  ]

-- ---- what is mounted afterwards

pub after_make : (f : FilesView) (q : ShellAsk) → files_after f q ≡ record f { mounted = (files_after f q).mounted }
after_make f ask.Make = refl
after_make f q = refl

pub after_other : (f : FilesView) (q : ShellAsk) → q ≢ ask.Make → files_after f q ≡ f
after_other f ask.Make other = absurd (other refl)
after_other f q other = refl

pub mounted_after : (f : FilesView) (w : World) (q : ShellAsk) → IsTrue (is_change q) → (step_shown f w q).answer ≡ done → (files_after f q).mounted ≡ true
mounted_after f w q changes ok = elim (make_or_not q) [
  | inl make ↦ ap (λ a. (files_after f a).mounted) make
  | inr other ↦ ap (λ (h : FilesView). h.mounted) (after_other f q other) ∙ mounted_or_making f w q changes other ok
]
