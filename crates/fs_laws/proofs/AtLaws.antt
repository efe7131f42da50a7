-- What stands at a path, and what the asks that only look answer of it.
use Rattle.std.proofs.Common.{◌≡◌, ◌⊎◌, inl, inr, ℕ, ◌≤◌, nat_le, ◌&&◌, true, false, not, Bool, List, [], ◌∷◌, ◌++◌, length, refl, ◌∙◌, ap, arith, None}
use Rattle.std.proofs.lemmas.Bool.{and_parts}
use Rattle.std.proofs.lemmas.Bool.Decides.{nat_tests}
use Rattle.std.specs.List.{list_all}
use Rattle.tsd_model.specs.declared.geometry.Geometry.{Geometry}
use Rattle.fs_trees.specs.Answer.{bytes, listed, refused}
use Rattle.fs_trees.specs.Names.{Name, Path, is_name, is_name_byte, is_reserved, name_max}
use Rattle.fs_trees.specs.Refusals.{RoomNeed, first_of, lost_on_the_way, missing, no_dir, no_file, not_mounted, when}
use Rattle.fs_trees.specs.Step.{judged, tree_step}
use Rattle.fs_trees.specs.Tree.{Node, Tree, nothing, a_file, a_dir, at, bytes_in, child, entry, is_dir, is_file, is_there, names_in}
use Rattle.fs_trees.specs.declared.ask.ShellAsk.TheVariants as ask
use Rattle.fs_trees.specs.declared.ask.ShellKind.{ShellKind}
use Rattle.fs_trees.specs.declared.refusal.FsRefusal.TheVariants as no

pub nowhere : (D F : Type 0) (p : Path) → is_there (at {D = D} {F = F} nothing p) ≡ true → ⊥
nowhere D F [] h = absurd (cc)
nowhere D F (n ∷ ns) h = nowhere D F ns h

pub way_there : (t : Tree) (p : Path) → is_there (at t p) ≡ true → lost_on_the_way t p ≡ None
way_there t [] h = refl
way_there nothing (n ∷ ns) h = absurd (nowhere _ _ ns h)
way_there (a_file x) (n ∷ ns) h = absurd (nowhere _ _ ns h)
way_there (a_dir d es) (n ∷ ns) h = way_there (entry n es) ns h

pub root_there : (t : Tree) (p : Path) → is_there (at t p) ≡ true → is_there t ≡ true
root_there nothing p h = absurd (nowhere _ _ p h)
root_there (a_file x) p h = refl
root_there (a_dir d es) p h = refl

pub dir_there : (t : Tree) → is_dir t ≡ true → is_there t ≡ true
dir_there nothing h = absurd (cc)
dir_there (a_file x) h = absurd (cc)
dir_there (a_dir d es) h = refl

pub file_or_dir : (x : Tree) → is_there x ≡ true → ((y : List ℕ) × (x ≡ a_file y)) ⊎ (is_dir x ≡ true)
file_or_dir nothing h = absurd (cc)
file_or_dir (a_file y) h = inl (y, refl)
file_or_dir (a_dir d es) h = inr refl

pub at_last : {D F : Type 0} (p : Path) (n : Name) (x : Node D F) → at x (p ++ n ∷ []) ≡ child n (at x p)
at_last [] n x = refl
at_last (m ∷ ms) n x = at_last ms n (child m x)

module _ (t : Tree) (p : Path) (there : is_there (at t p) ≡ true) where
  pub none_mounted : not_mounted t ≡ None
  none_mounted = ap (λ b. when (not b) no.NotThisFs) (root_there t p there)

  pub none_missing : missing t p ≡ None
  none_missing = ap (λ b. when (not b) no.NoEntry) there

  pub cat_first : first_of (not_mounted t ∷ lost_on_the_way t p ∷ missing t p ∷ no_file t p ∷ []) ≡ first_of (no_file t p ∷ [])
  cat_first =
      ap (λ o. first_of (o ∷ lost_on_the_way t p ∷ missing t p ∷ no_file t p ∷ [])) none_mounted
      ∙ (ap (λ o. first_of (o ∷ missing t p ∷ no_file t p ∷ [])) (way_there t p there) ∙ ap (λ o. first_of (o ∷ no_file t p ∷ [])) none_missing)

  pub ls_first : first_of (not_mounted t ∷ lost_on_the_way t p ∷ missing t p ∷ no_dir t p ∷ []) ≡ first_of (no_dir t p ∷ [])
  ls_first =
      ap (λ o. first_of (o ∷ lost_on_the_way t p ∷ missing t p ∷ no_dir t p ∷ [])) none_mounted
      ∙ (ap (λ o. first_of (o ∷ missing t p ∷ no_dir t p ∷ [])) (way_there t p there) ∙ ap (λ o. first_of (o ∷ no_dir t p ∷ [])) none_missing)

module _ (kind : ShellKind) (g : Geometry) (free held : ℕ) (need : RoomNeed) (t : Tree) (p : Path) where
  pub cat_file : (x : List ℕ) → at t p ≡ a_file x → (tree_step kind g t (ask.Cat p) free held need).answer ≡ bytes x
  cat_file x is =
      let first = cat_first t p (ap is_there is) ∙ ap (λ y. first_of (when (is_dir y) no.IsDir ∷ [])) is in
      ap (λ o. (judged t free (ask.Cat p) o).answer) first ∙ ap (λ y. bytes (bytes_in y)) is

  pub cat_dir : is_dir (at t p) ≡ true → (tree_step kind g t (ask.Cat p) free held need).answer ≡ refused no.IsDir
  cat_dir is =
      let first = cat_first t p (dir_there (at t p) is) ∙ ap (λ b. first_of (when b no.IsDir ∷ [])) is in
      ap (λ o. (judged t free (ask.Cat p) o).answer) first

  pub ls_dir : is_dir (at t p) ≡ true → (tree_step kind g t (ask.Ls p) free held need).answer ≡ listed (names_in (at t p))
  ls_dir is =
      let first = ls_first t p (dir_there (at t p) is) ∙ ap (λ b. first_of (when b no.NotDir ∷ [])) (no_file_there (at t p) is) in
      ap (λ o. (judged t free (ask.Ls p) o).answer) first
    where
      no_file_there : (y : Tree) → is_dir y ≡ true → is_file y ≡ false
      no_file_there nothing h = absurd (cc)
      no_file_there (a_file x) h = absurd (cc)
      no_file_there (a_dir d es) h = refl

-- ---- a name is short

pub name_fits : (n : Name) → is_name n ≡ true → length n ≤ 28
name_fits n h =
    let a = nat_le 1 (length n) in
    let b = nat_le (length n) name_max in
    let front = (and_parts (a && b && list_all is_name_byte n) (not (is_reserved n)) h).0 in
    let short : b ≡ true = (and_parts a b (and_parts (a && b) (list_all is_name_byte n) front).0).1 in
    grind (arith, nat_tests)
