-- The refusals of asks that read, by what a walk finds.
use Rattle.std.proofs.Common.{◌≡◌, ℕ, true, List, [], ◌∷◌, refl, ◌∙◌, ap, Option, Some, None}
use Rattle.tsd_model.specs.declared.geometry.Geometry.{Geometry}
use Rattle.inode_walks.proofs.Common.{Path, Tree, nothing, a_file, a_dir, entry, at, is_there, bytes_in, names_in, bytes, listed, refused, RoomNeed, first_of, not_mounted, lost_on_the_way, missing, no_file, no_dir, refusal, FsRefusal, not_found, no_file_found, no_directory_found}
use Rattle.fs_trees.specs.Step.{outcome, judged, tree_step}
use Rattle.fs_trees.specs.declared.ask.ShellAsk.TheVariants as ask
use Rattle.fs_trees.specs.declared.ask.ShellKind.TheVariants.{Inode}

-- what isn't found is refused so, whatever else would be
pub refused_by : (t : Tree) (p : Path) (e : FsRefusal) (rest : List (Option FsRefusal)) → not_found t p ≡ Some e → first_of (lost_on_the_way t p ∷ missing t p ∷ rest) ≡ Some e
refused_by nothing [] e rest h = h
refused_by (a_file x) [] e rest h = absurd (cc)
refused_by (a_dir d es) [] e rest h = absurd (cc)
refused_by nothing (n ∷ ns) e rest h = h
refused_by (a_file x) (n ∷ ns) e rest h = h
refused_by (a_dir d es) (n ∷ ns) e rest h = refused_by (entry n es) ns e rest h

-- what is found isn't
pub passes_by : (t : Tree) (p : Path) (rest : List (Option FsRefusal)) → ◌≡◌ {A = Option FsRefusal} (not_found t p) None → first_of (lost_on_the_way t p ∷ missing t p ∷ rest) ≡ first_of rest
passes_by nothing [] rest h = absurd (cc)
passes_by (a_file x) [] rest h = refl
passes_by (a_dir d es) [] rest h = refl
passes_by nothing (n ∷ ns) rest h = absurd (cc)
passes_by (a_file x) (n ∷ ns) rest h = absurd (cc)
passes_by (a_dir d es) (n ∷ ns) rest h = passes_by (entry n es) ns rest h

-- with one more test behind
by_both : (t : Tree) (p : Path) (last : Option FsRefusal) → first_of (lost_on_the_way t p ∷ missing t p ∷ last ∷ []) ≡ first_of (not_found t p ∷ last ∷ [])
by_both t p last = elim (not_found t p) as (λ o. not_found t p ≡ o → first_of (lost_on_the_way t p ∷ missing t p ∷ last ∷ []) ≡ first_of (o ∷ last ∷ [])) [
  | None ↦ λ e. passes_by t p (last ∷ []) e
  | Some r ↦ λ e. refused_by t p r (last ∷ []) e
] refl

is_mounted : (t : Tree) (rest : List (Option FsRefusal)) → is_there t ≡ true → first_of (not_mounted t ∷ rest) ≡ first_of rest
is_mounted nothing rest h = absurd (cc)
is_mounted (a_file x) rest h = refl
is_mounted (a_dir d es) rest h = refl

module _ (g : Geometry) (t : Tree) (free held : ℕ) (need : RoomNeed) (p : Path) (there : is_there t ≡ true) where
  cat_refusal : refusal Inode g t free held need (ask.Cat p) ≡ no_file_found t p
  cat_refusal = is_mounted t (lost_on_the_way t p ∷ missing t p ∷ no_file t p ∷ []) there ∙ by_both t p (no_file t p)

  ls_refusal : refusal Inode g t free held need (ask.Ls p) ≡ no_directory_found t p
  ls_refusal = is_mounted t (lost_on_the_way t p ∷ missing t p ∷ no_dir t p ∷ []) there ∙ by_both t p (no_dir t p)

  pub cat_refused : (e : FsRefusal) → no_file_found t p ≡ Some e → tree_step Inode g t (ask.Cat p) free held need ≡ outcome t (refused e)
  cat_refused e h = ap (judged t free (ask.Cat p)) (cat_refusal ∙ h)

  pub cat_answered : ◌≡◌ {A = Option FsRefusal} (no_file_found t p) None → tree_step Inode g t (ask.Cat p) free held need ≡ outcome t (bytes (bytes_in (at t p)))
  cat_answered h = ap (judged t free (ask.Cat p)) (cat_refusal ∙ h)

  pub ls_refused : (e : FsRefusal) → no_directory_found t p ≡ Some e → tree_step Inode g t (ask.Ls p) free held need ≡ outcome t (refused e)
  ls_refused e h = ap (judged t free (ask.Ls p)) (ls_refusal ∙ h)

  pub ls_answered : ◌≡◌ {A = Option FsRefusal} (no_directory_found t p) None → tree_step Inode g t (ask.Ls p) free held need ≡ outcome t (listed (names_in (at t p)))
  ls_answered h = ap (judged t free (ask.Ls p)) (ls_refusal ∙ h)
