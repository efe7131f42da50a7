-- The answers of asks that read, by what was found.
use Rattle.std.proofs.Common.{◌≡◌, true, List, [], ◌∷◌, refl, ◌∙◌, ap, Option, Some, None}
use Rattle.chain_reading.proofs.Common.{Path, Tree, nothing, a_file, a_dir, at, is_there, bytes_in, names_in, bytes, listed, refused, first_of, not_mounted, lost_on_the_way, missing, no_file, no_dir, refusal, Chain, FsRefusal, DiskView, step_on, Client, mounted_by, tree_under, no_file_found, no_directory_found}
use Rattle.fs_trees.specs.Step.{judged}
use Rattle.fs_trees.specs.declared.ask.ShellAsk.TheVariants as ask

is_mounted : (t : Tree) (rest : List (Option FsRefusal)) → is_there t ≡ true → first_of (not_mounted t ∷ rest) ≡ first_of rest
is_mounted nothing rest h = absurd (cc)
is_mounted (a_file x) rest h = refl
is_mounted (a_dir d es) rest h = refl

module _ (c : Client) (v : DiskView) (p : Path) (there : is_there (tree_under c v) ≡ true) where
  pub cat_refused : (e : FsRefusal) → no_file_found (tree_under c v) p ≡ Some e → (step_on (mounted_by c) v (ask.Cat p)).answer ≡ refused e
  cat_refused e h = ap (λ o. (judged (tree_under c v) 0 (ask.Cat p) o).answer) (is_mounted (tree_under c v) (lost_on_the_way (tree_under c v) p ∷ missing (tree_under c v) p ∷ no_file (tree_under c v) p ∷ []) there ∙ h)

  pub cat_answered : ◌≡◌ {A = Option FsRefusal} (no_file_found (tree_under c v) p) None → (step_on (mounted_by c) v (ask.Cat p)).answer ≡ bytes (bytes_in (at (tree_under c v) p))
  cat_answered h = ap (λ o. (judged (tree_under c v) 0 (ask.Cat p) o).answer) (is_mounted (tree_under c v) (lost_on_the_way (tree_under c v) p ∷ missing (tree_under c v) p ∷ no_file (tree_under c v) p ∷ []) there ∙ h)

  pub cat_stays : (step_on (mounted_by c) v (ask.Cat p)).tree ≡ tree_under c v
  cat_stays = by_refusal (refusal Chain v.world.geometry (tree_under c v) 0 0 (record { blocks = 0; pairs = 0 }) (ask.Cat p))
    where
      by_refusal : (o : Option FsRefusal) → (judged (tree_under c v) 0 (ask.Cat p) o).tree ≡ tree_under c v
      by_refusal None = refl
      by_refusal (Some e) = refl

  pub ls_refused : (e : FsRefusal) → no_directory_found (tree_under c v) p ≡ Some e → (step_on (mounted_by c) v (ask.Ls p)).answer ≡ refused e
  ls_refused e h = ap (λ o. (judged (tree_under c v) 0 (ask.Ls p) o).answer) (is_mounted (tree_under c v) (lost_on_the_way (tree_under c v) p ∷ missing (tree_under c v) p ∷ no_dir (tree_under c v) p ∷ []) there ∙ h)

  pub ls_answered : ◌≡◌ {A = Option FsRefusal} (no_directory_found (tree_under c v) p) None → (step_on (mounted_by c) v (ask.Ls p)).answer ≡ listed (names_in (at (tree_under c v) p))
  ls_answered h = ap (λ o. (judged (tree_under c v) 0 (ask.Ls p) o).answer) (is_mounted (tree_under c v) (lost_on_the_way (tree_under c v) p ∷ missing (tree_under c v) p ∷ no_dir (tree_under c v) p ∷ []) there ∙ h)

  pub ls_stays : (step_on (mounted_by c) v (ask.Ls p)).tree ≡ tree_under c v
  ls_stays = by_refusal (refusal Chain v.world.geometry (tree_under c v) 0 0 (record { blocks = 0; pairs = 0 }) (ask.Ls p))
    where
      by_refusal : (o : Option FsRefusal) → (judged (tree_under c v) 0 (ask.Ls p) o).tree ≡ tree_under c v
      by_refusal None = refl
      by_refusal (Some e) = refl
