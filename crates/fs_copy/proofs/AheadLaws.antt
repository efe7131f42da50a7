-- Names that were read ahead.
use Rattle.std.proofs.Common.{◌≡◌, true, List, [], ◌∷◌, sym, ◌∙◌, ap, subst, Option, Some, None}
use Rattle.fs_copy.proofs.Common.{IfSome, OnSome, remove, slice_get, Name, Path, at, is_dir, names_in, DiskView, FilesView, above, step_on, tree_under, AreBehind, TellsNames, ComeNext}
use Rattle.fs_trees.specs.declared.ask.ShellAsk.TheVariants as ask
use Rattle.fs_copy.proofs.ReadLaws.{next_tells}

-- the first of them is the next, and the others come behind it
pub first_ahead : (here : List Name) (after : Name) (ns rest : List Name) (n : Name) → Some n ≡ slice_get ns 0 → rest ≡ remove ns 0 → ComeNext here after ns → (above after here ≡ Some n) × ComeNext here n rest
first_ahead here after [] rest n is left come = absurd (cc)
first_ahead here after (m ∷ ns) rest n is left come =
    let same : n ≡ m = cc in (
      come.0 ∙ ap (λ k. Some k) (sym same),
      subst (λ k. ComeNext here k rest) (sym same) (subst (λ ms. ComeNext here m ms) (sym left) come.1),
    )

-- what is read by one call
module _ (f : FilesView) (v : DiskView) (mounted : f.mounted ≡ true) (p : Path) (dir : is_dir (at (tree_under f v) p) ≡ true) where
  abbrev here : List Name
  here = names_in (at (tree_under f v) p)

  come_of : (after : Name) (ns : List Name) → AreBehind after ns (step_on f v (ask.Ls p)).answer → ComeNext here after ns
  come_of after [] behind = tt
  come_of after (n ∷ ns) behind = (sym (next_tells f v mounted p dir after (Some n) behind.0), come_of n ns behind.1)

  pub read_first : (after : Name) (ns rest : List Name) (o : Option Name) → o ≡ slice_get ns 0 → OnSome o (rest ≡ remove ns 0) → TellsNames after ns (step_on f v (ask.Ls p)).answer → (o ≡ above after here) × IfSome o (λ n. ComeNext here n rest)
  read_first after [] rest None is left tells = (next_tells f v mounted p dir after None tells, tt)
  read_first after [] rest (Some n) is left tells = absurd (cc)
  read_first after (m ∷ ns) rest None is left tells = absurd (cc)
  read_first after (m ∷ ns) rest (Some n) is left tells = let first = first_ahead here after (m ∷ ns) rest n is left (come_of after (m ∷ ns) tells) in (sym first.0, first.1)
