-- What stands at a path already may be put there.
use Rattle.std.proofs.Common.{◌≡◌, ℕ, true, false, cond, List, [], ◌∷◌, ◌++◌, refl, sym, ◌∙◌, ap}
use Rattle.inode_changes.proofs.Common.{Name, Path, name_lt, Entries, none, file, dir, Node, nothing, a_file, a_dir, Tree, entry, at, is_there, is_file, bytes_in, before, with_entry, with_at, names_meet}
use Rattle.inode_changes.proofs.GrownLaws.{append_none}

entry_same : {D F : Type 0} (n : Name) (x : Node D F) (es : Entries D F) → entry n es ≡ x → is_there x ≡ true → with_entry n x es ≡ es
entry_same n x none e h = let never : false ≡ true = ap is_there e ∙ h in absurd (cc)
entry_same n x (file m f rest) e h =
    elim (name_lt n m) as (λ t. name_lt n m ≡ t → cond t nothing (cond (name_lt m n) (entry n rest) (a_file f)) ≡ x → cond t (before n x (file m f rest)) (cond (name_lt m n) (file m f (with_entry n x rest)) (before n x rest)) ≡ file m f rest) [
      | true ↦ λ a g. let never : false ≡ true = ap is_there g ∙ h in absurd (cc)
      | false ↦ λ a. elim (name_lt m n) as (λ t. name_lt m n ≡ t → cond t (entry n rest) (a_file f) ≡ x → cond t (file m f (with_entry n x rest)) (before n x rest) ≡ file m f rest) [
        | true ↦ λ b g. ap (λ es. file m f es) (entry_same n x rest g h)
        | false ↦ λ b g. ap (λ y. before n y rest) (sym g) ∙ ap (λ k. file k f rest) (names_meet n m a b)
      ] refl
    ] refl e
entry_same n x (dir m d inside rest) e h =
    elim (name_lt n m) as (λ t. name_lt n m ≡ t → cond t nothing (cond (name_lt m n) (entry n rest) (a_dir d inside)) ≡ x → cond t (before n x (dir m d inside rest)) (cond (name_lt m n) (dir m d inside (with_entry n x rest)) (before n x rest)) ≡ dir m d inside rest) [
      | true ↦ λ a g. let never : false ≡ true = ap is_there g ∙ h in absurd (cc)
      | false ↦ λ a. elim (name_lt m n) as (λ t. name_lt m n ≡ t → cond t (entry n rest) (a_dir d inside) ≡ x → cond t (dir m d inside (with_entry n x rest)) (before n x rest) ≡ dir m d inside rest) [
        | true ↦ λ b g. ap (λ es. dir m d inside es) (entry_same n x rest g h)
        | false ↦ λ b g. ap (λ y. before n y rest) (sym g) ∙ ap (λ k. dir k d inside rest) (names_meet n m a b)
      ] refl
    ] refl e

-- nothing stands below what isn't there
none_below : {D F : Type 0} (p : Path) (x : Node D F) → at nothing p ≡ x → is_there x ≡ true → ⊥
none_below [] x e h = let never : false ≡ true = ap is_there e ∙ h in cc
none_below (n ∷ ns) x e h = none_below ns x e h

there_above : {D F : Type 0} (p : Path) (t x : Node D F) → at t p ≡ x → is_there x ≡ true → is_there t ≡ true
there_above p nothing x e h = absurd (none_below p x e h)
there_above p (a_file f) x e h = refl
there_above p (a_dir d es) x e h = refl

at_same : {D F : Type 0} (p : Path) (t x : Node D F) → at t p ≡ x → is_there x ≡ true → with_at p x t ≡ t
at_same [] t x e h = sym e
at_same (n ∷ ns) nothing x e h = absurd (none_below ns x e h)
at_same (n ∷ ns) (a_file f) x e h = absurd (none_below ns x e h)
at_same (n ∷ ns) (a_dir d es) x e h =
    ap (λ y. a_dir d (with_entry n y es)) (at_same ns (entry n es) x e h)
    ∙ ap (λ fs. a_dir d fs) (entry_same n (entry n es) es refl (there_above ns (entry n es) x e h))

-- a file to which no bytes are added
pub file_same : (p : Path) (t : Tree) (x : List ℕ) → at t p ≡ a_file x → with_at p (a_file (x ++ [])) t ≡ t
file_same p t x e = ap (λ y. with_at p (a_file y) t) (append_none x) ∙ at_same p t (a_file x) e refl

pub file_is : (x : Tree) → is_file x ≡ true → x ≡ a_file (bytes_in x)
file_is nothing h = absurd (cc)
file_is (a_file x) h = refl
file_is (a_dir d es) h = absurd (cc)
