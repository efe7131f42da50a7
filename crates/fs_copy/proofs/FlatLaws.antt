-- A layout without directories has none in a tree.
use Rattle.std.proofs.Common.{◌≡◌, ℕ, Bool, true, false, cond, List, [], ◌∷◌, refl, sym, ◌∙◌, Option, Some, None}
use Rattle.fs_copy.proofs.Common.{⊤, World, entry_steps, ChainFile, Chains, as_tree, chain_bytes, chains_under, tree_of_files, tree_at, Entries, none, file, dir, a_file, with_entry, Name, name_lt, ShellKind, has_dirs, first_dir, first_made}
use Rattle.fs_trees.specs.declared.ask.ShellKind.TheVariants.{Inode as ByInodes, Chain as ByChains}
use Rattle.fs_copy.proofs.TodoLaws.{file_none}

-- all of them are files
abbrev AreFiles : Entries ⊤ (List ℕ) → Type 0
AreFiles none = Unit {0}
AreFiles (file n x rest) = AreFiles rest
AreFiles (dir n d i rest) = ⊥

file_with : (n : Name) (x : List ℕ) (es : Entries ⊤ (List ℕ)) → AreFiles es → AreFiles (with_entry n (a_file x) es)
file_with n x none h = tt
file_with n x (file m y rest) h = by (file_with n x rest h) (name_lt n m) (name_lt m n)
  where
    by : AreFiles (with_entry n (a_file x) rest) → (s t : Bool) → AreFiles (cond s (file n x (file m y rest)) (cond t (file m y (with_entry n (a_file x) rest)) (file n x rest)))
    by later true t = h
    by later false true = later
    by later false false = h
file_with n x (dir m d i rest) h = absurd h

are_files : (fs : List ChainFile) → AreFiles (tree_of_files fs)
are_files [] = tt
are_files (f ∷ fs) = file_with f.name (chain_bytes f.chain) (tree_of_files fs) (are_files fs)

files_make_none : (es : Entries ⊤ (List ℕ)) → AreFiles es → first_made (entry_steps [] es) ≡ None
files_make_none none h = refl
files_make_none (file n x rest) h = file_none (n ∷ []) x (entry_steps [] rest) ∙ files_make_none rest h
files_make_none (dir n d i rest) h = absurd h

pub none_nested : (kind : ShellKind) (w : World) (root : ℕ) → has_dirs kind ≡ false → first_dir (tree_at kind w root) ≡ None
none_nested ByInodes w root h = absurd (cc)
none_nested ByChains w root h = by (chains_under w root)
  where
    by : (o : Option Chains) → first_dir (as_tree o) ≡ None
    by None = refl
    by (Some c) = files_make_none (tree_of_files c.files) (are_files c.files)

pub none_either : {X : Type 0} (b : Bool) (d : Option X) → d ≡ None → None ≡ cond b None d
none_either true d e = refl
none_either false d e = sym e
