-- Whether a layout can hold a tree.
use Rattle.std.specs.Prelude.{◌≡◌, ◌⊎◌, true, false, List, [], ◌∷◌, Option, Some, None}
use Rattle.fs_trees.specs.Copying.{copy_steps}
use Rattle.fs_trees.specs.Names.{Path}
use Rattle.fs_trees.specs.Tree.{Tree}
use Rattle.fs_trees.specs.declared.ask.ShellAsk.{ShellAsk}
use Rattle.fs_trees.specs.declared.ask.ShellAsk.TheVariants as ask
use Rattle.fs_trees.specs.declared.ask.ShellKind.{ShellKind}
use Rattle.fs_port.specs.Files.{has_dirs}

-- the first directory that these steps make
abbrev pub first_made : List ShellAsk → Option Path
first_made [] = None
first_made (ask.MakeDir path ∷ steps) = Some path
first_made (a ∷ steps) = first_made steps

-- the first directory of a tree but `/`, in the order in which it is copied
abbrev pub first_dir : Tree → Option Path
first_dir t = first_made (copy_steps t)

-- the layout has directories, or none of these steps makes one
abbrev pub CanMake : ShellKind → List ShellAsk → Type 0
CanMake kind steps = (has_dirs kind ≡ true) ⊎ (first_made steps ≡ None)

-- so it is for the whole tree
abbrev pub CanHold : ShellKind → Tree → Type 0
CanHold kind t = CanMake kind (copy_steps t)

-- it has none, and this is the tree's first
pub record IsNested (kind : ShellKind) (t : Tree) (path : Path) : Type 0 where
  pub no_dirs : has_dirs kind ≡ false
  pub first : first_dir t ≡ Some path
