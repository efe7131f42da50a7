-- What the directories of a tree list, how deep it is, and how many entries it has.
use Rattle.std.specs.Prelude.{◌≡◌, ℕ, zero, suc, ◌+◌, ◌<◌, ◌≤◌, List, length, IsTrue}
use Rattle.std.specs.List.{list_all}
use Rattle.tsd_model.specs.World.{World}
use Rattle.tsd_model.specs.Valid.{IsValid}
use Rattle.fs_trees.specs.ChainTree.{names_max}
use Rattle.fs_trees.specs.Layouts.{tree_at}
use Rattle.fs_trees.specs.Names.{Name, Path, path_max, is_name, are_ascending}
use Rattle.fs_trees.specs.Tree.{Entries, none, file, dir, Node, nothing, a_file, a_dir, at, is_there, names_in}
use Rattle.fs_trees.specs.declared.ask.ShellKind.{ShellKind}

-- names, in their order, and not more than 4,096
abbrev pub IsNameListing : List Name → Type 0
IsNameListing ns = IsTrue (list_all is_name ns) × IsTrue (are_ascending ns) × (length ns ≤ names_max)

-- files and directories, those inside too
abbrev pub entry_count : {D F : Type 0} → Entries D F → ℕ
entry_count none = 0
entry_count (file n f rest) = suc (entry_count rest)
entry_count (dir n d inside rest) = suc (entry_count inside + entry_count rest)

abbrev pub total_entries : {D F : Type 0} → Node D F → ℕ
total_entries nothing = 0
total_entries (a_file f) = 0
total_entries (a_dir d es) = entry_count es

-- Each directory of a tree lists names.
abbrev pub TreesListNames : Type 0
TreesListNames =
    (kind : ShellKind) (w : World) (root : ℕ) (path : Path)
    → IsValid w → IsNameListing (names_in (at (tree_at kind w root) path))

-- Nothing stands deeper than 16 names.
abbrev pub TreesAreNotDeep : Type 0
TreesAreNotDeep =
    (kind : ShellKind) (w : World) (root : ℕ) (path : Path)
    → IsTrue (is_there (at (tree_at kind w root) path)) → length path ≤ path_max

-- There are not more entries than blocks, or than names of one directory.
abbrev pub TreesAreSmall : Type 0
TreesAreSmall =
    (kind : ShellKind) (w : World) (root : ℕ)
    → IsValid w → root < w.geometry.primaries → total_entries (tree_at kind w root) ≤ w.geometry.blocks + names_max
