-- What was made, a file or an empty directory, is entered at the lookup of a path.
use Rattle.std.specs.Prelude.{◌≡◌, ℕ, suc, ◌+◌, ◌<◌, ◌⊎◌, List, [], ◌∷◌, ◌++◌, length, Some, None, IsTrue}
use Rattle.tsd_model.specs.Geometry.{block_len}
use Rattle.tsd_model.specs.World.{World, is_live, is_free, has_number}
use Rattle.tsd_model.specs.Valid.{IsValid}
use Rattle.fs_trees.specs.Names.{Name, Path, path_max, is_path}
use Rattle.fs_trees.specs.Tree.{Tree, none, a_file, a_dir, at, is_there, with_at}
use Rattle.fs_trees.specs.Inode.{Inode, directory, regular, entries_room, block_named}
use Rattle.fs_trees.specs.InodeTree.{FileInode, InodeNode, inode_at, node_at, inodes_under, tree_of, inode_tree}
use Rattle.fs_trees.specs.Layouts.{named_at, IsTidy}
use Rattle.fs_trees.specs.Outside.{OthersStay}
use Rattle.fs_trees.specs.Refusals.{directory_of}
use Rattle.fs_trees.specs.declared.ask.ShellKind.TheVariants as kind
use Rattle.inode_layout.specs.declared.inode.Inode as layout
use Rattle.inode_layout.specs.Block.{inode_of, block_len_of}
use Rattle.inode_layout.specs.Said.{is_directory, blocks_said, entries_said}
use Rattle.inode_walks.specs.declared.finding.Lookup.{Lookup}
use Rattle.inode_changes.specs.Making.{Making}

-- ---- where it is entered

-- The lookup of a path, as it was read from the blocks of a world: its directory, its name, and what stands there.
pub record IsEntryRead (root : ℕ) (w : World) (path : Path) (lookup : Lookup) : Type 0 where
  -- so many names may follow those of the directory
  pub more : ℕ
  pub levels : more + length (directory_of path) ≡ path_max
  pub node : at (inodes_under w root) (directory_of path) ≡ node_at w (suc more) lookup.directory.block
  pub there : IsTrue (is_there (node_at w (suc more) lookup.directory.block))
  pub says : inode_at w lookup.directory.block ≡ Some (inode_of lookup.directory.inode)
  pub whole : block_len_of lookup.directory.inode ≡ block_len w.geometry
  pub dir : IsTrue (is_directory (inode_of lookup.directory.inode))
  pub name : path ≡ directory_of path ++ lookup.name.now ∷ []
  pub old : lookup.old ≡ block_named lookup.name.now (entries_said (inode_of lookup.directory.inode))

-- a directory has room for an entry of this name, if it is a new one
abbrev pub DirectoryHasRoom : layout.Inode → Name → Type 0
DirectoryHasRoom inode n = block_named n (entries_said (inode_of inode)) ≡ None
    → length (entries_said (inode_of inode)) < entries_room (block_len_of inode)

-- the lookup of a path in a valid world that has a tree under the root, with room for an entry
pub record Grounds (root : ℕ) (first : World) (path : Path) (lookup : Lookup) : Type 0 where
  pub valid : IsValid first
  pub primary : root < first.geometry.primaries
  pub there : IsTrue (is_there (inode_tree first root))
  pub path_is : IsTrue (is_path path)
  pub entry : IsEntryRead root first path lookup
  pub room : DirectoryHasRoom lookup.directory.inode lookup.name.now

-- ---- what is entered

-- some file of the tree has the block
abbrev pub IsOfFile : ℕ → World → ℕ → Type 0
IsOfFile root w b = (path : Path) × (file : FileInode) × (at (inodes_under w root) path ≡ a_file file)
    × IsTrue (has_number file.blocks b)

abbrev pub AreOfFiles : ℕ → World → List ℕ → Type 0
AreOfFiles root w blocks = (b : ℕ) → IsTrue (has_number blocks b) → IsOfFile root w b

-- the node of an inode in block i, where it names no entries
abbrev pub node_of : ℕ → Inode → InodeNode
node_of i (regular size blocks) = a_file (record { block = i; size = size; blocks = blocks })
node_of i (directory es) = a_dir i none

-- In block i stands the inode of this tree, a file or a directory without entries, which no directory names yet. What
-- it shares are blocks of files.
pub record IsMadeInode (root : ℕ) (first : World) (d i : ℕ) (made : Tree) (w : World) : Type 0 where
  pub inode : Inode
  pub shared : List ℕ
  pub fresh : List ℕ
  pub making : Making root first d i shared fresh w
  pub says : inode_at w i ≡ Some inode
  pub blocks : blocks_said inode ≡ shared ++ fresh
  pub bare : entries_said inode ≡ []
  pub is : tree_of w (node_of i inode) ≡ made
  pub of_files : AreOfFiles root first shared

-- it may be entered at the lookup, whatever has gone before
abbrev pub MayEnter : ℕ → Lookup → ℕ → World → Type 0
MayEnter root lookup i w = (first : World) × (path : Path) × (made : Tree) × Grounds root first path lookup
    × IsMadeInode root first lookup.directory.block i made w

-- ---- what that leaves

-- the tree has what was made at its path, and all else is as it was
pub record HasMade (root : ℕ) (first : World) (path : Path) (made : Tree) (w : World) : Type 0 where
  pub tree : inode_tree w root ≡ with_at path made (inode_tree first root)
  pub tidy : IsTidy kind.Inode first root → IsTidy kind.Inode w root
  pub others : OthersStay root first w
  pub taken : (b : ℕ) → IsTrue (is_free first b) → IsTrue (is_live w b)
      → IsTrue (has_number (named_at kind.Inode w root).blocks b)

-- the tree before or the tree with what was made, in a valid world where all else is as it was
pub record HasEither (root : ℕ) (first : World) (path : Path) (made : Tree) (w : World) : Type 0 where
  pub tree : (inode_tree w root ≡ inode_tree first root)
      ⊎ (inode_tree w root ≡ with_at path made (inode_tree first root))
  pub valid : IsValid w
  pub geometry : w.geometry ≡ first.geometry
  pub others : OthersStay root first w

-- whatever has gone before it stood made in the world `begun`
abbrev pub Enters : ℕ → Lookup → ℕ → World → World → Type 0
Enters root lookup i begun w =
    (first : World) (path : Path) (made : Tree) → Grounds root first path lookup
    → IsMadeInode root first lookup.directory.block i made begun → HasMade root first path made w

abbrev pub EntersOrNot : ℕ → Lookup → ℕ → World → World → Type 0
EntersOrNot root lookup i begun w =
    (first : World) (path : Path) (made : Tree) → Grounds root first path lookup
    → IsMadeInode root first lookup.directory.block i made begun → HasEither root first path made w
