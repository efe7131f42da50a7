-- What stands at a path, as it was read from its block.
use Rattle.std.specs.Prelude.{◌≡◌, ℕ, suc, ◌+◌, ◌≤◌, length, List, [], ◌∷◌, ◌++◌, map, Option, Some, None, Result, Ok}
use Rattle.std.specs.Prelude.{Err, IsTrue}
use Rattle.tsd_model.specs.Geometry.{block_len}
use Rattle.tsd_model.specs.Pairs.{holds}
use Rattle.tsd_model.specs.Sessions.{sessions_max, is_open}
use Rattle.fs_trees.specs.Names.{Name, Path, path_max}
use Rattle.fs_trees.specs.Tree.{Tree, nothing, a_file, a_dir, entry, child, at, is_there}
use Rattle.fs_trees.specs.Inode.{Inode, directory, regular, block_named}
use Rattle.fs_trees.specs.InodeTree.{InodeNode, inode_at, node_at, inodes_under, named_pairs, tree_of}
use Rattle.fs_trees.specs.Refusals.{first_of, directory_of, no_file, no_dir}
use Rattle.fs_trees.specs.declared.refusal.FsRefusal.{FsRefusal}
use Rattle.fs_trees.specs.declared.refusal.FsRefusal.TheVariants as no
use Rattle.inode_layout.specs.Block.{inode_of, block_len_of}
use Rattle.inode_layout.specs.Said.{entries_said}
use Rattle.fs_laws.specs.Ways.{HoldsWrite}
use Rattle.fs_port.specs.View.{DiskView, state_of}
use Rattle.fs_client.specs.declared.client.Client.{Client}
use Rattle.fs_client.specs.May.{MayWrite}
use Rattle.inode_walks.specs.declared.finding.Found.{Found}
use Rattle.inode_walks.specs.declared.finding.Lookup.{Lookup}

-- the pairs from a node's block to what it names, and those below
abbrev pub node_pairs : InodeNode → List (ℕ × ℕ)
node_pairs nothing = []
node_pairs (a_file f) = map (λ c. (f.block, c)) f.blocks
node_pairs (a_dir b es) = named_pairs b es

-- What was read stands there, with at most so many names below it: it is what its block says, what it names is pointed
-- to, and the session may write it.
pub record StandsAsRead (c : Client) (v : DiskView) (more : ℕ) (found : Found) : Type 0 where
  pub there : IsTrue (is_there (node_at v.world (suc more) found.block))
  pub says : inode_at v.world found.block ≡ Some (inode_of found.inode)
  pub pairs : (a b : ℕ) → IsTrue (holds (node_pairs (node_at v.world (suc more) found.block)) a b)
      → IsTrue (holds v.world.pairs a b)
  pub held : HoldsWrite (state_of v) c.session found.block
  pub may : MayWrite c v found.block
  pub whole : block_len_of found.inode ≡ block_len v.world.geometry

abbrev pub IsStanding : Client → DiskView → Found → Type 0
IsStanding c v found = (more : ℕ) × StandsAsRead c v more found

-- the tree there
abbrev pub node_tree : DiskView → ℕ → Found → Tree
node_tree v more found = tree_of v.world (node_at v.world (suc more) found.block)

-- ---- one name further

-- the session is one that is open
pub record IsOpenNow (c : Client) (v : DiskView) : Type 0 where
  pub number : c.session ≤ sessions_max
  pub begun : IsTrue (is_open v.sessions c.session)

abbrev pub named_block : Option ℕ → Result ℕ FsRefusal
named_block None = Err no.NoEntry
named_block (Some b) = Ok b

-- the block that a directory names so, or why there is none
abbrev pub block_said : Name → Inode → Result ℕ FsRefusal
block_said n (directory es) = named_block (block_named n es)
block_said n (regular size blocks) = Err no.NotDir

-- this was read as what the name is in the directory
pub record IsFurther (c : Client) (old new : DiskView) (more : ℕ) (dir : Found) (n : Name)
    (found : Found) : Type 0 where
  pub less : ℕ
  pub deeper : more ≡ suc less
  pub stands : StandsAsRead c new less found
  pub node : child n (node_at old.world (suc more) dir.block) ≡ node_at new.world (suc less) found.block

-- ---- at a path

-- it was read from the block of what stands at the path
pub record StandsAtPath (c : Client) (v : DiskView) (path : Path) (found : Found) : Type 0 where
  pub more : ℕ
  -- so many names may follow
  pub levels : more + length path ≡ path_max
  pub stands : StandsAsRead c v more found
  pub node : at (inodes_under v.world c.root) path ≡ node_at v.world (suc more) found.block

-- ---- the refusals of a walk, in their order

-- a name is missing, or one on the way is a file's
abbrev pub not_found : Tree → Path → Option FsRefusal
not_found nothing [] = Some no.NoEntry
not_found (a_file x) [] = None
not_found (a_dir d es) [] = None
not_found nothing (n ∷ ns) = Some no.NoEntry
not_found (a_file x) (n ∷ ns) = Some no.NotDir
not_found (a_dir d es) (n ∷ ns) = not_found (entry n es) ns

-- the same, or a directory stands there
abbrev pub no_file_found : Tree → Path → Option FsRefusal
no_file_found t path = first_of (not_found t path ∷ no_file t path ∷ [])

-- the same, or a file stands there
abbrev pub no_directory_found : Tree → Path → Option FsRefusal
no_directory_found t path = first_of (not_found t path ∷ no_dir t path ∷ [])

-- the entry that a path speaks of
pub record IsLookup (c : Client) (v : DiskView) (path : Path) (lookup : Lookup) : Type 0 where
  pub above : StandsAtPath c v (directory_of path) lookup.directory
  pub name : path ≡ directory_of path ++ lookup.name.now ∷ []
  pub old : lookup.old ≡ block_named lookup.name.now (entries_said (inode_of lookup.directory.inode))
