-- The functions that make a file, one after the other.
use Rattle.std.specs.Prelude.{◌≡◌, ◌+◌, ◌<◌, ℕ, false, List, [], ◌∷◌, ◌++◌, length, take, drop, flat_map, Some, IsTrue}
use Rattle.std.specs.Int.{div_ceil}
use Rattle.tsd_model.specs.Geometry.{block_len}
use Rattle.tsd_model.specs.World.{World, contents, has_number, are_apart}
use Rattle.tsd_model.specs.Valid.{IsValid}
use Rattle.tsd_model.specs.Step.{filled}
use Rattle.fs_trees.specs.Tree.{is_there}
use Rattle.fs_trees.specs.Inode.{regular}
use Rattle.fs_trees.specs.InodeTree.{inode_at, file_bytes, inode_tree}
use Rattle.fs_trees.specs.Outside.{is_under, OthersStay}
use Rattle.fs_port.specs.View.{DiskView}
use Rattle.fs_client.specs.declared.client.Client.{Client}
use Rattle.fs_client.specs.May.{MayWrite}
use Rattle.inode_walks.specs.Reading.{bytes_at}
use Rattle.inode_changes.specs.Making.{Making}
use Rattle.inode_changes.specs.Content.{RootReaches}

-- ---- what a file is made in

-- a valid world with a tree, and a block that its root reaches
pub record Stage (root : ℕ) (first : World) (d : ℕ) : Type 0 where
  pub valid : IsValid first
  pub primary : root < first.geometry.primaries
  pub there : IsTrue (is_there (inode_tree first root))
  pub dir : IsTrue (is_under first root d)

-- the tree is the same still, and what the root doesn't reach is as it was
pub record IsAside (root : ℕ) (first w : World) : Type 0 where
  pub tree : inode_tree w root ≡ inode_tree first root
  pub valid : IsValid w
  pub geometry : w.geometry ≡ first.geometry
  pub others : OthersStay root first w

-- ---- the blocks of the bytes

-- the blocks hold the bytes, each its part in turn, which zeros follow
abbrev pub HoldBytes : ℕ → World → List ℕ → List ℕ → Type 0
HoldBytes len w [] bytes = bytes ≡ []
HoldBytes len w (b ∷ bs) bytes = (contents w b ≡ Some (filled len (take len bytes)))
    × HoldBytes len w bs (drop len bytes)

-- these are among the new blocks
abbrev pub AreNew : List ℕ → ℕ → List ℕ → Type 0
AreNew blocks i fresh = (b : ℕ) → IsTrue (has_number blocks b) → IsTrue (has_number (i ∷ fresh) b)

-- whatever the blocks are new in, a stop leaves it aside, and it goes on being made
abbrev pub AsideWith : ℕ → List ℕ → World → World → Type 0
AsideWith root blocks begun w =
    (first : World) (d i : ℕ) (shared fresh : List ℕ) → Stage root first d → Making root first d i shared fresh begun
    → AreNew blocks i fresh → IsAside root first w

abbrev pub MadeWith : ℕ → List ℕ → World → World → Type 0
MadeWith root blocks begun w =
    (first : World) (d i : ℕ) (shared fresh : List ℕ) → Stage root first d → Making root first d i shared fresh begun
    → AreNew blocks i fresh → Making root first d i shared fresh w

-- the blocks were written
pub record WroteIn (root : ℕ) (old new : World) (blocks bytes : List ℕ) : Type 0 where
  pub geometry : new.geometry ≡ old.geometry
  pub holds : HoldBytes (block_len old.geometry) new blocks bytes
  pub others : (b : ℕ) → has_number blocks b ≡ false → contents new b ≡ contents old b
  pub making : MadeWith root blocks old new

pub record Wrote (c : Client) (old new : DiskView) (blocks bytes : List ℕ) : Type 0 where
  pub here : WroteIn c.root old.world new.world blocks bytes
  pub may : (b : ℕ) → MayWrite c old b → MayWrite c new b

-- ---- a new inode gets blocks

-- whatever the inode is new in, where it is to share blocks that the root reaches there, a stop leaves it aside
abbrev pub AsideOf : ℕ → ℕ → List ℕ → World → World → Type 0
AsideOf root i shared begun w = (first : World) (d : ℕ) → Stage root first d → Making root first d i [] [] begun
    → RootReaches root first shared → IsAside root first w

-- blocks are taken for an inode that shares these already
abbrev pub AsideTaking : ℕ → ℕ → World → World → Type 0
AsideTaking root i begun w = (first : World) (d : ℕ) (shared : List ℕ) → Stage root first d
    → Making root first d i shared [] begun → IsAside root first w

pub record Took (c : Client) (old new : DiskView) (i count : ℕ) (blocks : List ℕ) : Type 0 where
  pub geometry : new.world.geometry ≡ old.world.geometry
  pub apart : IsTrue (are_apart blocks)
  pub making : (first : World) (d : ℕ) (shared : List ℕ) → Stage c.root first d
      → Making c.root first d i shared [] old.world → Making c.root first d i shared blocks new.world
  pub may : (b : ℕ) → MayWrite c old b → MayWrite c new b
  pub parts : (b : ℕ) → IsTrue (has_number blocks b) → MayWrite c new b

-- the inode points to these blocks more, of which it pointed to none
pub record Shared (c : Client) (old new : DiskView) (i : ℕ) (blocks : List ℕ) : Type 0 where
  pub geometry : new.world.geometry ≡ old.world.geometry
  pub same : new.world.blocks ≡ old.world.blocks
  pub pairs : length new.world.pairs ≡ length old.world.pairs + length blocks
  pub making : (first : World) (d : ℕ) → Stage c.root first d → Making c.root first d i [] [] old.world
      → RootReaches c.root first blocks → Making c.root first d i blocks [] new.world
  pub may : (b : ℕ) → MayWrite c old b → MayWrite c new b

-- Room was wanting: the inode shares some of these blocks, and is in the making still.
pub record Stopped (c : Client) (old new : DiskView) (i : ℕ) (blocks : List ℕ) : Type 0 where
  pub geometry : new.world.geometry ≡ old.world.geometry
  pub making : (first : World) (d : ℕ) → Stage c.root first d → Making c.root first d i [] [] old.world
      → RootReaches c.root first blocks
      → (shared : List ℕ) × Making c.root first d i shared [] new.world
  pub may : (b : ℕ) → MayWrite c old b → MayWrite c new b

-- ---- the file

-- the bytes of blocks in a row, and these behind them
abbrev pub joined : World → List ℕ → List ℕ → List ℕ
joined w blocks bytes = flat_map (bytes_at w) blocks ++ bytes

-- In block i the inode of a file of this size stands, which shares these blocks; its fresh blocks hold the bytes behind
-- theirs. All are as many as its size takes.
pub record IsFilledFile (root : ℕ) (first : World) (d i size : ℕ) (shared bytes : List ℕ) (w : World) : Type 0 where
  pub fresh : List ℕ
  pub making : Making root first d i shared fresh w
  pub says : inode_at w i ≡ Some (regular size (shared ++ fresh))
  pub many : length (shared ++ fresh) ≡ div_ceil size (block_len w.geometry)
  pub bytes_are : file_bytes w (record { block = i; size = size; blocks = shared ++ fresh })
      ≡ take size (joined first shared bytes)

pub record Filled (c : Client) (old new : DiskView) (i size : ℕ) (shared bytes : List ℕ) : Type 0 where
  pub geometry : new.world.geometry ≡ old.world.geometry
  pub file : (first : World) (d : ℕ) → Stage c.root first d → Making c.root first d i [] [] old.world
      → RootReaches c.root first shared → IsFilledFile c.root first d i size shared bytes new.world
  pub may : (b : ℕ) → MayWrite c old b → MayWrite c new b
