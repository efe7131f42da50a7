-- A new inode under a directory: it is begun, and it is given up.
use Rattle.std.specs.Prelude.{◌≡◌, ℕ, ◌+◌, List, [], length, Err}
use Rattle.tsd_model.specs.World.{World, free_count}
use Rattle.fs_trees.specs.declared.refusal.FsRefusal.{FsRefusal}
use Rattle.fs_port.specs.View.{DiskView}
use Rattle.fs_client.specs.declared.client.Client.{Client}
use Rattle.fs_client.specs.May.{MayWrite}
use Rattle.fs_port.specs.Runs.{Runs}
use Rattle.inode_changes.specs.Making.{Making}
use Rattle.inode_changes.specs.Filling.{Stage, IsAside}

-- a block was taken for a new inode of the directory in block d
pub record HasNewInode (c : Client) (old new : DiskView) (d i : ℕ) : Type 0 where
  pub making : Making c.root old.world d i [] [] new.world
  pub geometry : new.world.geometry ≡ old.world.geometry
  pub pairs : length new.world.pairs ≡ length old.world.pairs + 1
  pub blocks : free_count new.world + 1 ≡ free_count old.world
  pub may : (b : ℕ) → MayWrite c old b → MayWrite c new b
  pub inode : MayWrite c new i

-- whatever was made of the inode in block i, the world is what it was before that was begun
abbrev pub IsBack : ℕ → ℕ → ℕ → World → World → Type 0
IsBack root d i made w = (first : World) (shared fresh : List ℕ) → Stage root first d
    → Making root first d i shared fresh made → w ≡ first

-- a stop leaves it aside
abbrev pub AsideOr : ℕ → ℕ → ℕ → World → World → Type 0
AsideOr root d i made w = (first : World) (shared fresh : List ℕ) → Stage root first d
    → Making root first d i shared fresh made → IsAside root first w

-- what holds of a call that gives a refusal in any case
abbrev pub IsRefusedSo : Type 0 → DiskView → DiskView → (World → Type 0) → FsRefusal → Type 0
IsRefusedSo told old new P e = Runs {X = Unit {0}} told old new P (Err e)
