-- What the calls that make a chain leave.
use Rattle.std.specs.Prelude.{◌≡◌, ℕ, ◌+◌, ◌^◌, ◌<◌, false, List, [], ◌∷◌, length, take, drop}
use Rattle.std.specs.Prelude.{IsTrue}
use Rattle.tsd_model.specs.Placing.{first_block}
use Rattle.tsd_model.specs.Geometry.{block_len}
use Rattle.tsd_model.specs.World.{World, contents, has_number}
use Rattle.fs_trees.specs.Cluster.{bytes_room}
use Rattle.fs_trees.specs.ChainTree.{Link, blocks_of, is_filled, chain_bytes}
use Rattle.fs_trees.specs.Needs.{clusters_for}
use Rattle.fs_port.specs.View.{DiskView}
use Rattle.fs_client.specs.declared.client.Client.{Client}
use Rattle.fs_client.specs.May.{MayWrite}
use Rattle.chain_reading.specs.Chained.{IsFrom}
use Rattle.chain_changes.specs.Making.{Making, Stage, IsAside}

-- ---- new blocks

-- each can be named in the head of a cluster
abbrev pub AreLinkable : List ℕ → Type 0
AreLinkable blocks = (b : ℕ) → IsTrue (has_number blocks b) → b + 1 < 2 ^ 32

-- so many new blocks hang from the source, and all that might be written still may, and they
pub record NewChain (c : Client) (old new : DiskView) (source count : ℕ) (blocks : List ℕ) : Type 0 where
  pub making : Making c.root old.world source blocks new.world
  pub many : length blocks ≡ count
  pub may : (b : ℕ) → MayWrite c old b → MayWrite c new b
  pub own : (b : ℕ) → IsTrue (has_number blocks b) → MayWrite c new b

-- ---- a chain that is given up

-- it is in the making since some world
abbrev pub IsInMaking : ℕ → ℕ → List ℕ → World → Type 0
IsInMaking root source blocks begun = (first : World) × Stage root first source × Making root first source blocks begun

-- whatever world it is in the making since, a stop leaves it aside, or that world is back
abbrev pub AsideOf : ℕ → ℕ → List ℕ → World → World → Type 0
AsideOf root source blocks begun w = (first : World) → Stage root first source → Making root first source blocks begun
    → IsAside root first w

abbrev pub IsBackFrom : ℕ → ℕ → List ℕ → World → World → Type 0
IsBackFrom root source blocks begun w = (first : World) → Stage root first source
    → Making root first source blocks begun → w ≡ first

-- ---- their bytes

-- these are among the new blocks
abbrev pub AreNew : List ℕ → List ℕ → Type 0
AreNew written blocks = (b : ℕ) → IsTrue (has_number written b) → IsTrue (has_number blocks b)

-- whatever chain they are new in, a stop leaves it aside, and it goes on being made
abbrev pub AsideWith : ℕ → List ℕ → World → World → Type 0
AsideWith root written begun w =
    (first : World) (source : ℕ) (blocks : List ℕ) → Stage root first source → Making root first source blocks begun
    → AreNew written blocks → IsAside root first w

abbrev pub MadeWith : ℕ → List ℕ → World → World → Type 0
MadeWith root written begun w =
    (first : World) (source : ℕ) (blocks : List ℕ) → Stage root first source → Making root first source blocks begun
    → AreNew written blocks → Making root first source blocks w

-- the clusters hold the bytes, each its part in turn: as many as there is room for
abbrev pub ArePartsOf : ℕ → List ℕ → List Link → Type 0
ArePartsOf room bytes [] = bytes ≡ []
ArePartsOf room bytes (l ∷ ls) = (l.cluster.used ≡ length (take room bytes))
    × (take l.cluster.used l.cluster.body ≡ take room bytes) × ArePartsOf room (drop room bytes) ls

-- in the blocks stand the clusters of a chain that holds the bytes
pub record WroteIn (root : ℕ) (old new : World) (blocks bytes : List ℕ) : Type 0 where
  pub geometry : new.geometry ≡ old.geometry
  pub links : List Link
  pub blocks_are : blocks_of links ≡ blocks
  pub from : IsFrom new (first_block blocks) links
  pub parts : ArePartsOf (bytes_room (block_len old.geometry)) bytes links
  pub others : (b : ℕ) → has_number blocks b ≡ false → contents new b ≡ contents old b
  pub making : MadeWith root blocks old new

pub record Wrote (c : Client) (old new : DiskView) (blocks bytes : List ℕ) : Type 0 where
  pub here : WroteIn c.root old.world new.world blocks bytes
  pub may : (b : ℕ) → MayWrite c old b → MayWrite c new b

-- ---- a file

-- Under the source stands a new file, behind so many blocks of the chain that aren't written yet.
pub record NewFile (c : Client) (old new : DiskView) (source ahead : ℕ) (bytes blocks : List ℕ) : Type 0 where
  pub making : Making c.root old.world source blocks new.world
  pub many : length blocks ≡ clusters_for old.world.geometry (length bytes) + ahead
  pub links : List Link
  pub blocks_are : blocks_of links ≡ drop ahead blocks
  pub from : IsFrom new.world (first_block (drop ahead blocks)) links
  pub filled : IsTrue (is_filled (bytes_room (block_len old.world.geometry)) links)
  pub holds : chain_bytes links ≡ bytes
  pub may : (b : ℕ) → MayWrite c old b → MayWrite c new b
  pub own : (b : ℕ) → IsTrue (has_number blocks b) → MayWrite c new b
