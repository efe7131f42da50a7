-- A file that gets longer.
use Rattle.std.specs.Prelude.{◌≡◌, ℕ, List, [], ◌∷◌, ◌++◌, length, Some}
use Rattle.std.specs.Int.{div_ceil}
use Rattle.tsd_model.specs.Geometry.{block_len}
use Rattle.fs_trees.specs.Names.{Path}
use Rattle.fs_trees.specs.Cluster.{bytes_room}
use Rattle.fs_trees.specs.ChainTree.{Link, ChainFile, blocks_of, Chains, chains_under}
use Rattle.fs_port.specs.View.{DiskView}
use Rattle.fs_client.specs.declared.client.Client.{Client}
use Rattle.fs_client.specs.May.{MayWrite}
use Rattle.chain_layout.specs.Block.{cluster_of}
use Rattle.chain_layout.specs.Held.{part_cluster}
use Rattle.chain_reading.specs.Chained.{IsFrom}
use Rattle.chain_reading.specs.declared.walking.Part.{Part}
use Rattle.chain_reading.specs.Standing.{IsPartOfRoot}
use Rattle.chain_changes.specs.Making.{Making}
use Rattle.tsd_model.specs.Placing.{first_block}
use Rattle.chain_changes.specs.Filling.{ArePartsOf}

-- a cluster of a file that was read, as one of its chain
abbrev pub part_link : Part → Link
part_link part = record { block = part.block; cluster = cluster_of (part_cluster part.cluster) }

-- it is the last cluster of a chain; it was read, and the session may write it
pub record IsLastCluster (c : Client) (v : DiskView) (ls : List Link) (part : Part) : Type 0 where
  pub before : List Link
  pub parts : ls ≡ before ++ (part_link part ∷ [])
  pub read : IsPartOfRoot v.world part.block part
  pub may : MayWrite c v part.block

-- it is the last cluster of the file at a path
pub record IsLastOf (c : Client) (v : DiskView) (path : Path) (part : Part) : Type 0 where
  pub chains : Chains
  pub under : chains_under v.world c.root ≡ Some chains
  pub front : List ChainFile
  pub file : ChainFile
  pub back : List ChainFile
  pub among : chains.files ≡ front ++ (file ∷ back)
  pub named : path ≡ file.name ∷ []
  pub last : IsLastCluster c v file.chain part

-- how many clusters such bytes take in blocks of this length
abbrev pub clusters_more : ℕ → List ℕ → ℕ
clusters_more len bytes = div_ceil (length bytes) (bytes_room len)

-- under a source stand the further clusters of a file, with these bytes
pub record NewTail (c : Client) (old new : DiskView) (source : ℕ) (bytes blocks : List ℕ) : Type 0 where
  pub making : Making c.root old.world source blocks new.world
  pub many : length blocks ≡ clusters_more (block_len old.world.geometry) bytes
  pub links : List Link
  pub blocks_are : blocks_of links ≡ blocks
  pub from : IsFrom new.world (first_block blocks) links
  pub parts : ArePartsOf (bytes_room (block_len old.world.geometry)) bytes links
  pub may : (b : ℕ) → MayWrite c old b → MayWrite c new b
