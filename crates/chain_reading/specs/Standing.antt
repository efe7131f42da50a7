-- Clusters as they stand on the disk, and what is left of a chain.
use Rattle.std.specs.Prelude.{◌≡◌, ℕ, List, Bool, true, false, nat_le, Option, Some}
use Rattle.std.specs.Option.{option_and_then, option_map_or}
use Rattle.tsd_model.specs.Geometry.{block_len}
use Rattle.tsd_model.specs.World.{World}
use Rattle.tsd_model.specs.Pairs.{holds}
use Rattle.fs_trees.specs.Fields.{Entry}
use Rattle.fs_trees.specs.Cluster.{entries_of, bytes_room}
use Rattle.fs_trees.specs.ChainTree.{Link, cluster_at, blocks_of, links}
use Rattle.fs_port.specs.View.{DiskView}
use Rattle.fs_client.specs.declared.client.Client.{Client}
use Rattle.fs_client.specs.May.{MayWrite}
use Rattle.chain_layout.specs.Block.{cluster_of, block_len_of}
use Rattle.chain_layout.specs.Held.{dir_cluster, entries_in, part_cluster}
use Rattle.chain_layout.specs.declared.cluster.Cluster.{Cluster}
use Rattle.chain_reading.specs.Chained.{IsFrom}
use Rattle.chain_reading.specs.declared.walking.Page.{Page}
use Rattle.chain_reading.specs.declared.walking.Part.{Part}

-- the entries of a cluster of the directory in a block, where it is one
abbrev pub entries_at : World → ℕ → Option (List Entry)
entries_at w b = option_and_then (entries_of (block_len w.geometry)) (cluster_at w b)

-- a cluster in a block, where there is room for its bytes
abbrev pub has_part : World → ℕ → Bool
has_part w b = option_map_or (λ c. nat_le c.used (bytes_room (block_len w.geometry))) (cluster_at w b) false

-- it was read from this block
pub record IsRead (w : World) (b : ℕ) (c : Cluster) : Type 0 where
  pub says : cluster_at w b ≡ Some (cluster_of c)
  pub whole : block_len_of c ≡ block_len w.geometry

pub record IsPage (w : World) (b : ℕ) (page : Page) : Type 0 where
  pub block : page.block ≡ b
  pub read : IsRead w b (dir_cluster page.cluster)
  pub entries : entries_at w b ≡ Some (entries_in page.cluster)

pub record IsPartOfRoot (w : World) (b : ℕ) (part : Part) : Type 0 where
  pub block : part.block ≡ b
  pub read : IsRead w b (part_cluster part.cluster)

-- Of a chain these clusters are left, from this block on: each is pointed to by the one before, and the session may
-- write the first.
pub record IsAhead (c : Client) (v : DiskView) (b : ℕ) (ls : List Link) : Type 0 where
  pub rest : IsFrom v.world (Some b) ls
  pub held : (x y : ℕ) → holds (links (blocks_of ls)) x y ≡ true → holds v.world.pairs x y ≡ true
  pub may : MayWrite c v b
