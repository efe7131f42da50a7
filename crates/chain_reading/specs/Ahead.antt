-- A file, or the directory, that is still to be read.
use Rattle.std.specs.Prelude.{◌≡◌, ℕ, ◌≤◌, true, List, length}
use Rattle.tsd_model.specs.Geometry.{block_len}
use Rattle.fs_trees.specs.Cluster.{bytes_room}
use Rattle.fs_trees.specs.ChainTree.{Link, is_filled}
use Rattle.fs_port.specs.View.{DiskView}
use Rattle.fs_client.specs.declared.client.Client.{Client}
use Rattle.chain_reading.specs.Chained.{PlacedEntry, AreEntries}
use Rattle.chain_reading.specs.Standing.{IsAhead}

-- a whole file begins at this block
pub record IsFileAhead (c : Client) (v : DiskView) (b : ℕ) (ls : List Link) : Type 0 where
  pub ahead : IsAhead c v b ls
  pub filled : is_filled (bytes_room (block_len v.world.geometry)) ls ≡ true
  pub short : length ls ≤ v.world.geometry.blocks

abbrev pub HasFile : Client → DiskView → ℕ → Type 0
HasFile c v b = (ls : List Link) × IsFileAhead c v b ls

-- the directory begins at the root
pub record IsDirectoryAhead (c : Client) (v : DiskView) (ls : List Link) (ps : List PlacedEntry) : Type 0 where
  pub ahead : IsAhead c v c.root ls
  pub entries : AreEntries (block_len v.world.geometry) ls ps
  pub short : length ls ≤ v.world.geometry.blocks

abbrev pub HasDirectory : Client → DiskView → Type 0
HasDirectory c v = (ls : List Link) × (ps : List PlacedEntry) × IsDirectoryAhead c v ls ps
