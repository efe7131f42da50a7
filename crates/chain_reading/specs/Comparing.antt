-- Names of the directory that are compared.
use Rattle.std.specs.Prelude.{◌≡◌, ℕ, ◌≤◌, Bool, not, ◌&&◌, List, ◌++◌, length}
use Rattle.std.specs.List.{list_any}
use Rattle.tsd_model.specs.Geometry.{block_len}
use Rattle.fs_trees.specs.Names.{Name, are_distinct}
use Rattle.fs_trees.specs.ChainTree.{Link}
use Rattle.fs_port.specs.View.{DiskView}
use Rattle.fs_client.specs.declared.client.Client.{Client}
use Rattle.chain_layout.specs.Listed.{is_among}
use Rattle.chain_reading.specs.Chained.{PlacedEntry, AreEntries}
use Rattle.chain_reading.specs.Standing.{IsAhead}

-- clusters of the directory from a block on, that are still to be read, with their entries
pub record ArePagesAhead (c : Client) (v : DiskView) (b : ℕ) (ls : List Link) (ps : List PlacedEntry) : Type 0 where
  pub ahead : IsAhead c v b ls
  pub entries : AreEntries (block_len v.world.geometry) ls ps
  pub short : length ls ≤ v.world.geometry.blocks

abbrev pub HasPages : Client → DiskView → ℕ → Type 0
HasPages c v b = (ls : List Link) × (ps : List PlacedEntry) × ArePagesAhead c v b ls ps

-- none of these names is among the others
abbrev pub are_apart_from : List Name → List Name → Bool
are_apart_from ms ns = not (list_any (is_among ns) ms)

-- these names come first, and the result tells whether each of them stands once
abbrev pub AreFirstDistinct : List Name → List Name → Bool → Type 0
AreFirstDistinct first all result = (ns : List Name) × (all ≡ first ++ ns)
    × (result ≡ (are_distinct first && are_apart_from first ns))
