-- What a name stands for, as it was looked up.
use Rattle.std.specs.Prelude.{◌≡◌, List, Some}
use Rattle.tsd_model.specs.Geometry.{block_len}
use Rattle.fs_trees.specs.Names.{Name}
use Rattle.fs_trees.specs.ChainTree.{Chains, chains_under}
use Rattle.fs_port.specs.View.{DiskView}
use Rattle.fs_client.specs.declared.client.Client.{Client}
use Rattle.chain_reading.specs.Chained.{PlacedEntry, AreEntries}
use Rattle.chain_reading.specs.Finding.{IsNameFound}
use Rattle.chain_reading.specs.declared.finding.Lookup.{Lookup}

-- among the chains under the client's root it was found to stand at this position, or to be free
pub record IsLookupOf (c : Client) (v : DiskView) (n : Name) (position : Lookup) : Type 0 where
  pub chains : Chains
  pub under : chains_under v.world c.root ≡ Some chains
  pub found : (ps : List PlacedEntry) → AreEntries (block_len v.world.geometry) chains.directory ps
      → IsNameFound c v n chains.directory ps position
