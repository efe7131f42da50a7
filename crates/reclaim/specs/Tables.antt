-- The graph that the tables of a disk tell.
use Rattle.std.specs.Prelude.{◌≡◌, ℕ, ◌&&◌, ◌==◌, nat_le, Bool, List, slice_index, IsTrue, ◌↔◌}
use Rattle.tsd_model.specs.World.{World, has_number}
use Rattle.pointer_table.specs.Table.{Table, pairs}
use Rattle.ref_counts.specs.Table.{Table as Counts}
use Rattle.block_alloc.specs.LiveMap.{LiveMap, is_live}
use Rattle.graph_laws.specs.Counts.{AreCounts}
use Rattle.graph_laws.specs.Graph.{graph}
use Rattle.graph_laws.specs.RawGraph.{IsRawGraph}
use Rattle.graph_laws.specs.Steps.{IsLost}
use Rattle.reclaim.specs.Held.{HeldTargets}

-- the world of the live blocks and the pairs
abbrev pub graph_of : Table → LiveMap → World
graph_of pointers live = graph pointers.geometry live.live (pairs pointers)

-- The tables are of one disk, and tell a raw graph.
pub record AreTables (pointers : Table) (live : LiveMap) : Type 0 where
  pub geometry : live.geometry ≡ pointers.geometry
  pub raw : IsRawGraph (graph_of pointers live)

-- The counts are those of the pairs.
pub record HaveCounts (pointers : Table) (live : LiveMap) (counts : Counts) : Type 0 where
  pub geometry : counts.geometry ≡ pointers.geometry
  pub each : AreCounts counts.counts (graph_of pointers live)

-- Exactly the lost blocks are held.
abbrev pub HoldsLost : World → HeldTargets → Type 0
HoldsLost w h = (b : ℕ) → IsTrue (has_number h.blocks b) ↔ IsLost w b

-- live, not primary, and of count 0
abbrev pub is_uncounted : List Bool → List ℕ → ℕ → ℕ → Bool
is_uncounted live counts primaries b = (nat_le primaries b && is_live live b) && (slice_index counts b == 0)
