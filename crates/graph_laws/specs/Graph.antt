-- Worlds of one graph, and the world that tables tell which know no bytes.
use Rattle.std.specs.Prelude.{◌≡◌, ℕ, ◌<◌, Bool, false, cond, List, [], map, replicate, length, slice_index_or, Some}
use Rattle.std.specs.Prelude.{None}
use Rattle.std.specs.List.{range_with_len}
use Rattle.tsd_model.specs.Geometry.{block_len}
use Rattle.tsd_model.specs.World.{World, is_live, free_count}
use Rattle.tsd_model.specs.Reach.{reach, swept}
use Rattle.tsd_model.specs.Doomed.{doomed, settle}
use Rattle.tsd_model.specs.Valid.{IsRaw}
use Rattle.tsd_model.specs.declared.geometry.Geometry.{Geometry}
use Rattle.tsd_model.specs.declared.records.KeptCap.TheVariants.{Digested}
use Rattle.tsd_model.specs.declared.records.Record.{Record}
use Rattle.disk_laws.specs.Bytes.{AreLike}
use Rattle.graph_laws.specs.Counts.{kept_count, doomed_pairs}
use Rattle.graph_laws.specs.RawGraph.{IsRawGraph}
use Rattle.graph_laws.specs.Steps.{stepped, IsStep, IsLost}

-- both have one graph: the size, the live blocks and the pairs
pub record HasGraphOf (v w : World) : Type 0 where
  pub geometry : v.geometry ≡ w.geometry
  pub each_block : length v.blocks ≡ length w.blocks
  pub live : (b : ℕ) → is_live v b ≡ is_live w b
  pub pairs : v.pairs ≡ w.pairs

-- the world of these live blocks, each with its bytes, and these pairs
abbrev pub world_with : Geometry → List Bool → List (ℕ × ℕ) → (ℕ → List ℕ) → ℕ → List Record → World
world_with g live pairs bytes version records = record {
  geometry = g;
  version = version;
  blocks = map (λ b. cond (slice_index_or live b false) (Some (bytes b)) None) (range_with_len 0 g.blocks);
  pairs = pairs;
  records = records;
}

-- a block of zeros, whichever it is
abbrev pub zeros_in : Geometry → ℕ → List ℕ
zeros_in g b = replicate (block_len g) 0

abbrev pub no_record : Record
no_record = record { read = Digested []; write = Digested [] }

-- what tables tell that know neither bytes nor records: live blocks contain zeros
abbrev pub graph : Geometry → List Bool → List (ℕ × ℕ) → World
graph g live pairs = world_with g live pairs (zeros_in g) 2 (replicate g.primaries no_record)

-- ---- laws

-- Whatever the bytes, the version and the records are, the graph is one.
abbrev pub BytesTellNoGraph : Type 0
BytesTellNoGraph =
    (g : Geometry) (live : List Bool) (pairs : List (ℕ × ℕ)) (bytes : ℕ → List ℕ) (version : ℕ) (records : List Record)
    → HasGraphOf (world_with g live pairs bytes version records) (graph g live pairs)

-- What tells the live blocks of a raw graph, with its pairs, tells a raw world of that graph.
abbrev pub GraphIsRaw : Type 0
GraphIsRaw =
    (w : World) (live : List Bool) → IsRawGraph w
    → ((b : ℕ) → b < w.geometry.blocks → slice_index_or live b false ≡ is_live w b)
    → IsRaw (graph w.geometry live w.pairs) × HasGraphOf (graph w.geometry live w.pairs) w

-- Worlds of one graph have as many free blocks, the same blocks doomed, reached and lost, the same counts and the same
-- steps.
pub record AreAsOne (v w : World) : Type 0 where
  pub raw : IsRawGraph v → IsRawGraph w
  pub free : free_count v ≡ free_count w
  pub doomed : doomed v ≡ doomed w
  pub pairs : doomed_pairs v ≡ doomed_pairs w
  pub counts : (b : ℕ) → kept_count v b ≡ kept_count w b
  pub reach : reach v ≡ reach w
  pub lost : (b : ℕ) → IsLost v b → IsLost w b
  pub step : (a : ℕ) (targets : List ℕ) (freed : Bool) → IsStep v a targets freed → IsStep w a targets freed

abbrev pub GraphTells : Type 0
GraphTells = (v w : World) → HasGraphOf v w → AreAsOne v w

-- They have one graph then, once settled, swept or after a step.
pub record StayAsOne (v w : World) : Type 0 where
  pub settled : HasGraphOf (settle v) (settle w)
  pub swept : HasGraphOf (swept v) (swept w)
  pub stepped : (a : ℕ) (targets : List ℕ) (freed : Bool)
      → HasGraphOf (stepped v a targets freed) (stepped w a targets freed)

abbrev pub GraphStays : Type 0
GraphStays = (v w : World) → HasGraphOf v w → StayAsOne v w

-- Worlds that differ in bytes alone have one graph, and settle and sweep to worlds that differ in bytes alone.
abbrev pub BytesStayApart : Type 0
BytesStayApart = (v w : World) → AreLike v w → HasGraphOf v w × AreLike (settle v) (settle w)
    × AreLike (swept v) (swept w)
