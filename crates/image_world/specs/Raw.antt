-- The world that sectors say, before what is lost is taken away, and after.
use Rattle.std.specs.Prelude.{ℕ, cond, List}
use Rattle.tsd_model.specs.World.{World}
use Rattle.tsd_model.specs.Doomed.{settle}
use Rattle.tsd_model.specs.Reach.{swept}
use Rattle.image_layout.specs.Image.{Image, data_bytes}
use Rattle.graph_laws.specs.Graph.{zeros_in}
use Rattle.graph_laws.specs.Graph.{world_with as world_of_parts}
use Rattle.image_world.specs.Tables.{Tables, pairs_of, tables_of}

-- the world of these tables whose live blocks contain these bytes
unfoldable pub world_with : Tables → (ℕ → List ℕ) → World
world_with t contents = world_of_parts t.geometry t.live (pairs_of t) contents t.version t.records

-- what is left of it: the swept world where a sweep has begun and not ended, else the settled one
unfoldable pub left_of : Tables → World → World
left_of t w = cond t.is_sweeping (swept w) (settle w)

-- the bytes that the sectors have for a block
abbrev pub data_on : Image → ℕ → List ℕ
data_on x b = data_bytes x (tables_of x).geometry b

-- the world that the sectors say
abbrev pub raw_of : Image → World
raw_of x = world_with (tables_of x) (data_on x)

-- a block of zeros
abbrev pub zeros_of : Tables → ℕ → List ℕ
zeros_of t = zeros_in t.geometry

-- what tables alone tell of their world: each live block counts as zeros
abbrev pub blank_of : Tables → World
blank_of t = left_of t (world_with t (zeros_of t))
