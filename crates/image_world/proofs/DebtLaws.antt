-- What tables tell of the debt of an image.
use Rattle.std.proofs.Common.{◌≡◌, ℕ, ◌+◌, List, length, sym, ap}
use Rattle.image_world.proofs.Common.{World, told_has_graph, Image, home, AreAlike, graph_in, owed, debt, HasHeader, world_with, data_on, raw_of, Tables, pairs_of, tables_of}
use Rattle.graph_laws.specs.Counts.{doomed_size}
use Rattle.graph_laws.specs.Graph.{HasGraphOf}
use Rattle.graph_laws.proofs.SameGraphLaws.{doomed_by_graph, doomed_pairs_by_graph}
use Rattle.image_world.proofs.AlikeLaws.{alike_tables}

-- whatever the bytes are
pub world_graph : (t : Tables) (c : ℕ → List ℕ) → HasGraphOf (world_with t c) (graph_in t)
unfolding world_with
world_graph t c = told_has_graph t.geometry t.live (pairs_of t) c t.version t.records

doomed_by : (v w : World) → HasGraphOf v w → doomed_size v ≡ doomed_size w
doomed_by v w same = λ i. length (doomed_by_graph v w same i) + length (doomed_pairs_by_graph v w same i)

pub debt_is_doomed : (image : Image) → debt image ≡ doomed_size (raw_of (home image))
debt_is_doomed image = let t = tables_of (home image) in sym (doomed_by (raw_of (home image)) (graph_in t) (world_graph t (data_on (home image))))

pub debt_alike : (image y : Image) → HasHeader (home image) → AreAlike (home image) (home y) → debt y ≡ debt image
debt_alike image y header alike = ap owed (alike_tables (home image) (home y) header alike)
