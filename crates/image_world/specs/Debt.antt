-- What is still to be reclaimed.
use Rattle.std.specs.Prelude.{◌≡◌, ℕ}
use Rattle.tsd_model.specs.World.{World}
use Rattle.graph_laws.specs.Counts.{doomed_size}
use Rattle.graph_laws.specs.Graph.{graph}
use Rattle.image_layout.specs.Image.{Image}
use Rattle.intent_journal.specs.Home.{home}
use Rattle.image_world.specs.Tables.{Tables, tables_of, pairs_of}
use Rattle.image_world.specs.Raw.{raw_of}

-- the world of the live blocks and the pairs
abbrev pub graph_in : Tables → World
graph_in t = graph t.geometry t.live (pairs_of t)

-- what tables owe: the doomed blocks and the pairs from them
abbrev pub owed : Tables → ℕ
owed t = doomed_size (graph_in t)

-- what an image owes once its records are in place
abbrev pub debt : Image → ℕ
debt image = owed (tables_of (home image))

-- ---- laws

-- An image owes what is doomed in its raw world.
abbrev pub DebtIsDoomed : Type 0
DebtIsDoomed = (image : Image) → debt image ≡ doomed_size (raw_of (home image))
