-- What tables know of a raw world: its size, its live blocks and its pairs.
use Rattle.std.specs.Prelude.{◌≡◌, ℕ, ◌<◌, ◌≤◌, length, IsTrue}
use Rattle.tsd_model.specs.Geometry.{IsLawful}
use Rattle.tsd_model.specs.Pairs.{holds, is_rising}
use Rattle.tsd_model.specs.World.{World, is_live}

-- An entry for each block, and pairs that ascend, none twice.
pub record IsLaidOut (w : World) : Type 0 where
  pub each_block : length w.blocks ≡ w.geometry.blocks
  pub rising : IsTrue (is_rising w.pairs)

-- All that a raw world says of its graph; its bytes, its version and its records may be any.
pub record IsRawGraph (w : World) : Type 0 where
  pub laid_out : IsLaidOut w
  pub lawful : IsLawful w.geometry
  pub room : length w.pairs ≤ w.geometry.slots
  -- the primary blocks are live
  pub primaries : (b : ℕ) → b < w.geometry.primaries → IsTrue (is_live w b)
  -- both ends of each pair are live, and no target is primary
  pub sources : (a b : ℕ) → IsTrue (holds w.pairs a b) → IsTrue (is_live w a)
  pub targets : (a b : ℕ) → IsTrue (holds w.pairs a b) → IsTrue (is_live w b)
  pub apart : (a b : ℕ) → IsTrue (holds w.pairs a b) → w.geometry.primaries ≤ b
