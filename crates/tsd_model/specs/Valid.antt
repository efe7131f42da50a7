-- Valid worlds.
use Rattle.std.specs.Prelude.{◌≡◌, ℕ, ◌<◌, ◌≤◌, ◌⊎◌, length, IfSome, IsTrue}
use Rattle.std.specs.List.{list_all}
use Rattle.tsd_model.specs.Geometry.{IsLawful, block_len}
use Rattle.tsd_model.specs.Pairs.{holds, is_rising}
use Rattle.tsd_model.specs.Records.{is_record_of}
use Rattle.tsd_model.specs.World.{World, contents, is_live}

-- The parts of a world have the sizes that its geometry says.
pub record IsSized (w : World) : Type 0 where
  pub lawful : IsLawful w.geometry
  pub each_block : length w.blocks ≡ w.geometry.blocks
  pub full : (b : ℕ) → IfSome (contents w b) (λ bytes. length bytes ≡ block_len w.geometry)
  pub room : length w.pairs ≤ w.geometry.slots

-- What the pointers, the live blocks and the records of a world have to do with each other. Blocks may still be lost:
-- live, and with no pair to them.
pub record IsRaw (w : World) : Type 0 where
  pub sized : IsSized w
  pub version : (w.version ≡ 1) ⊎ (w.version ≡ 2)
  pub each_record : length w.records ≡ w.geometry.primaries
  pub of_version : IsTrue (list_all (is_record_of w.version) w.records)
  -- the pairs ascend, none twice
  pub rising : IsTrue (is_rising w.pairs)
  -- the primary blocks are live
  pub primaries : (b : ℕ) → b < w.geometry.primaries → IsTrue (is_live w b)
  -- both ends of each pair are live, and no target is primary
  pub sources : (a b : ℕ) → IsTrue (holds w.pairs a b) → IsTrue (is_live w a)
  pub targets : (a b : ℕ) → IsTrue (holds w.pairs a b) → IsTrue (is_live w b)
  pub apart : (a b : ℕ) → IsTrue (holds w.pairs a b) → w.geometry.primaries ≤ b

-- A valid world has no lost blocks.
pub record IsValid (w : World) : Type 0 where
  pub raw : IsRaw w
  -- each live block that isn't primary is the target of a pair
  pub led_to : (b : ℕ) → w.geometry.primaries ≤ b → IsTrue (is_live w b) → (a : ℕ) × IsTrue (holds w.pairs a b)
