-- Batches that turn tables into others.
use Rattle.std.specs.Prelude.{◌≡◌, ℕ, ◌≤◌, List}
use Rattle.image_layout.specs.Areas.{format_gate, data_start}
use Rattle.image_layout.specs.Image.{Image}
use Rattle.image_layout.specs.declared.offset.Patch.{Patch}
use Rattle.intent_journal.specs.Home.{home, overlaid, is_journal, AgreeBut}
use Rattle.image_world.specs.Faults.{HasJournal, IsGood}
use Rattle.image_world.specs.Raw.{world_with, left_of, data_on, raw_of}
use Rattle.image_world.specs.Sound.{HasTables, AreSound}
use Rattle.image_world.specs.Stands.{Stands}
use Rattle.image_world.specs.Tables.{Tables, tables_of}

-- A batch that turns tables into others, and leaves the blocks' data and the format gate.
pub record Turns (old new : Tables) (batch : List Patch) : Type 0 where
  pub sound : AreSound new
  pub size : new.geometry ≡ old.geometry
  pub has : (z : Image) → HasTables old z → HasTables new (overlaid batch z)
  pub contents : (z : Image) (n : ℕ) → data_start old.geometry ≤ n → overlaid batch z n ≡ z n
  pub gate : (z : Image) → overlaid batch z format_gate ≡ z format_gate

-- The image y has these tables and the bytes of another one.
pub record IsTurned (t : Tables) (image y : Image) : Type 0 where
  pub tables : tables_of (home y) ≡ t
  pub raw : raw_of (home y) ≡ world_with t (data_on (home image))
  pub stands : Stands y (left_of t (world_with t (data_on (home image))))

-- ---- laws

-- Over an image that passes the tests, such a batch gives one that passes, with the new tables and the same bytes.
abbrev pub BatchesTurnImages : Type 0
BatchesTurnImages =
    (image y : Image) (t : Tables) (batch : List Patch) → IsGood image → Turns (tables_of (home image)) t batch
    → AgreeBut is_journal (overlaid batch (home image)) (home y) → HasJournal y → IsTurned t image y
