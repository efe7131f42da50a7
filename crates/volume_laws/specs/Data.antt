-- The data of blocks, and what lies behind the image.
use Rattle.std.specs.Prelude.{◌≡◌, ℕ, ◌≤◌, false, List, Result, OnOk}
use Rattle.tsd_model.specs.declared.geometry.Geometry.{Geometry}
use Rattle.image_device.specs.Image.{Image}
use Rattle.image_device.specs.Runs.{LeavesOnly}
use Rattle.image_device.specs.View.{View}
use Rattle.image_device.specs.declared.device.Failed.{Failed}
use Rattle.image_layout.specs.Areas.{data_start}
use Rattle.intent_journal.specs.Home.{home}
use Rattle.volume_laws.specs.Zeroed.{is_data}

-- From the data on, both are to hold the same but in the sectors of these blocks: so the data of all other blocks, of
-- free ones too, and all that lies behind the image.
abbrev pub HasSameData : Geometry → List ℕ → Image → Image → Type 0
HasSameData g blocks image x = (n : ℕ) → data_start g ≤ n → is_data g blocks n ≡ false → home x n ≡ home image n

-- A call that leaves all data but that of these blocks as it was: in the end, and in each image that a crash leaves.
pub record KeepsData {T : Type 0} (g : Geometry) (blocks : List ℕ) (old new : View)
    (result : Result T Failed) : Type 0 where
  pub reads : OnOk result (HasSameData g blocks old.reads new.reads)
  pub left : LeavesOnly old new (λ x f. HasSameData g blocks old.reads x)
