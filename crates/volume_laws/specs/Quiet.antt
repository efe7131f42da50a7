-- Nothing is left to be done on an image.
use Rattle.std.specs.Prelude.{◌≡◌, false}
use Rattle.image_layout.specs.Image.{Image}
use Rattle.image_world.specs.Tables.{tables_of}
use Rattle.intent_journal.specs.Home.{home}
use Rattle.intent_journal.specs.Records.{AreClosed}
use Rattle.image_world.specs.Debt.{owed}

-- all gates of the journal are closed, no sweep is open, and nothing is doomed
pub record IsQuiet (image : Image) : Type 0 where
  pub closed : AreClosed image
  pub still : (tables_of (home image)).is_sweeping ≡ false
  pub settled : owed (tables_of (home image)) ≡ 0
