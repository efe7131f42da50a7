-- What images that a call on the ring may leave stand for.
use Rattle.std.specs.Prelude.{◌≡◌, ◌↔◌}
use Rattle.tsd_model.specs.World.{World}
use Rattle.image_layout.specs.Image.{Image}
use Rattle.intent_journal.specs.Crash.{IsTheSame}
use Rattle.intent_journal.specs.Home.{home, is_journal, AgreeBut}
use Rattle.image_world.specs.Debt.{debt}
use Rattle.image_world.specs.Faults.{HasHeader, HasJournal, IsGood}
use Rattle.image_world.specs.Stands.{world_of, Stands}

-- An image that a replay leaves stands for the same world as the image at its start, or for none as that one.
abbrev pub TheSameStandForTheSame : Type 0
TheSameStandForTheSame = (image y : Image) → IsTheSame image y → (w : World) → Stands image w ↔ Stands y w

-- It owes the same.
abbrev pub TheSameOweTheSame : Type 0
TheSameOweTheSame = (image y : Image) → HasHeader (home image) → IsTheSame image y → debt y ≡ debt image

-- What a crash leaves of a commit before its batch counts, and what emptying the ring leaves, stands for the world as
-- it was.
abbrev pub BeforeStandsForTheOld : Type 0
BeforeStandsForTheOld =
    (image y : Image) → IsGood image → AgreeBut is_journal (home image) (home y) → HasJournal y
    → Stands y (world_of image)
