-- What a group of requests stands for.
use Rattle.std.specs.Prelude.{◌≡◌, ◌⊎◌, List, [], ℕ}
use Rattle.tsd_model.specs.World.{World}
use Rattle.image_device.specs.Image.{Image}
use Rattle.intent_journal.specs.Home.{home, is_journal, AgreeBut}
use Rattle.intent_journal.specs.Records.{open_records, AreClosed}
use Rattle.image_world.specs.Debt.{debt}
use Rattle.image_world.specs.Faults.{IsGood}
use Rattle.image_world.specs.Stands.{world_of, Stands}
use Rattle.image_world.specs.Tables.{tables_of}
use Rattle.gathering.specs.Gathered.{cleared}
use Rattle.gathering.specs.Left.{Moment, IsHomeOf, IsSentBetween, IsLeftByGroup}

-- An image whose home is a disk with a closed journal stands for what that disk stands for.
abbrev pub HomesStandAlike : Type 0
HomesStandAlike =
    (sectors x : Image) (w : World) → Stands sectors w → AreClosed sectors → IsHomeOf sectors x → Stands x w

-- The disk in memory begins with the world for which the real one stands.
abbrev pub BeginsAsItStood : Type 0
BeginsAsItStood = (x : Image) (w : World) → Stands x w → Stands (cleared x) w

-- Where the device stood for a world at the start and the disk in memory, its journal closed, stands for one at the
-- end, an image left stands for the former, with nothing more sent, or for the latter, with no more sent than was put.
abbrev pub GroupsKeepAWorld : Type 0
GroupsKeepAWorld =
    (start end : Moment) (old new : World) → Stands start.sectors old → Stands end.sectors new → AreClosed end.sectors
    → (x : Image) (f : List ℕ) → IsLeftByGroup start end x f
    → (Stands x old × (f ≡ start.sent)) ⊎ (Stands x new × IsSentBetween start.sent end.sent f)

-- What was held in memory over one disk, its journal closed, fits another: it stands for the same world, says the same
-- tables and owes the same, and no record is open.
pub record CarriesOver (x y : Image) : Type 0 where
  pub ring : open_records y ≡ []
  pub closed : AreClosed y
  pub good : IsGood y
  pub world : world_of y ≡ world_of x
  pub tables : tables_of (home y) ≡ tables_of (home x)
  pub owes : debt y ≡ debt x

-- It fits each disk with a closed journal that reads the same outside it.
abbrev pub ClosedDisksCarryOver : Type 0
ClosedDisksCarryOver =
    (x y : Image) → IsGood x → AreClosed x → AreClosed y → AgreeBut is_journal x y → CarriesOver x y

-- So the next group's disk in memory, over the device that a flush left, takes the place of this group's.
abbrev pub NextGoesOn : Type 0
NextGoesOn =
    (x left : Image) → IsGood x → AreClosed x → AgreeBut is_journal x (home left) → CarriesOver x (cleared left)
