-- What two images are after calls that only read the first one.
use Rattle.std.specs.Prelude.{ℕ, ◌≤◌, ◌≡◌, ◌⊎◌}
use Rattle.image_device.specs.Image.{IsImage}
use Rattle.mirror_device.specs.SidesView.{IsSideNow, Item, SidesView}

-- What a crash inside such calls leaves: of each side what one before them leaves.
pub record InReading (v : SidesView) (i : Item) : Type 0 where
  pub first : IsImage v.first.reads v.first.loose i.first.image
  pub second : IsSideNow v.second i.second
  pub sent : i.sent ≡ v.sent

-- Calls that only read the first side: both sides are as they were, but for the faults of the first.
pub record OnlyReads (old new : SidesView) : Type 0 where
  pub reads : new.first.reads ≡ old.first.reads
  pub loose : new.first.loose ≡ old.first.loose
  pub second : new.second ≡ old.second
  pub sent : new.sent ≡ old.sent
  pub later : old.clock ≤ new.clock
  pub nothing_else : (t : ℕ) (i : Item) → t ≤ old.clock → new.left t i → old.left t i ⊎ InReading old i
  pub keeps : (t : ℕ) (i : Item) → t ≤ old.clock → old.left t i → new.left t i

-- the counts over them, told or not
pub record ReadCounts (old new : SidesView) : Type 0 where
  pub clock : old.clock ≤ new.clock
  pub first_faults : old.first.faults ≤ new.first.faults
  pub first_syncs : new.first.syncs ≡ old.first.syncs
  pub second_faults : new.second.faults ≡ old.second.faults
  pub second_syncs : new.second.syncs ≡ old.second.syncs
  pub put_faults : new.put_faults ≡ old.put_faults
