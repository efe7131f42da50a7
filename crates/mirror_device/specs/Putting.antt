-- Puts beside two sides, until a text is sent.
use Rattle.std.specs.Prelude.{ℕ, ◌<◌, ◌≤◌, ◌≡◌, ◌⊎◌, List, ◌++◌, length, take, Result, OnOk, OnErr}
use Rattle.image_device.specs.Counts.{CountsFault}
use Rattle.mirror_device.specs.SideCalls.{SidesPut}
use Rattle.mirror_device.specs.SidesView.{IsItemInPut, Item, SidesView}

-- Calls that send a text or a front of it, and leave both sides as they were.
pub record SidesSend (text : List ℕ) (old new : SidesView) : Type 0 where
  pub first : new.first ≡ old.first
  pub second : new.second ≡ old.second
  pub later : old.clock ≤ new.clock
  pub nothing_else : (t : ℕ) (i : Item) → t ≤ old.clock → new.left t i → old.left t i ⊎ IsItemInPut text old i
  pub keeps : (t : ℕ) (i : Item) → t ≤ old.clock → old.left t i → new.left t i

-- A text is put whole, or after a failure a shorter front of it.
pub record SidesPutAll {T E : Type 0} (told : Type 0) (text : List ℕ) (old new : SidesView) (result : Result T E)
    : Type 0 where
  pub sends : told → SidesSend text old new
  pub sent : told → OnOk result (new.sent ≡ old.sent ++ text)
  pub part : told → OnErr result ((count : ℕ) × (count < length text) × (new.sent ≡ old.sent ++ take count text))
  pub puts : SidesPut old new
  pub faults : CountsFault result old.put_faults new.put_faults
