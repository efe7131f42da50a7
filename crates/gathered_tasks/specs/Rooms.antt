-- What is in the room of asks.
use Rattle.std.specs.Prelude.{◌≡◌, true, is_some, List, [], Option, Some, None}
use Rattle.image_layout.specs.declared.offset.Patch.{Patch}
use Rattle.gathering.specs.declared.room.Room.{Room}
use Rattle.gathered_tasks.specs.declared.room.AskRoom.{AskRoom}

abbrev pub batch_of : Option Room → List Patch
batch_of None = []
batch_of (Some r) = r.batch

-- what was gathered and isn't on the device
abbrev pub gathered : AskRoom → List Patch
gathered a = batch_of a.room

-- nothing is in it
pub record IsFree (a : AskRoom) : Type 0 where
  pub here : is_some a.room ≡ true
  pub batch : gathered a ≡ []
  pub ring : a.ring ≡ []
