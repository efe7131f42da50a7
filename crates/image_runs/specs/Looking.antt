-- What a run does that only looks at an image.
use Rattle.std.specs.Prelude.{◌≡◌, ◌+◌, ◌≤◌}
use Rattle.image_device.specs.Runs.{IsFirm, LeavesOnly}
use Rattle.image_device.specs.View.{View}
use Rattle.recovery.specs.Opening.{LeavesData, StandAlike, opening_writes}
use Rattle.recovery.specs.Spared.{SparesImage}
use Rattle.volume_laws.specs.Quiet.{IsQuiet}
use Rattle.volume_laws.specs.Writes.{Works}

-- Where nothing is left to be done on the image nothing is written, and else no more than an opening writes.
pub record OnlyLooks (old new : View) : Type 0 where
  pub quiet : IsQuiet old.reads → new.writes ≡ old.writes
  pub most : new.writes ≤ old.writes + opening_writes old.reads

-- A run leaves alone what an opening does, and writes no more than that, and the data of all blocks stays.
pub record LooksAt (told : Type 0) (old new : View) : Type 0 where
  pub spares : SparesImage told old new
  pub only : told → OnlyLooks old new
  pub kept : told → IsFirm old → LeavesData old new

-- An image was opened, or wasn't, and no more: nothing is sent, and a crash at any moment leaves an image of the same
-- world, or of none where the image stood for none.
pub record OnlyOpens (told : Type 0) (old new : View) : Type 0 where
  pub looks : LooksAt told old new
  pub sent : told → new.sent ≡ old.sent
  pub any_moment : told → IsFirm old → LeavesOnly old new (λ x f. StandAlike old.reads x × (f ≡ old.sent))
  pub works : Works old new
