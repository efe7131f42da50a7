-- A request carried out on a disk in memory, or on the device below it.
use Rattle.std.specs.Prelude.{◌≡◌, ◌⊎◌, List, Result, OnOk, IfOk}
use Rattle.tsd_model.specs.Run.{IsAnswer}
use Rattle.tsd_model.specs.World.{World}
use Rattle.tsd_model.specs.declared.replies.Reply.{Reply}
use Rattle.tsd_model.specs.declared.requests.PlaceKind.{PlaceKind}
use Rattle.tsd_model.specs.declared.requests.Request.{Request}
use Rattle.image_device.specs.View.{View}
use Rattle.image_device.specs.Runs.{LeavesOnly}
use Rattle.image_device.specs.declared.device.Failed.{Failed}
use Rattle.image_layout.specs.declared.offset.Patch.{Patch}
use Rattle.intent_journal.specs.Records.{JournalRecord}
use Rattle.image_world.specs.Stands.{Stands, world_of}
use Rattle.gathering.specs.Gathered.{gone_on}
use Rattle.tsd_core.specs.Applying.{IsToldAnswer, next_world}
use Rattle.tsd_core.specs.Core.{Core, told_state}
use Rattle.gathered_tasks.specs.Held.{GoesOn, held_state}

-- the last is one of the three before it
abbrev pub IsAmong : World → World → World → World → Type 0
IsAmong base now next w = (w ≡ base) ⊎ ((w ≡ now) ⊎ (w ≡ next))

-- a crash at any moment leaves the world that was on the device, or the one in memory, and what was sent stays
abbrev pub LeavesBaseOrNow : List Patch → View → View → Type 0
LeavesBaseOrNow batch v w =
    LeavesOnly v w (λ x f. (Stands x (world_of v.reads) ⊎ Stands x (world_of (gone_on batch v.reads))) × (f ≡ v.sent))

-- A call that may bring the disk in memory on the device, and leaves its state as it is.
pub record HoldsOn {T : Type 0} (told : Type 0) (c0 c1 : Core) (ring : List JournalRecord) (b0 b1 : List Patch)
    (v w : View) (result : Result T Failed) : Type 0 where
  pub goes_on : GoesOn told c0 c1 ring b0 b1 v w (world_of (gone_on b0 v.reads)) result
  pub state : told → OnOk result (held_state c1 b1 w ≡ held_state c0 b0 v)
  pub told_state : OnOk result (told_state c1 ≡ told_state c0)

-- A request was carried out in memory or on the device. What is on the device then is what was there, what was in
-- memory, or what is in memory now.
pub record CarriesOut (told : Type 0) (kind : PlaceKind) (q : Request) (c0 c1 : Core) (ring : List JournalRecord)
    (b0 b1 : List Patch) (v w : View) (result : Result Reply Failed) : Type 0 where
  pub goes_on : GoesOn told c0 c1 ring b0 b1 v w (next_world kind (held_state c0 b0 v) q) result
  pub given : told → IfOk result (λ r. IsAnswer kind (held_state c0 b0 v) q r (held_state c1 b1 w))
  pub told_given : IfOk result (λ r. IsToldAnswer kind c0 q r c1)
  pub base : told → OnOk result (IsAmong (world_of v.reads) (world_of (gone_on b0 v.reads))
      (world_of (gone_on b1 w.reads)) (world_of w.reads))
