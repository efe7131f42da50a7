-- One group of requests, or one request on the device itself.
use Rattle.std.specs.Prelude.{◌≡◌, ◌⊎◌, ℕ, Bool, true, false, List, [], ◌++◌, Result, Ok, Err, OnOk, IfErr}
use Rattle.image_device.specs.Image.{Image}
use Rattle.image_device.specs.Runs.{IsFirm, LeavesOnly}
use Rattle.image_device.specs.View.{View}
use Rattle.intent_journal.specs.Records.{JournalRecord}
use Rattle.intent_journal.specs.Ring.{IsRingAt}
use Rattle.gathering.specs.Gathered.{cleared}
use Rattle.tsd_words.specs.declared.status.Status.{Status}
use Rattle.tsd_words.specs.declared.status.Status.TheVariants as status
use Rattle.serving.specs.Goes.{Reads}
use Rattle.serving.specs.Input.{Spelling, completed}
use Rattle.serving.specs.Runs.{Served}
use Rattle.serving.specs.Service.{Service}
use Rattle.serving.specs.declared.intake.Intake.{Intake}
use Rattle.gathering.specs.declared.flush.FlushFault.{FlushFault}
use Rattle.gathering.specs.declared.flush.FlushFault.TheVariants as fault
use Rattle.gathering_runs.specs.Promise.{IsLeftByRun}
use Rattle.gathering_runs.specs.Sent.{IsSentBy}

-- What stands between two groups: nothing is loose, these are the records of the device, and what is held in memory
-- fits what it stands for, with a closed journal.
pub record StandsBetween (holds : Image → Type 0) (ring : List JournalRecord) (v : View) : Type 0 where
  pub firm : IsFirm v
  pub ring_at : IsRingAt ring v
  pub held : holds (cleared v.reads)

-- These requests were handed out of bytes that were held, with no take.
pub record HandsOut {Q : Type 0} (p : Spelling Q) (was_fed fed : List ℕ → Type 0) (old new : Intake)
    (qs : List Q) : Type 0 where
  pub limit : new.limit ≡ old.limit
  pub over : new.over ≡ old.over
  pub none : old.over ≡ true → qs ≡ []
  pub reads : old.over ≡ false → (bytes : List ℕ) (before : List Q) → Reads p was_fed old bytes before
      → Reads p fed new bytes (before ++ qs)

-- Requests were carried out between these moments. Where that went well all were answered, and the answers sent; where
-- it stopped, this was sent of them. A crash at any moment of it left an image of the state after some of them, with no
-- more sent than the answers to those.
pub record Turned {Q T : Type 0} (r : Result T Status) (k : Service Q) (part : Image → Image) (s t : k.States)
    (old new : View) (qs : List Q) : Type 0 where
  pub served : OnOk r (Served k s old.sent qs t new.sent)
  pub stopped : IfErr r (λ why. IsSentBy why k s old.sent qs new.sent)
  -- what no request touches reads as before
  pub kept : OnOk r (part new.reads ≡ part old.reads)
  pub any_moment : ∥ LeavesOnly old new (IsLeftByRun k part s old qs) ∥₁

-- why it stops: a call on the device failed, or a put, or there was no memory
abbrev pub StopsBy : Status → Type 0
StopsBy why = (why ≡ status.DeviceFault) ⊎ ((why ≡ status.PutFault) ⊎ (why ≡ status.NoMemory))

-- the request that waits in the room, if one does: after a fault none
abbrev pub waits_by : {Q E : Type 0} → Result Bool E → Q → List Q
waits_by (Ok waits) q = completed waits q
waits_by (Err e) q = []

-- the status that tells of a fault of a flush
abbrev pub status_by : FlushFault → Status
status_by fault.Device = status.DeviceFault
status_by fault.Put = status.PutFault
status_by fault.Room = status.NoMemory
