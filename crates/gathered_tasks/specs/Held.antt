-- A core at a disk in memory: at what the device stands for, with what was gathered in place.
use Rattle.std.specs.Prelude.{◌≡◌, ◌⊎◌, true, List, [], Result, OnOk, OnErr}
use Rattle.tsd_model.specs.World.{World}
use Rattle.tsd_model.specs.Step.{State}
use Rattle.image_device.specs.Counts.{CountsFault}
use Rattle.image_device.specs.View.{View}
use Rattle.image_device.specs.Runs.{IsFirm, LeavesOnly, LeavesPart}
use Rattle.image_device.specs.declared.device.Failed.{Failed}
use Rattle.image_layout.specs.Image.{Image}
use Rattle.image_layout.specs.declared.offset.Patch.{Patch}
use Rattle.intent_journal.specs.Records.{JournalRecord}
use Rattle.intent_journal.specs.Ring.{IsRingAt}
use Rattle.image_world.specs.Behind.{behind}
use Rattle.image_world.specs.Faults.{IsGood}
use Rattle.image_world.specs.Stands.{Stands, world_of}
use Rattle.gathering.specs.Gathered.{gone_on}
use Rattle.volume_laws.specs.Writes.{Works}
use Rattle.tsd_core.specs.Core.{Core, FitsReads, IsCoreReady, state_on}
use Rattle.tsd_core.specs.Work.{SameSize}

-- the state of the disk in memory: what the device stands for, with a closed journal and what was gathered in place
abbrev pub held_state : Core → List Patch → View → State
held_state c batch v = state_on c (gone_on batch v.reads)

-- It may be used: its journal is empty, since its room has the records on the device.
pub record IsReadyInMemory (c : Core) : Type 0 where
  pub ready : IsCoreReady c
  pub empty : c.volume.ring ≡ []

-- It is at the disk in memory: nothing is loose on the device, whose tests pass and which has these records; what the
-- core has fits what the disk in memory reads; and what lies behind the image was not gathered.
pub record IsInMemory (c : Core) (ring : List JournalRecord) (batch : List Patch) (v : View) : Type 0 where
  pub firm : IsFirm v
  pub ring_at : IsRingAt ring v
  pub good : IsGood v.reads
  pub fits : FitsReads c (gone_on batch v.reads)
  pub aside : behind c.volume.tables.geometry (gone_on batch v.reads) ≡ behind c.volume.tables.geometry v.reads

-- the image stands for the world on the device, for the one in memory, or for a third
abbrev pub StandsForAny : World → World → World → Image → Type 0
StandsForAny base now next x = Stands x base ⊎ (Stands x now ⊎ Stands x next)

-- A call goes on with a disk in memory, and may bring it on the device. A crash leaves the world that was on the
-- device, the one in memory, or the next one.
pub record GoesOn {T : Type 0} (told : Type 0) (c0 c1 : Core) (ring : List JournalRecord) (b0 b1 : List Patch)
    (v w : View) (next : World) (result : Result T Failed) : Type 0 where
  pub ready : OnOk result (IsReadyInMemory c1)
  pub at : told → OnOk result (IsInMemory c1 ring b1 w)
  pub size : SameSize c0 c1
  pub spent : OnErr result (c1.volume.is_spent ≡ true)
  pub sent : told → w.sent ≡ v.sent
  pub any_moment : told → LeavesOnly v w
      (λ x f. StandsForAny (world_of v.reads) (world_of (gone_on b0 v.reads)) next x × (f ≡ v.sent))
  pub behind : told → LeavesPart (behind c0.volume.tables.geometry) v w
  pub works : Works v w
  pub faults : CountsFault result v.faults w.faults
