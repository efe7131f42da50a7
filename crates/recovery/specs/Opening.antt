-- What opening answers, and what a crash leaves of it.
use Rattle.std.specs.Prelude.{◌≡◌, ◌↔◌, ℕ, ◌+◌, ◌≤◌, [], Result, Ok, Err, ⊤}
use Rattle.tsd_model.specs.World.{World}
use Rattle.image_device.specs.View.{View}
use Rattle.image_device.specs.Runs.{IsFirm, LeavesOnly}
use Rattle.image_layout.specs.declared.header.Header.{Header}
use Rattle.image_layout.specs.Areas.{header_sector}
use Rattle.image_layout.specs.Header.{IsHeaderReading}
use Rattle.image_layout.specs.Image.{Image}
use Rattle.intent_journal.specs.Crash.{IsTheSame}
use Rattle.intent_journal.specs.Home.{home}
use Rattle.intent_journal.specs.Ring.{replay_writes}
use Rattle.image_world.specs.Faults.{IsFormatGateOpen, HasJournal, IsGood, IsFirstFault}
use Rattle.image_world.specs.Stands.{Stands}
use Rattle.image_world.specs.Tables.{tables_of}
use Rattle.volume.specs.Sweeping.{left_cost}
use Rattle.volume_laws.specs.Data.{HasSameData}
use Rattle.volume_laws.specs.Volume.{Volume}
use Rattle.recovery.specs.declared.fault.OpenFault.{OpenFault}
use Rattle.recovery.specs.declared.fault.OpenFault.TheVariants as fault

-- the first three tests pass, and the header is this
pub record HasHead (image : Image) (h : Header) : Type 0 where
  pub formatted : IsFormatGateOpen image
  pub journal : HasJournal image
  pub header : IsHeaderReading (home image header_sector) (Ok h)

-- One of the first three tests fails: it is no disk of this format, and may be somebody else's.
abbrev pub IsForeign : Image → Type 0
IsForeign image = (h : Header) → ¬ HasHead image h

-- nothing was written, and the disk reads as before
pub record IsUntouched (old new : View) : Type 0 where
  pub writes : new.writes ≡ old.writes
  pub reads : new.reads ≡ old.reads

-- All that a repair could use is still there: what each sector outside the journal is to hold is as it was, in the end
-- and in each image that a crash leaves. No more was written than the replay writes.
pub record IsSpared (old new : View) : Type 0 where
  pub reads : IsTheSame old.reads new.reads
  pub writes : new.writes ≤ old.writes + replay_writes old.reads
  pub left : IsFirm old → LeavesOnly old new (λ x f. IsTheSame old.reads x)

-- So it is of an image that stands for no world, whatever is answered.
abbrev pub SparesDamaged : View → View → Type 0
SparesDamaged old new = ¬ IsGood old.reads → IsSpared old new

-- From the data on, each sector is to hold what it was to hold, behind the image too.
abbrev pub LeavesData : View → View → Type 0
LeavesData old new = LeavesOnly old new (λ x f. HasSameData (tables_of (home old.reads)).geometry [] old.reads x)

-- what the first three tests answer
abbrev pub IsHead : Image → Result Header OpenFault → Type 0
IsHead image (Ok h) = HasHead image h
IsHead image (Err (fault.Image why)) = IsFirstFault image why
IsHead image (Err fault.Device) = ⊤
IsHead image (Err fault.NoMemory) = ⊤

-- Where neither memory nor the device is at fault, each answer comes exactly where its line holds, since no two of them
-- hold together.
abbrev pub IsOpening : Image → Result Volume OpenFault → Type 0
IsOpening image (Ok v) = IsGood image
IsOpening image (Err (fault.Image why)) = IsFirstFault image why
IsOpening image (Err fault.Device) = ⊤
IsOpening image (Err fault.NoMemory) = ⊤

-- both stand for the same world, or for none
abbrev pub StandAlike : Image → Image → Type 0
StandAlike image x = (w : World) → Stands image w ↔ Stands x w

-- How often an opening writes at most: by what is replayed, and by what is left to be swept and reclaimed.
abbrev pub opening_writes : Image → ℕ
opening_writes image = replay_writes image + left_cost (tables_of (home image))
