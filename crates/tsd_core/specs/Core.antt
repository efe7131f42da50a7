-- What a core is, and the state of the disk that it is.
use Rattle.std.specs.Prelude.{◌≡◌, ◌≤◌, ◌<◌, ℕ, false}
use Rattle.tsd_model.specs.World.{World}
use Rattle.tsd_model.specs.Sessions.{Sessions, fitted}
use Rattle.tsd_model.specs.Step.{State}
use Rattle.image_device.specs.View.{View}
use Rattle.image_device.specs.Runs.{IsFirm}
use Rattle.image_layout.specs.Image.{Image}
use Rattle.image_layout.specs.Ring.{records}
use Rattle.intent_journal.specs.Home.{home}
use Rattle.intent_journal.specs.Records.{open_records, is_gate_open}
use Rattle.image_world.specs.Faults.{IsGood}
use Rattle.image_world.specs.Stands.{world_of}
use Rattle.image_world.specs.Tables.{tables_of}
use Rattle.grant_table.specs.Table.{Table, IsMadeFor}
use Rattle.volume_laws.specs.Volume.{Volume, told_by}
use Rattle.volume_laws.specs.Volume.{IsVolumeReady}
use Rattle.std.specs.Prelude.{length}

pub record Core : Type 0 where
  pub volume : Volume
  pub grants : Table

-- the world that it tells, but for the bytes of blocks
abbrev pub told_world : Core → World
told_world c = told_by c.volume

-- The sessions that it shows: what its table has at live blocks. What the table still has at free blocks counts for
-- nothing.
abbrev pub sessions_of : Core → Sessions
sessions_of c = fitted (told_world c) c.grants.sessions

-- the state of the disk, as far as it is told in memory
abbrev pub told_state : Core → State
told_state c = record { world = told_world c; sessions = sessions_of c }

-- the state of the disk, where the device reads so
abbrev pub state_on : Core → Image → State
state_on c x = record { world = world_of x; sessions = sessions_of c }

-- It may be used: its volume is ready, no call on the device failed, and its table was made for the disk.
pub record IsCoreReady (c : Core) : Type 0 where
  pub volume : IsVolumeReady c.volume
  pub unspent : c.volume.is_spent ≡ false
  pub made : IsMadeFor (told_world c) c.grants

-- What it has in memory fits a device that reads so: the open records of the journal, and the tables once those are in
-- place.
pub record FitsReads (c : Core) (x : Image) : Type 0 where
  pub shows : open_records x ≡ c.volume.ring
  pub others_closed : (index : ℕ) → length c.volume.ring ≤ index → index < records → is_gate_open x index ≡ false
  pub good : IsGood x
  pub tables : tables_of (home x) ≡ c.volume.tables

-- It is at a device: nothing is loose, and what it has fits what a read gives.
abbrev pub IsCoreAt : Core → View → Type 0
IsCoreAt c v = IsFirm v × FitsReads c v.reads
