-- A station in memory as one side, and what each event makes of a side.
use Rattle.std.specs.Prelude.{ℕ, max, false, List}
use Rattle.image_device.specs.Image.{Image, zeros, put_at}
use Rattle.image_device.specs.Counts.{raised}
use Rattle.image_device.specs.History.{loosened, firmed}
use Rattle.image_device.specs.MemStation.{station_view, synced_reads}
use Rattle.mirror_device.specs.declared.mem_side.MemSide.{MemSide}
use Rattle.mirror_device.specs.SidesView.{SideView}

abbrev pub side_view : MemSide → SideView
side_view d = record {
  reads = (station_view d.station).reads;
  loose = (station_view d.station).loose;
  faults = d.faults;
  syncs = d.syncs;
  writes = d.writes;
}

-- the sectors as the last sync held them
abbrev pub synced_side : MemSide → Image
synced_side d = synced_reads d.station

-- a side never written
abbrev pub blank_side : SideView
blank_side = record { reads = λ n. zeros; loose = λ n. false; faults = 0; syncs = 0; writes = 0 }

-- a sector was written
abbrev pub written : ℕ → List ℕ → SideView → SideView
written sector bytes v = record {
  reads = put_at sector bytes v.reads;
  loose = loosened sector v.loose;
  faults = v.faults;
  syncs = v.syncs;
  writes = raised v.writes;
}

-- a sector was set from outside
abbrev pub poked : ℕ → List ℕ → SideView → SideView
poked sector bytes v = record {
  reads = put_at sector bytes v.reads;
  loose = firmed sector v.loose;
  faults = v.faults;
  syncs = v.syncs;
  writes = v.writes;
}

-- a sync answered Ok
abbrev pub settled : SideView → SideView
settled v = record {
  reads = v.reads;
  loose = λ n. false;
  faults = v.faults;
  syncs = raised v.syncs;
  writes = v.writes;
}

-- a call failed, which raised the count to this
abbrev pub blamed : ℕ → SideView → SideView
blamed faults v = record {
  reads = v.reads;
  loose = v.loose;
  faults = max v.faults faults;
  syncs = v.syncs;
  writes = v.writes;
}
