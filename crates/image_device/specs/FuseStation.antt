-- A station that stops, as a device: the station within, and its own failures.
use Rattle.std.specs.Prelude.{ℕ, ◌-◌, ◌<◌, ◌≡◌, Result, IsErr}
use Rattle.image_device.specs.declared.cell.Pick.{Pick}
use Rattle.image_device.specs.declared.fuse.FuseStation.{FuseStation}
use Rattle.image_device.specs.declared.mem.MemStation.{MemStation}
use Rattle.image_device.specs.View.{View, IsSound}
use Rattle.image_device.specs.Counts.{both}
use Rattle.image_device.specs.Cells.{begun}
use Rattle.image_device.specs.MemStation.{history_view, found_in, station_sound, IsCalled}

-- the station within
abbrev pub inner_of : FuseStation → MemStation
inner_of d = d.inner

-- how often it failed a call or a put itself
abbrev pub own_faults_of : FuseStation → ℕ
own_faults_of d = d.faults

abbrev pub own_put_faults_of : FuseStation → ℕ
own_put_faults_of d = d.put_faults

-- how many calls pass from now on
abbrev pub passes_of : FuseStation → ℕ
passes_of d = d.passes

-- what loose sectors are to hold
abbrev pub pick_of : FuseStation → Pick
pick_of d = d.pick

-- the view of the station within, with the counts of both
abbrev pub fuse_view : FuseStation → View
fuse_view d =
    history_view (begun (found_in d.inner)) d.inner.log.items (both d.inner.faults (own_faults_of d))
    (both d.inner.put_faults (own_put_faults_of d)) d.inner.writes

pub fuse_sound : (d : FuseStation) → IsSound (fuse_view d)
fuse_sound d = let s = station_sound d.inner in record { counts_now = s.counts_now; only_now = s.only_now; own = s.own }

-- One call came. It went to the station within where some calls pass yet, and else it failed and left that station as
-- it was.
pub record IsPassed {T E : Type 0} (old new : FuseStation) (result : Result T E) : Type 0 where
  pub passes : passes_of new ≡ passes_of old - 1
  pub pick : pick_of new ≡ pick_of old
  pub spent : passes_of old ≡ 0 → IsErr result × (inner_of new ≡ inner_of old)
  pub called : 0 < passes_of old → IsCalled (inner_of old) (inner_of new) result
  pub own : 0 < passes_of old → (own_faults_of new ≡ own_faults_of old)
      × (own_put_faults_of new ≡ own_put_faults_of old)
