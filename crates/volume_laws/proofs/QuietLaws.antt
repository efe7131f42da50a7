-- When nothing is left to be done on the image of a device.
use Rattle.std.proofs.Common.{◌≡◌, false, ◌∙◌, ap}
use Rattle.volume_laws.proofs.Common.{View, AreClosed, Tables, owed, Volume, IsVolumeAt}
use Rattle.volume_laws.specs.Quiet.{IsQuiet}

-- where a volume is at it
pub quiet_at : (vol : Volume) (v : View) → IsVolumeAt vol v → AreClosed v.reads → vol.tables.is_sweeping ≡ false → owed vol.tables ≡ 0 → IsQuiet v.reads
quiet_at vol v at closed still settled = record {
  closed = closed;
  still = ap (λ (t : Tables). t.is_sweeping) at.tables ∙ still;
  settled = ap owed at.tables ∙ settled;
}
