-- What lies behind an image, over calls of a core.
use Rattle.std.specs.Prelude.{◌≡◌}
use Rattle.image_device.specs.View.{View}
use Rattle.image_device.specs.Runs.{LeavesPart}
use Rattle.image_world.specs.Behind.{behind}
use Rattle.tsd_core.specs.Core.{Core, told_world}

-- The size of the disk stays, and so does what lies behind the image, where the device tells: now, and in what a crash
-- at any moment leaves.
pub record KeepsBehind (told : Type 0) (c0 c1 : Core) (v w : View) : Type 0 where
  pub size : (told_world c1).geometry ≡ (told_world c0).geometry
  pub now : told → behind (told_world c0).geometry w.reads ≡ behind (told_world c0).geometry v.reads
  pub any_moment : told → LeavesPart (behind (told_world c0).geometry) v w
