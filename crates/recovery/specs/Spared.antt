-- What a run that opens an image leaves alone.
use Rattle.image_device.specs.Runs.{IsFirm}
use Rattle.image_device.specs.View.{View}
use Rattle.image_world.specs.Behind.{LeavesBehind}
use Rattle.recovery.specs.Opening.{IsForeign, IsUntouched, SparesDamaged}

-- Of an image that stands for no world: where it fails one of the first three tests, of the format gate, the journal
-- and the header, nothing was written, and the disk reads as before; where it fails another, all that a repair could
-- use is still there, whatever is answered. And of each image what lies behind it, where nothing was loose.
pub record SparesImage (told : Type 0) (old new : View) : Type 0 where
  pub foreign : told → IsForeign old.reads → IsUntouched old new
  pub damaged : told → SparesDamaged old new
  pub behind : told → IsFirm old → LeavesBehind old new
