-- What a status says of the image that a run began with.
use Rattle.std.specs.Prelude.{Result, Ok, Err, ⊤}
use Rattle.image_layout.specs.Image.{Image}
use Rattle.image_world.specs.Faults.{IsGood, IsFirstFault}
use Rattle.recovery.specs.declared.fault.OpenFault.{OpenFault}
use Rattle.recovery.specs.declared.fault.OpenFault.TheVariants as opening
use Rattle.tsd_words.specs.declared.status.Status.{Status}
use Rattle.tsd_words.specs.declared.status.Status.TheVariants as status

-- the status that says why an image wasn't opened
abbrev pub status_of : OpenFault → Status
status_of (opening.Image why) = status.NotImage why
status_of opening.Device = status.DeviceFault
status_of opening.NoMemory = status.NoMemory

-- Where neither memory nor the device is at fault, NotImage comes exactly where the image has that first fault, and the
-- others exactly where it has none, since no two of these lines hold together.
abbrev pub IsJudged : Image → Status → Type 0
IsJudged image (status.NotImage why) = IsFirstFault image why
IsJudged image status.DeviceFault = ⊤
IsJudged image status.NoMemory = ⊤
IsJudged image r = IsGood image

-- the same of what was opened, or of why it wasn't
abbrev pub IsOpened : {T : Type 0} → Image → Result T Status → Type 0
IsOpened image (Ok x) = IsGood image
IsOpened image (Err why) = IsJudged image why

-- an image may not have been opened
abbrev pub IsUnopened : Status → Type 0
IsUnopened (status.NotImage why) = ⊤
IsUnopened status.DeviceFault = ⊤
IsUnopened status.NoMemory = ⊤
IsUnopened r = ⊥
