-- What the tests of an image answer.
use Rattle.std.specs.Prelude.{Result, Ok, Err, ⊤}
use Rattle.image_layout.specs.Image.{Image}
use Rattle.image_probe.specs.declared.head.Head.{Head}
use Rattle.image_world.specs.Faults.{IsFirstFault, IsGood}
use Rattle.recovery.specs.Opening.{HasHead}
use Rattle.recovery.specs.declared.fault.OpenFault.{OpenFault}
use Rattle.recovery.specs.declared.fault.OpenFault.TheVariants as fault

-- what a fault says of the image
abbrev pub IsFaultOf : Image → OpenFault → Type 0
IsFaultOf image (fault.Image why) = IsFirstFault image why
IsFaultOf image fault.Device = ⊤
IsFaultOf image fault.NoMemory = ⊤

-- Where neither memory nor the device is at fault, each answer comes exactly where its line holds, since no two of them
-- hold together.
abbrev pub IsTested : {T : Type 0} → Image → Result T OpenFault → Type 0
IsTested image (Ok x) = IsGood image
IsTested image (Err why) = IsFaultOf image why

-- the same of the first three tests
abbrev pub IsHeadRead : Image → Result Head OpenFault → Type 0
IsHeadRead image (Ok h) = HasHead image h.header
IsHeadRead image (Err why) = IsFaultOf image why
