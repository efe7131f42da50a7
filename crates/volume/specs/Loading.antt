-- What a loading answers.
use Rattle.std.specs.Prelude.{Result, Ok, Err, ⊤}
use Rattle.image_layout.specs.Image.{Image}
use Rattle.image_world.specs.Faults.{IsGood, IsFirstFault}
use Rattle.image_world.specs.declared.fault.LoadFault.{LoadFault}
use Rattle.image_world.specs.declared.fault.LoadFault.TheVariants as table_fault
use Rattle.volume_laws.specs.Volume.{Volume}
use Rattle.volume.specs.declared.fault.VolumeFault.{VolumeFault}
use Rattle.volume.specs.declared.fault.VolumeFault.TheVariants as fault

-- Where neither memory nor the device is at fault, each answer comes exactly where its line holds, since no two of them
-- hold together.
abbrev pub AnswersVolume : Image → Result Volume VolumeFault → Type 0
AnswersVolume image (Ok v) = IsGood image
AnswersVolume image (Err fault.NoMemory) = ⊤
AnswersVolume image (Err fault.Device) = ⊤
AnswersVolume image (Err (fault.Image why)) = IsFirstFault image why

-- what a fault of the tables is for the volume
abbrev pub of_tables : LoadFault → VolumeFault
of_tables table_fault.NoMemory = fault.NoMemory
of_tables table_fault.Device = fault.Device
of_tables (table_fault.Image why) = fault.Image why
