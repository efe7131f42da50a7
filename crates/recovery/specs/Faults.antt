-- What becomes of a fault below.
use Rattle.image_layout.specs.declared.fault.HeaderFault.{HeaderFault}
use Rattle.image_layout.specs.declared.fault.ImageFault.TheVariants as damage
use Rattle.intent_journal.specs.declared.ring.ReplayFault.{ReplayFault}
use Rattle.intent_journal.specs.declared.ring.ReplayFault.TheVariants as replay
use Rattle.volume.specs.declared.fault.VolumeFault.{VolumeFault}
use Rattle.volume.specs.declared.fault.VolumeFault.TheVariants as loading
use Rattle.recovery.specs.declared.fault.OpenFault.{OpenFault}
use Rattle.recovery.specs.declared.fault.OpenFault.TheVariants as fault

abbrev pub of_header : HeaderFault → OpenFault
of_header why = fault.Image (damage.Header why)

abbrev pub of_replay : ReplayFault → OpenFault
of_replay replay.BadDescriptor = fault.Image damage.Descriptor
of_replay replay.Device = fault.Device

abbrev pub of_volume : VolumeFault → OpenFault
of_volume loading.NoMemory = fault.NoMemory
of_volume loading.Device = fault.Device
of_volume (loading.Image why) = fault.Image why
