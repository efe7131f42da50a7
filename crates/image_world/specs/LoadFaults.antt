-- What a fault of one table is for all four.
use Rattle.pointer_table.specs.declared.fault.TableFault.{TableFault}
use Rattle.pointer_table.specs.declared.fault.TableFault.TheVariants as slot_fault
use Rattle.block_alloc.specs.declared.fault.LoadFault.{LoadFault as LiveFault}
use Rattle.block_alloc.specs.declared.fault.LoadFault.TheVariants as live_fault
use Rattle.ref_counts.specs.declared.fault.LoadFault.{LoadFault as CountFault}
use Rattle.ref_counts.specs.declared.fault.LoadFault.TheVariants as count_fault
use Rattle.cap_store.specs.declared.fault.LoadFault.{LoadFault as CapFault}
use Rattle.cap_store.specs.declared.fault.LoadFault.TheVariants as cap_fault
use Rattle.image_layout.specs.declared.fault.ImageFault.TheVariants as image_fault
use Rattle.image_world.specs.declared.fault.LoadFault.{LoadFault}
use Rattle.image_world.specs.declared.fault.LoadFault.TheVariants as fault

abbrev pub of_pointers : TableFault → LoadFault
of_pointers slot_fault.NoMemory = fault.NoMemory
of_pointers slot_fault.Device = fault.Device
of_pointers (slot_fault.Slot k source target) = fault.Image (image_fault.Slot k source target)
of_pointers (slot_fault.Repeated a b) = fault.Image (image_fault.Repeated a b)

abbrev pub of_live : LiveFault → LoadFault
of_live live_fault.NoMemory = fault.NoMemory
of_live live_fault.Device = fault.Device

abbrev pub of_counts : CountFault → LoadFault
of_counts count_fault.NoMemory = fault.NoMemory
of_counts count_fault.Device = fault.Device

abbrev pub of_caps : CapFault → LoadFault
of_caps cap_fault.NoMemory = fault.NoMemory
of_caps cap_fault.Device = fault.Device
