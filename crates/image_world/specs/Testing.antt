-- What a test of primary blocks, ends and counts answers.
use Rattle.std.specs.Prelude.{Result, Ok, Err, ⊤}
use Rattle.image_layout.specs.Image.{Image}
use Rattle.pointer_table.specs.Loading.{HasNoBad}
use Rattle.pointer_table.specs.Sectors.{IsStored as AreSlots}
use Rattle.pointer_table.specs.Table.{Table as Pointers}
use Rattle.ref_counts.specs.Stored.{IsStored as AreCounts}
use Rattle.ref_counts.specs.Table.{Table as Counts}
use Rattle.block_alloc.specs.LiveMap.{LiveMap}
use Rattle.block_alloc.specs.Stored.{IsStored as AreBits}
use Rattle.image_world.specs.Faults.{HasNoRepeated, IsTableFault}
use Rattle.image_world.specs.declared.fault.LoadFault.{LoadFault}
use Rattle.image_world.specs.declared.fault.LoadFault.TheVariants as fault
use Rattle.image_world.specs.Tests.{TablesAgree}

-- an image that has these tables, and no bad slot and no repeated pair
pub record AreRead (p : Pointers) (m : LiveMap) (c : Counts) (x : Image) : Type 0 where
  pub slots : AreSlots p.slots p.geometry x
  pub live : AreBits m.live p.geometry x
  pub counts : AreCounts c.counts p.geometry x
  pub no_bad : HasNoBad x p.geometry
  pub none_repeated : HasNoRepeated x p.geometry

-- the tables agree, or each image that has them fails this test first
abbrev pub IsTesting : Pointers → LiveMap → Counts → Result (Unit {0}) LoadFault → Type 0
IsTesting p m c (Ok done) = TablesAgree p m c
IsTesting p m c (Err fault.NoMemory) = ⊤
IsTesting p m c (Err fault.Device) = ⊥
IsTesting p m c (Err (fault.Image why)) = (x : Image) → AreRead p m c x → IsTableFault x p.geometry why
