-- A device stands for the world that a core at it has.
use Rattle.std.proofs.Common.{refl}
use Rattle.image_layout.specs.Image.{Image}
use Rattle.image_world.specs.Stands.{Stands, world_of}
use Rattle.tsd_core.specs.Core.{Core, FitsReads}

pub stands_here : (c : Core) (x : Image) → FitsReads c x → Stands x (world_of x)
stands_here c x held = record { good = held.good; world = refl }
