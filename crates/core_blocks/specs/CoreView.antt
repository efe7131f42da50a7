-- A core at a device, as a disk of blocks.
use Rattle.std.specs.Prelude.{◌≡◌, ◌⊎◌, ℕ, ◌+◌, ◌≤◌, List, Option, Some, None}
use Rattle.tsd_model.specs.World.{World}
use Rattle.tsd_model.specs.declared.geometry.Geometry.{Geometry}
use Rattle.tsd_model.specs.declared.requests.PlaceKind.{PlaceKind}
use Rattle.image_device.specs.View.{View as DeviceView}
use Rattle.image_layout.specs.Image.{Image}
use Rattle.image_world.specs.Behind.{behind}
use Rattle.image_world.specs.Faults.{IsGood}
use Rattle.image_world.specs.Stands.{Stands, world_of}
use Rattle.fs_port.specs.View.{Left, DiskView}
use Rattle.tsd_core.specs.Core.{Core, told_world, sessions_of}

-- what an image says: the world for which it stands, or none
abbrev pub SaysWorld : Image → Option World → Type 0
SaysWorld x (Some w) = Stands x w
SaysWorld x None = ¬ IsGood x

-- a moment of the device is two of the disk
pub record IsMoment (since t : ℕ) : Type 0 where
  pub first : since + since ≤ t
  pub second : t ≤ since + since + 1

-- a crash at some moment since then may have left this image, with these bytes sent, and this is what it says
pub record HasLeft (v : DeviceView) (t : ℕ) (x : Left) (f : List ℕ) : Type 0 where
  pub since : ℕ
  pub moment : IsMoment since t
  pub was_left : v.left since x.image f
  pub says : SaysWorld x.image x.world

-- At the first of two moments stand also, without a world, the images that a crash since then may have left, and those
-- behind which lies what lies there now. A request that writes no sector behind the image leaves these as they are, and
-- so does each call of a file system, which only asks.
pub record HasLeftOrAlike (size : Geometry) (v : DeviceView) (t : ℕ) (x : Left) (f : List ℕ) : Type 0 where
  pub since : ℕ
  pub moment : t ≡ since + since
  pub says_none : x.world ≡ None
  pub either : v.left since x.image f ⊎ (behind size x.image ≡ behind size v.reads)

-- What memory tells, also where the device tells nothing, and beside it the world for which the device stands.
abbrev pub core_view : ℕ × ℕ → PlaceKind → Core → DeviceView → DiskView
core_view lenders kind c v = record {
  geometry = (told_world c).geometry;
  version = (told_world c).version;
  records = (told_world c).records;
  sessions = sessions_of c;
  kind = kind;
  world = world_of v.reads;
  sent = v.sent;
  clock = v.clock + v.clock + 1;
  left = λ t x f. HasLeft v t x f ⊎ HasLeftOrAlike (told_world c).geometry v t x f;
  faults = v.faults;
  put_faults = v.put_faults;
  spent = c.volume.is_spent;
  lenders = lenders;
}
