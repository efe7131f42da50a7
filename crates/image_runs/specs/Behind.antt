-- What lies behind an image that is formatted.
use Rattle.std.specs.Prelude.{◌≡◌, ◌+◌, ◌⊎◌}
use Rattle.tsd_model.specs.declared.geometry.Geometry.{Geometry}
use Rattle.image_device.specs.Runs.{LeavesOnly, LeavesPart}
use Rattle.image_device.specs.View.{View}
use Rattle.image_layout.specs.Areas.{total}
use Rattle.image_layout.specs.Image.{Image}
use Rattle.image_world.specs.Behind.{behind}

-- The sectors behind an image of this size as they are, whatever a journal has for them.
abbrev pub sectors_behind : Geometry → Image → Image
sectors_behind g x n = x (total g + n)

-- A crash at any moment leaves the sectors behind an image of this size as they were.
abbrev pub LeavesSectorsBehind : Geometry → View → View → Type 0
LeavesSectorsBehind g old new = LeavesPart (sectors_behind g) old new

-- The sectors behind an image of this size are as they were at the start, or are to be so once the records of the
-- journal are in place.
abbrev pub AreSameBehind : Geometry → Image → Image → Type 0
AreSameBehind g start x = (sectors_behind g x ≡ sectors_behind g start) ⊎ (behind g x ≡ sectors_behind g start)

-- Such is each image that a crash at any moment leaves.
abbrev pub LeavesSameBehind : Geometry → View → View → Type 0
LeavesSameBehind g old new = LeavesOnly old new (λ x f. AreSameBehind g old.reads x)
