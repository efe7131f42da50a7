-- What lies behind an image.
use Rattle.std.specs.Prelude.{◌+◌}
use Rattle.tsd_model.specs.declared.geometry.Geometry.{Geometry}
use Rattle.image_device.specs.Runs.{LeavesPart}
use Rattle.image_device.specs.View.{View}
use Rattle.image_layout.specs.Areas.{total}
use Rattle.image_layout.specs.Image.{Image}
use Rattle.intent_journal.specs.Home.{home}
use Rattle.image_world.specs.Tables.{tables_of}

-- What lies behind an image of this size: the sectors from its total on, as they are to be once the records of its
-- journal are in place.
abbrev pub behind : Geometry → Image → Image
behind g x n = home x (total g + n)

-- the size of an image, as its header has it
abbrev pub size_of_image : Image → Geometry
size_of_image x = (tables_of (home x)).geometry

-- A crash at any moment leaves what lies behind the image as it was.
abbrev pub LeavesBehind : View → View → Type 0
LeavesBehind old new = LeavesPart (behind (size_of_image old.reads)) old new
