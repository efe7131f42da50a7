-- The names that most proofs of this crate cite, passed on from one place. Declares nothing.
pub use Rattle.core_blocks.specs.CoreView.{HasLeft, HasLeftOrAlike, SaysWorld, core_view}
pub use Rattle.core_blocks.specs.ViewLaws.{first_moment_of, no_first, says_one, second_moment_of}
pub use Rattle.fs_port.specs.Calls.{Counts, IsEitherSide, LeavesWorldsOnly, Stays}
pub use Rattle.image_device.proofs.Moments.{firm_image, joined}
pub use Rattle.image_device.proofs.Parts.{part_at_end, part_put, part_stays, part_then}
pub use Rattle.image_device.specs.Runs.{IsFirm, LeavesOnly, LeavesPart, PutsAll}
pub use Rattle.image_device.specs.View.{IsSound, View}
pub use Rattle.image_layout.specs.Image.{Image}
pub use Rattle.image_world.specs.Behind.{LeavesBehind, behind, size_of_image}
pub use Rattle.image_world.specs.Stands.{Stands, world_of}
pub use Rattle.std.specs.Prelude.{Err, IfOk, None, Ok, OnOk, Option, Result, Some}
pub use Rattle.tsd_core.specs.Core.{Core, IsCoreAt, state_on, told_state, told_world}
pub use Rattle.tsd_core.specs.Work.{SameSize}
pub use Rattle.tsd_model.specs.World.{World}
pub use Rattle.tsd_model.specs.declared.geometry.Geometry.{Geometry}
pub use Rattle.tsd_model.specs.declared.requests.PlaceKind.{PlaceKind}
pub use Rattle.volume_laws.proofs.QuestionLaws.{told_size}
