-- The names that most proofs of this crate cite, passed on from one place. Declares nothing.
pub use Rattle.gathered_tasks.specs.Blocks.{AllHaveRoom, AllWentBelow, AtFirst, HasLeft, IsBegun, IsOfSince, There, WasWorld, WentBelow, blocks_view, held_world, there, world_after, world_below}
pub use Rattle.gathered_tasks.specs.Bounds.{HasRoomFor, IsBound, ReclaimsNothing, once_cost, room_for}
pub use Rattle.gathered_tasks.specs.Carried.{CarriesOut, HoldsOn, IsAmong, LeavesBaseOrNow}
pub use Rattle.gathered_tasks.specs.Held.{GoesOn, IsInMemory, IsReadyInMemory, StandsForAny, held_state}
pub use Rattle.gathered_tasks.specs.Rooms.{batch_of, gathered}
pub use Rattle.gathering.specs.Gathered.{HasRested, cleared, gone_on}
pub use Rattle.gathering.specs.Parts.{LeavesStray, part_sound, part_view, went_on}
pub use Rattle.image_device.proofs.Moments.{ends_in, firm_image, joined, started, weakened}
pub use Rattle.image_device.proofs.Outcomes.{on_ok, unless_err}
pub use Rattle.image_device.proofs.Parts.{part_at_end, part_stays, part_then}
pub use Rattle.image_device.specs.Counts.{CountsFault, Rose}
pub use Rattle.image_device.specs.Runs.{IsFirm, LeavesOnly, LeavesPart}
pub use Rattle.image_device.specs.View.{IsLeftNow, IsSound, View}
pub use Rattle.image_device.specs.declared.device.Failed.{Failed}
pub use Rattle.image_layout.specs.Areas.{total}
pub use Rattle.image_layout.specs.Image.{Image, says_open}
pub use Rattle.image_layout.specs.declared.offset.Patch.{Patch}
pub use Rattle.image_world.specs.Behind.{behind}
pub use Rattle.image_world.specs.Debt.{owed}
pub use Rattle.image_world.specs.Faults.{IsGood}
pub use Rattle.image_world.specs.Stands.{Stands, world_of}
pub use Rattle.image_world.specs.Tables.{Tables, pairs_of, tables_of}
pub use Rattle.intent_journal.proofs.Uses.{at_closed, at_kept, at_valid, home_unlawful}
pub use Rattle.intent_journal.specs.Home.{AgreeBut, home, is_journal, overlaid}
pub use Rattle.intent_journal.specs.Records.{AreClosed, JournalRecord, open_records}
pub use Rattle.std.specs.Prelude.{Bool, Err, IfOk, IsErrAnd, IsTrue, Ok, OnErr, OnOk, Result, is_err, is_some, nat_lt, not, suc, zero, ◌↔◌, ◌⊎◌}
pub use Rattle.tsd_core.specs.Core.{Core, FitsReads, IsCoreAt, IsCoreReady, sessions_of, state_on, told_state, told_world}
pub use Rattle.tsd_core.specs.Work.{SameSize}
pub use Rattle.tsd_model.specs.Step.{State, judged}
pub use Rattle.tsd_model.specs.World.{World}
pub use Rattle.tsd_model.specs.declared.geometry.Geometry.{Geometry}
pub use Rattle.tsd_model.specs.declared.requests.PlaceKind.{PlaceKind}
pub use Rattle.tsd_model.specs.declared.requests.Request.{Request}
pub use Rattle.volume_laws.specs.Moments.{LeavesEither, LeavesWorld, StandsForEither}
pub use Rattle.volume_laws.specs.Volume.{IsVolumeReady, Volume, told_by, world_on}
pub use Rattle.volume_laws.specs.Writes.{Works, batch_cost, due, zeroed_cost}
