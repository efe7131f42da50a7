-- The names that most proofs of the shell and of the copy cite, passed on from one place. Declares nothing.
pub use Rattle.core_blocks.proofs.BehindLaws.{behind_after, behind_between, behind_called, behind_of_core, behind_on, behind_then, behind_until, same_size, size_at}
pub use Rattle.core_blocks.proofs.ImageLaws.{IsImageOf, images_left}
pub use Rattle.core_blocks.specs.Behind.{KeepsBehind}
pub use Rattle.disk_laws.proofs.FreshLaws.{no_sessions_fit}
pub use Rattle.disk_laws.specs.Bytes.{AreLike}
pub use Rattle.fs_laws.specs.Apart.{AreApart}
pub use Rattle.fs_port.specs.Calls.{Counts, IsValidNow, LeavesWorldsOnly, Stays}
pub use Rattle.fs_port.specs.Files.{FilesView, IsClientReady, IsTreeAlone, LeavesTidyWorld, OnAnswer, OnlyDeletes, mounted_now, unmounted_now}
pub use Rattle.fs_port.specs.Runs.{FindsTree, Runs}
pub use Rattle.fs_port.specs.View.{DiskView, IsDiskSound}
pub use Rattle.fs_trees.specs.Layouts.{IsTidy, named_at, tree_at}
pub use Rattle.fs_trees.specs.Outside.{OthersStay, is_under}
pub use Rattle.fs_trees.specs.Tree.{Tree, a_dir, a_file, is_there, nothing}
pub use Rattle.fs_trees.specs.declared.ask.ShellKind.{ShellKind}
pub use Rattle.fs_trees.specs.declared.refusal.FsRefusal.{FsRefusal}
pub use Rattle.gathered_tasks.specs.Blocks.{IsBegun, There, blocks_view, held_world, world_below}
pub use Rattle.image_device.proofs.Moments.{firm_image, joined, started, weakened}
pub use Rattle.image_device.proofs.Parts.{part_put, part_stays, part_then}
pub use Rattle.image_device.specs.Counts.{CountsFault, CountsFaultOf, Rose}
pub use Rattle.image_device.specs.Runs.{IsFirm, LeavesOnly, LeavesPart}
pub use Rattle.image_device.specs.View.{IsLeftInPut, IsLeftNow, IsPart, IsSound, View}
pub use Rattle.image_layout.specs.Image.{Image}
pub use Rattle.image_runs.proofs.Opened.{not_foreign, spared_put, untouched_put}
pub use Rattle.image_runs.specs.Opened.{IsJudged, IsUnopened}
pub use Rattle.image_shell.specs.FromCore.{EndsFrom, IsAdmitted, IsAsAtStart, IsAtStart, IsMounted, IsOneMore, IsSessionBegun, NoAskServedFrom, RanFrom, is_below_write, is_device}
pub use Rattle.image_shell.specs.Served.{IsAsItWas, IsFirstState, IsNotServed, IsOpeningAlone, IsPromptShell, IsRootDenied, IsShellJudged, NoAskServed, ShellEnds, ShellRan, level_at}
pub use Rattle.image_world.proofs.CapsLaws.{loaded_is_no_fault}
pub use Rattle.image_world.proofs.WorldLaws.{world_valid}
pub use Rattle.image_world.specs.Behind.{LeavesBehind, behind, size_of_image}
pub use Rattle.image_world.specs.Faults.{IsGood}
pub use Rattle.image_world.specs.Stands.{Stands, world_of}
pub use Rattle.recovery.proofs.SparedLaws.{spared_start}
pub use Rattle.recovery.specs.Opening.{IsForeign, IsUntouched, SparesDamaged, StandAlike}
pub use Rattle.serving.specs.Input.{Spelling}
pub use Rattle.serving.specs.Prompt.{IsOfPort, Mark, mark}
pub use Rattle.serving.specs.Ran.{AskedBy, ByStatus, Ends, Moments, Ran, Taking}
pub use Rattle.serving.specs.Runs.{Run, texts}
pub use Rattle.serving.specs.Seen.{AreSeen, IsLeftInRun, IsSeenRun}
pub use Rattle.shell_server.specs.Kept.{AreReady, FitsShell, IsClient, shell_state}
pub use Rattle.shell_server.specs.Shell.{Answers, IsKeptSince, IsLeftOf, ShellState, files_after, heard, resting, shell_service, shell_work, tree_by, tree_of, tree_under, unmounted}
pub use Rattle.shell_text.specs.declared.file_ask.FileAsk.{FileAsk}
pub use Rattle.tsd_core.proofs.AtLaws.{at_core, at_volume, like_at}
pub use Rattle.tsd_core.specs.Core.{Core, FitsReads, IsCoreAt, IsCoreReady, sessions_of, state_on, told_state, told_world}
pub use Rattle.tsd_model.specs.Run.{IsAnswer, answer, at_rest, starved}
pub use Rattle.tsd_model.specs.Sessions.{Fits, Held, Sessions, fitted, held_by, is_open, no_sessions, session_begun, sessions_max}
pub use Rattle.tsd_model.specs.Step.{Outcome, State, judged}
pub use Rattle.tsd_model.specs.Valid.{IsValid}
pub use Rattle.tsd_model.specs.World.{World, contents, has_number}
pub use Rattle.tsd_model.specs.declared.caps.Cap.{Cap}
pub use Rattle.tsd_model.specs.declared.geometry.Geometry.{Geometry}
pub use Rattle.tsd_model.specs.declared.requests.Level.{Level}
pub use Rattle.tsd_model.specs.declared.requests.PlaceKind.{PlaceKind}
pub use Rattle.tsd_words.specs.declared.commands.CopyFs.{CopyFs}
pub use Rattle.tsd_words.specs.declared.status.Status.{Status}
pub use Rattle.volume_laws.specs.Moments.{LeavesEither, LeavesWorld, StandsForEither}
pub use Rattle.volume_laws.specs.Quiet.{IsQuiet}
pub use Rattle.volume_laws.specs.Volume.{IsVolumeAt, Volume, told_by, world_on}
pub use Rattle.volume_laws.specs.Writes.{Works}
