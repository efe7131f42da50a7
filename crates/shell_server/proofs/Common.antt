-- The names that most proofs of this crate cite, passed on from one place. Declares nothing.
pub use Rattle.core_blocks.proofs.BehindLaws.{behind_called, behind_of_core, behind_put, behind_stays, behind_then}
pub use Rattle.core_blocks.proofs.ImageLaws.{IsImageOf, images_left}
pub use Rattle.core_blocks.specs.Behind.{KeepsBehind}
pub use Rattle.core_blocks.specs.CoreView.{core_view}
pub use Rattle.fs_laws.proofs.OutsideLaws.{outside_twice}
pub use Rattle.fs_laws.specs.Small.{IsNameListing}
pub use Rattle.fs_port.specs.Calls.{Counts, IsValidNow, LeavesWorldsOnly, Stays}
pub use Rattle.fs_port.specs.Files.{Answers, FilesView, IsEitherTree, LeavesTidyWorld, OnAnswer, TellsNext, TellsPart, TellsSize, above, mounted_now, step_on, tree_on, unless_refused}
pub use Rattle.fs_port.specs.Runs.{Changes, IsMade, Looks, Runs}
pub use Rattle.fs_port.specs.View.{DiskView, DiskView as BlocksView}
pub use Rattle.fs_trees.specs.Answer.{Answer, available, bad, bytes, done, listed, refused}
pub use Rattle.fs_trees.specs.Layouts.{step_in, tree_at}
pub use Rattle.fs_trees.specs.Names.{Name, Path, are_ascending, is_below_first_name, is_name, is_name_byte, is_path, is_reserved, name_lt, name_max}
pub use Rattle.fs_trees.specs.Needs.{need_of}
pub use Rattle.fs_trees.specs.Outside.{OthersStay}
pub use Rattle.fs_trees.specs.Refusals.{RoomNeed, dir_full, first_of, lost_on_the_way, missing, no_file, no_room, not_mounted, refusal}
pub use Rattle.fs_trees.specs.Step.{AskOutcome, change, empty_tree, judged}
pub use Rattle.fs_trees.specs.Tree.{Tree, a_dir, a_file, at, bytes_in, is_there, names_in, nothing, with_at}
pub use Rattle.fs_trees.specs.declared.ask.ShellAsk.{ShellAsk}
pub use Rattle.fs_trees.specs.declared.ask.ShellKind.{ShellKind}
pub use Rattle.fs_trees.specs.declared.refusal.FsRefusal.{FsRefusal}
pub use Rattle.fs_walks.specs.Nexts.{AreBehind, TellsNames}
pub use Rattle.gathered_tasks.specs.Blocks.{IsBegun, There, blocks_view, held_world, world_below}
pub use Rattle.hex.specs.Hex.{encode_lower, lower_digits}
unfoldable pub use Rattle.hex.specs.Hex.{encode_with}
pub use Rattle.image_device.proofs.Moments.{firm_image, joined, started, weakened}
pub use Rattle.image_device.specs.Counts.{CountsFaultOf, Rose}
pub use Rattle.image_device.specs.Runs.{IsFirm, LeavesOnly, PutsAll}
pub use Rattle.image_device.specs.View.{IsLeftInPut, IsPart, IsSound, View, View as DeviceView}
pub use Rattle.image_layout.specs.Image.{Image}
pub use Rattle.image_world.specs.Behind.{behind}
pub use Rattle.image_world.specs.Stands.{Stands, world_of}
pub use Rattle.script_text.proofs.FeedLaws.{feeds-append}
pub use Rattle.script_text.specs.Pieces.{line_feeds}
pub use Rattle.serving.specs.Service.{IsAnswering, IsInAnswer, LeftBy}
pub use Rattle.shell_server.specs.Carried.{IsCalled, IsCarried, IsLeftBeforeOrAfter, IsLooked, IsOneLine, IsServed, IsSpeaking, change_line}
pub use Rattle.shell_server.specs.Changed.{IsChanged, IsGathered, IsOneCommit, is_change}
pub use Rattle.shell_server.specs.Kept.{AreReady, FitsShell, IsClient, shell_rests, shell_stands, shell_state, disk_state}
pub use Rattle.shell_server.specs.Looks.{entry_seen, names_seen, next_seen, part_seen}
pub use Rattle.shell_server.specs.Shell.{Answers as AnswersFile, AnswersByLine, LooksByLine, IsInParts, IsKeptSince, IsLeftOf, IsMaking, IsTakenForTree, RestsIn, ShellState, resting, files_after, heard, shell_service, shell_step, tree_by, tree_in, tree_of, tree_under, unmounted, is_heard, look_of}
pub use Rattle.shell_text.specs.Looked.{Looked, dir_here, file_of, looked_text, next_dir, next_file, none_left, not_heard, not_looked, part_of}
pub use Rattle.shell_text.specs.Texts.{answer_text, data_head, names_head}
pub use Rattle.shell_text.specs.declared.file_ask.FileAsk.{FileAsk}
pub use Rattle.std.proofs.lemmas.Bool.Decides.{nat_tests}
pub use Rattle.std.proofs.lemmas.Bool.{and_from, and_parts, eq-eqb, eqb-true, or_cases, or_left, or_right}
pub use Rattle.std.specs.List.{list_all}
pub use Rattle.std.specs.Prelude.{Err, IfErr, IfOk, IsTrue, MatchResult, Ok, OnOk, Result, codes, find, flat_map, is_some, slice_get, slice_index, slice_index_or, IsErr, IsErrAnd, None, OnErr, Option, Some, is_err, is_none}
pub use Rattle.tsd_core.specs.Core.{Core, FitsReads, IsCoreAt, IsCoreReady, sessions_of, state_on, told_state, told_world}
pub use Rattle.tsd_model.specs.Sessions.{Fits, is_open}
pub use Rattle.tsd_model.specs.Valid.{IsValid}
pub use Rattle.tsd_model.specs.Verdict.{is_empty}
pub use Rattle.tsd_model.specs.World.{World, free_count}
pub use Rattle.tsd_model.specs.declared.geometry.Geometry.{Geometry}
pub use Rattle.tsd_model.specs.declared.requests.PlaceKind.{PlaceKind}
pub use Rattle.tsd_words.specs.declared.status.Status.{Status}
