-- The names that most proofs of this crate cite, passed on from one place. Declares nothing.
pub use Rattle.disk_laws.proofs.ByteLaws.{free_count_like}
pub use Rattle.image_device.proofs.Moments.{firm_image, joined, leaves_both, leaves_now, started, weakened}
pub use Rattle.image_device.proofs.Parts.{part_at_end, part_confined, part_stays}
pub use Rattle.image_device.specs.Counts.{CountsFault, CountsFaultOf, Rose}
pub use Rattle.image_device.specs.Image.{zeros}
pub use Rattle.image_device.specs.Runs.{IsConfined, IsFirm, LeavesOnly, LeavesPart, PutsAll}
pub use Rattle.image_device.specs.View.{IsLeftInPut, IsPart, IsSound, View}
pub use Rattle.image_layout.specs.Areas.{sweep_flag, total}
pub use Rattle.image_layout.specs.Image.{Image, says_open}
pub use Rattle.image_runs.specs.Applying.{HasApplied, IsSummary, LeavesRun, more_granted, more_refused}
pub use Rattle.image_runs.specs.Behind.{AreSameBehind, LeavesSameBehind, LeavesSectorsBehind, sectors_behind}
pub use Rattle.image_runs.specs.Fresh.{FreshEnds, FreshRan, IsPromptFresh, format_writes, fresh_start, single_world}
pub use Rattle.image_runs.specs.Load.{HasLoaded, IsLeftOfLoad, IsLoadDone, IsLoadedBy, granted_count, is_refused, load_line, loaded, loaded_replies, refused_count, requests_of}
pub use Rattle.image_runs.specs.Opened.{IsJudged, IsUnopened, status_of}
pub use Rattle.image_runs.specs.Served.{ImageRan, IsAtEase, IsOwed, IsPromptRun, RunEnds, disk_service, start_of}
pub use Rattle.image_runs.specs.Server.{disk_rules, disk_work, limit_with, placed_on, writes_before}
pub use Rattle.image_world.proofs.WorldLaws.{geometry_left, told_like, world_valid}
pub use Rattle.image_world.specs.Behind.{LeavesBehind, behind, size_of_image}
pub use Rattle.image_world.specs.Debt.{debt, owed}
pub use Rattle.image_world.specs.Faults.{IsGood}
pub use Rattle.image_world.specs.Stands.{Stands, world_of}
pub use Rattle.image_world.specs.Tables.{Tables, header_on}
unfoldable pub use Rattle.image_world.specs.Tables.{tables_of}
pub use Rattle.intent_journal.specs.Home.{home}
pub use Rattle.intent_journal.specs.Records.{AreClosed}
pub use Rattle.load_gen.specs.Load.{Generator, load_after, next_request}
pub use Rattle.load_gen.specs.Requests.{request_of_kind, request_of_words, seed_request, shown_at, stream_word, window, words_place}
pub use Rattle.recovery.specs.Formatting.{IsFormatting}
pub use Rattle.recovery.specs.Opening.{IsForeign, IsOpening, IsUntouched, SparesDamaged, StandAlike}
pub use Rattle.recovery.specs.declared.fault.OpenFault.{OpenFault}
pub use Rattle.serving.proofs.Aside.{aside_then}
pub use Rattle.serving.specs.Costs.{IsPaidFor, costs, first_cost}
pub use Rattle.serving.specs.Debts.{HasDebt}
pub use Rattle.serving.specs.Handling.{CountsRise as AreCounted, StandsBeforeOrAfter}
pub use Rattle.serving.specs.Input.{Spelling}
pub use Rattle.serving.specs.ModelRules.{Placed}
pub use Rattle.serving.specs.Prompt.{IsOfPort, Mark, Promptly, mark}
pub use Rattle.serving.specs.Ran.{AskedBy, ByStatus, Moments, Ran, Taking, moments, taking}
pub use Rattle.serving.specs.Runs.{IsAcknowledged, IsCutOff, Run, Served}
pub use Rattle.serving.specs.Service.{IsCounted}
pub use Rattle.serving.specs.Voice.{Voice, spoken, spoken_counted}
pub use Rattle.std.proofs.lemmas.Bool.{eqb-true, ltb-false, or_left, or_parts}
pub use Rattle.std.proofs.lemmas.List.{length-take, take_all}
pub use Rattle.std.specs.Prelude.{IfOk, IfSome, IsTrue, count_by, if◌then◌else◌, is_none, is_some, unwrap_or}
pub use Rattle.tsd_core.proofs.AtLaws.{at_core, at_volume, like_at}
pub use Rattle.tsd_core.specs.Applying.{asks_nothing, next_world}
pub use Rattle.tsd_core.specs.Core.{Core, FitsReads, IsCoreAt, IsCoreReady, state_on, told_world}
pub use Rattle.tsd_core.specs.Work.{cost_in, write_limit}
pub use Rattle.tsd_model.specs.Geometry.{IsLawful, block_len}
pub use Rattle.tsd_model.specs.ReplyForm.{HasForm, is_refusal}
pub use Rattle.tsd_model.specs.Run.{IsAnswer, after, answer, at_rest, fresh_world, replies, starved}
pub use Rattle.tsd_model.specs.Sessions.{Sessions, fitted, no_sessions}
pub use Rattle.tsd_model.specs.Step.{Outcome, State, change, judged, raised_by, run_at, step, without_pointer}
pub use Rattle.tsd_model.specs.Valid.{IsSized, IsValid}
pub use Rattle.tsd_model.specs.Verdict.{is_begin, is_empty, is_granted, verdict}
pub use Rattle.tsd_model.specs.World.{World, contents, free_count, has_number, is_live}
pub use Rattle.tsd_model.specs.declared.caps.CapPair.{CapPair}
pub use Rattle.tsd_model.specs.declared.geometry.Geometry.{Geometry}
pub use Rattle.tsd_model.specs.declared.replies.Reply.{Reply}
pub use Rattle.tsd_model.specs.declared.replies.Rule.{Rule}
pub use Rattle.tsd_model.specs.declared.requests.PlaceKind.{PlaceKind}
pub use Rattle.tsd_model.specs.declared.requests.Request.{Request}
pub use Rattle.tsd_words.specs.Lines.{cap_lines, clean_line, clean_words, line_of, load_words}
pub use Rattle.tsd_words.specs.declared.status.Status.{Status}
pub use Rattle.volume_laws.specs.Moments.{LeavesEither, LeavesWorld}
pub use Rattle.volume_laws.specs.Quiet.{IsQuiet}
pub use Rattle.volume_laws.specs.Volume.{IsVolumeAt, Volume, told_by, world_on}
pub use Rattle.volume_laws.specs.Writes.{Works, due}
