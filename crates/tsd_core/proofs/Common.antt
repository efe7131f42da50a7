-- The names that most proofs of this crate cite, passed on from one place. Declares nothing.
pub use Rattle.disk_laws.proofs.ByteLaws.{attained_from_like, chosen_like, chosen_run_like, contents_like, free_count_like, verdict_like}
pub use Rattle.disk_laws.proofs.ChangeLaws.{AllFree, AllOf, AllOf-map, chosen_are_free, chosen_run_is_free, contents-other}
pub use Rattle.disk_laws.proofs.DoomLaws.{live-restricted, live_below, target_stays}
pub use Rattle.disk_laws.proofs.GraphLaws.{length-range}
pub use Rattle.disk_laws.proofs.LikeLaws.{doomed_like, fitted_like, settle_like, swept_like}
pub use Rattle.disk_laws.proofs.ReclaimLaws.{doomed_is_live, last_pointer, reached_stays}
pub use Rattle.disk_laws.proofs.RuleLaws.{NoRule, NoneApply, Passes, granted_passes, none_apply, none_split}
pub use Rattle.disk_laws.specs.Bytes.{AreLike}
pub use Rattle.grant_table.specs.Granted.{attained_at, attained_for}
pub use Rattle.grant_table.specs.Table.{IsHeldAt, IsMadeFor, IsTable, Table, dropped_at, with_sessions}
pub use Rattle.graph_laws.specs.Counts.{doomed_pairs, stays}
pub use Rattle.image_device.proofs.Moments.{firm_image, joined, leaves_both, started, weakened}
pub use Rattle.image_device.proofs.Outcomes.{on_ok}
pub use Rattle.image_device.specs.Calls.{Rests, Uses}
pub use Rattle.image_device.specs.Runs.{LeavesOnly, LeavesPart}
pub use Rattle.image_device.specs.View.{IsSound, View}
pub use Rattle.image_device.specs.declared.device.Failed.{Failed}
pub use Rattle.image_layout.specs.Image.{Image}
pub use Rattle.image_world.specs.Behind.{behind}
pub use Rattle.image_world.specs.Debt.{debt, graph_in, owed}
pub use Rattle.image_world.specs.Stands.{Stands, world_of}
pub use Rattle.image_world.specs.Tables.{Tables, pairs_of, tables_of}
pub use Rattle.intent_journal.specs.Home.{home}
pub use Rattle.intent_journal.specs.Ring.{checkpoint_writes}
pub use Rattle.std.proofs.lemmas.Bool.{and_from, and_parts, both_ways, cases_Bool, cases_eq, cases_lt, eq-eqb, eqb-true, false_from_ne_true, ltb-false, ltb-true, ne_eqb, not-false, not-true, or_left, or_parts, or_right}
pub use Rattle.std.proofs.lemmas.Bool.Decides.{nat_tests}
pub use Rattle.std.proofs.lemmas.List.{ext_get_or, get_or-map, get_or-set_other, get_or-set_same, get_or_append_left, get_or_past, length-map, length-set, length-take}
pub use Rattle.std.proofs.lemmas.List.FromFn.{get_or-map-range_with_len, length-map-range_with_len}
pub use Rattle.std.specs.List.{range_with_len}
pub use Rattle.std.specs.Option.{option_map_or}
pub use Rattle.std.specs.Prelude.{Err, IfOk, IfSome, IsErrAnd, IsOk, Ok, OnErr, OnOk, count_by, filter, is_none, is_some, map, option_map, replicate, slice_get, slice_index_or, slice_set, take, unwrap_or}
pub use Rattle.tsd_core.specs.Applying.{IsApplied, IsToldAnswer, asks_nothing, next_world, told_verdict}
pub use Rattle.tsd_core.specs.Carrying.{DoesRequest, IsCarriedOut, IsChanged, IsKnown, left_in, replied}
pub use Rattle.tsd_core.specs.Core.{Core, IsCoreAt, IsCoreReady, sessions_of, state_on, told_state, told_world}
pub use Rattle.tsd_core.specs.Granted.{raised_need}
pub use Rattle.tsd_core.specs.Growing.{AreToBeTaken}
pub use Rattle.tsd_core.specs.Journal.{bytes_given, count_of, makes_blocks, most_homes, owed_then}
pub use Rattle.tsd_core.specs.Seen.{IsOver, IsStarved, dropped_each, is_read, levels_seen, reply_to, seen, state_over, table_after, table_change, world_after}
pub use Rattle.tsd_core.specs.Work.{LeavesDebt, LeavesNoDebt, cost_in, cost_of, made_by, made_in}
pub use Rattle.tsd_model.proofs.PairLaws.{holds-filter, holds_first, is_pair_same}
pub use Rattle.tsd_model.specs.Attained.{attained, attained_from, attained_origins, led_level, shown_level}
pub use Rattle.tsd_model.specs.Doomed.{doomed, settle}
pub use Rattle.tsd_model.specs.Geometry.{IsLawful, block_len}
pub use Rattle.tsd_model.specs.Needs.{needs, session_of, wanted_blocks}
pub use Rattle.tsd_model.specs.Pairs.{holds, is_pair, sources_to, without_pair}
pub use Rattle.tsd_model.specs.Placing.{chosen, chosen_run, hint_block}
pub use Rattle.tsd_model.specs.Reach.{reach, restricted, swept}
pub use Rattle.tsd_model.specs.ReplyForm.{AreNumbers, HasForm, IsBlockSize, RuleHasNumbers, is_refusal}
pub use Rattle.tsd_model.specs.Run.{IsAnswer, after, answer, at_rest, starved}
pub use Rattle.tsd_model.specs.Sessions.{Held, Levels, Sessions, dropped_from, fitted, greater, greatest, held_by, is_open, level_from, level_le, levels_at_live, levels_from, no_sessions, raised_held, raised_level, raised_sessions, with_held}
pub use Rattle.tsd_model.specs.Step.{Outcome, State, change, filled, fitted_outcome, gives, judged, raised_at, raised_by, raised_for, run_at, step, targets_from, with_caps, with_contents, with_new_blocks, with_pointer, without_pointer, zeros}
pub use Rattle.tsd_model.specs.Valid.{IsSized, IsValid}
pub use Rattle.tsd_model.specs.Verdict.{Check, block_rules, check, denied, first_rule, has_bad_session, is_bad, is_begin, is_granted, level_rules, pair_rules, room_rules, rules_before_room, session_rules, verdict}
pub use Rattle.tsd_model.specs.World.{World, contents, free_count, has_number, is_free, is_live, is_primary, primary_blocks}
pub use Rattle.tsd_model.specs.declared.caps.Shown.{Shown}
pub use Rattle.tsd_model.specs.declared.geometry.Geometry.{Geometry}
pub use Rattle.tsd_model.specs.declared.needs.Need.{Need}
pub use Rattle.tsd_model.specs.declared.replies.Reply.{Reply}
pub use Rattle.tsd_model.specs.declared.replies.Rule.{Rule}
pub use Rattle.tsd_model.specs.declared.requests.Hint.{Hint}
pub use Rattle.tsd_model.specs.declared.requests.Level.{Level}
pub use Rattle.tsd_model.specs.declared.requests.PlaceKind.{PlaceKind}
pub use Rattle.tsd_model.specs.declared.requests.Request.{Request}
pub use Rattle.volume_laws.proofs.DataLaws.{data_none, data_then}
pub use Rattle.volume_laws.proofs.QuestionLaws.{told_size}
pub use Rattle.volume_laws.proofs.RingLaws.{batch_none, commits_none}
pub use Rattle.volume_laws.proofs.StepOps.{either_same}
pub use Rattle.volume_laws.specs.Data.{HasSameData, KeepsData}
pub use Rattle.volume_laws.specs.Moments.{LeavesEither, LeavesOwed, LeavesWorld, StandsForEither, made}
pub use Rattle.volume_laws.specs.Rings.{HasBatches, HasNewBlocks}
pub use Rattle.volume_laws.specs.Volume.{IsVolumeAt, IsVolumeReady, Volume, told_by, world_on}
pub use Rattle.volume_laws.specs.Writes.{IsPaid, Works, batch_cost, due, zeroed_cost}
