-- The names that most proofs of this crate cite, passed on from one place. Declares nothing.
pub use Rattle.disk_laws.proofs.AnswerLaws.{after_answer}
pub use Rattle.disk_laws.proofs.AttainedLaws.{attained_by_history, attained_where}
pub use Rattle.disk_laws.proofs.FreshLaws.{fresh_is_valid, no_sessions_fit}
pub use Rattle.disk_laws.proofs.GrantLaws.{answer_level}
pub use Rattle.disk_laws.proofs.NeedLaws.{granted_needs_met, is_bare, le_trans, led_less, met_at, met_everywhere, some_level}
pub use Rattle.disk_laws.proofs.ReachLaws.{found_any, from_start_reached, from_target_reached, leads}
pub use Rattle.disk_laws.proofs.ReclaimLaws.{bytes_stay, reached_is_live}
pub use Rattle.disk_laws.proofs.RuleLaws.{NoRule, granted_passes, none_apply, none_first, none_split}
pub use Rattle.disk_laws.proofs.RunLaws.{answer_fits, answer_geometry, answer_valid, answer_version, run_valid}
pub use Rattle.disk_laws.specs.Bytes.{AreLike}
pub use Rattle.disk_laws.specs.Changes.{has_source, is_create_of, is_removal}
pub use Rattle.disk_laws.specs.Reached.{writes_to}
pub use Rattle.reach_laws.specs.ByAccess.{AttainsWrite, BlockIsAsItWas, HasWriter, IsOutOfReach, RunsChangeByAccess, StaysLive}
pub use Rattle.reach_laws.specs.Confidentiality.{AlikeBut, is_known, is_of, reads_hidden, replies_to, sees_hidden, shows_known, still_hidden}
pub use Rattle.reach_laws.specs.Confinement.{HoldsLess, has_right, is_right_at, is_right_somewhere, needs_level, rules_to_denied, shows_any_right, shows_right}
pub use Rattle.reach_laws.specs.Integrity.{acts_with_write, attains_write, gives_pointer, moves_pointers, removes_blocks, sets_record, writes_bytes}
pub use Rattle.reach_laws.specs.Region.{IsShutOff, LeavesShut, NoneOpens, StaysShutOff, is_written_by, keeps_to, left_after, region_left}
pub use Rattle.reach_laws.specs.RunIntegrity.{is_live_in}
pub use Rattle.reach_laws.specs.Runs.{at_each_state, at_some_request}
pub use Rattle.std.proofs.lemmas.Bool.{and_from, and_parts, cases_eq, cases_lt, eq-eqb, eqb-true, lt-ltb, ltb-false, ne_eqb, or_cases, or_left, or_parts, or_right}
pub use Rattle.std.proofs.lemmas.Bool.Decides.{nat_tests}
pub use Rattle.std.proofs.lemmas.List.Elements.{All-cons, All-head, All-nil, All-tail}
pub use Rattle.std.specs.List.{list_all, list_any}
pub use Rattle.std.specs.Option.{option_map_or}
pub use Rattle.std.specs.Prelude.{All, IsTrue, filter, is_none, is_some, map, replicate, slice_get, slice_index_or, slice_set, unwrap_or, ◌-◌}
pub use Rattle.tsd_model.proofs.ValueLaws.{and_false}
pub use Rattle.tsd_model.specs.Attained.{attained, attained_from, led_level, record_level, shown_level}
pub use Rattle.tsd_model.specs.Geometry.{IsLawful, block_len}
pub use Rattle.tsd_model.specs.History.{attains_at, gives_grant, is_of_session, is_set_cap_of, keeps_grant}
pub use Rattle.tsd_model.specs.Needs.{needs, session_of}
pub use Rattle.tsd_model.specs.Pairs.{holds}
pub use Rattle.tsd_model.specs.Reach.{reach, reach_from, reach_rounds, restricted, swept}
pub use Rattle.tsd_model.specs.Records.{kept, kept_of}
pub use Rattle.tsd_model.specs.Run.{after, answer, at_rest, fresh_world, replies, wants_now}
pub use Rattle.tsd_model.specs.Sessions.{Fits, Held, Sessions, dropped_from, fitted, held_by, is_open, level_from, level_le, levels_from, levels_in, no_sessions, with_held}
pub use Rattle.tsd_model.specs.Step.{Outcome, State, change, filled, gives, judged, raised_by, run_at, with_contents, with_new_blocks, with_pointer, without_pointer, zeros}
pub use Rattle.tsd_model.specs.Valid.{IsRaw, IsValid}
pub use Rattle.tsd_model.specs.Verdict.{block_rules, denied, first_rule, is_granted, level_rules, session_rules, verdict}
pub use Rattle.tsd_model.specs.World.{World, all_blocks, contents, free_count, has_number, is_live, is_primary, primary_blocks}
pub use Rattle.tsd_model.specs.declared.caps.Cap.{Cap}
pub use Rattle.tsd_model.specs.declared.caps.Shown.{Shown}
pub use Rattle.tsd_model.specs.declared.caps.Shown.TheVariants.{Key, Nothing}
pub use Rattle.tsd_model.specs.declared.needs.Need.{Need}
pub use Rattle.tsd_model.specs.declared.records.Record.{Record}
pub use Rattle.tsd_model.specs.declared.replies.Rule.{Rule}
pub use Rattle.tsd_model.specs.declared.requests.Hint.TheVariants.{Null}
pub use Rattle.tsd_model.specs.declared.requests.Level.{Level}
pub use Rattle.tsd_model.specs.declared.requests.PlaceKind.{PlaceKind}
pub use Rattle.tsd_model.specs.declared.requests.PlaceKind.TheVariants.{Near}
pub use Rattle.tsd_model.specs.declared.requests.Request.{Request}
