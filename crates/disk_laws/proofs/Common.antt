-- The names that most proofs of this crate cite, passed on from one place. Declares nothing.
pub use Rattle.disk_laws.specs.Bytes.{AreLike}
pub use Rattle.disk_laws.specs.Grants.{GrantAttains, ShownAttains, newest_first, onto_past}
pub use Rattle.disk_laws.specs.Reached.{KeepsWhatIsReached, writes_to}
pub use Rattle.disk_laws.specs.Reclaiming.{InOrder, LosesItsPointers, ReclaimOrder, ReclaimsTheLost, is_sweep}
pub use Rattle.std.proofs.lemmas.Bool.{and_from, and_parts, cases_eq, cases_lt, eq-eqb, eqb-true, leb-false, lt-ltb, ltb-false, ltb-true, ne_eqb, not-false, not-true, or_cases, or_left, or_parts, or_right}
pub use Rattle.std.proofs.lemmas.Bool.Decides.{nat_tests}
pub use Rattle.std.proofs.lemmas.List.{get_or-map, get_or-set_other, get_or-set_same, get_or_past, length-map, length-replicate, length-set, length-take}
pub use Rattle.std.proofs.lemmas.List.FromFn.{get_or-enumerate_from, get_or-map-range_with_len, length-enumerate_from, length-map-range_with_len}
pub use Rattle.std.specs.List.{enumerate_from, list_all, list_any, range_with_len}
pub use Rattle.std.specs.Option.{option_map_or}
pub use Rattle.std.specs.Prelude.{IfSome, count_by, filter, is_none, is_some, map, option_map, replicate, slice_get, slice_index_or, slice_set, unwrap_or}
pub use Rattle.tsd_model.proofs.PairLaws.{all_of_held, holds-filter, holds-with_pair, is_rising-filter, is_rising-with_pair, one_fails}
pub use Rattle.tsd_model.proofs.SessionLaws.{held-map, held-with_other, held-with_same, held_keeps, length-with_held, no_held}
pub use Rattle.tsd_model.proofs.SizeLaws.{contents-restricted, length-filter_le, length-with_pair, sized-restricted, sized-with_pointer, sized-without_pointer}
pub use Rattle.tsd_model.specs.Attained.{attained, attained_from, led_level, record_level, shown_level}
pub use Rattle.tsd_model.specs.Doomed.{doomed, doomed_round, doomed_rounds, hangs_on, is_led_only_from, settle}
pub use Rattle.tsd_model.specs.Geometry.{IsLawful, block_len}
pub use Rattle.tsd_model.specs.History.{Asked, attains_at, gives_grant, has_grant, is_end_of, is_of_session, is_set_cap_of, keeps_grant, state_after}
pub use Rattle.tsd_model.specs.Needs.{named_blocks, needs, session_of, wanted_blocks, wanted_pairs}
pub use Rattle.tsd_model.specs.Pairs.{holds, is_pair, sources_to}
pub use Rattle.tsd_model.specs.Placing.{chosen, chosen_run, first_block, free_blocks, hint_block, in_rank_order, is_free_run, runs, sorted_by_rank}
pub use Rattle.tsd_model.specs.Rank.{rank_of}
pub use Rattle.tsd_model.specs.Reach.{is_led_from, reach, reach_from, reach_round, reach_rounds, restricted, swept}
pub use Rattle.tsd_model.specs.Records.{is_of_version, is_record_of, kept, kept_of, upgraded, upgraded_kept, upgraded_record}
pub use Rattle.tsd_model.specs.Run.{after, answer, at_rest, fresh_world, starved, wants_now}
pub use Rattle.tsd_model.specs.Sessions.{Fits, Held, Levels, Sessions, dropped_from, fitted, greater, greatest, held_by, is_open, level_from, level_le, level_rank, levels_at_live, levels_from, levels_in, no_sessions, raised_held, raised_level, raised_sessions, session_begun, session_ended, sessions_max, with_held}
pub use Rattle.tsd_model.specs.Step.{Outcome, State, change, filled, gives, judged, raised_at, raised_by, raised_for, run_at, step, with_caps, with_contents, with_new_blocks, with_pointer, without_pointer, zeros}
pub use Rattle.tsd_model.specs.Valid.{IsRaw, IsSized, IsValid}
pub use Rattle.tsd_model.specs.Verdict.{Check, adds_held_pair, block_rules, check, deletes_missing_pair, denied, finds_no_run, first_rule, has_bad_count, has_bad_session, has_bad_size, has_no_room, is_already_open, is_bad, is_begin, is_empty, is_granted, is_no_session, is_not_open, level_rules, names_free_block, names_missing_block, pair_rules, points_to_primary, room_rules, rules, rules_before_room, session_rules, sets_caps_elsewhere, verdict, wants_too_many}
pub use Rattle.tsd_model.specs.World.{World, all_blocks, are_apart, contents, free_count, has_number, is_free, is_live, is_primary, primary_blocks}
pub use Rattle.tsd_model.specs.declared.caps.CapPair.{CapPair}
pub use Rattle.tsd_model.specs.declared.caps.Shown.{Shown}
pub use Rattle.tsd_model.specs.declared.needs.Need.{Need}
pub use Rattle.tsd_model.specs.declared.records.Record.{Record}
pub use Rattle.tsd_model.specs.declared.replies.Rule.{Rule}
pub use Rattle.tsd_model.specs.declared.requests.Hint.{Hint}
pub use Rattle.tsd_model.specs.declared.requests.Level.{Level}
pub use Rattle.tsd_model.specs.declared.requests.PlaceKind.{PlaceKind}
pub use Rattle.tsd_model.specs.declared.requests.Request.{Request}
pub use Rattle.tsd_model.proofs.ValueLaws.{and_false}
