-- The names that most proofs of this crate cite, passed on from one place. Declares nothing.
pub use Rattle.disk_laws.proofs.ChangeLaws.{contents-other, contents-same, either_pair, new_pair, old_pair, raw-without_pointer}
pub use Rattle.disk_laws.proofs.DoomLaws.{holds-restricted, is_doomed, live-restricted, live_below, not_primary, settle_is_valid, source_stays, target_stays}
pub use Rattle.disk_laws.proofs.GraphLaws.{has_number-filter, has_number-range, length-range}
pub use Rattle.disk_laws.proofs.ReclaimLaws.{doomed_is_live}
pub use Rattle.graph_laws.specs.Counts.{count_where, doomed_pairs, kept_count, stays}
pub use Rattle.graph_laws.specs.Graph.{AreAsOne, HasGraphOf, StayAsOne, graph, no_record, world_with, zeros_in}
pub use Rattle.graph_laws.specs.RawGraph.{IsLaidOut, IsRawGraph}
pub use Rattle.graph_laws.specs.Settling.{EachIsLedTo}
pub use Rattle.graph_laws.specs.Steps.{AreTargets, IsAlone, IsLost, IsStep, stepped, with_free, with_pairs_that, without_pointers}
pub use Rattle.std.proofs.lemmas.Bool.{and_cases, and_from, and_left, and_parts, and_right, both_ways, cases_Bool, cases_eq, cases_lt, eq-eqb, eqb-true, false_from_ne_true, le-ltb, lt-ltb, ltb-false, ltb-true, ne_eqb, not-false, not-true, or_cases, or_from, or_left, or_right}
pub use Rattle.std.proofs.lemmas.Bool.Decides.{nat_tests}
pub use Rattle.std.proofs.lemmas.List.{ext_get_or, get_or-set_other, get_or-set_same, get_or_past, length-replicate, length-set}
pub use Rattle.std.proofs.lemmas.List.Elements.{filter_agree}
pub use Rattle.std.proofs.lemmas.List.FromFn.{get_or-map-range_with_len, length-map-range_with_len}
pub use Rattle.std.specs.List.{list_all, list_any, range_with_len}
pub use Rattle.std.specs.Prelude.{IfSome, count_by, filter, map, replicate, slice_index_or, slice_set}
pub use Rattle.tsd_model.proofs.CountLaws.{count-with_pair, count-without_pair, filter_held, none_pass, none_passes}
pub use Rattle.tsd_model.proofs.PairLaws.{all_of_held, holds-filter, holds-with_pair, is_pair_ext, is_pair_same, is_rising-filter, is_rising-with_pair, one_fails, rising_same, same_tests}
pub use Rattle.tsd_model.proofs.SizeLaws.{contents-restricted, length-filter_le}
pub use Rattle.tsd_model.specs.Doomed.{doomed, doomed_round, doomed_rounds, hangs_on, is_led_only_from, settle}
pub use Rattle.tsd_model.specs.Geometry.{IsLawful, block_len}
pub use Rattle.tsd_model.specs.Pairs.{count_to, holds, is_pair, is_rising, with_pair, without_pair}
pub use Rattle.tsd_model.specs.Reach.{is_led_from, reach, reach_rounds, restricted, swept}
pub use Rattle.tsd_model.specs.Records.{is_record_of, upgraded, upgraded_record}
pub use Rattle.tsd_model.specs.Step.{with_caps, with_contents, with_new_blocks, with_pointer, without_pointer, zeros}
pub use Rattle.tsd_model.specs.Valid.{IsRaw, IsValid}
pub use Rattle.tsd_model.specs.World.{World, all_blocks, are_apart, contents, free_count, has_number, is_free, is_live, is_primary, primary_blocks}
pub use Rattle.tsd_model.specs.declared.geometry.Geometry.{Geometry}
pub use Rattle.tsd_model.specs.declared.records.Record.{Record}
