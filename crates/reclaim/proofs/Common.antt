-- The names that most proofs of this crate cite, passed on from one place. Declares nothing.
pub use Rattle.block_alloc.specs.LiveMap.{LiveMap}
pub use Rattle.disk_laws.proofs.DoomLaws.{live_below, not_primary}
pub use Rattle.graph_laws.proofs.AheadLaws.{doomed_list-with_pointer, doomed_pairs-with_pointer, kept-new_blocks, kept-with_pointer, kept_deleted, kept_of_none}
pub use Rattle.graph_laws.proofs.MarkingLaws.{count_ends, count_lowered, count_zero, marked_more, marking_as, marking_ends, marking_found, marking_lowered, marking_of_deleted, marking_still_led, off_ends, off_lowered, some_left}
pub use Rattle.graph_laws.proofs.SameGraphLaws.{doomed_by_graph, doomed_pairs_by_graph, kept_by_graph, laid_out_by_graph, lost_by_graph, step_by_graph}
pub use Rattle.graph_laws.proofs.StepLaws.{alone_then, geometry-without_pointers, lost_none, none_lost, raw-stepped, settle-stepped}
pub use Rattle.graph_laws.proofs.WeightLaws.{doomed_after_step, doomed_listed, step_keeps_counts, step_lowers}
pub use Rattle.graph_laws.specs.Counts.{AreCounts, count_where, doomed_pairs, kept_count}
pub use Rattle.graph_laws.specs.Graph.{HasGraphOf, no_record, zeros_in}
pub use Rattle.graph_laws.specs.Marking.{IsMarking, IsMarkingBut}
pub use Rattle.graph_laws.specs.RawGraph.{IsLaidOut, IsRawGraph}
pub use Rattle.graph_laws.specs.Steps.{AreTargets, IsLost, IsStep, stepped}
pub use Rattle.pointer_table.specs.Table.{Table, pairs}
pub use Rattle.reclaim.specs.declared.out_step.OutStep.{OutStep}
pub use Rattle.reclaim.specs.Ahead.{Hides, IsAdding, IsAheadOf, IsDeleting, IsGrowing, IsStepping, Kept, is_gone, kept_ahead}
pub use Rattle.reclaim.specs.Counting.{IsCounting, left_at}
pub use Rattle.reclaim.specs.Held.{HeldTargets, IsHeld, IsPopped}
pub use Rattle.reclaim.specs.Stepping.{AreKeptBy, MayStep, TakesAll, after_step}
pub use Rattle.reclaim.specs.Tables.{AreTables, HaveCounts, HoldsLost, graph_of, is_uncounted}
pub use Rattle.reclaim.specs.Tallies.{HasSameMarks}
pub use Rattle.std.proofs.lemmas.Bool.{and_from, and_parts, both_ways, cases_Bool, cases_eq, cases_lt, eq-eqb, eqb-true, false_from_ne_true, le-leb, le-ltb, leb-true, lt-leb, lt-ltb, ltb-true, ne_eqb, not-true, or_cases, or_from, or_left, or_parts, or_right}
pub use Rattle.std.proofs.lemmas.Bool.Decides.{nat_tests}
pub use Rattle.std.proofs.lemmas.List.{get_or-set_other, get_or-set_same, length-set, length-take, take-append-le, take-take, take_more}
pub use Rattle.std.proofs.lemmas.List.Elements.{filter_agree}
pub use Rattle.std.specs.List.{range_with_len}
pub use Rattle.std.specs.Prelude.{IfSome, IsNone, IsSome, IsTrue, filter, map, option_to_list, replicate, slice_index, slice_index_or, slice_set}
pub use Rattle.tsd_model.proofs.CountLaws.{count-without_pair, filter_held, none_pass}
pub use Rattle.tsd_model.proofs.SizeLaws.{length-filter_le}
pub use Rattle.tsd_model.specs.Doomed.{doomed, settle}
pub use Rattle.tsd_model.specs.Pairs.{holds, is_below_first, is_pair, is_rising, without_pair}
pub use Rattle.tsd_model.specs.Step.{targets_from, with_contents, with_new_blocks, with_pointer, without_pointer, zeros}
pub use Rattle.tsd_model.specs.World.{World, are_apart, contents, has_number, is_live, is_live as is_live_in, is_primary}
pub use Rattle.tsd_model.specs.declared.geometry.Geometry.{Geometry}
