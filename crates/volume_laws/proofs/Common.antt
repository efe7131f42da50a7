-- The names that most proofs of this crate cite, passed on from one place. Declares nothing.
pub use Rattle.block_alloc.proofs.StoredLaws.{same_sectors as same_bits}
pub use Rattle.block_alloc.specs.LiveMap.{LiveMap, is_live as is_marked_in}
pub use Rattle.block_alloc.specs.Stored.{IsStored as AreBits, IsStoredAt, sector_of}
pub use Rattle.cap_store.proofs.StoredLaws.{same_sectors as same_records}
pub use Rattle.cap_store.specs.Store.{Store, upgraded as upgraded_store}
pub use Rattle.cap_store.specs.Stored.{IsStored as AreKept}
pub use Rattle.disk_laws.proofs.DoomLaws.{live-restricted, live_below, settle_is_valid}
pub use Rattle.graph_laws.proofs.AheadLaws.{doomed_list-with_pointer, doomed_pairs-with_pointer}
pub use Rattle.graph_laws.proofs.CommuteLaws.{absent_raw, create_settles, settle-of_records, settle-without_pointer, settled_live, swept-of_records}
pub use Rattle.graph_laws.proofs.CountLaws.{filter_twice, led_or_alone}
pub use Rattle.graph_laws.proofs.SameGraphLaws.{alike_have_graph, doomed_by_graph, doomed_pairs_by_graph, free_count_by_graph, graph-of_records, graph_of_same, laid_out_by_graph, lost_by_graph, settle_by_graph, step_by_graph}
pub use Rattle.graph_laws.proofs.SettleLaws.{holds-settle, led_has_none, length-settle, live-settle, none_is_led, settle_none}
pub use Rattle.graph_laws.proofs.StepLaws.{holds-without_pointers, settle-stepped}
pub use Rattle.graph_laws.proofs.ToldLaws.{contents-world_with, live-graph, raw-graph, world_with-set_free}
pub use Rattle.graph_laws.proofs.WeightLaws.{doomed_after_step, free_count-settle, length-settle_pairs, step_lowers}
pub use Rattle.graph_laws.specs.Counts.{doomed_size, stays}
pub use Rattle.graph_laws.specs.Graph.{HasGraphOf, graph, no_record, world_with as world_of_parts, zeros_in}
pub use Rattle.graph_laws.specs.RawGraph.{IsLaidOut, IsRawGraph}
pub use Rattle.graph_laws.specs.Steps.{IsAlone, stepped, with_free, without_pointers}
pub use Rattle.image_device.proofs.Moments.{firm_image, joined, rested, started, weakened}
pub use Rattle.image_device.proofs.Outcomes.{on_ok}
pub use Rattle.image_device.proofs.Sets.{or_false}
pub use Rattle.image_device.specs.Calls.{Rests, Uses}
pub use Rattle.image_device.specs.Image.{put_at, zeros}
pub use Rattle.image_device.specs.Runs.{IsConfined, IsFirm, LeavesOnly}
pub use Rattle.image_device.specs.View.{IsLeftWithin, IsSound, View}
pub use Rattle.image_device.specs.declared.device.Failed.{Failed}
pub use Rattle.image_layout.specs.Areas.{bitmap_start, caps_start, counts_start, data_start, format_gate, header_sector, slots_start}
pub use Rattle.image_layout.specs.Header.{IsHeaderReading}
pub use Rattle.image_layout.specs.Image.{Image, data_bytes, says_open, sector_bytes}
pub use Rattle.image_layout.specs.Offsets.{data_sector}
pub use Rattle.image_layout.specs.Ring.{bodies, gate_sector, records}
pub use Rattle.image_layout.specs.declared.header.Header.{Header}
pub use Rattle.image_layout.specs.declared.offset.Patch.{Patch}
pub use Rattle.image_world.proofs.AgreeLaws.{alike_outside, formatted_by, old_stands, unused_agree, unused_stands}
pub use Rattle.image_world.proofs.AlikeLaws.{alike_tables}
pub use Rattle.image_world.proofs.ChangeLaws.{left_records, upgrade_change}
pub use Rattle.image_world.proofs.DebtLaws.{world_graph}
pub use Rattle.image_world.proofs.LikeLaws.{left_like, left_live, live_inside, tables_like}
pub use Rattle.image_world.proofs.RawLaws.{blocks_with, contents_with, live_with}
pub use Rattle.image_world.proofs.SoundLaws.{has_one, tables_had}
pub use Rattle.image_world.proofs.TurnLaws.{after_turned, turned_had as turned_have}
pub use Rattle.image_world.proofs.WrittenLaws.{above_journal, written_stands, written_tables}
pub use Rattle.image_world.specs.Alike.{AreAlike, AreUnused}
pub use Rattle.image_world.specs.Debt.{graph_in, owed}
pub use Rattle.image_world.specs.Faults.{HasJournal, IsGood}
pub use Rattle.image_world.specs.Raw.{blank_of, data_on, zeros_of}
unfoldable pub use Rattle.image_world.specs.Raw.{left_of, world_with}
pub use Rattle.image_world.specs.Sound.{AreSound, HasTables}
pub use Rattle.image_world.specs.Stands.{Stands}
unfoldable pub use Rattle.image_world.specs.Stands.{world_of}
pub use Rattle.image_world.specs.Tables.{Tables, header_on, pairs_of}
unfoldable pub use Rattle.image_world.specs.Tables.{tables_of}
pub use Rattle.image_world.specs.Turns.{Turns}
pub use Rattle.image_world.specs.Written.{IsWritten, nth_sector}
pub use Rattle.intent_journal.proofs.Opened.{home_of_empty}
pub use Rattle.intent_journal.proofs.Overlays.{put_elsewhere, put_here}
pub use Rattle.intent_journal.proofs.Uses.{at_closed, at_kept, at_rested, at_valid, home_alike, home_missed, overlaid_with_patch}
pub use Rattle.intent_journal.specs.Batch.{IsBatch, has_home, with_patch}
pub use Rattle.intent_journal.specs.Crash.{IsAfter, IsBefore, IsBeforeOrAfter}
pub use Rattle.intent_journal.specs.Home.{AgreeBut, home, is_journal, overlaid}
pub use Rattle.intent_journal.specs.Records.{JournalRecord, patches_of, AreClosed}
pub use Rattle.intent_journal.specs.Ring.{IsRingAt, checkpoint_writes, commit_writes, committed, is_full_for}
pub use Rattle.pointer_table.proofs.LoadingLaws.{stored_elsewhere}
pub use Rattle.pointer_table.proofs.SlotLaws.{length-pairs_in_le, rising-pairs_in, slot_from_holds}
pub use Rattle.pointer_table.specs.Changes.{IsSlotSector, KeepsStored}
pub use Rattle.pointer_table.specs.Sectors.{IsStored as AreSlots}
pub use Rattle.pointer_table.specs.Slots.{pairs_in}
pub use Rattle.pointer_table.specs.Table.{IsTable, MayBeHeld, Table as Pointers, pairs}
pub use Rattle.reclaim.specs.declared.out_step.OutStep.{OutStep}
pub use Rattle.reclaim.specs.Ahead.{Hides, IsAdding, IsAheadOf, IsDeleting, IsGrowing, IsStepping, Kept, is_gone}
pub use Rattle.ref_counts.proofs.StoredLaws.{same_sectors as same_counts}
pub use Rattle.ref_counts.specs.Changes.{KeepsStored as KeepsCounts}
pub use Rattle.ref_counts.specs.Stored.{IsStored, IsStored as AreCounts}
pub use Rattle.ref_counts.specs.Table.{Table as Counts}
pub use Rattle.std.proofs.lemmas.Bool.{and_from, and_parts, both_ways, cases_Bool, cases_eq, cases_lt, eqb-true, false_from_ne_true, lt-ltb, ne_eqb, not-true, or_cases, or_parts}
pub use Rattle.std.proofs.lemmas.Bool.Decides.{nat_tests}
pub use Rattle.std.proofs.lemmas.List.{ext_get_or, get_or-append_right, get_or-drop, get_or-replicate, get_or-set_other, get_or-set_same, get_or-take, get_or_append_left, get_or_past, length-drop, length-map, length-replicate, length-set, length-take, nil_from_length, take_more}
pub use Rattle.std.specs.Prelude.{IfOk, IsErr, IsErrAnd, IsOk, OnErr, OnOk, filter, is_err, is_none, is_some, slice_get, slice_index, slice_set}
pub use Rattle.tsd_model.proofs.CountLaws.{count-with_pair, count-without_pair, count_to_below, count_to_most, source_removed}
pub use Rattle.tsd_model.proofs.PairLaws.{holds-filter, holds-with_pair, is_pair_ext}
pub use Rattle.tsd_model.specs.Doomed.{doomed, settle}
pub use Rattle.tsd_model.specs.Geometry.{IsLawful, block_len}
pub use Rattle.tsd_model.specs.Pairs.{count_to, holds, is_pair, with_pair, without_pair}
pub use Rattle.tsd_model.specs.Reach.{reach, restricted, swept}
pub use Rattle.tsd_model.specs.Records.{kept, upgraded, upgraded_record}
pub use Rattle.tsd_model.specs.Step.{filled, targets_from, with_caps, with_contents, with_new_blocks, with_pointer, without_pointer}
pub use Rattle.tsd_model.specs.World.{World, are_apart, contents, free_count, has_number, is_free, is_live}
pub use Rattle.tsd_model.specs.declared.geometry.Geometry.{Geometry}
pub use Rattle.tsd_model.specs.declared.records.Record.{Record}
pub use Rattle.volume_laws.specs.Data.{HasSameData, KeepsData}
pub use Rattle.volume_laws.specs.Graphs.{IsStepNext}
pub use Rattle.volume_laws.specs.Growing.{AreFree, HasNoLost, HasRoom, HidesNone, IsGrown, Parts, PartsAreStored, PartsFit, parts_of, with_parts}
pub use Rattle.volume_laws.specs.Moments.{LeavesEither, LeavesOwed, LeavesWorld, StandsForEither, made}
pub use Rattle.volume_laws.specs.Operations.{IsOperation, IsWithin}
pub use Rattle.volume_laws.specs.Steps.{AreHeld, IsAllowed, IsStepPut, IsStepped, MayTake, PairsAreTaken, live_after, pairs_without, with_slots_and_counts}
pub use Rattle.volume_laws.specs.Volume.{AreParts, IsVolumeAt, IsVolumeReady, Volume, tables_in, told_by, world_on}
pub use Rattle.volume_laws.specs.Writes.{IsPaid, Works, batch_cost, due, lost_cost}
pub use Rattle.volume_laws.specs.Zeroed.{AreMissed, IsZeroedAt, firmed, is_data, is_part}
