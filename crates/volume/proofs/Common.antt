-- The names that most proofs of this crate cite, passed on from one place. Declares nothing.
pub use Rattle.block_alloc.proofs.WorldLaws.{chosen_run_same, chosen_same, free_count_same, runs_same}
pub use Rattle.block_alloc.specs.Choosing.{IsRunRefusal as IsRefusalIn, IsShort as IsShortIn, chosen_run as chosen_in}
pub use Rattle.block_alloc.specs.LiveMap.{LiveMap, free_count as free_in, is_live as is_marked_in}
pub use Rattle.block_alloc.specs.Worlds.{IsMapOf}
pub use Rattle.cap_store.specs.Store.{Store}
pub use Rattle.cap_store.specs.Stored.{IsStored as AreKept, caps_sector_bytes}
pub use Rattle.cycle_sweep.specs.Sweep.{AreSweptBy, MaySweep}
pub use Rattle.graph_laws.proofs.SameGraphLaws.{free_count_by_graph, graph_of_same}
pub use Rattle.graph_laws.proofs.SettleLaws.{settle_none}
pub use Rattle.graph_laws.specs.Graph.{HasGraphOf, graph}
pub use Rattle.image_device.proofs.Outcomes.{on_ok}
pub use Rattle.image_device.specs.Calls.{Uses}
pub use Rattle.image_device.specs.Runs.{IsConfined, IsFirm}
pub use Rattle.image_device.specs.View.{IsSound, View}
pub use Rattle.image_device.specs.declared.device.Failed.{Failed}
pub use Rattle.image_layout.specs.Areas.{header_sector, sweep_flag}
pub use Rattle.image_layout.specs.Header.{IsHeaderReading, header_bytes}
pub use Rattle.image_layout.specs.Image.{Image, data_bytes, gate_bytes, says_open}
pub use Rattle.image_layout.specs.declared.header.Header.{Header}
pub use Rattle.image_layout.specs.declared.offset.Patch.{Patch}
pub use Rattle.image_world.proofs.DebtLaws.{world_graph}
pub use Rattle.image_world.specs.Debt.{graph_in, owed}
pub use Rattle.image_world.specs.Loaded.{AreStored, DoFit, tables_with}
pub use Rattle.image_world.specs.Raw.{blank_of, zeros_of}
unfoldable pub use Rattle.image_world.specs.Raw.{left_of, world_with}
pub use Rattle.image_world.specs.Sound.{AreSound, HasTables}
pub use Rattle.image_world.specs.Tables.{Tables, header_on, pairs_of, tables_of}
pub use Rattle.image_world.specs.Turns.{Turns}
pub use Rattle.intent_journal.specs.Batch.{with_patch}
pub use Rattle.intent_journal.specs.Home.{home}
pub use Rattle.intent_journal.specs.Records.{JournalRecord, is_gate_open, open_records, patches_of}
pub use Rattle.intent_journal.specs.Ring.{IsRingAt, checkpoint_writes, commit_writes, committed}
pub use Rattle.pointer_table.specs.Slots.{pairs_in}
pub use Rattle.pointer_table.specs.Table.{MayBeHeld, Table as Pointers, pairs}
pub use Rattle.reclaim.specs.declared.out_step.OutStep.{OutStep}
pub use Rattle.reclaim.specs.Ahead.{Hides, IsAheadOf, Kept, is_gone}
pub use Rattle.reclaim.specs.Tables.{graph_of}
pub use Rattle.ref_counts.specs.Changes.{KeepsStored as KeepsCounts}
pub use Rattle.ref_counts.specs.Table.{Table as Counts}
pub use Rattle.std.proofs.lemmas.Bool.{both_ways, cases_Bool, cases_eq, cases_lt, lt-ltb}
pub use Rattle.std.proofs.lemmas.Bool.Decides.{nat_tests}
pub use Rattle.std.proofs.lemmas.List.{ext_get_or, get_or-replicate, get_or_past, length-replicate, nil_from_length}
pub use Rattle.std.proofs.lemmas.List.Sums.{count_by-le-length, sum_by-cons}
pub use Rattle.std.specs.Prelude.{IfErr, IfOk, IsErrAnd, OnErr, OnOk, count_by, is_none, map, slice_index, slice_set}
pub use Rattle.tsd_model.specs.Doomed.{doomed, settle}
pub use Rattle.tsd_model.specs.Geometry.{IsLawful, block_len}
pub use Rattle.tsd_model.specs.Pairs.{holds}
pub use Rattle.tsd_model.specs.Placing.{chosen, chosen_run, runs}
pub use Rattle.tsd_model.specs.Reach.{reach, restricted, swept}
pub use Rattle.tsd_model.specs.Records.{kept, upgraded, upgraded_record}
pub use Rattle.tsd_model.specs.Step.{filled, targets_from, with_caps, with_contents, with_new_blocks, with_pointer, without_pointer}
pub use Rattle.tsd_model.specs.World.{World, all_blocks, contents, free_count, has_number, is_live}
pub use Rattle.tsd_model.specs.declared.geometry.Geometry.{Geometry}
pub use Rattle.tsd_model.specs.declared.requests.PlaceKind.{PlaceKind}
pub use Rattle.volume.specs.Refusals.{IsRunRefusal, IsShort}
pub use Rattle.volume.specs.Sweeping.{graph_size, left_cost, left_due, sweep_cost, sweep_left, swept_size, taken_cost, unswept}
pub use Rattle.volume_laws.proofs.AheadKept.{adding, ahead_then, counted_then, deleting, gone_added, gone_then, graph_added, graph_dropped, growing, hides_none, hides_same, hides_stepped, none_gone, none_hides, same_bits}
pub use Rattle.volume_laws.proofs.BlockLaws.{length-filled, put_ok, two_patches}
pub use Rattle.volume_laws.proofs.Committed.{before_moments, emptied_ok, ok_map, told_geometry, told_inside, written_moments, written_ok}
pub use Rattle.volume_laws.proofs.Costs.{commit_pays, paid}
pub use Rattle.volume_laws.proofs.DataLaws.{data_both, data_committed, data_confined, data_emptied, data_rested, data_then, written_keeps}
pub use Rattle.volume_laws.proofs.NextLaws.{are_tables, have_counts, same_graph}
pub use Rattle.volume_laws.proofs.OperationLaws.{as_either, committed_op, committed_uses, committed_within, faults_after, kept_failed, kept_fails, kept_moments, kept_then, no_op, none_within, op_answers, op_fails, op_ready, spent_on_err, spent_unless_ok, then_kept, within_answers, within_fails, within_more, within_ready, within_then, works_joined, works_of}
pub use Rattle.volume_laws.proofs.Ops.{IsOp, any_bytes, op_at, op_done, op_paid, op_told, op_world}
pub use Rattle.volume_laws.proofs.Outcomes.{if_here, ok_here, ok_if}
pub use Rattle.volume_laws.proofs.OwedLaws.{kept_owed, unused_owed, written_owed, zeroed_owed}
pub use Rattle.volume_laws.proofs.Pointed.{IsAdded, IsOpenTo, added, count_room, ends_within, left_pointer, marked, owed_pointer, raw_absent, settled_pairs}
pub use Rattle.volume_laws.proofs.QuestionLaws.{NoneBetween, holds_told, map_of, pairs_told, shown, source_gone, source_none, source_stays, targets_gone, targets_stay, told_right, told_size}
pub use Rattle.volume_laws.proofs.RingLaws.{batch_none, batch_of_none, batch_ok, batches_same, batches_step, batches_within, commits_once}
pub use Rattle.volume_laws.proofs.SettlingLaws.{IsSettling, done, settling_cost, settling_more, settling_none, settling_op}
pub use Rattle.volume_laws.proofs.StepOps.{IsStepOf, owed_moments, step_most, step_of, step_paid, step_used, step_uses, still_left}
pub use Rattle.volume_laws.proofs.StepWorlds.{graph_stepped, world_stepped}
pub use Rattle.volume_laws.proofs.TableWorlds.{blank, graph_laid_out, graph_raw, laid_out, none_owed, same_doomed}
pub use Rattle.volume_laws.proofs.ZeroedLaws.{data_unused, free_inside, grow_moments, journal_low, zero_done, zeroed_at, zeroed_bytes, zeroed_moments, zeroed_ring}
pub use Rattle.volume_laws.specs.Data.{KeepsData}
pub use Rattle.volume_laws.specs.Growing.{AreFree, IsGrown, Parts, PartsFit, parts_of, with_parts}
pub use Rattle.volume_laws.specs.Moments.{LeavesEither, LeavesOwed, LeavesWorld, made}
pub use Rattle.volume_laws.specs.Operations.{IsOperation, IsWithin}
pub use Rattle.volume_laws.specs.Rings.{CommitsOnce, HasBatch, HasBatches, HasNewBlocks}
pub use Rattle.volume_laws.specs.Steps.{IsAllowed, IsStepPut, IsStepped, MayPut, live_after, with_all}
pub use Rattle.volume_laws.specs.Volume.{AreParts, IsVolumeAt, IsVolumeReady, Volume, tables_in, told_by, world_on}
pub use Rattle.volume_laws.specs.Writes.{IsPaid, Works, batch_cost, due, lost_cost, zeroed_cost}
pub use Rattle.volume_laws.specs.Zeroed.{AreMissed, firmed, is_data}
