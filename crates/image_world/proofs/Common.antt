-- The names that most proofs of this crate cite, passed on from one place. Declares nothing.
pub use Rattle.block_alloc.proofs.FreshLaws.{fresh_at, fresh_table as fresh_map, written_stored as written_bits}
pub use Rattle.block_alloc.proofs.StoredLaws.{one_map, same_sectors as same_bits}
pub use Rattle.block_alloc.specs.LiveMap.{IsTable as IsMap, LiveMap, is_live as is_marked_in}
pub use Rattle.block_alloc.specs.Stored.{IsStored, IsStored as AreBits}
pub use Rattle.cap_store.proofs.StoredLaws.{one_store, same_sectors as same_records}
pub use Rattle.cap_store.specs.Stored.{IsStored as AreKept, kept_as, stored_record}
pub use Rattle.disk_laws.proofs.DoomLaws.{live-restricted, live_below, settle_is_valid}
pub use Rattle.disk_laws.specs.Bytes.{AreLike}
pub use Rattle.graph_laws.proofs.CommuteLaws.{settle-of_records, settle-with_contents, settled_live, swept-of_records, swept-with_contents}
pub use Rattle.graph_laws.proofs.ToldLaws.{blocks-world_with, contents-world_with, contents_past-world_with, told_has_graph}
pub use Rattle.image_device.specs.Counts.{Rose}
pub use Rattle.image_device.specs.Image.{IsSector, put_at, zeros}
pub use Rattle.image_device.specs.View.{View}
pub use Rattle.image_layout.proofs.ReadingLaws.{none_wrong, one_fault as one_why}
pub use Rattle.image_layout.specs.Areas.{data_start, format_gate, header_sector, slots_start, sweep_flag}
pub use Rattle.image_layout.specs.Header.{IsFirstBad, IsHeaderReading, IsPrimaries, IsSectors, IsVersion, header_bytes, header_of, magic}
pub use Rattle.image_layout.specs.Image.{Image, data_bytes, gate_bytes, is_bit_set, says_open, sector_bytes, source_field, stored_count, target_field}
pub use Rattle.image_layout.specs.Offsets.{data_sector}
pub use Rattle.image_layout.specs.declared.fault.ImageFault.{ImageFault}
pub use Rattle.image_layout.specs.declared.header.Header.{Header}
pub use Rattle.image_layout.specs.declared.offset.Patch.{Patch}
pub use Rattle.image_world.specs.Alike.{AreAlike, AreUnused, ReadAlike}
pub use Rattle.image_world.specs.Debt.{debt, graph_in, owed}
pub use Rattle.image_world.specs.Faults.{AreRight, HasCounts, HasEnds, HasHeader, HasJournal, HasNoRepeated, HasPrimaries, IsDamaged, IsFirstFault, IsFormatGateOpen, IsGood, IsLeastCount, IsLeastEnd, IsLeastPrimary, IsTableFault, are_marked, found_count}
pub use Rattle.image_world.specs.Raw.{blank_of, data_on, raw_of, zeros_of}
unfoldable pub use Rattle.image_world.specs.Raw.{left_of, world_with}
pub use Rattle.image_world.specs.Sound.{AreSound, HasTables}
pub use Rattle.image_world.specs.Stands.{Stands}
unfoldable pub use Rattle.image_world.specs.Stands.{world_of}
pub use Rattle.image_world.specs.Tables.{Tables, counts_on, header_on, live_on, pairs_of, records_on, slots_on, tables_as}
unfoldable pub use Rattle.image_world.specs.Tables.{tables_of}
pub use Rattle.image_world.specs.Testing.{AreRead, IsTesting}
pub use Rattle.image_world.specs.Tests.{AreFound, AreSame, EndsLive, IsLeastLoose, IsLeastWrong, IsLooseBefore, PrimariesLive, TablesAgree, are_live, leads_to, loose_in, slots_to}
pub use Rattle.image_world.specs.declared.fault.LoadFault.{LoadFault}
pub use Rattle.intent_journal.proofs.Overlays.{overlaid_append, put_elsewhere, put_here}
pub use Rattle.intent_journal.specs.Crash.{IsAfter, IsBefore, IsTheSame}
pub use Rattle.intent_journal.specs.Descriptor.{descriptor_bytes}
pub use Rattle.intent_journal.specs.Home.{AgreeBut, home, is_journal, overlaid}
pub use Rattle.intent_journal.specs.Records.{JournalRecord, patches_of}
unfoldable pub use Rattle.intent_journal.specs.Records.{has_valid_records, open_records}
pub use Rattle.pointer_table.proofs.FreshLaws.{empty_sector, fresh_table as empty_table, no_pairs, written_stored as written_slots}
pub use Rattle.pointer_table.proofs.LoadLaws.{good_slot}
pub use Rattle.pointer_table.proofs.LoadingLaws.{one_table, stored_elsewhere}
pub use Rattle.pointer_table.proofs.SlotLaws.{AreApart, holds-pairs_in, holds_from_slot, is_at_same, is_at_some, length-pairs_in_le, rising-pairs_in, slot_from_holds, some_inside}
pub use Rattle.pointer_table.specs.Loading.{HasNoBad, IsLeastBadSlot, IsLeastRepeated, IsLoaded, IsRepeatedOn, is_bad_at, is_bad_slot}
pub use Rattle.pointer_table.specs.Scanning.{is_at, lesser_pair}
pub use Rattle.pointer_table.specs.Sectors.{IsStored as AreSlots, slot_of, stored_slot}
pub use Rattle.pointer_table.specs.Slots.{IsRepeated, pairs_in, slot_at}
pub use Rattle.pointer_table.specs.Table.{IsTable, IsTable as IsPointers, MayBeHeld, Table as Pointers, pairs}
pub use Rattle.ref_counts.proofs.StoredLaws.{one_table as one_counts, same_sectors as same_counts}
pub use Rattle.ref_counts.specs.Stored.{IsStored as AreCounts}
pub use Rattle.ref_counts.specs.Table.{IsTable as IsCounts, Table as Counts}
pub use Rattle.std.proofs.Math.ListN.{drop_of_length-le}
pub use Rattle.std.proofs.lemmas.Bool.{and_from, and_parts, both_ways, cases_Bool, cases_eq, cases_lt, cases_order, eq-eqb, false_from_ne_true, ne_eqb}
pub use Rattle.std.proofs.lemmas.Bool.Decides.{nat_tests}
pub use Rattle.std.proofs.lemmas.Grind.{div_ceil_times, get_or_default_zero}
pub use Rattle.std.proofs.lemmas.List.{drop-drop, ext_get_or, get_or-append_right, get_or-replicate, get_or-set_other, get_or-set_same, get_or_append_left, get_or_past, length-map, length-replicate, length-set, length-take, replicate-append-replicate, take-append-drop, take_all}
pub use Rattle.std.proofs.lemmas.List.FromFn.{get_or-map-range_with_len, length-map-range_with_len}
pub use Rattle.std.specs.List.{list_all, list_any, range_with_len}
pub use Rattle.std.specs.Prelude.{Contains, IfSome, IsErrOf, filter, is_some, map, slice_get, slice_index, slice_index_or, slice_set, ◌↔◌}
pub use Rattle.tsd_model.proofs.PairLaws.{above_first, all_of_held, holds_first, is_pair_ext, lt_itself, lt_trans}
pub use Rattle.tsd_model.specs.Doomed.{doomed_round, doomed_rounds, hangs_on, is_led_only_from, settle}
pub use Rattle.tsd_model.specs.Geometry.{IsLawful, block_len}
pub use Rattle.tsd_model.specs.Pairs.{count_to, holds, is_below_first, is_pair, is_rising, pair_lt, with_pair}
pub use Rattle.tsd_model.specs.Reach.{blocks_that, reach, restricted, swept}
pub use Rattle.tsd_model.specs.Records.{is_of_version, is_record_of, kept, upgraded, upgraded_record}
pub use Rattle.tsd_model.specs.Run.{fresh_world}
pub use Rattle.tsd_model.specs.Step.{with_caps, with_contents, with_new_blocks, with_pointer}
pub use Rattle.tsd_model.specs.Valid.{IsRaw, IsValid}
pub use Rattle.tsd_model.specs.World.{World, all_blocks, contents, has_number, is_live, is_primary}
pub use Rattle.tsd_model.specs.declared.caps.CapPair.{CapPair}
pub use Rattle.tsd_model.specs.declared.geometry.Geometry.{Geometry}
