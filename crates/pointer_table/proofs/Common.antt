-- The names that most proofs of this crate cite, passed on from one place. Declares nothing.
pub use Rattle.byteorder.specs.Endian.{little_bytes, little_from}
pub use Rattle.image_device.specs.Image.{put_at, zeros}
pub use Rattle.image_layout.specs.Areas.{data_start, slots_start}
pub use Rattle.image_layout.specs.Image.{Image, source_field, target_field}
pub use Rattle.image_layout.specs.Offsets.{slot_offset}
pub use Rattle.image_layout.specs.declared.offset.Patch.{Patch}
pub use Rattle.pointer_table.specs.Changes.{IsChange}
pub use Rattle.pointer_table.specs.Empties.{AreEmpties, AreEmptyOnce, AreInRow, AreLinked}
pub use Rattle.pointer_table.specs.Indexed.{HasLinksAndHeads, IsIndex, IsPlaceOf, IsThreadedBy, source_of, target_of}
pub use Rattle.pointer_table.specs.Links.{links_of, unset_link}
pub use Rattle.pointer_table.specs.Loading.{AnswersPointers, HasNoBad, IsLeastBadSlot, IsLeastRepeated, IsLoaded, IsRepeatedOn, WasDecided, is_bad_at, is_bad_slot}
pub use Rattle.pointer_table.specs.Order.{AreHolders, ArePackable, AreSmall, IsOrder, IsShared, packed, sort_key}
pub use Rattle.pointer_table.specs.Raw.{AreKept, all_slots, slot_in, slots_in}
pub use Rattle.pointer_table.specs.Reading.{AreReadTo, AreWithinTo}
pub use Rattle.pointer_table.specs.Repeats.{IsLeastOfAll, IsRepeatedIn}
pub use Rattle.pointer_table.specs.Scanning.{is_at}
pub use Rattle.pointer_table.specs.Sectors.{AreWritten, IsStored, sector_of, slot_bytes, slot_of, slot_sector_bytes, stored_slot}
unfoldable pub use Rattle.pointer_table.specs.Sectors.{row_bytes}
pub use Rattle.pointer_table.specs.Slots.{pairs_in, slot_at}
pub use Rattle.pointer_table.specs.Table.{ArePairs, IsTable, MayBeHeld, Table, pairs}
pub use Rattle.pointer_table.specs.Threads.{AreThreads, IsFirstFrom, IsFirstThatFar, IsLast, IsLastBelow, IsMember, IsNear, IsWith, group, heads_with, is_below, link_after, linked, next_with, no_link, rank}
unfoldable pub use Rattle.pointer_table.specs.Threads.{mixed}
pub use Rattle.pointer_table.specs.declared.fault.TableFault.{TableFault}
pub use Rattle.pointer_table.specs.declared.index.Index.{Index}
pub use Rattle.pointer_table.specs.declared.raw.RawSlot.{RawSlot}
pub use Rattle.pointer_table.specs.declared.way.Way.{Way}
pub use Rattle.std.proofs.lemmas.Bool.{and_from, and_parts, and_right, both_ways, cases_eq, cases_lt, cases_order, eq-eqb, eqb-false, eqb-true, false_from_ne_true, le-leb, le-ltb, leb-false, leb-true, lt-leb, lt-ltb, ltb-false, ltb-true, ne_eqb, not-true, not_from_false, or_cases, or_left, or_parts, or_right}
pub use Rattle.std.proofs.lemmas.Bool.Decides.{nat_tests}
pub use Rattle.std.proofs.lemmas.Grind.{div_ceil_times}
pub use Rattle.std.proofs.lemmas.List.{append-nil, append_assoc, drop-drop, drop_all, drop_at, ext_get_or, get_or-append-add, get_or-append_right, get_or-drop, get_or-replicate, get_or-set_other, get_or-set_same, get_or_append_left, get_or_default, get_or_past, length-append, length-map, length-replicate, length-set, length-take-le, length_push, map-append, map-set, replicate-append-replicate, set-append_left, set-get_or, set-set, take-take, take_all, take_at}
pub use Rattle.std.proofs.lemmas.List.FromFn.{fill_by_all, get_or-map-range_with_len, length-map-range_with_len, length-range_with_len}
pub use Rattle.std.proofs.lemmas.List.Sorted.{Contains-permutation, IsNonDecreasingBy-from_sort, IsPermutation-keeps, IsPermutation-sym, length_permutation}
pub use Rattle.std.proofs.lemmas.List.Sums.{sum_by-append, sum_by-cons}
pub use Rattle.std.specs.Int.{div_ceil}
pub use Rattle.std.specs.List.{list_any, range_with_len, swap}
pub use Rattle.std.specs.Prelude.{IfSome, IsPermutation, OnOk, count_by, filter, is_some, vec_capacity, vec_len, ◌≢◌}
pub use Rattle.tsd_model.proofs.PairLaws.{above_first, holds-filter, holds-with_pair, is_pair_ext, is_pair_same, is_rising-filter, is_rising-with_pair, length-with_new_pair, rising_same, same_tests}
pub use Rattle.tsd_model.specs.Geometry.{IsLawful}
pub use Rattle.tsd_model.specs.Next.{IsNextSource, IsNextTarget}
pub use Rattle.tsd_model.specs.Pairs.{holds, is_below_first, is_pair, is_rising, pair_lt, with_pair, without_pair}
pub use Rattle.tsd_model.specs.declared.geometry.Geometry.{Geometry}
