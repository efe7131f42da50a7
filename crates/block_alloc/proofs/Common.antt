-- The names that most proofs of this crate cite, passed on from one place. Declares nothing.
pub use Rattle.block_alloc.specs.Bytes.{AreBits, IsBitPut, IsMapKept, bit_in, bitmap_byte, bitmap_sector_bytes, bits_of, number_of}
pub use Rattle.block_alloc.specs.Choosing.{all_blocks, chosen, chosen_run, free_blocks, is_free_run, runs}
pub use Rattle.block_alloc.specs.Groups.{IsKeptFrom, is_run_within, is_within}
pub use Rattle.block_alloc.specs.Least.{blocks_of, inserted, least_of, ranked}
pub use Rattle.block_alloc.specs.LiveMap.{IsTable, LiveMap, free_count, is_free, is_live}
pub use Rattle.block_alloc.specs.Rows.{AreMost, IsApart, IsMostAt, IsMostIn}
pub use Rattle.block_alloc.specs.Stored.{AreWritten, IsStored, IsStoredAt, sector_of}
pub use Rattle.block_alloc.specs.declared.least.Ranked.{Ranked}
pub use Rattle.image_device.specs.Image.{Image, put_at}
pub use Rattle.image_layout.specs.Areas.{bitmap_start, slots_start}
pub use Rattle.std.proofs.lemmas.Bool.{and_parts, both_ways, cases_Bool, cases_eq, cases_lt, eq-eqb, false≢true, le-leb, le-ltb, lt-leb, lt-ltb, ltb-true, ne_eqb}
pub use Rattle.std.proofs.lemmas.Bool.Decides.{nat_tests}
pub use Rattle.std.proofs.lemmas.Grind.{div_ceil_times, one_shifted}
pub use Rattle.std.proofs.lemmas.List.{ext_get_or, get_or-append_right, get_or-drop, get_or-map, get_or-replicate, get_or-set_other, get_or-set_same, get_or-take, get_or_append_left, get_or_past, length-drop, length-map, length-replicate, length-set, length-take, length-take-le, length_push, map_more, take-map, take-take, take_all, take_rest}
pub use Rattle.std.proofs.lemmas.List.FromFn.{fill_by_all, get_or-map-range_with_len, length-map-range_with_len, sum_by-map-range_with_len_more}
pub use Rattle.std.proofs.lemmas.List.Sums.{count_by-le-length, length-filter, sum_by-append, sum_by-cons, sum_by-set}
pub use Rattle.std.proofs.lemmas.Nat.Bits.{bit_at-lt, bit_at-pow_other, bit_at-pow_same, bit_at-suc, bit_at-zero, bit_at_and, bit_at_lowest, bit_at_not, bit_at_ones, bit_at_ones_above, bit_at_or, same_from_bits_below}
pub use Rattle.std.specs.Int.{bit_at, bit_not, div_ceil}
pub use Rattle.std.specs.List.{list_all, position_or_len, range_with_len, sum_by}
pub use Rattle.std.specs.Prelude.{count_by, filter, insert, map, slice_get, slice_index, slice_index_or, slice_set}
pub use Rattle.tsd_model.specs.Geometry.{IsLawful}
pub use Rattle.tsd_model.specs.Placing.{chosen as chosen_of, chosen_run as chosen_run_of, first_block, free_blocks as free_blocks_of, hint_block, in_rank_order, is_free_run as is_free_run_of, runs as runs_of, sorted_by_rank}
pub use Rattle.tsd_model.specs.Rank.{rank_of}
pub use Rattle.tsd_model.specs.World.{World, contents, free_count as free_count_of, is_free as is_free_in}
pub use Rattle.tsd_model.specs.declared.geometry.Geometry.{Geometry}
pub use Rattle.tsd_model.specs.declared.requests.PlaceKind.{PlaceKind}
