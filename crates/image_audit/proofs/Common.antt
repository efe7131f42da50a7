-- The names that most proofs of this crate cite, passed on from one place. Declares nothing.
pub use Rattle.disk_laws.proofs.DoomLaws.{in_all, live_below}
pub use Rattle.disk_laws.proofs.GraphLaws.{from_end, has_number-filter, has_number-range, length-range, rounds_from}
pub use Rattle.image_audit.specs.Certificates.{HasGoodEntries, HasParent, IsBad, IsClosed, IsClosedAt, IsGoodEntry, IsLeastBadEntry, IsLeastOut, IsLeastPrimaryOut, IsPrimaryEntry, ListsPrimaries}
pub use Rattle.image_audit.specs.Depths.{AreReached, IsDepth, IsEntryOf, IsParent, IsPath}
pub use Rattle.image_audit.specs.Entries.{entry_at, is_listed}
pub use Rattle.image_audit.specs.Laws.{AreTaken, IsWholeWorld, ReachedByPaths, listings_from}
pub use Rattle.image_audit.specs.Listing.{IsAdded, IsListing, IsListingTaken, IsNextBlock, IsNotTaken, Listed, ListsNone, MayFollow, listing_fields, parent_word}
pub use Rattle.image_audit.specs.ListingReading.{block_in, if_last, keyword, listing_of, parent_of}
unfoldable pub use Rattle.image_audit.specs.ListingReading.{listing_in}
pub use Rattle.image_audit.specs.Paging.{HasRest, IsPageOf, page_rest as left_in, targets_on}
pub use Rattle.image_audit.specs.Searching.{HasDepth, HasDepthTo, HasRoots, IsFirstSeen, IsSearched, IsSearching, NoneSeen, SeenFrom, SeenTo, lesser, noted, root_entry}
pub use Rattle.image_audit.specs.declared.entry.Entry.{Entry}
pub use Rattle.image_audit.specs.declared.listing.Listing.{Listing}
pub use Rattle.script_text.proofs.PiecesLaws.{cut_at, cut_none, join-pieces, lacks, pieces-join, some_pieces}
pub use Rattle.script_text.specs.Pieces.{pieces, words_left}
pub use Rattle.std.proofs.lemmas.Bool.{and_from, and_parts, both_ways, cases_Bool, cases_eq, cases_lt, eq-eqb, eqb-true, le-leb, leb-true, ltb-false, ltb-true, ne_eqb, or_cases, or_left, or_right}
pub use Rattle.std.proofs.lemmas.Bool.Decides.{nat_tests}
pub use Rattle.std.proofs.lemmas.List.{append-nil, append_assoc, get_or-set_other, get_or-set_same, length-append, length-replicate, length-set, length-take, length_push, take_all, take_at}
pub use Rattle.std.specs.List.{join_with_byte, list_all, list_any, range_with_len}
pub use Rattle.std.specs.Prelude.{Err, IfSome, IsTrue, MatchBool, Ok, OnErr, OnOk, Result, bytes_eq, codes, filter, is_some, map, min, option_map, slice_index_or, slice_set, unwrap_or}
pub use Rattle.tsd_model.proofs.PairLaws.{above_first, is_rising-filter, same_tests}
pub use Rattle.tsd_model.specs.Next.{IsNextTarget}
pub use Rattle.tsd_model.specs.Pairs.{holds, is_below_first, is_pair, is_rising, pair_lt}
pub use Rattle.tsd_model.specs.Reach.{is_led_from, reach, reach_from, reach_round, reach_rounds}
pub use Rattle.tsd_model.specs.World.{World, all_blocks, has_number, is_live, is_primary, primary_blocks}
pub use Rattle.tsd_model.specs.declared.geometry.Geometry.{Geometry}
pub use Rattle.volume_laws.specs.Volume.{told_by}
