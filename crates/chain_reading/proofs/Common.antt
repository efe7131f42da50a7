-- The names that most proofs of this crate cite, passed on from one place. Declares nothing.
pub use Rattle.chain_layout.proofs.PlaceLaws.{lesser-assoc, lesser-none}
pub use Rattle.chain_layout.specs.Block.{block_len_of, cluster_of}
pub use Rattle.chain_layout.specs.Held.{blocks_in, dir_cluster, entries_in, part_cluster}
pub use Rattle.chain_layout.specs.Listed.{entry_blocks, has_name, if_above, is_among, least_above, lesser, next_blocks}
pub use Rattle.chain_reading.specs.Ahead.{HasDirectory, IsDirectoryAhead, IsFileAhead}
pub use Rattle.chain_reading.specs.Asking.{MayAsk, mounted_by, tree_under}
pub use Rattle.chain_reading.specs.Chained.{AreEntries, AreFiles, AreOthers, IsChain, IsChainFile, IsFrom, PlacedEntry, placed}
pub use Rattle.chain_reading.specs.Changed.{Rewrites, file_blocks, file_names, file_pairs, relinked}
pub use Rattle.chain_reading.specs.Comparing.{AreFirstDistinct, ArePagesAhead, are_apart_from}
pub use Rattle.chain_reading.specs.Finding.{IsEntry, IsFileOf, IsLookupTaken, IsNameFound, IsRoomiest, better, is_roomy, no_directory_found, no_file_found, no_way, page_link, placed_names}
pub use Rattle.chain_reading.specs.Looking.{Comes, IsPageSeenAt, IsPartSeenAt, ListedCluster, blocks_listed, directory_by, directory_from, file_by, file_from, files_from, go_on, if_page, if_part, is_part_filled, is_part_right, listed_in, page_of, page_on, page_seen, part_seen}
pub use Rattle.chain_reading.specs.Standing.{IsAhead, IsPage, IsPartOfRoot, IsRead, entries_at, has_part}
pub use Rattle.chain_reading.specs.declared.finding.Lookup.TheVariants.{Free, Taken}
pub use Rattle.chain_reading.specs.declared.walking.Page.{Page}
pub use Rattle.disk_laws.proofs.ChangeLaws.{contents-other, contents-same}
pub use Rattle.fs_client.proofs.ApartLaws.{all_in, each_in, is_false}
pub use Rattle.fs_client.proofs.LookLaws.{looks_as, looks_but_refuses, looks_refused, may_again, no_look, then_looks}
pub use Rattle.fs_client.proofs.PlaceLaws.{drop_at, drop_end, place_in}
pub use Rattle.fs_client.proofs.SetLaws.{agrees_more, agrees_none, is_new, on_disk}
pub use Rattle.fs_client.specs.Client.{shown_at}
pub use Rattle.fs_client.specs.Held.{are_held}
pub use Rattle.fs_client.specs.Marked.{Agrees, Gains, HasNone, has_block}
pub use Rattle.fs_client.specs.May.{Looked, MayWrite, OnlyLooks}
pub use Rattle.fs_client.specs.declared.block_set.BlockSet.{BlockSet}
pub use Rattle.fs_client.specs.declared.client.Client.{Client}
pub use Rattle.fs_laws.proofs.ChainLaws.{found}
pub use Rattle.fs_laws.proofs.CountLaws.{apart_times, none_times, times, times-append, times_apart, times_none}
pub use Rattle.fs_laws.proofs.ListLaws.{all_held, any-append, first_in, held_append, held_left, held_right, in_append, number_left, number_right}
pub use Rattle.fs_laws.proofs.OrderLaws.{below_only, entry-other, entry-same, lt_trans, with_entry-again, with_entry-commutes, without_absent}
pub use Rattle.fs_laws.proofs.WayLaws.{ways_lead_on}
pub use Rattle.fs_laws.specs.Ways.{HoldsWrite}
pub use Rattle.fs_port.specs.Calls.{IsValidNow, Stays}
pub use Rattle.fs_port.specs.Files.{Answers, TellsNext, TellsPart, step_on}
pub use Rattle.fs_port.specs.View.{DiskView, IsDiskSound, state_of}
pub use Rattle.fs_trees.specs.Answer.{bytes, listed, refused}
pub use Rattle.fs_trees.specs.ChainTree.{ChainFile, Chains, Link, all_there, are_right, as_tree, before_rest, blocks_of, chain_at, chain_blocks, chain_by_next, chain_bytes, chain_pairs, chain_tree, chains_under, cluster_at, file_at, file_of, files_in, files_of, is_filled, links, names_max, next_of, tree_of_files, with_directory, with_files}
pub use Rattle.fs_trees.specs.Cluster.{Cluster, bytes_room, cluster_in, entries_of}
pub use Rattle.fs_trees.specs.Fields.{Entry, entry_names, only_if}
pub use Rattle.fs_trees.specs.Names.{Name, Path, are_distinct, name_lt}
pub use Rattle.fs_trees.specs.Refusals.{first_of, lost_on_the_way, missing, no_dir, no_file, not_mounted, refusal, when}
pub use Rattle.fs_trees.specs.Tree.{Entries, Node, Tree, a_dir, a_file, at, before, bytes_in, dir, entry, file, is_dir, is_file, is_there, names, names_in, none, nothing, with_at, with_entry}
pub use Rattle.fs_trees.specs.declared.ask.ShellKind.TheVariants.{Chain}
pub use Rattle.fs_trees.specs.declared.refusal.FsRefusal.{FsRefusal}
pub use Rattle.std.proofs.lemmas.Bool.{and_from, and_parts, eq-eqb, eqb-true, le-leb, leb-true, not-true, or_cases, or_left, or_parts, or_right}
pub use Rattle.std.proofs.lemmas.Grind.{flat_map-append}
pub use Rattle.std.proofs.lemmas.Slice.Eq.{bytes_eq-Decides}
pub use Rattle.std.specs.List.{list_all, list_any, position_from}
pub use Rattle.std.specs.Option.{option_and_then, option_map_or}
pub use Rattle.std.specs.Prelude.{IfErr, IfNone, IfOk, IfSome, OnOk, drop, find, flat_map, is_none, is_some, map, option_map, slice_get, slice_index, take}
pub use Rattle.tsd_model.specs.Geometry.{block_len}
pub use Rattle.tsd_model.specs.Pairs.{holds, is_pair}
pub use Rattle.tsd_model.specs.Step.{with_contents}
pub use Rattle.tsd_model.specs.World.{World, are_apart, contents, has_number}
pub use Rattle.tsd_model.proofs.ValueLaws.{clash}
