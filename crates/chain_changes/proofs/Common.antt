-- The names that most proofs of this crate cite, passed on from one place. Declares nothing.
pub use Rattle.chain_changes.specs.Filling.{AreLinkable, AreNew, ArePartsOf, AsideOf, AsideWith, IsInMaking, MadeWith, NewChain, NewFile, Wrote, WroteIn}
pub use Rattle.chain_changes.specs.Growing.{IsLastCluster, IsLastOf, NewTail, clusters_more, part_link}
pub use Rattle.chain_changes.specs.Lookups.{IsLookupOf}
pub use Rattle.chain_changes.specs.Making.{IsAside, Making, Stage}
pub use Rattle.chain_layout.proofs.BackLaws.{entries_back, head_back}
pub use Rattle.chain_layout.specs.Block.{block_len_of, cluster_of}
pub use Rattle.chain_layout.specs.Held.{dir_cluster, entries_in, part_cluster, part_in}
pub use Rattle.chain_layout.specs.Listed.{entry_blocks, is_among, listed_at, unlisted_at}
pub use Rattle.chain_layout.specs.ReadsBack.{HaveFourBytes}
pub use Rattle.chain_reading.proofs.ChainedLaws.{entries_of_files, entries_split, files_same, files_split, from_same}
pub use Rattle.chain_reading.proofs.ChangeLaws.{HasChains, IsRight, blocks-append, chains_are, file_blocks-append, file_pairs-append, first_held, has_chains, held_three, is_right, last_held, right_is, times_three}
pub use Rattle.chain_reading.proofs.DecidedLaws.{entry_is_added, entry_is_removed, entry_is_set, the_directory_grows, the_file_grows}
pub use Rattle.chain_reading.proofs.FileLaws.{distinct_parts, others_tested, tree_has, tree_lacks, tree_set}
pub use Rattle.chain_reading.proofs.KnownLaws.{IsKnown, entry_file, free_name, has_directory, is_known, names_of_files, path_of_two, taken_name, tree_known}
pub use Rattle.chain_reading.proofs.ListLaws.{entries_unique, own_entries}
pub use Rattle.chain_reading.specs.Ahead.{IsDirectoryAhead, IsFileAhead}
pub use Rattle.chain_reading.specs.Asking.{MayAsk, mounted_by, tree_under}
pub use Rattle.chain_reading.specs.Chained.{AreEntries, AreFiles, AreOthers, IsChainFile, IsFrom, PlacedEntry, placed}
pub use Rattle.chain_reading.specs.Changed.{file_blocks, file_names, file_pairs, relinked}
pub use Rattle.chain_reading.specs.Decided.{Becomes, FileAdded, FileRemoved, FileSet, IsNewCluster, IsNewFile, Lengthens, grown}
pub use Rattle.chain_reading.specs.Finding.{IsEntry, IsFileOf, IsLookupTaken, IsLookupWithin, IsNameFound, IsRoomiest, is_roomy, no_file_found, no_way, page_link, placed_names}
pub use Rattle.chain_reading.specs.Standing.{IsPage, IsPartOfRoot, has_part}
pub use Rattle.chain_reading.specs.declared.finding.Lookup.TheVariants.{Free, Taken}
pub use Rattle.chain_reading.specs.declared.walking.Page.{Page}
pub use Rattle.chain_reading.specs.declared.walking.Part.{Part}
pub use Rattle.disk_laws.proofs.ChangeLaws.{contents-other, contents-same, free_may, live-with_contents}
pub use Rattle.disk_laws.proofs.DoomLaws.{live_below, not_primary}
pub use Rattle.disk_laws.proofs.StayLaws.{holds-new_blocks, live-new_blocks}
pub use Rattle.fs_client.proofs.AskLaws.{after_is, ask_done, ask_refuses, is_mounted, rm_lost, rm_missing, rm_none}
pub use Rattle.fs_client.proofs.KeepLaws.{drop_takes, no_more_room, takes_these, write_takes}
pub use Rattle.fs_client.proofs.LookLaws.{looks_as, looks_but_refuses, looks_refused, may_again, no_look, then_looks}
pub use Rattle.fs_client.proofs.MayLaws.{may_after}
pub use Rattle.fs_client.proofs.NewLaws.{chosen_enough, chosen_free, contents_off, holds_new, lives_new, records_new, version_new}
pub use Rattle.fs_client.proofs.RoomLaws.{room_there, there_is_room}
pub use Rattle.fs_client.proofs.RunLaws.{as_before, changes_of, clash_free_live, leaves_same, looks_change, others_same, ready_still, runs_as, runs_but_refuses, runs_look, runs_more, runs_refused, runs_step, same_room, then_runs}
pub use Rattle.fs_client.proofs.TidyLaws.{is_tidy, named_reached}
pub use Rattle.fs_client.specs.Changing.{lookup_refusal, refused_on}
pub use Rattle.fs_client.specs.Client.{alloc_by, shown_at, unlink_by, write_by}
pub use Rattle.fs_client.specs.May.{Looked, MayWrite, OnlyLooks}
pub use Rattle.fs_client.specs.Steps.{Leads, Steps, Went, dropped, no_room_in, taken}
pub use Rattle.fs_client.specs.declared.client.Client.{Client}
pub use Rattle.fs_fields.proofs.WrittenLaws.{length-entries}
pub use Rattle.fs_laws.proofs.CountLaws.{apart_times, none_times, times, times-append, times_apart, times_none}
pub use Rattle.fs_laws.proofs.ListLaws.{any-append, first_in, held_append, held_left, held_right, in_append, number_left, number_right}
pub use Rattle.fs_laws.proofs.OutsideLaws.{outside_twice}
pub use Rattle.fs_laws.proofs.TreeLaws.{named_is_under, read_from_named}
pub use Rattle.fs_laws.specs.Outside.{is_inside}
pub use Rattle.fs_laws.specs.Stays.{IsUnder, Keeps}
pub use Rattle.fs_laws.specs.Ways.{HoldsWrite, attains_write}
pub use Rattle.fs_port.specs.Calls.{IsValidNow, Stays}
pub use Rattle.fs_port.specs.Files.{Answers, FilesView, IsEitherTree, KeepsRoom, LeavesTidyWorld, need_on, tree_on}
pub use Rattle.fs_port.specs.Runs.{Changes, Runs}
pub use Rattle.fs_port.specs.View.{DiskView, IsDiskSound, state_of}
pub use Rattle.fs_trees.specs.Answer.{done}
pub use Rattle.fs_trees.specs.ChainTree.{ChainFile, Chains, Link, as_tree, blocks_of, chain_blocks, chain_bytes, chain_pairs, chain_tree, chains_under, cluster_at, has_room, is_filled, links, names_max, tree_of_files}
pub use Rattle.fs_trees.specs.Cluster.{Cluster, bytes_room, cluster_in, directory_bytes, entries_of, entries_room, link_field, link_in, magic, part_bytes}
pub use Rattle.fs_trees.specs.Fields.{Entry, all_named, begins_with, entries, entry_bytes, only_if}
pub use Rattle.fs_trees.specs.Layouts.{IsTidy, Named, by_chains, named_at, tree_at}
pub use Rattle.fs_trees.specs.Names.{Name, Path, are_distinct, is_name, is_name_byte, is_path, is_reserved, name_lt, name_max, path_max}
pub use Rattle.fs_trees.specs.Needs.{chain_need, clusters_for, need, need_of}
pub use Rattle.fs_trees.specs.Outside.{OthersStay, is_under}
pub use Rattle.fs_trees.specs.Refusals.{RoomNeed, dir_full, first_of, lost_on_the_way, missing, no_file, no_room, refusal, too_big, when}
pub use Rattle.fs_trees.specs.Tree.{Entries, Tree, a_dir, a_file, at, before, bytes_in, dir, entry, file, is_dir, is_there, names, names_in, none, nothing, with_at, with_entry}
pub use Rattle.fs_trees.specs.declared.ask.ShellAsk.{ShellAsk}
pub use Rattle.fs_trees.specs.declared.refusal.FsRefusal.{FsRefusal}
pub use Rattle.std.proofs.Math.Nat.{div-le_self, mul-le-mul_right}
pub use Rattle.std.proofs.Math.Seq.{take-append_seam}
pub use Rattle.std.proofs.lemmas.Bool.{and_from, and_parts, cases_eq, cases_lt, eq-eqb, eqb-true, false_from_ne_true, le-leb, leb-true, lt-ltb, ltb-false, ltb-true, not-true, or_cases, or_left, or_right}
pub use Rattle.std.proofs.lemmas.Bool.Decides.{nat_tests}
pub use Rattle.std.proofs.lemmas.Grind.{div_ceil_times, flat_map-append}
pub use Rattle.std.proofs.lemmas.List.{length-drop, length-replicate, length-take, length-take-le, take-append-drop}
pub use Rattle.std.specs.Int.{div_ceil}
pub use Rattle.std.specs.List.{list_all, list_any}
pub use Rattle.std.specs.Option.{option_and_then, option_map_or}
pub use Rattle.std.specs.Prelude.{IfErr, IfSome, drop, flat_map, if◌then◌else◌, is_none, is_some, max, replicate, slice_index_or, take}
pub use Rattle.tsd_model.proofs.PairLaws.{holds-filter, is_rising-filter, length-with_new_pair}
pub use Rattle.tsd_model.specs.Geometry.{block_len}
pub use Rattle.tsd_model.specs.Pairs.{holds, is_pair}
pub use Rattle.tsd_model.specs.Placing.{chosen, first_block}
pub use Rattle.tsd_model.specs.Step.{filled, with_new_blocks, without_pointer, written, zeros}
pub use Rattle.tsd_model.specs.Valid.{IsSized, IsValid}
pub use Rattle.tsd_model.specs.World.{World, are_apart, contents, free_count, has_number, is_free, is_live, is_primary}
pub use Rattle.tsd_model.specs.declared.geometry.Geometry.{Geometry}
