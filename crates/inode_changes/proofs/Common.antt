-- The names that most proofs of this crate cite, passed on from one place. Declares nothing.
pub use Rattle.byteorder.specs.Endian.{little_bytes, little_number}
pub use Rattle.disk_laws.proofs.ChangeLaws.{contents-other, contents-same, free_may, live-with_contents}
pub use Rattle.disk_laws.proofs.DoomLaws.{live_below, not_primary}
pub use Rattle.disk_laws.proofs.StayLaws.{holds-new_blocks, live-new_blocks}
pub use Rattle.fs_client.proofs.AskLaws.{after_is, ask_done, ask_refuses, is_mounted, rm_full, rm_lost, rm_missing, rm_none}
pub use Rattle.fs_client.proofs.DropLaws.{fewer_live, fewer_pairs, other_pair}
pub use Rattle.fs_client.proofs.KeepLaws.{drop_takes, no_more_room, takes_these, write_takes}
pub use Rattle.fs_client.proofs.LookLaws.{looks_as, looks_but_refuses, looks_refused, may_again, no_look, then_looks}
pub use Rattle.fs_client.proofs.MayLaws.{held_live, may_after, may_still}
pub use Rattle.fs_client.proofs.NeedLaws.{free_count_new, pairs_want, refused_at_once, refused_later, room_for_both, wanted_pairs}
pub use Rattle.fs_client.proofs.NewLaws.{chosen_apart, chosen_enough, chosen_free, contents_off, holds_new, lives_new, records_new, version_new}
pub use Rattle.fs_client.proofs.RoomLaws.{room_there, there_is_room}
pub use Rattle.fs_client.proofs.RunLaws.{as_before, changes_of, clash_free_live, leaves_same, looks_change, runs_as, runs_but_refuses, runs_look, runs_more, runs_refused, runs_step, same_room, then_runs}
pub use Rattle.fs_client.proofs.TidyLaws.{both_ways, is_tidy, named_reached}
pub use Rattle.fs_client.proofs.WriteLaws.{block_long, written_elsewhere, written_free, written_here}
pub use Rattle.fs_client.specs.Changing.{lookup_refusal, refused_on}
pub use Rattle.fs_client.specs.Client.{alloc_by, link_by, shown_at, unlink_by, write_by}
pub use Rattle.fs_client.specs.Leftovers.{refusal_before}
pub use Rattle.fs_client.specs.May.{Looked, MayWrite, OnlyLooks}
pub use Rattle.fs_client.specs.Steps.{Leads, Steps, Went, dropped, no_room_in, pointed, taken}
pub use Rattle.fs_client.specs.declared.client.Client.{Client}
pub use Rattle.fs_laws.proofs.CountLaws.{apart_times, none_times, times, times-with_at, times-with_entry, times_none}
pub use Rattle.fs_laws.proofs.DirectoryLaws.{block_at, deeper, entry_blocks_in, entry_is_dropped, entry_is_put, entry_is_read, names_meet, node_away, nowhere, read_named, with_last}
pub use Rattle.fs_laws.proofs.InodeLaws.{HasRoot, found, from_inode, inodes_under_root, node_blocks, node_same, under_is}
pub use Rattle.fs_laws.proofs.ListLaws.{any-append, flat_map_same, held_append, held_right, in_append, number_left, number_right}
pub use Rattle.fs_laws.proofs.OutsideLaws.{outside_twice}
pub use Rattle.fs_laws.proofs.SumLaws.{data-with_at, data-with_entry, namer, node_data, node_pairs, none_pair_times, pair_times, pair_times_none, pairs-with_at, pairs-with_entry}
pub use Rattle.fs_laws.proofs.TreeLaws.{read_from_named}
pub use Rattle.fs_laws.proofs.UnderLaws.{each_under, root_under, target_under}
pub use Rattle.fs_laws.specs.Outside.{is_inside}
pub use Rattle.fs_laws.specs.Reading.{SameTree}
pub use Rattle.fs_laws.specs.Stays.{IsUnder, Keeps}
pub use Rattle.fs_laws.specs.Ways.{HoldsWrite, attains_write}
pub use Rattle.fs_port.specs.Calls.{IsValidNow, Stays}
pub use Rattle.fs_port.specs.Files.{Answers, FilesView, IsEitherTree, KeepsRoom, LeavesTidyWorld, need_on}
pub use Rattle.fs_port.specs.Runs.{Changes, Runs}
pub use Rattle.fs_port.specs.View.{DiskView, IsDiskSound, state_of}
pub use Rattle.fs_trees.specs.Answer.{Answer, done}
pub use Rattle.fs_trees.specs.Fields.{Entry, all_named, entries, entry_bytes, entry_names, numbers, only_if}
pub use Rattle.fs_trees.specs.Inode.{Inode, block_named, data_room, directory, entries_room, inode_bytes, inode_in, regular, with_listed, without_listed}
pub use Rattle.fs_trees.specs.InodeTree.{FileInode, InodeEntries, InodeNode, as_dir, data_blocks, entries_by, file_bytes, inode_at, inode_blocks, inode_tree, inodes_under, named_pairs, node_at, node_by, tree_entries, tree_of, with_first}
pub use Rattle.fs_trees.specs.Layouts.{IsTidy, Named, by_inodes, named_at}
pub use Rattle.fs_trees.specs.Names.{Name, Path, are_ascending, is_below_first_name, is_name, is_name_byte, is_path, is_reserved, name_lt, name_max, path_max}
pub use Rattle.fs_trees.specs.Needs.{inode_need, need, need_of}
pub use Rattle.fs_trees.specs.Outside.{OthersStay, is_under}
pub use Rattle.fs_trees.specs.Refusals.{RoomNeed, dir_full, directory_of, first_of, lost_on_the_way, missing, name_taken, no_file, no_room, refusal, too_big, when}
pub use Rattle.fs_trees.specs.Step.{change, empty_tree}
pub use Rattle.fs_trees.specs.Tree.{Entries, Node, Tree, a_dir, a_file, at, before, bytes_in, child, dir, entry, file, is_dir, is_file, is_there, names_in, none, nothing, with_at, with_child, with_entry}
pub use Rattle.fs_trees.specs.declared.ask.ShellAsk.{ShellAsk}
pub use Rattle.fs_trees.specs.declared.refusal.FsRefusal.{FsRefusal}
pub use Rattle.inode_changes.specs.Beginning.{AsideOr, HasNewInode, IsBack}
pub use Rattle.inode_changes.specs.Blocks.{the_block}
pub use Rattle.inode_changes.specs.Content.{FitsInode, IsFor, MayShare, RootReaches, all_count, new_bytes, new_count, shared_count, shared_of}
pub use Rattle.inode_changes.specs.Copying.{Copies, IsCopied}
pub use Rattle.inode_changes.specs.Directories.{IsVacant}
pub use Rattle.inode_changes.specs.Entering.{AreOfFiles, DirectoryHasRoom, Enters, EntersOrNot, Grounds, HasEither, HasMade, IsEntryRead, IsMadeInode, IsOfFile, MayEnter, node_of}
pub use Rattle.inode_changes.specs.Filling.{AsideOf, AsideTaking, AsideWith, Filled, HoldBytes, IsAside, IsFilledFile, MadeWith, Shared, Stage, Stopped, Took, Wrote, WroteIn, joined}
pub use Rattle.inode_changes.specs.Growing.{Grows, IsGrownFile}
pub use Rattle.inode_changes.specs.Making.{Making, new_pairs}
pub use Rattle.inode_changes.specs.NewFile.{bytes_of, bytes_of as bytes_made}
pub use Rattle.inode_changes.specs.Putting.{IsOf, PutsFile}
pub use Rattle.inode_changes.specs.declared.content.Content.{Content}
pub use Rattle.inode_layout.proofs.BackLaws.{reads_back}
pub use Rattle.inode_layout.proofs.HeadLaws.{length-blocks}
pub use Rattle.inode_layout.specs.Block.{block_len_of, body_of, inode_of, said}
pub use Rattle.inode_layout.specs.Kinds.{item_bytes, items_for}
pub use Rattle.inode_layout.specs.Said.{amount_said, are_small, blocks_said, entries_said, entry_said, in_order, is_directory, is_in_order, said_in}
pub use Rattle.inode_layout.specs.declared.kind.InodeKind.{InodeKind}
pub use Rattle.inode_layout.specs.declared.kind.InodeKind.TheVariants.{Directory, Regular}
pub use Rattle.inode_walks.proofs.FileLaws.{block_part, file_count, file_is, file_said, found_long, may_look, named_full, named_held, node_is, number_at_place, row_is_long, said_is_row, stands_still, tree_there}
pub use Rattle.inode_walks.proofs.FoundLaws.{a_dir_there, a_file_there, dir_said, entry_by, first_names, names_there, tree_names}
pub use Rattle.inode_walks.proofs.FurtherLaws.{a_level, child_there, further, has_inode, may_read}
pub use Rattle.inode_walks.proofs.PartLaws.{part_none, row_length}
pub use Rattle.inode_walks.proofs.WalkLaws.{block_is, child_node, dir_node, entry_pair, entry_pairs, file_node, named_is_there, node_block}
pub use Rattle.inode_walks.specs.Asking.{MayAsk, mounted_by, tree_under}
pub use Rattle.inode_walks.specs.Finding.{IsFurther, IsLookup, StandsAsRead, StandsAtPath, block_said, named_block, no_file_found, not_found}
pub use Rattle.inode_walks.specs.Reading.{bytes_at, bytes_said, part}
pub use Rattle.inode_walks.specs.declared.finding.Found.{Found}
pub use Rattle.inode_walks.specs.declared.finding.Lookup.{Lookup}
pub use Rattle.std.proofs.Math.Nat.{div-add-mod, div-le_self, mod-lt, mul-add-div, mul-add-mod_self_left, mul-div_cancel_left, mul-le-mul_right, mul-mod_right, mul_comm}
pub use Rattle.std.proofs.Math.Seq.{drop-append-add, take-append-add, take-append_seam}
pub use Rattle.std.proofs.lemmas.Bool.{and_from, and_parts, cases_lt, eq-eqb, eqb-true, false_from_ne_true, ltb-false, not-true, or_cases, or_left, or_right}
pub use Rattle.std.proofs.lemmas.Bool.Decides.{nat_tests}
pub use Rattle.std.proofs.lemmas.Grind.{div_ceil_times, flat_map-append}
pub use Rattle.std.proofs.lemmas.List.{append_assoc, length-drop, length-take, length-take-le, take-append-drop, take-append-le, take_all}
pub use Rattle.std.specs.Int.{div_ceil}
pub use Rattle.std.specs.List.{list_all}
pub use Rattle.std.specs.Option.{option_and_then}
pub use Rattle.std.specs.Prelude.{IfSome, count_by, drop, flat_map, is_none, is_some, map, replicate, slice_get, slice_index, slice_index_or, take, unwrap_or}
pub use Rattle.tsd_model.proofs.PairLaws.{all_of_held, holds-filter, holds-with_pair, is_rising-filter, length-with_new_pair}
pub use Rattle.tsd_model.specs.Geometry.{block_len}
pub use Rattle.tsd_model.specs.Pairs.{holds, is_pair}
pub use Rattle.tsd_model.specs.Placing.{chosen}
pub use Rattle.tsd_model.specs.Step.{filled, with_new_blocks, without_pointer, written, zeros}
pub use Rattle.tsd_model.specs.Valid.{IsValid}
pub use Rattle.tsd_model.specs.World.{World, are_apart, contents, free_count, has_number, is_free, is_live, is_primary}
pub use Rattle.tsd_model.specs.declared.caps.Shown.TheVariants.{Nothing}
pub use Rattle.tsd_model.specs.declared.geometry.Geometry.{Geometry}
pub use Rattle.tsd_model.specs.declared.requests.Hint.TheVariants.{At}
