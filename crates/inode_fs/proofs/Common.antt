-- The names that most proofs of this crate cite, passed on from one place. Declares nothing.
pub use Rattle.fs_client.proofs.ApartLaws.{all_in, apart_first, apart_with, each_in, is_false, no_or, not_yes, yes_not}
pub use Rattle.fs_client.proofs.FilesLaws.{finds_as, looks_at, made_as, make_as, mount_as, mounted_changes, unasked_changes, unasked_looks}
pub use Rattle.fs_client.proofs.LookLaws.{looks_as, looks_but_refuses, looks_refused, may_again, no_look, then_looks}
pub use Rattle.fs_client.proofs.MountLaws.{looked_left, looked_runs, mount_runs, no_tree_is, not_refused, only_deleted, other_fault, tidy_now, tree_stays, world_left}
pub use Rattle.fs_client.proofs.PlaceLaws.{drop_at, drop_end, place_in}
pub use Rattle.fs_client.proofs.RootLaws.{root_may}
pub use Rattle.fs_client.proofs.RunLaws.{device_alone, on_any, on_ok, ready_still}
pub use Rattle.fs_client.proofs.SetLaws.{on_disk}
pub use Rattle.fs_client.proofs.TrimLaws.{delete_still, then_trims, trims_by_looks, trims_refused}
pub use Rattle.fs_client.specs.Changing.{IsEmptied}
pub use Rattle.fs_client.specs.Client.{shown_at}
pub use Rattle.fs_client.specs.Held.{are_held}
pub use Rattle.fs_client.specs.Leftovers.{named_targets, other_targets, targets_of}
pub use Rattle.fs_client.specs.May.{Looked, MayWrite, OnlyLooks}
pub use Rattle.fs_client.specs.Trimming.{IsClean, IsWay, MayDelete, MayTrim, OnlyNamed, Trimmed, Trims}
pub use Rattle.fs_client.specs.declared.client.Client.{Client}
pub use Rattle.fs_laws.proofs.InodeLaws.{HasRoot, found, from_inode, node_blocks, under_is}
pub use Rattle.fs_laws.proofs.ListLaws.{all_held, any-append, held_append, held_left, held_right, in_append, number_left, number_right}
pub use Rattle.fs_laws.proofs.WayLaws.{ways_lead_on}
pub use Rattle.fs_laws.specs.Ways.{HoldsWrite}
pub use Rattle.fs_port.specs.Calls.{IsValidNow, Stays}
pub use Rattle.fs_port.specs.Files.{IsClientReady, IsTreeAlone}
pub use Rattle.fs_port.specs.Runs.{FindsTree, Runs}
pub use Rattle.fs_port.specs.View.{DiskView, IsDiskSound, state_of}
pub use Rattle.fs_trees.specs.Fields.{Entry, only_if}
pub use Rattle.fs_trees.specs.Inode.{Inode, directory, inode_bytes, inode_in, regular}
pub use Rattle.fs_trees.specs.InodeTree.{InodeEntries, InodeNode, as_dir, as_root, data_blocks, entries_by, inode_at, inode_blocks, inode_tree, inodes_under, named_pairs, node_at, node_by, tree_of, with_first}
pub use Rattle.fs_trees.specs.Layouts.{Named, by_inodes, named_at}
pub use Rattle.fs_trees.specs.Names.{Name, path_max}
pub use Rattle.fs_trees.specs.Tree.{a_dir, a_file, dir, file, is_there, none, nothing}
pub use Rattle.fs_trees.specs.declared.refusal.FsRefusal.{FsRefusal}
pub use Rattle.inode_fs.specs.Looking.{Come, Comes, IsInodeSeen, IsMarkedAs, IsSeenAt, MarksTree, NamesData, Noted, TellsTree, blocks_in, come_as, come_by, come_data, come_each, come_from, come_on, come_under, held_at, if_held, is_come, is_dir_in, names_at, nothing_yet, with_data, with_inode}
pub use Rattle.inode_fs.specs.Marked.{MarksData, MarksInode, NoMarks, has_leftovers, is_data_block, is_inode}
pub use Rattle.inode_fs.specs.View.{inode_view}
pub use Rattle.inode_fs.specs.declared.looking.Seen.{Seen}
pub use Rattle.inode_fs.specs.declared.marks.Marks.{Marks}
pub use Rattle.inode_layout.proofs.SaidLaws.{in_two_steps}
pub use Rattle.inode_layout.specs.Block.{inode_of}
pub use Rattle.inode_layout.specs.Said.{blocks_said, in_order, is_directory, is_in_order, said_in}
pub use Rattle.inode_walks.proofs.WalkLaws.{block_is, node_block}
pub use Rattle.inode_walks.specs.Asking.{mounted_by}
pub use Rattle.inode_walks.specs.Finding.{node_pairs}
pub use Rattle.inode_walks.specs.declared.finding.Found.{Found}
pub use Rattle.std.proofs.lemmas.Bool.{and_from, and_parts, cases_lt, eq-eqb, eqb-true, or_cases, or_left, or_right}
pub use Rattle.std.specs.List.{list_all}
pub use Rattle.std.specs.Option.{option_and_then, option_map}
pub use Rattle.std.specs.Prelude.{IfErr, IfOk, OnOk, drop, filter, is_some, map, replicate, slice_index}
pub use Rattle.tsd_model.specs.Geometry.{block_len}
pub use Rattle.tsd_model.specs.Pairs.{holds, is_pair}
pub use Rattle.tsd_model.specs.Step.{written}
pub use Rattle.tsd_model.specs.Valid.{IsValid}
pub use Rattle.tsd_model.specs.World.{World, are_apart, contents, has_number}
pub use Rattle.tsd_model.proofs.ValueLaws.{clash, neither}
