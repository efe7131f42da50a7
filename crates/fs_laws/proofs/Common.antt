-- The names that most proofs of this crate cite, passed on from one place. Declares nothing.
pub use Rattle.byteorder.specs.Endian.{little_bytes, little_number}
pub use Rattle.disk_laws.proofs.AnswerLaws.{after_answer}
pub use Rattle.disk_laws.proofs.ChangeLaws.{AllFree, AllOf, chosen_are_free, chosen_run_is_free, contents-other, contents-same, either_pair, raw-without_pointer}
pub use Rattle.disk_laws.proofs.DoomLaws.{holds-restricted, in_all, is_doomed, live-restricted, live_below, not_primary, target_stays}
pub use Rattle.disk_laws.proofs.GraphLaws.{from_end, from_more, has_number-filter, length-range, rounds_from}
pub use Rattle.disk_laws.proofs.ReachLaws.{found_any, leads, leads_grows, leads_stays, primary_reached, target_reached}
pub use Rattle.disk_laws.proofs.StayLaws.{contents-change, contents-kept, holds-change, live-change, only_adds}
pub use Rattle.disk_laws.specs.Reached.{writes_to}
pub use Rattle.fs_laws.specs.Reading.{SameTree}
pub use Rattle.fs_laws.specs.Small.{IsNameListing, entry_count, total_entries}
pub use Rattle.fs_laws.specs.Stays.{IsUnder, Keeps, are_led_to, hang_from, is_led_to, spares}
pub use Rattle.fs_trees.specs.ChainTree.{ChainFile, Chains, Link, all_there, are_right as chains_right, as_tree, before_rest, blocks_of, chain_at, chain_blocks, chain_by_next, chain_bytes, chain_pairs, chain_tree, chains_under, cluster_at, file_at, file_of, files_in, files_of, is_filled, links, names_max, next_of, tree_of_files, with_directory, with_files}
pub use Rattle.fs_trees.specs.Cluster.{Cluster, bytes_room, cluster_in, entries_of}
pub use Rattle.fs_trees.specs.Fields.{Entry, all_named, begins_with, entries, entry_bytes, entry_in, entry_names, numbers, only_if, unpadded}
pub use Rattle.fs_trees.specs.Inode.{Inode, as_directory, as_regular, block_named, data_room, directory, distinct, entries_room, inode_bytes, inode_in, magic, of_kind, ordered, regular, with_listed, without_listed}
pub use Rattle.fs_trees.specs.InodeTree.{FileInode, InodeEntries, InodeNode, are_right, are_right as inodes_right, as_dir, as_root, data_blocks, entries_by, file_bytes, inode_at, inode_blocks, inode_tree, inodes_under, named_pairs, node_at, node_by, tree_entries, tree_of, with_first}
pub use Rattle.fs_trees.specs.Layouts.{IsTidy, Named, by_chains, by_inodes, named_at, tree_at}
pub use Rattle.fs_trees.specs.Names.{Name, Path, are_ascending, are_distinct, is_below_first_name, is_name, is_name_byte, is_reserved, name_lt, name_max, path_max}
pub use Rattle.fs_trees.specs.Outside.{OthersStay, is_under}
pub use Rattle.fs_trees.specs.Tree.{Entries, Node, a_dir, a_file, at, before, child, dir, entry, file, is_there, names, names_in, none, nothing, with_at, with_child, with_entry}
pub use Rattle.fs_trees.specs.declared.ask.ShellKind.{ShellKind}
pub use Rattle.fs_trees.specs.declared.ask.ShellKind.TheVariants.{Chain, Chain as ByChains, Inode as ByInodes}
pub use Rattle.std.proofs.lemmas.Bool.{and_from, and_parts, cases_eq, eq-eqb, eqb-true, le-leb, leb-true, lt-ltb, ltb-false, ltb-true, not-true, or_cases, or_left, or_parts, or_right}
pub use Rattle.std.proofs.lemmas.Bool.Decides.{nat_tests}
pub use Rattle.std.specs.Int.{div_ceil}
pub use Rattle.std.specs.List.{list_all, list_any, range_with_len}
pub use Rattle.std.specs.Option.{option_and_then, option_or}
pub use Rattle.std.specs.Prelude.{filter, flat_map, is_none, is_some, option_map, replicate, take, unwrap_or, ⊤}
pub use Rattle.tsd_model.proofs.PairLaws.{all_of_held, holds-filter, holds-with_pair}
pub use Rattle.tsd_model.specs.Attained.{attained, attained_from}
pub use Rattle.tsd_model.specs.Doomed.{doomed, doomed_rounds, hangs_on, is_led_only_from, settle}
pub use Rattle.tsd_model.specs.Geometry.{IsLawful, block_len}
pub use Rattle.tsd_model.specs.Pairs.{holds, is_pair}
pub use Rattle.tsd_model.specs.Placing.{chosen, chosen_run}
pub use Rattle.tsd_model.specs.Reach.{reach, reach_from, reach_round, reach_rounds, restricted}
pub use Rattle.tsd_model.specs.Run.{answer}
pub use Rattle.tsd_model.specs.Sessions.{Fits, Sessions, greatest, is_open, level_from, level_le}
pub use Rattle.tsd_model.specs.Step.{State, change, raised_by, run_at, with_contents, with_new_blocks, with_pointer, without_pointer, zeros}
pub use Rattle.tsd_model.specs.Valid.{IsRaw, IsValid}
pub use Rattle.tsd_model.specs.Verdict.{Check, first_rule, is_granted, rules, verdict}
pub use Rattle.tsd_model.specs.World.{World, all_blocks, are_apart, contents, free_count, has_number, is_free, is_live, is_primary, primary_blocks}
pub use Rattle.tsd_model.specs.declared.caps.Shown.{Shown}
pub use Rattle.tsd_model.specs.declared.requests.PlaceKind.{PlaceKind}
pub use Rattle.tsd_model.specs.declared.requests.Request.{Request}
