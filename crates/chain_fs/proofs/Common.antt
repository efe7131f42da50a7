-- The names that most proofs of this crate cite, passed on from one place. Declares nothing.
pub use Rattle.chain_fs.specs.Tidying.{AreChainsUnder, AreClean, BeginsAt, FilesAreClean, IsFileHere, IsIn, IsPageHere, MayTidy, MayTidyPage, chains_of, named_of}
pub use Rattle.chain_fs.specs.View.{chain_view}
pub use Rattle.chain_layout.specs.Block.{cluster_of}
pub use Rattle.chain_layout.specs.Held.{blocks_in, dir_cluster, dir_cluster as page_cluster, entries_in, part_cluster}
pub use Rattle.chain_layout.specs.Listed.{entry_blocks, next_blocks}
pub use Rattle.chain_reading.proofs.ChainedLaws.{chain_is, files_same, from_same, listing_from, listing_is}
pub use Rattle.chain_reading.proofs.WalkLaws.{IsWalked, first_link, link_of, one_more, part_there, walk_ends, walk_starts}
pub use Rattle.chain_reading.specs.Asking.{mounted_by}
pub use Rattle.chain_reading.specs.Chained.{AreEntries, AreFiles, IsChainFile, IsFrom, PlacedEntry, placed}
pub use Rattle.chain_reading.specs.Standing.{IsPage, IsPartOfRoot, entries_at, has_part}
pub use Rattle.chain_reading.specs.declared.walking.Part.{Part}
pub use Rattle.fs_client.proofs.FilesLaws.{finds_as, looks_at, made_as, make_as, mount_as, mounted_changes, unasked_changes, unasked_looks}
pub use Rattle.fs_client.proofs.LookLaws.{looks_but_refuses, looks_refused, no_look}
pub use Rattle.fs_client.proofs.MountLaws.{looked_left, looked_runs, mount_runs, no_tree_is, not_refused, only_deleted, other_fault, tidy_now, tree_stays, world_left}
pub use Rattle.fs_client.proofs.RootLaws.{root_may}
pub use Rattle.fs_client.proofs.RunLaws.{device_alone, on_any, on_ok, ready_still, runs_but_refuses}
pub use Rattle.fs_client.proofs.TargetLaws.{chain_targets}
pub use Rattle.fs_client.proofs.TrimLaws.{delete_still, may_by_way, then_trims, trims_by_looks, trims_refused, under_still, way_still}
pub use Rattle.fs_client.specs.Changing.{IsEmptied}
pub use Rattle.fs_client.specs.May.{MayWrite, OnlyLooks}
pub use Rattle.fs_client.specs.Trimming.{IsClean, IsTrim, IsWay, MayDelete, MayTrim, OnlyNamed, Trimmed, Trims}
pub use Rattle.fs_client.specs.declared.client.Client.{Client}
pub use Rattle.fs_laws.proofs.ListLaws.{held_append, held_left, held_right, in_append as number_append, number_left, number_right}
pub use Rattle.fs_laws.specs.Ways.{HoldsWrite}
pub use Rattle.fs_port.specs.Calls.{IsValidNow, Stays}
pub use Rattle.fs_port.specs.Files.{Answers, IsClientReady, IsTreeAlone, TellsPart}
pub use Rattle.fs_port.specs.Runs.{FindsTree, Runs}
pub use Rattle.fs_port.specs.View.{DiskView, IsDiskSound, state_of}
pub use Rattle.fs_trees.specs.ChainTree.{ChainFile, Chains, Link, as_tree, blocks_of, chain_at, chain_blocks, chain_by_next, chain_pairs, chain_tree, chains_under, cluster_at, files_in, links, next_of, with_directory, with_files}
pub use Rattle.fs_trees.specs.Cluster.{Cluster, cluster_in, directory_bytes, entries_of}
pub use Rattle.fs_trees.specs.Fields.{Entry}
pub use Rattle.fs_trees.specs.Layouts.{Named, by_chains, named_at}
pub use Rattle.fs_trees.specs.Tree.{is_there, nothing}
pub use Rattle.fs_trees.specs.declared.refusal.FsRefusal.{FsRefusal}
pub use Rattle.std.proofs.lemmas.Bool.{and_from, and_parts, cases_lt, eq-eqb, eqb-true, or_cases, or_left, or_right}
pub use Rattle.std.specs.Option.{option_and_then}
pub use Rattle.std.specs.Prelude.{IfErr, OnOk, flat_map, is_some, map, replicate, slice_index, unwrap_or}
pub use Rattle.tsd_model.specs.Geometry.{block_len}
pub use Rattle.tsd_model.specs.Pairs.{holds, is_pair}
pub use Rattle.tsd_model.specs.Step.{written}
pub use Rattle.tsd_model.specs.declared.geometry.Geometry.{Geometry}
pub use Rattle.tsd_model.specs.World.{World, are_apart, has_number, is_live}
pub use contract.BorrowLft.{⊑_static}
