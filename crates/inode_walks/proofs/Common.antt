-- The names that most proofs of this crate cite, passed on from one place. Declares nothing.
pub use Rattle.fs_client.proofs.LookLaws.{looks_as, looks_but_refuses, looks_refused, may_again, no_look, then_looks}
pub use Rattle.fs_client.specs.Client.{shown_at}
pub use Rattle.fs_client.specs.May.{Looked, MayWrite, OnlyLooks}
pub use Rattle.fs_client.specs.declared.client.Client.{Client}
pub use Rattle.fs_laws.proofs.DirectoryLaws.{entry_is_read, read_named}
pub use Rattle.fs_laws.proofs.MapLaws.{tree-at}
pub use Rattle.fs_laws.proofs.WayLaws.{ways_lead_on}
pub use Rattle.fs_laws.specs.Ways.{HoldsWrite}
pub use Rattle.fs_port.specs.Calls.{IsValidNow, Stays}
pub use Rattle.fs_port.specs.Files.{Answers, TellsNext, TellsPart, TellsSize}
pub use Rattle.fs_port.specs.View.{DiskView, IsDiskSound, state_of}
pub use Rattle.fs_trees.specs.Answer.{Answer, bytes, listed, refused}
pub use Rattle.fs_trees.specs.Fields.{Entry, entry_names, numbers, only_if}
pub use Rattle.fs_trees.specs.Inode.{Inode, block_named, directory, regular}
pub use Rattle.fs_trees.specs.InodeTree.{FileInode, InodeEntries, InodeNode, as_dir, entries_by, file_bytes, inode_at, inode_blocks, inode_tree, inodes_under, named_pairs, node_at, node_by, tree_entries, tree_of, with_first}
pub use Rattle.fs_trees.specs.Names.{Name, Path, name_lt, path_max}
pub use Rattle.fs_trees.specs.Refusals.{RoomNeed, directory_of, first_of, lost_on_the_way, missing, no_dir, no_file, not_mounted, refusal, when}
pub use Rattle.fs_trees.specs.Tree.{Entries, Tree, a_dir, a_file, at, bytes_in, child, dir, entry, file, is_dir, is_file, is_there, names, names_in, none, nothing}
pub use Rattle.fs_trees.specs.declared.refusal.FsRefusal.{FsRefusal}
pub use Rattle.inode_layout.specs.Block.{block_len_of, body_of, inode_of, said}
pub use Rattle.inode_layout.specs.Said.{amount_said, blocks_said, entries_said, entry_said, in_order, is_directory, is_in_order, next_said, said_in}
pub use Rattle.inode_walks.specs.Asking.{MayAsk, mounted_by, tree_under}
pub use Rattle.inode_walks.specs.Finding.{IsFurther, IsLookup, IsOpenNow, IsStanding, StandsAsRead, StandsAtPath, block_said, named_block, no_directory_found, no_file_found, node_pairs, node_tree, not_found}
pub use Rattle.inode_walks.specs.Reading.{bytes_at, bytes_said, part}
pub use Rattle.inode_walks.specs.declared.finding.Found.{Found}
pub use Rattle.std.proofs.Math.Nat.{div-add-mod, div-lt_iff_lt-mul, mod-lt, mul-suc, mul_comm}
pub use Rattle.std.proofs.lemmas.Bool.{and_from, and_parts, eq-eqb, or_cases, or_left, or_right}
pub use Rattle.std.proofs.lemmas.List.{drop-drop, drop-take, length-take-le}
pub use Rattle.std.specs.Prelude.{IfErr, IfOk, IfSome, OnErr, OnOk, drop, flat_map, is_some, map, slice_get, slice_index, slice_index_or, unwrap_or, ⊤}
pub use Rattle.tsd_model.specs.Geometry.{block_len}
pub use Rattle.tsd_model.specs.Pairs.{holds, is_pair}
pub use Rattle.tsd_model.specs.World.{World, are_apart, contents, free_count, has_number}
