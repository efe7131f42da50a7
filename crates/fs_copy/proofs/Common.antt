-- The names that most proofs of this crate cite, passed on from one place. Declares nothing.
pub use Rattle.fs_copy.specs.Counted.{IsCount, byte_count, capped, file_count, total_bytes, total_files}
pub use Rattle.fs_copy.specs.Going.{AreSet, IsFileAt, IsPartly, IsRefusedAmong, IsSource, MakesSteps, file_size, own_steps, tree_under}
pub use Rattle.fs_copy.specs.Nesting.{CanHold, CanMake, IsNested, first_dir, first_made}
pub use Rattle.fs_copy.specs.Walk.{AreAhead, ComeNext, CountsOn, IsCountedOn, IsNextName, WalksOn, bytes_made, entries_behind, files_made, inside, outer, todo, turns, turns_left}
pub use Rattle.fs_copy.specs.declared.copied.Copied.{Copied}
pub use Rattle.fs_laws.proofs.ListingLaws.{AllListed, NamesListed, tree_listed_at, tree_lists}
pub use Rattle.fs_laws.proofs.OrderLaws.{below_only, entry-same, lt_irreflexive, lt_trans, with_entry-again}
pub use Rattle.fs_laws.proofs.SizeLaws.{tree_depth, tree_few}
pub use Rattle.fs_laws.specs.Apart.{AreApart, StaysApart}
pub use Rattle.fs_laws.specs.Small.{IsNameListing, entry_count, total_entries}
pub use Rattle.fs_port.proofs.RunLaws.{both_count, both_leave, both_stay, if_fault, leaves_more, led_both, on_answer}
pub use Rattle.fs_port.specs.Calls.{Counts, IsLedTo, IsValidNow, LeavesWorldsOnly, Stays}
pub use Rattle.fs_port.specs.Files.{Answers, FilesView, HasTree, IsClientReady, IsEitherTree, IsLeft, LeavesTidyWorld, OnAnswer, TellsNext, TellsPart, TellsSize, above, has_dirs, mounted_now, step_on, tree_after, tree_on, unless_refused}
pub use Rattle.fs_port.specs.Runs.{Changes, IsMade, Looks, Runs}
pub use Rattle.fs_port.specs.View.{DiskView, IsDiskSound}
pub use Rattle.fs_trees.specs.Answer.{Answer, bytes, done, listed, refused}
pub use Rattle.fs_trees.specs.ChainTree.{ChainFile, Chains, as_tree, chain_bytes, chains_under, names_max, tree_of_files}
pub use Rattle.fs_trees.specs.Copying.{after_asks, copy_steps, entry_steps, file_pieces, file_steps, further_pieces, partial}
pub use Rattle.fs_trees.specs.InodeTree.{InodeNode, are_right as inodes_right, as_root, node_at, tree_of}
pub use Rattle.fs_trees.specs.Layouts.{IsTidy, step_in, tree_at}
pub use Rattle.fs_trees.specs.Names.{Name, Path, are_ascending, is_below_first_name, is_name, is_path, name_lt, path_max}
pub use Rattle.fs_trees.specs.Needs.{need_of}
pub use Rattle.fs_trees.specs.Outside.{OthersStay}
pub use Rattle.fs_trees.specs.Refusals.{RoomNeed, first_of, lost_on_the_way, missing, no_dir, no_file, not_mounted, refusal, when}
pub use Rattle.fs_trees.specs.Step.{change, empty_tree, judged, tree_step}
pub use Rattle.fs_trees.specs.Tree.{Entries, Tree, a_dir, a_file, at, before, bytes_in, child, dir, entry, file, is_dir, is_file, is_there, names, names_in, none, nothing, with_at, with_child, with_entry}
pub use Rattle.fs_trees.specs.declared.ask.ShellAsk.{ShellAsk}
pub use Rattle.fs_trees.specs.declared.ask.ShellKind.{ShellKind}
pub use Rattle.fs_trees.specs.declared.refusal.FsRefusal.{FsRefusal}
pub use Rattle.fs_walks.specs.Nexts.{AreBehind, TellsNames}
pub use Rattle.std.proofs.lemmas.Bool.{and_from, and_parts}
pub use Rattle.std.proofs.lemmas.Bool.Decides.{nat_tests}
pub use Rattle.std.proofs.lemmas.Grind.{div_ceil_times}
pub use Rattle.std.specs.Int.{div_ceil}
pub use Rattle.std.specs.List.{list_all}
pub use Rattle.std.specs.Prelude.{IfErr, IfOk, IfSome, MatchResult, OnOk, OnSome, remove, slice_get, ⊤}
pub use Rattle.tsd_model.specs.Valid.{IsValid}
pub use Rattle.tsd_model.specs.World.{World, free_count}
