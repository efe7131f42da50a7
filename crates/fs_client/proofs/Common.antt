-- The names that most proofs of this crate cite, passed on from one place. Declares nothing.
pub use Rattle.disk_laws.proofs.AnswerLaws.{refused_answer}
pub use Rattle.disk_laws.proofs.AttainedLaws.{attained_where}
pub use Rattle.disk_laws.proofs.ChangeLaws.{AllOf, chosen_are_free, contents-other, contents-same}
pub use Rattle.disk_laws.proofs.DoomLaws.{holds-restricted, live-restricted, live_below, not_primary}
pub use Rattle.disk_laws.proofs.GraphLaws.{has_number-filter, has_number-range}
pub use Rattle.disk_laws.proofs.RunLaws.{answer_fits, answer_valid, run_geometry}
pub use Rattle.fs_client.specs.Asks.{AsksOnce, IsRefused, blocks_replied, bytes_replied, done_replied, gone_replied, has_wanted_form, refusal_in, refusal_of, targets_replied}
pub use Rattle.fs_client.specs.Changing.{IsEmptied, files_by, lookup_refusal, refused_on}
pub use Rattle.fs_client.specs.Client.{alloc_by, link_by, list_by, read_by, shown_at, unlink_by, write_by}
pub use Rattle.fs_client.specs.Leftovers.{named_targets, next_in, other_targets, refusal_before, targets_of}
pub use Rattle.fs_client.specs.May.{Looked, MayWrite, OnlyLooks}
pub use Rattle.fs_client.specs.Steps.{Leads, Steps, Went, dropped, no_room_in, pointed, taken}
pub use Rattle.fs_client.specs.Trimming.{IsClean, IsTrim, IsWay, MayDelete, MayTrim, OnlyNamed, Trimmed, Trims, root_alone}
pub use Rattle.fs_client.specs.declared.client.Client.{Client}
pub use Rattle.fs_laws.proofs.GrantedLaws.{delete_is_granted, list_is_granted, read_is_granted, write_is_granted}
pub use Rattle.fs_laws.proofs.NamedLaws.{each_named, named_stays}
pub use Rattle.fs_laws.proofs.OutsideLaws.{outside_stays, outside_twice}
pub use Rattle.fs_laws.proofs.TreeLaws.{named_is_under, read_from_named}
pub use Rattle.fs_laws.proofs.UnderLaws.{each_under, root_under, target_under}
pub use Rattle.fs_laws.proofs.WayLaws.{ways_are_gained, ways_lead_on, ways_stay}
pub use Rattle.fs_laws.specs.Outside.{is_inside, is_local}
pub use Rattle.fs_laws.specs.Reading.{SameTree}
pub use Rattle.fs_laws.specs.Stays.{IsUnder, Keeps, hang_from, spares}
pub use Rattle.fs_laws.specs.Ways.{HoldsWrite, attains_write, writes_through}
pub use Rattle.fs_port.proofs.RunLaws.{both_count, both_leave, both_stay, if_fault, leaves_more, led_both, led_by, on_answer, unasked}
pub use Rattle.fs_port.specs.Calls.{Counts, IsAskCarriedOut, IsEitherSide, IsLedTo, IsValidNow, LeavesWorldsOnly, Stays}
pub use Rattle.fs_port.specs.Files.{Answers, FilesView, IsClientReady, IsEitherTree, IsLeft, IsTreeAlone, KeepsRoom, LeavesTidyWorld, OnAnswer, OnlyDeletes, need_on, step_on, tree_after, tree_on, unless_refused}
pub use Rattle.fs_port.specs.Runs.{Changes, FindsTree, IsMade, Looks, Runs}
pub use Rattle.fs_port.specs.View.{DiskView, IsDiskSound, state_of}
pub use Rattle.fs_trees.specs.Answer.{Answer, done}
pub use Rattle.fs_trees.specs.Layouts.{IsTidy, Named, by_chains, named_at, step_in, tree_at}
pub use Rattle.fs_trees.specs.Needs.{need, need_of}
pub use Rattle.fs_trees.specs.Outside.{OthersStay, is_under}
pub use Rattle.fs_trees.specs.Refusals.{RoomNeed, first_of, has_entries, is_root, lost_on_the_way, missing, not_mounted, refusal, when}
pub use Rattle.fs_trees.specs.Step.{AskOutcome, change, empty_tree}
pub use Rattle.fs_trees.specs.Tree.{Tree, a_dir, a_file, at, is_there, names_in, nothing}
pub use Rattle.fs_trees.specs.declared.ask.ShellAsk.{ShellAsk}
pub use Rattle.fs_trees.specs.declared.ask.ShellKind.{ShellKind}
pub use Rattle.fs_trees.specs.declared.refusal.FsRefusal.{FsRefusal}
pub use Rattle.image_device.specs.Counts.{Rose}
pub use Rattle.std.proofs.lemmas.Bool.{and_from, and_parts, cases_lt, eq-eqb, eqb-true, false_from_ne_true, lt-ltb, ltb-true, ne_eqb, not-true, or_cases, or_left, or_right}
pub use Rattle.std.proofs.lemmas.Bool.Decides.{nat_tests}
pub use Rattle.std.proofs.lemmas.List.{ext_get_or, length-set, length-take, take-append-drop}
pub use Rattle.std.proofs.lemmas.List.Sums.{sum_by-cons, sum_by-set}
pub use Rattle.std.specs.List.{list_all, list_any, range_with_len}
pub use Rattle.std.specs.Prelude.{IfErr, IfOk, OnOk, count_by, drop, filter, flat_map, is_none, is_some, map, slice_get, slice_index, slice_index_or, unwrap_or}
pub use Rattle.tsd_model.proofs.PairLaws.{above_first, first_once, holds-filter, holds-with_pair, holds_first, is_pair_ext, is_pair_same}
pub use Rattle.tsd_model.proofs.SizeLaws.{contents-restricted, length-filter_le}
pub use Rattle.tsd_model.specs.Attained.{attained, record_level, shown_level}
pub use Rattle.tsd_model.specs.Geometry.{block_len}
pub use Rattle.tsd_model.specs.History.{is_of_session}
pub use Rattle.tsd_model.specs.Needs.{is_steady, is_steady as steady_there}
pub use Rattle.tsd_model.specs.Pairs.{holds, is_below_first, is_pair, is_rising, without_pair}
pub use Rattle.tsd_model.specs.Placing.{chosen, free_blocks, hint_block, in_rank_order, sorted_by_rank}
pub use Rattle.tsd_model.specs.Records.{kept_of}
pub use Rattle.tsd_model.specs.Run.{answer}
pub use Rattle.tsd_model.specs.Sessions.{Fits, Sessions, is_open, level_from, level_le}
pub use Rattle.tsd_model.specs.Step.{State, filled, judged, targets_from, with_contents, with_new_blocks, with_pointer, without_pointer, written, zeros}
pub use Rattle.tsd_model.specs.Valid.{IsValid}
pub use Rattle.tsd_model.specs.Verdict.{Check, first_rule, room_rules, rules_before_room, verdict}
pub use Rattle.tsd_model.specs.World.{World, all_blocks, are_apart, contents, free_count, has_number, is_free, is_live}
pub use Rattle.tsd_model.specs.declared.caps.Shown.{Shown}
pub use Rattle.tsd_model.specs.declared.caps.Shown.TheVariants.{Key, Nothing}
pub use Rattle.tsd_model.specs.declared.replies.Reply.{Reply}
pub use Rattle.tsd_model.specs.declared.replies.Rule.{Rule}
pub use Rattle.tsd_model.specs.declared.requests.Hint.{Hint}
pub use Rattle.tsd_model.specs.declared.requests.Hint.TheVariants.{At}
pub use Rattle.tsd_model.specs.declared.requests.Level.{Level}
pub use Rattle.tsd_model.specs.declared.requests.PlaceKind.{PlaceKind}
pub use Rattle.tsd_model.specs.declared.requests.Request.{Request}
