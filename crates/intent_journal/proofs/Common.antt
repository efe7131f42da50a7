-- The names that most proofs of this crate cite, passed on from one place. Declares nothing.
pub use Rattle.byteorder.specs.Endian.{little_bytes, little_from}
pub use Rattle.image_device.proofs.Confined.{confined_joined, confined_start, confined_sync, confined_wider, confined_write}
pub use Rattle.image_device.proofs.Moments.{after_sync, firm_image, joined, rested, started, uses_and, uses_within, weakened}
pub use Rattle.image_device.proofs.Outcomes.{on_ok}
pub use Rattle.image_device.proofs.Resting.{rests_joined, rests_none, uses_none}
pub use Rattle.image_device.proofs.Sets.{or_false, or_false_left, or_false_right}
pub use Rattle.image_device.specs.Calls.{Rests, Touches, Uses}
pub use Rattle.image_device.specs.Image.{Image, IsSector, put_at}
pub use Rattle.image_device.specs.Runs.{IsConfined, IsFirm, LeavesOnly}
pub use Rattle.image_device.specs.View.{IsLeftNow, IsLeftWithin, IsSound, View}
pub use Rattle.image_layout.specs.Image.{gate_bytes, says_open}
pub use Rattle.image_layout.specs.Ring.{bodies, body_sector, descriptor_sector, gate_sector, records}
pub use Rattle.image_layout.specs.declared.offset.Patch.{Patch}
pub use Rattle.intent_journal.specs.Batch.{IsBatch, has_home, homes_of, with_patch}
pub use Rattle.intent_journal.specs.Closing.{IsListed, closing_writes, is_body_of, is_in_record, is_listed_open, later_open, one_if}
pub use Rattle.intent_journal.specs.Crash.{IsAfter, IsBefore, IsBeforeOrAfter, IsTheSame}
pub use Rattle.intent_journal.specs.Descriptor.{count_in, descriptor_bytes, home_in, homes_in, is_valid}
pub use Rattle.intent_journal.specs.Home.{AgreeBut, home, is_journal, overlaid}
pub use Rattle.intent_journal.specs.Homes.{is_lawful_home}
pub use Rattle.intent_journal.specs.Parts.{ArePatchesOfRing, parted, sum_of}
pub use Rattle.intent_journal.specs.Records.{JournalRecord, are_valid_from, descriptor_of, is_gate_open, open_from, patches_of, record_at}
unfoldable pub use Rattle.intent_journal.specs.Records.{has_valid_records, open_records}
pub use Rattle.intent_journal.specs.Ring.{IsReplayFound, IsRing, IsRingAt, checkpoint_writes, commit_writes, committed, distinct_homes, is_full_for, last_patches, replay_writes}
pub use Rattle.intent_journal.specs.Written.{ClosesGates, IsRecordWritten}
pub use Rattle.std.proofs.Math.Seq.{drop-append-add, drop-cons, take-append_seam, take-suc}
pub use Rattle.std.proofs.lemmas.Bool.{and_from, and_left, and_parts, and_right, both_ways, cases_Bool, cases_eq, cases_lt, cond-false, cond-true, eq-eqb, eqb-false, false_from_ne_true, le-leb, le-ltb, leb-true, lt-ltb, ltb-false, ltb-true, ne_eqb, not_from_false, not_from_true, or_from, or_left, or_parts}
pub use Rattle.std.proofs.lemmas.Bool.Decides.{nat_tests}
pub use Rattle.std.proofs.lemmas.Grind.{flat_map-append}
pub use Rattle.std.proofs.lemmas.List.{append-nil, drop-append-le, drop-replicate, drop_all, drop_more, get_or-map, get_or-set_other, get_or-set_same, length-take-le, length_push, nil_from_length, take-append-drop, take-append-le, take_all, take_more, take_rest}
pub use Rattle.std.proofs.lemmas.List.Folds.{list_any-append, list_any_at}
pub use Rattle.std.proofs.lemmas.List.FromFn.{get_or-range_with_len, length-map-range_with_len, length-range_with_len, map-range_with_len_more}
pub use Rattle.std.proofs.lemmas.Result.{err_from_is_err_and, on_ok_weaker}
pub use Rattle.std.specs.List.{list_all, list_any, position_or_len, range_with_len, slice_get}
pub use Rattle.std.specs.Option.{MatchOption}
pub use Rattle.std.specs.Prelude.{Err, IsErrOf, Ok, OnOk, Result}
pub use Rattle.tsd_model.proofs.RangeLaws.{map_range_alike}
pub use Rattle.tsd_model.specs.World.{are_apart, has_number}
