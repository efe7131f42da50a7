-- The names that most proofs of this crate cite, passed on from one place. Declares nothing.
pub use Rattle.block_alloc.specs.Bytes.{bitmap_sector_bytes}
pub use Rattle.block_alloc.specs.Fresh.{fresh_live}
pub use Rattle.cap_store.specs.Fresh.{fresh_records}
pub use Rattle.cap_store.specs.Store.{AreRecords}
pub use Rattle.image_device.proofs.Confined.{confined_joined, confined_start, confined_sync, confined_wider, confined_write}
pub use Rattle.image_device.proofs.Moments.{after_read, after_sync, ends_in, firm_image, joined, started, uses_and, uses_within, weakened}
pub use Rattle.image_device.proofs.Outcomes.{on_ok}
pub use Rattle.image_device.specs.Calls.{Rests, Settles, Touches, Uses}
pub use Rattle.image_device.specs.Image.{zeros}
pub use Rattle.image_device.specs.Runs.{IsConfined, IsFirm, LeavesOnly}
pub use Rattle.image_device.specs.View.{IsLeftNow, IsLeftWithin, IsSound, View}
pub use Rattle.image_layout.specs.Areas.{bitmap_start, caps_start, format_gate, header_sector, slots_start, sweep_flag}
pub use Rattle.image_layout.specs.Header.{IsHeaderReading, header_of}
pub use Rattle.image_layout.specs.Image.{Image, says_open}
pub use Rattle.image_layout.specs.Ring.{gate_sector}
pub use Rattle.image_world.proofs.FreshLaws.{fresh_sectors, fresh_sound, fresh_stands, torn_gate}
pub use Rattle.image_world.specs.Debt.{graph_in, owed}
pub use Rattle.image_world.specs.Fresh.{IsWrittenFresh, fresh_tables}
pub use Rattle.image_world.specs.Tables.{Tables, pairs_of}
unfoldable pub use Rattle.image_world.specs.Tables.{tables_of}
pub use Rattle.intent_journal.proofs.Opened.{home_of_empty, opened_none}
pub use Rattle.intent_journal.proofs.Places.{gate_in, gates_apart, in_journal}
pub use Rattle.intent_journal.proofs.Uses.{at_valid}
pub use Rattle.intent_journal.specs.Crash.{IsTheSame}
pub use Rattle.intent_journal.specs.Home.{AgreeBut, home, is_journal}
pub use Rattle.intent_journal.specs.Records.{has_valid_records, is_gate_open, open_records, AreClosed}
pub use Rattle.intent_journal.specs.Ring.{IsRingAt, checkpoint_writes, distinct_homes, open_gates, replay_writes}
pub use Rattle.recovery.specs.Areas.{HasAreas, fresh_bytes, fresh_end, is_fresh}
pub use Rattle.recovery.specs.Faults.{of_volume}
pub use Rattle.recovery.specs.Opening.{HasHead, IsOpening, IsSpared, LeavesData, StandAlike, opening_writes}
pub use Rattle.recovery.specs.declared.fault.OpenFault.{OpenFault}
pub use Rattle.std.proofs.lemmas.Bool.{both_ways, cases_Bool, cases_eq, cases_lt}
pub use Rattle.std.proofs.lemmas.Bool.Decides.{nat_tests}
pub use Rattle.std.specs.Prelude.{IfErr, IsErrAnd, IsErrOf, Result, ◌↔◌}
pub use Rattle.tsd_model.specs.Geometry.{IsLawful}
pub use Rattle.tsd_model.specs.declared.caps.CapPair.{CapPair}
pub use Rattle.tsd_model.specs.declared.geometry.Geometry.{Geometry}
pub use Rattle.volume_laws.specs.Quiet.{IsQuiet}
pub use Rattle.volume_laws.specs.Volume.{IsVolumeAt, Volume, world_on}
pub use Rattle.volume_laws.specs.Writes.{IsPaid, due}
