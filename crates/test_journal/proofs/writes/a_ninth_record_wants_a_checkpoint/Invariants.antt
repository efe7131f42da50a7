use Rattle.image_device.specs.MemStation.{station_view}
use Rattle.intent_journal.specs.Ring.{IsRingAt}
use Rattle.test_journal.proofs.writes.a_ninth_record_wants_a_checkpoint.Given as goal

abbrev pub invariant-loop-records : goal.invariant-loop-records
invariant-loop-records g l = IsRingAt l.ring (station_view l.station)
