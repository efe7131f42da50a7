use Rattle.std.proofs.Common.{◌≡◌, length, take}
use Rattle.cap_store.specs.Fresh.{fresh_records}
use Rattle.cap_store.specs.Store.{AreRecords}
use Rattle.cap_store.proofs.fresh.fresh_records.Given as goal

-- the records so far are those of the capabilities, and the others blank
abbrev pub invariant-loop-block : goal.invariant-loop-block
invariant-loop-block l = record {
  long : length l.records ≡ 16;
  here : take l.block l.records ≡ fresh_records (take l.block l.caps);
  each : AreRecords 1 l.records;
}
