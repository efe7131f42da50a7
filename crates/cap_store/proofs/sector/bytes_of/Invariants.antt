use Rattle.std.proofs.Common.{◌≡◌, ◌-◌, ◌++◌, length, take, replicate}
use Rattle.std.specs.List.{flat_map}
use Rattle.cap_store.specs.Stored.{record_bytes}
use Rattle.cap_store.proofs.sector.bytes_of.Given as goal

-- the records so far stand one behind the other, and zeros behind them
abbrev pub invariant-loop-held : goal.invariant-loop-held
invariant-loop-held l = record {
  at_end : l.at ≡ length (flat_map record_bytes (take l.held-index l.records));
  bytes : l.bytes ≡ flat_map record_bytes (take l.held-index l.records) ++ replicate (512 - l.at) 0;
}
