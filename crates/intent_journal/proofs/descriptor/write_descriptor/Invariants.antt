use Rattle.std.proofs.Common.{◌≡◌, ◌+◌, ◌*◌, ◌-◌, ◌++◌, take, length, flat_map, replicate}
use Rattle.intent_journal.proofs.Common.{little_bytes, homes_of}
use Rattle.intent_journal.proofs.descriptor.write_descriptor.Given as goal

abbrev pub invariant-loop-patch : goal.invariant-loop-patch
invariant-loop-patch l = record {
  place : l.at ≡ 4 + 4 * l.patch-index;
  written : l.sector ≡ little_bytes 4 (length l.patches) ++ flat_map (little_bytes 4) (homes_of (take l.patch-index l.patches)) ++ replicate (508 - 4 * l.patch-index) 0;
}
