use Rattle.std.proofs.Common.{◌≡◌, ◌≤◌, length, take}
use Rattle.chain_reading.proofs.listing.name_of.Given as goal

abbrev pub invariant-loop-byte : goal.invariant-loop-byte
invariant-loop-byte l = length l.bytes ≤ 28 → l.name ≡ take l.byte-index l.bytes
