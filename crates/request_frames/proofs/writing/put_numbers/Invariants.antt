use Rattle.std.proofs.Common.{◌≡◌, ◌+◌, ◌*◌, ◌++◌, length, take, flat_map}
use Rattle.byteorder.specs.Endian.{little_bytes}
use Rattle.request_frames.proofs.writing.put_numbers.Given as goal

abbrev pub invariant-loop-n : goal.invariant-loop-n
invariant-loop-n g l = (l.into ≡ l.initial.into ++ flat_map (λ n. little_bytes 4 n) (take l.n-index l.items)) × (length l.into ≡ length l.initial.into + 4 * l.n-index)
