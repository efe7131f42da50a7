use Rattle.std.proofs.Common.{◌≡◌, ◌+◌, ◌*◌, ◌++◌, length}
use Rattle.std.specs.Prelude.{take, flat_map}
use Rattle.byteorder.specs.Endian.{little_bytes}
use Rattle.inode_layout.proofs.writing.add_numbers.Given as goal

-- so many numbers are added
abbrev pub invariant-loop-number : goal.invariant-loop-number
invariant-loop-number l = record { same : l.into ≡ l.initial.into ++ flat_map (little_bytes 4) (take l.number-index l.numbers); long : length l.into ≡ length l.initial.into + 4 * l.number-index }
