use Rattle.std.proofs.Common.{◌≡◌, ◌*◌, length, take}
use Rattle.pointer_table.proofs.Common.{row_bytes}
use Rattle.pointer_table.proofs.sector.sector_bytes.Given as goal

abbrev pub invariant-loop-index : goal.invariant-loop-index
invariant-loop-index l =
    (length l.sector ≡ 512) × (take (8 * l.index) l.sector ≡ row_bytes l.slots (64 * l.part) l.index)
