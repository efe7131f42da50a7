use Rattle.std.proofs.Common.{◌%◌, arith}
use Rattle.block_alloc.proofs.BitLaws.{set-same, set-other, clear-same, clear-other}
use Rattle.block_alloc.proofs.bits.with_bit.Goals as goal

pub returns-then-bit-clause-same : goal.returns-then-bit-clause-same
returns-then-bit-clause-same c = rw c.if-bit.true (set-same c.args.byte c.bit_mask.result (c.args.block % 8) c.bit_mask.ensures)

pub returns-then-bit-clause-others : goal.returns-then-bit-clause-others
returns-then-bit-clause-others c = λ k h ne. set-other c.args.byte c.bit_mask.result (c.args.block % 8) k c.bit_mask.ensures ne

pub returns-else-bit-clause-same : goal.returns-else-bit-clause-same
returns-else-bit-clause-same c = let m = c.bit_mask-else-bit in rw c.if-bit.false (clear-same c.args.byte m.result (c.args.block % 8) m.ensures (omega arith) (omega arith))

pub returns-else-bit-clause-others : goal.returns-else-bit-clause-others
returns-else-bit-clause-others c = let m = c.bit_mask-else-bit in λ k h ne. clear-other c.args.byte m.result (c.args.block % 8) k m.ensures (omega arith) h ne
