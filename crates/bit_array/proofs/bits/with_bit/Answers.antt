use Rattle.std.proofs.Common.{w64}
use Rattle.std.proofs.lemmas.Nat.Bits.{bit_at_set_same, bit_at_set_other, bit_at_clear_same, bit_at_clear_other}
use Rattle.bit_array.proofs.bits.with_bit.Goals as goal

pub returns-then-bit-clause-same : goal.returns-then-bit-clause-same
returns-then-bit-clause-same c = rw c.if-bit.true (bit_at_set_same w64 c.args.word c.args.position c.requires)

pub returns-then-bit-clause-others : goal.returns-then-bit-clause-others
returns-then-bit-clause-others c = λ i h ne. bit_at_set_other w64 c.args.word c.args.position c.requires i ne

pub returns-else-bit-clause-same : goal.returns-else-bit-clause-same
returns-else-bit-clause-same c = rw c.if-bit.false (bit_at_clear_same w64 c.args.word c.args.position c.requires)

pub returns-else-bit-clause-others : goal.returns-else-bit-clause-others
returns-else-bit-clause-others c = λ i h ne. bit_at_clear_other w64 c.args.word c.args.position c.requires i h ne
