use Rattle.std.proofs.Common.{◌≡◌, true, sym, ◌∙◌}
use Rattle.block_alloc.proofs.Common.{bit_in, bits_of}
use Rattle.block_alloc.proofs.RowLaws.{live-bit, most-none}
use Rattle.block_alloc.proofs.rows.row_before.Goals as goal

pub returns-then-bit_in-clause-most : goal.returns-then-bit_in-clause-most
returns-then-bit_in-clause-most c = λ blocks behind.
    let bit : bit_in c.args.unhidden.now c.args.block ≡ true = sym c.bit_in.ensures ∙ c.if-bit_in.true in
    most-none (bits_of c.args.unhidden.now blocks) c.args.block (live-bit c.args.unhidden.now blocks c.args.block bit)
