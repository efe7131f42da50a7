use Rattle.std.proofs.Common.{◌≤◌, ◌<◌, ℕ}
use Rattle.block_alloc.proofs.Common.{bits_of, IsMostAt}
use Rattle.block_alloc.proofs.rows.most_in.Given as goal

-- those of the blocks that were passed
abbrev pub invariant-loop-block : goal.invariant-loop-block
invariant-loop-block l = record {
  low : l.first ≤ l.block;
  few : l.row ≤ 32;
  row : IsMostAt (bits_of l.unhidden l.blocks) l.block l.row;
  most : (b : ℕ) → l.block ≤ b → b < l.end → IsMostAt (bits_of l.unhidden l.blocks) b l.most;
}
