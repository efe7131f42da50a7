use Rattle.std.proofs.Common.{◌≡◌, length}
use Rattle.block_alloc.proofs.Common.{bits_of, AreMost}
use Rattle.block_alloc.proofs.rows.most_of_groups.Given as goal

abbrev pub invariant-loop-group : goal.invariant-loop-group
invariant-loop-group l = record {
  each : length l.most.items ≡ l.group;
  are : AreMost (bits_of l.unhidden l.blocks) l.most.items;
}
