use Rattle.std.proofs.Common.{◌≡◌, drop}
use Rattle.std.proofs.Common.{◌≤◌, ◌+◌, length}
use Rattle.tsd_model.specs.Step.{with_new_blocks}
use Rattle.plain_disk.proofs.step.with_new_blocks.Given as goal

abbrev pub invariant-loop-block : goal.invariant-loop-block
invariant-loop-block l = record {
  done : with_new_blocks l.next l.source (drop l.block-index l.blocks) ≡ with_new_blocks l.world l.source l.blocks;
  same : l.next.geometry ≡ l.world.geometry;
  room : length l.next.pairs ≤ length l.world.pairs + l.block-index;
}
