use Rattle.std.proofs.Common.{◌≡◌}
use Rattle.std.specs.Prelude.{replicate, Some, None, ◌++◌}
use Rattle.tsd_model.specs.Geometry.{block_len}
use Rattle.plain_disk.proofs.world.fresh_blocks.Given as goal

abbrev pub invariant-loop-block : goal.invariant-loop-block
invariant-loop-block l = l.blocks.items ≡ replicate l.geometry.primaries (Some (replicate (block_len l.geometry) 0)) ++ replicate l.block None
