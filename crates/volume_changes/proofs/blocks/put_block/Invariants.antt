use Rattle.std.proofs.Common.{◌≤◌, length}
use Rattle.tsd_model.specs.Geometry.{block_len}
use Rattle.tsd_model.specs.Step.{filled}
use Rattle.volume_laws.proofs.BlockLaws.{IsLaid}
use Rattle.volume_changes.proofs.blocks.put_block.Given as goal

-- the batch has the parts before this one
abbrev pub invariant-loop-part : goal.invariant-loop-part
invariant-loop-part l = record {
  few : length l.batch ≤ l.part;
  laid : IsLaid l.layout.geometry l.block (filled (block_len l.layout.geometry) l.bytes) l.part l.batch;
}
