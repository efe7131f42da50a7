use Rattle.std.proofs.Common.{◌≤◌, ◌++◌, length}
use Rattle.inode_changes.proofs.Common.{new_bytes}
use Rattle.inode_changes.proofs.FillLaws.{Writing}
use Rattle.inode_changes.proofs.blocks.write_blocks.Given as goal

-- The blocks so far were written. What is left of the bytes in front is less than a block.
abbrev pub invariant-loop-block : goal.invariant-loop-block
invariant-loop-block g l =
    Writing g.K.Blocks.told l.client (g.K.Blocks.view l.fn.disk) (g.K.Blocks.view l.disk) l.blocks (new_bytes l.content) l.content.block_len l.block-index (l.front ++ l.rest)
    × (length l.front ≤ l.content.block_len)
