use Rattle.std.proofs.Common.{◌≡◌}
use Rattle.std.specs.Prelude.{drop}
use Rattle.tsd_model.specs.World.{has_number}
use Rattle.inode_layout.specs.Block.{inode_of}
use Rattle.inode_layout.specs.Said.{blocks_said}
use Rattle.inode_layout.proofs.inode.Inode.names.Given as goal

-- the block isn't among those before this place
abbrev pub invariant-loop-position : goal.invariant-loop-position
invariant-loop-position l = has_number (blocks_said (inode_of l.self)) l.block ≡ has_number (drop l.position (blocks_said (inode_of l.self))) l.block
