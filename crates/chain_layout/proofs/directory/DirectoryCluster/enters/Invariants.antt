use Rattle.std.proofs.Common.{◌≡◌}
use Rattle.std.specs.Prelude.{drop}
use Rattle.tsd_model.specs.World.{has_number}
use Rattle.chain_layout.specs.Listed.{entry_blocks}
use Rattle.chain_layout.specs.Held.{entries_in}
use Rattle.chain_layout.proofs.directory.DirectoryCluster.enters.Given as goal

-- the block isn't among those before this place
abbrev pub invariant-loop-position : goal.invariant-loop-position
invariant-loop-position l = has_number (entry_blocks (entries_in l.self)) l.block ≡ has_number (drop l.position (entry_blocks (entries_in l.self))) l.block
