use Rattle.std.proofs.Common.{◌≡◌, ℕ, ◌<◌, true}
use Rattle.block_alloc.specs.LiveMap.{is_live}
use Rattle.image_world.proofs.primaries.least_free_primary.Given as goal

abbrev pub invariant-loop-block : goal.invariant-loop-block
invariant-loop-block l = (b : ℕ) → b < l.block → is_live l.live.live b ≡ true
