-- When a map and a world have the same live blocks.
use Rattle.std.specs.Prelude.{◌≡◌, ℕ, ◌<◌, Bool, List, length}
use Rattle.tsd_model.specs.World.{World}
use Rattle.tsd_model.specs.World.{is_live as is_live_in}
use Rattle.block_alloc.specs.LiveMap.{is_live}

-- the map has the world's blocks, and tells of each whether it is live there
pub record IsMapOf (live : List Bool) (w : World) : Type 0 where
  pub each_block : length live ≡ length w.blocks
  pub same : (b : ℕ) → b < length live → is_live live b ≡ is_live_in w b
