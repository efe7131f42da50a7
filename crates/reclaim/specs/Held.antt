-- Blocks that wait, in a list with room for all.
use Rattle.std.specs.Prelude.{◌≡◌, ℕ, ◌<◌, false, List, [], ◌∷◌, ◌++◌, IsTrue}
use Rattle.tsd_model.specs.World.{has_number, are_apart}

pub record HeldTargets : Type 0 where
  -- how many blocks there are
  pub room : ℕ
  pub blocks : List ℕ

-- each block once, and of these blocks
pub record IsHeld (h : HeldTargets) : Type 0 where
  pub once : IsTrue (are_apart h.blocks)
  pub below : (b : ℕ) → IsTrue (has_number h.blocks b) → b < h.room

-- The block that was held last is held no longer.
pub record IsPopped (old new : HeldTargets) (b : ℕ) : Type 0 where
  pub room : new.room ≡ old.room
  pub last : old.blocks ≡ new.blocks ++ b ∷ []
  pub within : b < old.room
  pub once : has_number new.blocks b ≡ false
