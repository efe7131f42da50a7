-- Blocks that may be given out.
use Rattle.std.specs.Prelude.{◌≡◌, ℕ, ◌≤◌, true, List, length, slice_get, Some}
use Rattle.tsd_model.specs.World.{World, is_free}

-- 1 to 32 free blocks, none twice
pub record AreToBeTaken (w : World) (bs : List ℕ) : Type 0 where
  pub some : 1 ≤ length bs
  pub few : length bs ≤ 32
  pub free : (i b : ℕ) → slice_get bs i ≡ Some b → is_free w b ≡ true
  pub apart : (i j b : ℕ) → slice_get bs i ≡ Some b → slice_get bs j ≡ Some b → i ≡ j
