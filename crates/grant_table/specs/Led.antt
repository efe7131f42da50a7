-- The levels that are led to a block, while its sources are asked one by one.
use Rattle.std.specs.Prelude.{◌≡◌, ℕ, ◌<◌, ◌≤◌, List, [], length, slice_index_or, IsTrue}
use Rattle.tsd_model.specs.Pairs.{holds}
use Rattle.tsd_model.specs.Sessions.{Held, level_rank}
use Rattle.tsd_model.specs.Attained.{led_level}
use Rattle.tsd_model.specs.declared.requests.Level.{Level}
use Rattle.tsd_model.specs.declared.requests.Level.TheVariants as level

-- the level held from origin o at block a
abbrev pub level_at : Held → ℕ → ℕ → Level
level_at held o a = slice_index_or (slice_index_or held o []) a level.Bare

-- The levels found so far: none is above what is led to b, and each is at least what is held at the sources below n.
pub record AreFound (held : Held) (es : List (ℕ × ℕ)) (b n : ℕ) (found : List Level) : Type 0 where
  pub sized : length found ≡ 16
  pub led : (o : ℕ) → o < 16
      → level_rank (slice_index_or found o level.Bare) ≤ level_rank (led_level (slice_index_or held o []) b es)
  pub below : (o a : ℕ) → o < 16 → a < n → IsTrue (holds es a b)
      → level_rank (level_at held o a) ≤ level_rank (slice_index_or found o level.Bare)
