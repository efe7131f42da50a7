-- What each session holds: at each block a level from each primary block that it came from.
use Rattle.std.specs.Prelude.{◌≡◌, ℕ, ◌-◌, ◌⊎◌, ◌<◌, ◌==◌, Bool, cond, nat_le, List, [], ◌∷◌, length, map, replicate}
use Rattle.std.specs.Prelude.{slice_index_or, slice_set, Option, Some, None, is_some, option_map, unwrap_or, IfSome}
use Rattle.std.specs.Prelude.{IsTrue}
use Rattle.std.specs.List.{enumerate_from}
use Rattle.tsd_model.specs.World.{World, is_live, all_blocks}
use Rattle.tsd_model.specs.declared.requests.Level.{Level}
use Rattle.tsd_model.specs.declared.requests.Level.TheVariants as level

-- at index b the level at block b
abbrev pub Levels : Type 0
Levels = List Level

-- at index o the levels that came from primary block o, their origin
abbrev pub Held : Type 0
Held = List Levels

-- at index s - 1, for the sessions s from 1 to 64, what the session holds, if it is open
abbrev pub Sessions : Type 0
Sessions = List (Option Held)

-- how many sessions there are
abbrev pub sessions_max : ℕ
sessions_max = 64

abbrev pub no_sessions : Sessions
no_sessions = replicate sessions_max None

abbrev pub level_rank : Level → ℕ
level_rank level.Bare = 0
level_rank level.Read = 1
level_rank level.Write = 2

abbrev pub level_le : Level → Level → Bool
level_le a b = nat_le (level_rank a) (level_rank b)

abbrev pub greater : Level → Level → Level
greater a b = cond (level_le a b) b a

abbrev pub greatest : List Level → Level
greatest [] = level.Bare
greatest (l ∷ ls) = greater l (greatest ls)

-- what an open session holds; no session has number 0
abbrev pub held_by : Sessions → ℕ → Option Held
held_by v s = cond (s == 0) None (slice_index_or v (s - 1) None)

abbrev pub is_open : Sessions → ℕ → Bool
is_open v s = is_some (held_by v s)

abbrev pub levels_in : Option Held → ℕ → List Level
levels_in None o = []
levels_in (Some held) o = slice_index_or held o []

-- the levels that a session holds from an origin; none where it isn't open
abbrev pub levels_from : Sessions → ℕ → ℕ → List Level
levels_from v s o = levels_in (held_by v s) o

-- the level that a session holds from an origin at a block
abbrev pub level_from : Sessions → ℕ → ℕ → ℕ → Level
level_from v s o b = slice_index_or (levels_from v s o) b level.Bare

-- the greatest over all origins
abbrev pub greatest_level : Sessions → ℕ → ℕ → Level
greatest_level v s b = greatest (map (λ levels. slice_index_or levels b level.Bare) (unwrap_or (held_by v s) []))

-- ---- changes

-- with this at the session's index; number 0 has none
abbrev pub with_held : Sessions → ℕ → Option Held → Sessions
with_held v s held = cond (s == 0) v (slice_set v (s - 1) held)

-- a session that holds nothing, and one that is closed
abbrev pub session_begun : World → Sessions → ℕ → Sessions
session_begun w v s = with_held v s (Some (replicate w.geometry.primaries (replicate (length w.blocks) level.Bare)))

abbrev pub session_ended : Sessions → ℕ → Sessions
session_ended v s = with_held v s None

abbrev pub raised_level : ℕ → Level → List Level → List Level
raised_level b l levels = slice_set levels b (greater (slice_index_or levels b level.Bare) l)

-- at block b the level from each origin becomes the greater of the old one and the one attained from it
abbrev pub raised_held : ℕ → (ℕ → Level) → Held → Held
raised_held b attained_from held = map (λ p. raised_level b (attained_from p.0) p.1) (enumerate_from 0 held)

abbrev pub raised_sessions : Sessions → ℕ → ℕ → (ℕ → Level) → Sessions
raised_sessions v s b attained_from = with_held v s (option_map (raised_held b attained_from) (held_by v s))

-- without what came from this origin, in every session
abbrev pub dropped_from : ℕ → ℕ → Sessions → Sessions
dropped_from n o v = map (option_map (λ held. slice_set held o (replicate n level.Bare))) v

abbrev pub levels_at_live : World → Levels → Levels
levels_at_live w levels = map (λ b. cond (is_live w b) (slice_index_or levels b level.Bare) level.Bare) (all_blocks w)

-- without the levels at blocks that aren't live, in every session
abbrev pub fitted : World → Sessions → Sessions
fitted w v = map (option_map (map (levels_at_live w))) v

-- ---- sessions that fit a world

-- Each open session has levels from each primary block at each block, and none is held at a block that isn't live.
pub record Fits (w : World) (v : Sessions) : Type 0 where
  pub count : length v ≡ sessions_max
  pub origins : (s : ℕ) → IfSome (held_by v s) (λ held. length held ≡ w.geometry.primaries)
  pub blocks : (s o : ℕ) → IsTrue (is_open v s) → o < w.geometry.primaries
      → length (levels_from v s o) ≡ w.geometry.blocks
  pub live : (s o b : ℕ) → level_from v s o b ≡ level.Bare ⊎ IsTrue (is_live w b)
