-- The levels attained where a request needs one.
use Rattle.std.specs.Prelude.{◌≡◌, true, ℕ, ◌-◌, List, ◌++◌, replicate, slice_get, unwrap_or, Option, Some, None}
use Rattle.tsd_model.specs.World.{World}
use Rattle.tsd_model.specs.Sessions.{Sessions}
use Rattle.tsd_model.specs.Attained.{attained_origins}
use Rattle.tsd_model.specs.Needs.{session_of, needs}
use Rattle.tsd_model.specs.Verdict.{denied}
use Rattle.tsd_model.specs.declared.replies.Rule.{Rule}
use Rattle.tsd_model.specs.declared.caps.Shown.{Shown}
use Rattle.tsd_model.specs.declared.needs.Need.{Need}
use Rattle.tsd_model.specs.declared.requests.Level.{Level}
use Rattle.tsd_model.specs.declared.requests.Level.TheVariants as level
use Rattle.tsd_model.specs.declared.requests.Request.{Request}

-- a disk has at most so many primary blocks
abbrev pub origins_max : ℕ
origins_max = 16

-- nothing, from any origin
abbrev pub no_origins : List Level
no_origins = replicate origins_max level.Bare

-- the level attained from each primary block, and from no other
abbrev pub attained_at : World → Sessions → ℕ → ℕ → Shown → List Level
attained_at w v s b shown = attained_origins w v s b shown ++ replicate (origins_max - w.geometry.primaries) level.Bare

abbrev pub attained_for : World → Sessions → ℕ → Option Need → List Level
attained_for w v s None = no_origins
attained_for w v s (Some n) = attained_at w v s n.block n.shown

-- what a request attains where it needs a level: at the block or the source, which is its first need
abbrev pub at_source : World → Sessions → Request → List Level
at_source w v q = attained_for w v (unwrap_or (session_of q) 0) (slice_get (needs q) 0)

-- at the target of a Create, which is its second need
abbrev pub at_target : World → Sessions → Request → List Level
at_target w v q = attained_for w v (unwrap_or (session_of q) 0) (slice_get (needs q) 1)

-- a need is denied by this rule
abbrev pub IsDenied : World → Sessions → ℕ → Option Need → Rule → Type 0
IsDenied w v s None r = ⊥
IsDenied w v s (Some n) r = ((denied w v s n).applies ≡ true) × ((denied w v s n).answer ≡ r)
