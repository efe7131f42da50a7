-- What a raw world settles to.
use Rattle.std.specs.Prelude.{◌≡◌, ℕ, ◌+◌, ◌≤◌, [], length, ◌↔◌, IsTrue}
use Rattle.tsd_model.specs.Pairs.{holds}
use Rattle.tsd_model.specs.World.{World, is_live, free_count}
use Rattle.tsd_model.specs.Doomed.{doomed, settle}
use Rattle.tsd_model.specs.Valid.{IsRaw, IsValid}
use Rattle.graph_laws.specs.Counts.{doomed_pairs}
use Rattle.graph_laws.specs.RawGraph.{IsLaidOut, IsRawGraph}
use Rattle.graph_laws.specs.Steps.{IsLost}

-- A raw world settles to a valid one, and a raw graph to a raw graph.
abbrev pub SettlesToValid : Type 0
SettlesToValid = (r : World) → (IsRaw r → IsValid (settle r)) × (IsRawGraph r → IsRawGraph (settle r))

-- What is settled settles to itself.
abbrev pub SettlesOnce : Type 0
SettlesOnce = (r : World) → IsLaidOut r → settle (settle r) ≡ settle r

-- each live block that isn't primary is the target of a pair
abbrev pub EachIsLedTo : World → Type 0
EachIsLedTo w = (b : ℕ) → w.geometry.primaries ≤ b → IsTrue (is_live w b) → (a : ℕ) × IsTrue (holds w.pairs a b)

-- Nothing is doomed exactly where each live block that isn't primary has a pair to it, and exactly where no block is
-- lost. There settling changes nothing.
abbrev pub NothingDoomed : Type 0
NothingDoomed =
    (r : World) → IsLaidOut r
    → ((doomed r ≡ []) ↔ EachIsLedTo r)
    × ((doomed r ≡ []) ↔ ((b : ℕ) → ¬ IsLost r b))
    × (doomed r ≡ [] → settle r ≡ r)

-- Where something is doomed, some block is lost.
abbrev pub SomeLost : Type 0
SomeLost = (r : World) → ¬ (doomed r ≡ []) → (b : ℕ) × IsLost r b

-- The settled world has as many free blocks more, and as many pairs less, as are doomed.
abbrev pub SettledSizes : Type 0
SettledSizes =
    (r : World) → IsLaidOut r
    → (free_count (settle r) ≡ free_count r + length (doomed r))
    × (length (settle r).pairs + length (doomed_pairs r) ≡ length r.pairs)
