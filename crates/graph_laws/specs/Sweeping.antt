-- What a sweep keeps.
use Rattle.std.specs.Prelude.{◌≡◌, ℕ, ◌<◌, ◌⊎◌, Bool, false, List, [], IsTrue}
use Rattle.tsd_model.specs.Pairs.{holds}
use Rattle.tsd_model.specs.World.{World, is_live, has_number}
use Rattle.tsd_model.specs.Reach.{reach, swept}
use Rattle.tsd_model.specs.Doomed.{doomed, settle}
use Rattle.tsd_model.specs.Valid.{IsRaw, IsValid}
use Rattle.graph_laws.specs.Counts.{stays}
use Rattle.graph_laws.specs.RawGraph.{IsRawGraph}
use Rattle.graph_laws.specs.Steps.{stepped, IsStep, IsAlone}

-- A set of blocks has each primary block, and with a block each that a pair leads to from it.
pub record FollowsPairs (w : World) (set : ℕ → Bool) : Type 0 where
  pub first : (b : ℕ) → b < w.geometry.primaries → IsTrue (set b)
  pub on : (a b : ℕ) → IsTrue (holds w.pairs a b) → IsTrue (set a) → IsTrue (set b)

-- The reached blocks are the least set that does. So marks that follow the pairs, and that only reached blocks have,
-- are theirs.
abbrev pub ReachIsLeast : Type 0
ReachIsLeast =
    (w : World) → IsRawGraph w
    → FollowsPairs w (has_number (reach w))
    × ((set : ℕ → Bool) → FollowsPairs w set → (b : ℕ) → IsTrue (has_number (reach w) b) → IsTrue (set b))

-- both have the same blocks reached, and sweep to one
pub record SweepsAs (v w : World) : Type 0 where
  pub reached : (b : ℕ) → has_number (reach v) b ≡ has_number (reach w) b
  pub swept : swept v ≡ swept w

-- A step at an unreached block keeps what is reached and the world on it, whenever it is taken.
abbrev pub StepSweeps : Type 0
StepSweeps =
    (r : World) (a : ℕ) (targets : List ℕ) (freed : Bool) → IsRawGraph r → has_number (reach r) a ≡ false
    → IsStep r a targets freed
    → SweepsAs (stepped r a targets freed) r

-- Where a live block isn't reached, there is one from which a pair leads, or which is alone: so there is a step to
-- take.
abbrev pub SweepGoesOn : Type 0
SweepGoesOn =
    (r : World) (b : ℕ) → IsRawGraph r → IsTrue (is_live r b) → has_number (reach r) b ≡ false
    → (a : ℕ) × IsTrue (is_live r a) × (has_number (reach r) a ≡ false)
    × (IsAlone r a ⊎ ((c : ℕ) × IsTrue (holds r.pairs a c)))

-- Where each live block is reached, there is nothing to sweep.
abbrev pub SweptWhole : Type 0
SweptWhole = (r : World) → IsRawGraph r → ((b : ℕ) → IsTrue (is_live r b) → IsTrue (has_number (reach r) b))
    → swept r ≡ r

-- A raw world sweeps to a valid one, and where a raw graph is swept, nothing is doomed.
abbrev pub SweepsToValid : Type 0
SweepsToValid = (r : World) → (IsRaw r → IsValid (swept r)) × (IsRawGraph r → doomed (swept r) ≡ [])

-- What is reached stays, so a raw world and what it settles to sweep to one.
abbrev pub SettledSweeps : Type 0
SettledSweeps =
    (r : World) → IsRawGraph r
    → ((b : ℕ) → IsTrue (has_number (reach r) b) → IsTrue (stays r b)) × SweepsAs (settle r) r
