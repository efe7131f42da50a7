-- What a step of reclamation keeps and lowers.
use Rattle.std.specs.Prelude.{◌≡◌, ℕ, ◌+◌, ◌&&◌, ◌==◌, Bool, true, false, not, cond, List, length, ◌↔◌, ◌⊎◌, IsTrue}
use Rattle.tsd_model.specs.Pairs.{holds}
use Rattle.tsd_model.specs.World.{World, has_number}
use Rattle.tsd_model.specs.Doomed.{doomed, settle}
use Rattle.tsd_model.specs.Step.{without_pointer}
use Rattle.graph_laws.specs.Counts.{doomed_pairs}
use Rattle.graph_laws.specs.RawGraph.{IsLaidOut, IsRawGraph}
use Rattle.graph_laws.specs.Steps.{stepped, IsStep, IsLost}

-- A step at a lost block keeps what the world settles to, whenever it is taken.
abbrev pub StepSettles : Type 0
StepSettles =
    (r : World) (a : ℕ) (targets : List ℕ) (freed : Bool) → IsLaidOut r → IsLost r a → IsStep r a targets freed
    → settle (stepped r a targets freed) ≡ settle r

-- What it takes is doomed: so much less is doomed afterwards, and of all else the same is.
pub record IsLowered (r after : World) (a : ℕ) (targets : List ℕ) (freed : Bool) : Type 0 where
  pub each : (c : ℕ) → has_number (doomed after) c ≡ (has_number (doomed r) c && not (freed && (c == a)))
  pub blocks : length (doomed r) ≡ cond freed 1 0 + length (doomed after)
  pub pairs : length (doomed_pairs r) ≡ length targets + length (doomed_pairs after)

abbrev pub StepLowers : Type 0
StepLowers =
    (r : World) (a : ℕ) (targets : List ℕ) (freed : Bool) → IsLaidOut r → IsLost r a → IsStep r a targets freed
    → IsLowered r (stepped r a targets freed) a targets freed

-- the block is one of these targets, and no pair leads to it now
abbrev pub IsLeftAlone : World → List ℕ → ℕ → Type 0
IsLeftAlone after targets c = IsTrue (has_number targets c) × ((x : ℕ) → holds after.pairs x c ≡ false)

-- Lost afterwards are those that were lost, without the block if it is freed, and the targets to which no pair is left.
abbrev pub LostAfterStep : Type 0
LostAfterStep =
    (r : World) (a : ℕ) (targets : List ℕ) (freed : Bool) (c : ℕ) → IsRawGraph r → IsLost r a → IsStep r a targets freed
    → IsLost (stepped r a targets freed) c
    ↔ ((IsLost r c × (freed ≡ true → ¬ (c ≡ a))) ⊎ IsLeftAlone (stepped r a targets freed) targets c)

-- After a deletion, those that were lost, and the pair's target where no pair is left to it.
abbrev pub LostAfterDelete : Type 0
LostAfterDelete =
    (r : World) (a b c : ℕ) → IsRawGraph r → IsTrue (holds r.pairs a b)
    → IsLost (without_pointer r a b) c
    ↔ (IsLost r c ⊎ ((c ≡ b) × ((x : ℕ) → holds (without_pointer r a b).pairs x c ≡ false)))
