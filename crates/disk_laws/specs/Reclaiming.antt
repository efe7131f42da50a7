-- Which blocks a request reclaims.
use Rattle.std.specs.Prelude.{◌≡◌, ℕ, ◌≤◌, Bool, true, false, not, ◌&&◌, List, [], ◌∷◌, ◌++◌, ◌↔◌, IsTrue}
use Rattle.tsd_model.specs.Pairs.{holds, without_pair}
use Rattle.tsd_model.specs.World.{World, is_live, has_number, are_apart}
use Rattle.tsd_model.specs.Reach.{reach}
use Rattle.tsd_model.specs.Valid.{IsValid}
use Rattle.tsd_model.specs.Verdict.{is_granted}
use Rattle.tsd_model.specs.Step.{State}
use Rattle.tsd_model.specs.Run.{answer}
use Rattle.tsd_model.specs.declared.caps.Shown.{Shown}
use Rattle.tsd_model.specs.declared.requests.PlaceKind.{PlaceKind}
use Rattle.tsd_model.specs.declared.requests.Request.{Request}
use Rattle.tsd_model.specs.declared.requests.Request.TheVariants as ask

abbrev pub is_sweep : Request → Bool
is_sweep (ask.Sweep s shown) = true
is_sweep q = false

-- live before and free afterwards
abbrev pub is_reclaimed : World → World → ℕ → Bool
is_reclaimed w next b = is_live w b && not (is_live next b)

-- the block isn't primary, and no pair that led to it is held afterwards
abbrev pub LosesItsPointers : World → World → ℕ → Type 0
LosesItsPointers w next b = (w.geometry.primaries ≤ b)
    × ((a : ℕ) → IsTrue (holds w.pairs a b) → holds next.pairs a b ≡ false)

-- A live block becomes free exactly there.
abbrev pub ReclaimsTheLost : World → World → Type 0
ReclaimsTheLost w next = (b : ℕ) → IsTrue (is_live w b) → (is_live next b ≡ false) ↔ LosesItsPointers w next b

-- So it is by a request other than a sweep.
abbrev pub ExactlyTheLastPointer : Type 0
ExactlyTheLastPointer =
    (kind : PlaceKind) (s : State) (q : Request) (want : Bool)
    → IsValid s.world → is_sweep q ≡ false → ReclaimsTheLost s.world (answer kind s q want).state.world

-- the pairs but the one that the request deletes
abbrev pub pairs_but_deleted : Request → List (ℕ × ℕ) → List (ℕ × ℕ)
pairs_but_deleted (ask.Delete s a shown b) es = without_pair a b es
pairs_but_deleted q es = es

-- each pair to one of the blocks comes from one before it
abbrev pub InOrder : List (ℕ × ℕ) → List ℕ → List ℕ → Type 0
InOrder es before [] = Unit {0}
InOrder es before (b ∷ bs) = ((a : ℕ) → IsTrue (holds es a b) → IsTrue (has_number before a))
    × InOrder es (before ++ b ∷ []) bs

-- The reclaimed blocks, each once, in an order in which each pair to one of them that was held before the request comes
-- from one before it, or is the pair that the request deleted.
pub record ReclaimOrder (w next : World) (q : Request) : Type 0 where
  pub order : List ℕ
  pub once : IsTrue (are_apart order)
  pub members : (b : ℕ) → has_number order b ≡ is_reclaimed w next b
  pub rising : InOrder (pairs_but_deleted q w.pairs) [] order

-- By a request other than a sweep the reclaimed blocks stand in such an order.
abbrev pub ReclaimsInOrder : Type 0
ReclaimsInOrder =
    (kind : PlaceKind) (s : State) (q : Request) (want : Bool)
    → IsValid s.world → is_sweep q ≡ false
    → ReclaimOrder s.world (answer kind s q want).state.world q

-- After a sweep exactly the blocks that were reached are live.
abbrev pub SweepsTheRest : Type 0
SweepsTheRest =
    (kind : PlaceKind) (s : State) (n : ℕ) (shown : Shown) (want : Bool) (b : ℕ)
    → IsValid s.world → IsTrue (is_granted s.world s.sessions (ask.Sweep n shown))
    → is_live (answer kind s (ask.Sweep n shown) want).state.world b ≡ has_number (reach s.world) b
