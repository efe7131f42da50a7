-- What sessions hold while requests lead from one state to another.
use Rattle.std.specs.Prelude.{ℕ, ◌<◌, Bool, List, [], ◌∷◌, IsTrue}
use Rattle.tsd_model.specs.World.{is_live}
use Rattle.tsd_model.specs.Sessions.{level_le, level_from, Fits}
use Rattle.tsd_model.specs.Step.{State}
use Rattle.tsd_model.specs.Valid.{IsValid}
use Rattle.tsd_model.specs.Run.{answer}
use Rattle.tsd_model.specs.declared.requests.Level.{Level}
use Rattle.tsd_model.specs.declared.requests.PlaceKind.{PlaceKind}
use Rattle.tsd_model.specs.declared.requests.Request.{Request}
use Rattle.fs_port.specs.Calls.{LeadTo}

-- the block is live after each of these requests
abbrev pub LivesOn : PlaceKind → State → List (Request × Bool) → ℕ → Type 0
LivesOn kind st [] b = Unit {0}
LivesOn kind st (q ∷ qs) b = IsTrue (is_live (answer kind st q.0 q.1).state.world b)
    × LivesOn kind (answer kind st q.0 q.1).state qs b

-- The level that a session holds at such a block from a primary one never falls, where none of these requests opens or
-- closes a session or sets a capability.
abbrev pub LevelsStay : Type 0
LevelsStay =
    (kind : PlaceKind) (st next : State) (qs : List (Request × Bool)) (s o b : ℕ) (l : Level)
    → IsValid st.world → Fits st.world st.sessions → o < st.world.geometry.primaries
    → LeadTo kind st qs next → LivesOn kind st qs b
    → IsTrue (level_le l (level_from st.sessions s o b)) → IsTrue (level_le l (level_from next.sessions s o b))
