-- Levels said over the requests so far, of which the newest stands first.
use Rattle.std.specs.Prelude.{ℕ, Bool, false, not, ◌&&◌, ◌||◌, ◌==◌, List, [], ◌∷◌}
use Rattle.std.specs.List.{list_any}
use Rattle.std.specs.Option.{option_map_or}
use Rattle.tsd_model.specs.World.{is_live}
use Rattle.tsd_model.specs.Sessions.{level_le}
use Rattle.tsd_model.specs.Attained.{attained_from}
use Rattle.tsd_model.specs.Needs.{session_of, needs}
use Rattle.tsd_model.specs.Verdict.{is_granted}
use Rattle.tsd_model.specs.Step.{State}
use Rattle.tsd_model.specs.Run.{answer}
use Rattle.tsd_model.specs.declared.requests.Level.{Level}
use Rattle.tsd_model.specs.declared.requests.PlaceKind.{PlaceKind}
use Rattle.tsd_model.specs.declared.needs.Need.{Need}
use Rattle.tsd_model.specs.declared.requests.Request.{Request}
use Rattle.tsd_model.specs.declared.requests.Request.TheVariants as ask

-- A request, and whether memory was wanted at it.
pub record Asked : Type 0 where
  pub request : Request
  pub wants : Bool

-- the state after the requests
abbrev pub state_after : PlaceKind → State → List Asked → State
state_after kind start [] = start
state_after kind start (e ∷ past) = (answer kind (state_after kind start past) e.request e.wants).state

abbrev pub is_of_session : Request → ℕ → Bool
is_of_session q s = option_map_or (λ t. t == s) (session_of q) false

-- the need is at block a, and at least l is attained there from origin o
abbrev pub attains_at : State → ℕ → ℕ → ℕ → Level → Need → Bool
attains_at st s o a l n = (n.block == a) && level_le l (attained_from st.world st.sessions s n.block n.shown o)

-- the request is of the session, is granted, needed a level at block a, and attained at least l from origin o there
abbrev pub gives_grant : State → Request → ℕ → ℕ → ℕ → Level → Bool
gives_grant st q s o a l =
    (is_granted st.world st.sessions q && is_of_session q s) && list_any (attains_at st s o a l) (needs q)

abbrev pub is_end_of : Request → ℕ → Bool
is_end_of (ask.End t) s = t == s
is_end_of q s = false

abbrev pub is_set_cap_of : Request → ℕ → Bool
is_set_cap_of (ask.SetCap t b shown caps) o = b == o
is_set_cap_of q o = false

-- the block is live after the request, and the request neither ends the session nor sets the capabilities of the origin
abbrev pub keeps_grant : State → State → Request → ℕ → ℕ → ℕ → Bool
keeps_grant st next q s o a =
    is_live next.world a && not (is_granted st.world st.sessions q && (is_end_of q s || is_set_cap_of q o))

-- The session has a grant of level l from origin o at block a: some earlier request gave it, and that request and all
-- since have kept it.
abbrev pub has_grant : PlaceKind → State → List Asked → ℕ → ℕ → ℕ → Level → Bool
has_grant kind start [] s o a l = false
has_grant kind start (e ∷ past) s o a l =
    keeps_grant (state_after kind start past) (state_after kind start (e ∷ past)) e.request s o a
    && (gives_grant (state_after kind start past) e.request s o a l || has_grant kind start past s o a l)
