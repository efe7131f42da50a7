-- What a request does to the sessions of others.
use Rattle.std.specs.Prelude.{◌≡◌, ℕ, Bool, false, not, cond, ◌&&◌}
use Rattle.tsd_model.specs.World.{is_live}
use Rattle.tsd_model.specs.Sessions.{is_open, level_from, Fits}
use Rattle.tsd_model.specs.Verdict.{is_granted}
use Rattle.tsd_model.specs.Step.{State}
use Rattle.tsd_model.specs.Run.{answer}
use Rattle.tsd_model.specs.History.{is_of_session, is_set_cap_of}
use Rattle.tsd_model.specs.declared.requests.Level.TheVariants as level
use Rattle.tsd_model.specs.declared.requests.PlaceKind.{PlaceKind}
use Rattle.tsd_model.specs.declared.requests.Request.{Request}

-- the request gives this primary block new capabilities
abbrev pub renews : State → Request → ℕ → Bool
renews s q o = is_granted s.world s.sessions q && is_set_cap_of q o

-- A session to which the request doesn't belong holds afterwards what it held, at blocks that are live afterwards and
-- from primary blocks that got no new capabilities, and nothing else. So what it holds never rises.
abbrev pub OthersKeepTheirLevels : Type 0
OthersKeepTheirLevels =
    (kind : PlaceKind) (s : State) (q : Request) (want : Bool) (n o a : ℕ)
    → Fits s.world s.sessions → is_of_session q n ≡ false
    → level_from (answer kind s q want).state.sessions n o a
    ≡ cond (is_live (answer kind s q want).state.world a && not (renews s q o)) (level_from s.sessions n o a) level.Bare

-- It is open afterwards exactly where it was.
abbrev pub OthersStayOpen : Type 0
OthersStayOpen =
    (kind : PlaceKind) (s : State) (q : Request) (want : Bool) (n : ℕ)
    → is_of_session q n ≡ false
    → is_open (answer kind s q want).state.sessions n ≡ is_open s.sessions n
