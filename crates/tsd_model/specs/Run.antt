-- A list of requests.
use Rattle.std.specs.Prelude.{◌≡◌, ◌-◌, ◌++◌, Bool, true, false, List, [], ◌∷◌, Option, Some, None, replicate, drop}
use Rattle.std.specs.Prelude.{map, slice_index_or}
use Rattle.tsd_model.specs.Geometry.{block_len}
use Rattle.tsd_model.specs.World.{World}
use Rattle.tsd_model.specs.Records.{kept}
use Rattle.tsd_model.specs.Sessions.{no_sessions}
use Rattle.tsd_model.specs.Verdict.{verdict}
use Rattle.tsd_model.specs.Step.{State, Outcome, step, gives}
use Rattle.tsd_model.specs.declared.geometry.Geometry.{Geometry}
use Rattle.tsd_model.specs.declared.caps.CapPair.{CapPair}
use Rattle.tsd_model.specs.declared.requests.PlaceKind.{PlaceKind}
use Rattle.tsd_model.specs.declared.requests.Request.{Request}
use Rattle.tsd_model.specs.declared.requests.Request.TheVariants as ask
use Rattle.tsd_model.specs.declared.replies.Reply.{Reply}
use Rattle.tsd_model.specs.declared.replies.Reply.TheVariants as reply
use Rattle.tsd_model.specs.declared.replies.Rule.{Rule}

-- no memory was found: a Begin that no rule refuses is answered NoMemory, and the state stays; for every other request
-- nothing is different
abbrev pub starved : State → Request → Option Rule → Outcome → Outcome
starved s (ask.Begin n) None o = gives s.world s.sessions reply.NoMemory
starved s q r o = o

abbrev pub answer : PlaceKind → State → Request → Bool → Outcome
answer kind s q false = step kind s q
answer kind s q true = starved s q (verdict s.world s.sessions q) (step kind s q)

-- One request's reply, and the state after it; whether no memory was found for a Begin stands open.
pub record IsAnswer (kind : PlaceKind) (s : State) (q : Request) (r : Reply) (now : State) : Type 0 where
  pub want : Bool
  pub reply : r ≡ (answer kind s q want).reply
  pub state : now ≡ (answer kind s q want).state

-- no memory was found at the first request
abbrev pub wants_now : List Bool → Bool
wants_now wants = slice_index_or wants 0 false

-- The replies to the requests, in order. `wants` says at which requests no memory was found; past its end memory was
-- found.
abbrev pub replies : PlaceKind → State → List Bool → List Request → List Reply
replies kind s wants [] = []
replies kind s wants (q ∷ qs) =
    (answer kind s q (wants_now wants)).reply ∷ replies kind (answer kind s q (wants_now wants)).state (drop 1 wants) qs

-- the state after the requests
abbrev pub after : PlaceKind → State → List Bool → List Request → State
after kind s wants [] = s
after kind s wants (q ∷ qs) = after kind (answer kind s q (wants_now wants)).state (drop 1 wants) qs

-- ---- where a run begins

-- version 1; the primary blocks are live and contain zeros, and there are no pairs
abbrev pub fresh_world : Geometry → List CapPair → World
fresh_world g caps = record {
  geometry = g;
  version = 1;
  blocks = replicate g.primaries (Some (replicate (block_len g) 0)) ++ replicate (g.blocks - g.primaries) None;
  pairs = [];
  records = map (kept 1) caps;
}

-- no session is open
abbrev pub at_rest : World → State
at_rest w = record { world = w; sessions = no_sessions }
