-- What requests leave as it is.
use Rattle.std.specs.Prelude.{◌≡◌, ℕ, Bool, List}
use Rattle.tsd_model.specs.Step.{State}
use Rattle.tsd_model.specs.Run.{answer, after}
use Rattle.tsd_model.specs.declared.replies.Reply.TheVariants as reply
use Rattle.tsd_model.specs.declared.replies.Rule.{Rule}
use Rattle.tsd_model.specs.declared.requests.PlaceKind.{PlaceKind}
use Rattle.tsd_model.specs.declared.requests.Request.{Request}
use Rattle.tsd_model.specs.declared.requests.Request.TheVariants as ask

-- A refused request leaves the world and the sessions as they were.
abbrev pub RefusalsChangeNothing : Type 0
RefusalsChangeNothing =
    (kind : PlaceKind) (s : State) (q : Request) (want : Bool) (r : Rule)
    → (answer kind s q want).reply ≡ reply.Refused r → (answer kind s q want).state ≡ s

-- So does a request for which no memory was found.
abbrev pub NoMemoryChangesNothing : Type 0
NoMemoryChangesNothing =
    (kind : PlaceKind) (s : State) (q : Request) (want : Bool)
    → (answer kind s q want).reply ≡ reply.NoMemory → (answer kind s q want).state ≡ s

-- Opening or closing a session leaves the world as it was.
abbrev pub SessionsChangeNoWorld : Type 0
SessionsChangeNoWorld =
    (kind : PlaceKind) (s : State) (n : ℕ) (want : Bool)
    → ((answer kind s (ask.Begin n) want).state.world ≡ s.world)
    × ((answer kind s (ask.End n) want).state.world ≡ s.world)

-- No request changes the version or the geometry.
abbrev pub VersionStays : Type 0
VersionStays =
    (kind : PlaceKind) (s : State) (wants : List Bool) (qs : List Request)
    → ((after kind s wants qs).world.version ≡ s.world.version)
    × ((after kind s wants qs).world.geometry ≡ s.world.geometry)
