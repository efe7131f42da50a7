-- What is reached stays.
use Rattle.std.specs.Prelude.{◌≡◌, ℕ, Bool, false, ◌==◌, IsTrue}
use Rattle.tsd_model.specs.World.{World, contents, is_live, has_number}
use Rattle.tsd_model.specs.Reach.{reach}
use Rattle.tsd_model.specs.Valid.{IsValid}
use Rattle.tsd_model.specs.Step.{State}
use Rattle.tsd_model.specs.Run.{answer}
use Rattle.tsd_model.specs.declared.requests.PlaceKind.{PlaceKind}
use Rattle.tsd_model.specs.declared.requests.Request.{Request}
use Rattle.tsd_model.specs.declared.requests.Request.TheVariants as ask

-- Each block of a valid world that is reached from a primary block is live.
abbrev pub ReachedIsLive : Type 0
ReachedIsLive = (w : World) (b : ℕ) → IsValid w → IsTrue (has_number (reach w) b) → IsTrue (is_live w b)

-- A block that is live in the one world and reached by the pairs of the next is live in the next: it isn't reclaimed.
abbrev pub KeepsWhatIsReached : World → World → Type 0
KeepsWhatIsReached w next = (b : ℕ) → IsTrue (is_live w b) → IsTrue (has_number (reach next) b)
    → IsTrue (is_live next b)

-- So it is before and after a request.
abbrev pub ReachedIsNotReclaimed : Type 0
ReachedIsNotReclaimed =
    (kind : PlaceKind) (s : State) (q : Request) (want : Bool)
    → IsValid s.world → KeepsWhatIsReached s.world (answer kind s q want).state.world

-- whether the request writes to the block
abbrev pub writes_to : Request → ℕ → Bool
writes_to (ask.Write s b shown bytes) c = b == c
writes_to q c = false

-- A block that is live before a request and after it keeps its bytes, but by a Write to it.
abbrev pub BytesStay : Type 0
BytesStay =
    (kind : PlaceKind) (s : State) (q : Request) (want : Bool) (b : ℕ)
    → IsTrue (is_live s.world b) → IsTrue (is_live (answer kind s q want).state.world b) → writes_to q b ≡ false
    → contents (answer kind s q want).state.world b ≡ contents s.world b
