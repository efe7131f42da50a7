-- Worlds stay valid.
use Rattle.std.specs.Prelude.{◌≡◌, Bool, List, length}
use Rattle.tsd_model.specs.Geometry.{IsLawful}
use Rattle.tsd_model.specs.World.{World}
use Rattle.tsd_model.specs.Records.{upgraded}
use Rattle.tsd_model.specs.Sessions.{Fits, no_sessions}
use Rattle.tsd_model.specs.Valid.{IsValid}
use Rattle.tsd_model.specs.Step.{State}
use Rattle.tsd_model.specs.Run.{after, fresh_world}
use Rattle.tsd_model.specs.declared.caps.CapPair.{CapPair}
use Rattle.tsd_model.specs.declared.geometry.Geometry.{Geometry}
use Rattle.tsd_model.specs.declared.requests.PlaceKind.{PlaceKind}
use Rattle.tsd_model.specs.declared.requests.Request.{Request}

-- From a valid world and sessions that fit it, any list of requests leaves a valid world and sessions that fit it,
-- wherever no memory was found.
abbrev pub WorldsStayValid : Type 0
WorldsStayValid =
    (kind : PlaceKind) (s : State) (wants : List Bool) (qs : List Request)
    → IsValid s.world → Fits s.world s.sessions
    → IsValid (after kind s wants qs).world × Fits (after kind s wants qs).world (after kind s wants qs).sessions

-- The world of a new disk is valid: any lawful geometry, and a pair of capabilities for each primary block.
abbrev pub FreshWorldsAreValid : Type 0
FreshWorldsAreValid = (g : Geometry) (caps : List CapPair) → IsLawful g → length caps ≡ g.primaries
    → IsValid (fresh_world g caps)

-- A valid world stays valid where its capabilities are turned into digests.
abbrev pub UpgradedWorldsAreValid : Type 0
UpgradedWorldsAreValid = (w : World) → IsValid w → IsValid (upgraded w)

-- Sessions of which none is open fit each world.
abbrev pub NoSessionsFit : Type 0
NoSessionsFit = (w : World) → Fits w no_sessions
