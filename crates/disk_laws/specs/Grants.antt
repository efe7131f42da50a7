-- Access, said over the requests so far.
use Rattle.std.specs.Prelude.{◌≡◌, ℕ, ◌<◌, ◌≤◌, ◌⊎◌, ◌↔◌, Bool, List, [], ◌∷◌, drop, IsTrue}
use Rattle.tsd_model.specs.Pairs.{holds}
use Rattle.tsd_model.specs.World.{World}
use Rattle.tsd_model.specs.Sessions.{level_le, level_from}
use Rattle.tsd_model.specs.Attained.{shown_level, attained}
use Rattle.tsd_model.specs.Valid.{IsValid}
use Rattle.tsd_model.specs.Run.{after, wants_now, at_rest}
use Rattle.tsd_model.specs.History.{Asked, has_grant}
use Rattle.tsd_model.specs.declared.caps.Shown.{Shown}
use Rattle.tsd_model.specs.declared.requests.Level.{Level}
use Rattle.tsd_model.specs.declared.requests.Level.TheVariants as level
use Rattle.tsd_model.specs.declared.requests.PlaceKind.{PlaceKind}
use Rattle.tsd_model.specs.declared.requests.Request.{Request}

-- these requests put before those of `past`, the newest first
abbrev pub onto_past : List Bool → List Request → List Asked → List Asked
onto_past wants [] past = past
onto_past wants (q ∷ qs) past = onto_past (drop 1 wants) qs (record { request = q; wants = wants_now wants } ∷ past)

-- the requests of a run, the newest first
abbrev pub newest_first : List Bool → List Request → List Asked
newest_first wants qs = onto_past wants qs []

-- In a run that begins at a valid world with no session open, a session holds at least a level from a primary block at
-- a block exactly where it has a grant of it.
abbrev pub LevelsAreGrants : Type 0
LevelsAreGrants =
    (kind : PlaceKind) (w : World) (wants : List Bool) (qs : List Request) (s o a : ℕ) (l : Level)
    → IsValid w → o < w.geometry.primaries → (l ≡ level.Bare → ⊥)
    → level_le l (level_from (after kind (at_rest w) wants qs).sessions s o a)
    ≡ has_grant kind (at_rest w) (newest_first wants qs) s o a l

-- The block is primary, and what is shown attains the level there now.
abbrev pub ShownAttains : World → ℕ → Shown → Level → Type 0
ShownAttains w b shown l = (b < w.geometry.primaries) × IsTrue (level_le l (shown_level w b shown))

-- The block isn't primary, a pair leads to it now, and at the pair's source the session has a grant of the level from
-- some primary block.
abbrev pub GrantAttains : PlaceKind → World → List Bool → List Request → ℕ → ℕ → Level → Type 0
GrantAttains kind w wants qs s b l =
    (w.geometry.primaries ≤ b)
    × ((a o : ℕ) × IsTrue (holds (after kind (at_rest w) wants qs).world.pairs a b) × (o < w.geometry.primaries)
    × IsTrue (has_grant kind (at_rest w) (newest_first wants qs) s o a l))

-- After the requests of such a run, the level that a session attains at a block is at least l exactly where one of the
-- two is so. It stands for each block that the next request names, with what it shows there and the level that it
-- needs.
abbrev pub AttainedByHistory : Type 0
AttainedByHistory =
    (kind : PlaceKind) (w : World) (wants : List Bool) (qs : List Request) (s b : ℕ) (shown : Shown) (l : Level)
    → IsValid w → (l ≡ level.Bare → ⊥)
    → IsTrue
    (level_le l (attained (after kind (at_rest w) wants qs).world
    (after kind (at_rest w) wants qs).sessions s b shown))
    ↔ (ShownAttains (after kind (at_rest w) wants qs).world b shown l ⊎ GrantAttains kind w wants qs s b l)
