-- By which access a run changed what it changed, where it began at a world with no session open.
use Rattle.std.specs.Prelude.{◌≡◌, ℕ, ◌⊎◌, Bool, List, ◌∷◌, ◌++◌, All, slice_get, Option, Some, IsTrue}
use Rattle.tsd_model.specs.Pairs.{holds}
use Rattle.tsd_model.specs.World.{World, contents, is_live, has_number}
use Rattle.tsd_model.specs.Reach.{reach}
use Rattle.tsd_model.specs.Attained.{shown_level}
use Rattle.tsd_model.specs.Needs.{session_of, needs}
use Rattle.tsd_model.specs.Valid.{IsValid}
use Rattle.tsd_model.specs.Verdict.{is_granted}
use Rattle.tsd_model.specs.Run.{after, at_rest, replies}
use Rattle.tsd_model.specs.History.{is_set_cap_of}
use Rattle.tsd_model.specs.declared.caps.Shown.{Shown}
use Rattle.tsd_model.specs.declared.needs.Need.{Need}
use Rattle.tsd_model.specs.declared.requests.Level.TheVariants as level
use Rattle.tsd_model.specs.declared.requests.PlaceKind.{PlaceKind}
use Rattle.tsd_model.specs.declared.requests.Request.{Request}
use Rattle.disk_laws.specs.Reached.{writes_to}
use Rattle.disk_laws.specs.Changes.{has_source, is_create_of, is_removal}
use Rattle.disk_laws.specs.Grants.{ShownAttains, GrantAttains}
use Rattle.reach_laws.specs.Runs.{at_each_state}
use Rattle.reach_laws.specs.RunIntegrity.{is_live_in}
use Rattle.reach_laws.specs.Confidentiality.{AlikeBut}

-- After these requests the session attains write at the block: by a capability that it shows there, at a primary block;
-- or along a pointer that leads to the block now, from a block at which it was granted write, and has it still.
abbrev pub AttainsWrite : PlaceKind → World → List Bool → List Request → ℕ → ℕ → Shown → Type 0
AttainsWrite kind w wants qs s b shown = ShownAttains (after kind (at_rest w) wants qs).world b shown level.Write
    ⊎ GrantAttains kind w wants qs s b level.Write

-- One of these requests passes the test. At its turn it was granted, and its session attained write at each block where
-- it needed a level.
pub record HasWriter (test : Request → Bool) (kind : PlaceKind) (w : World) (wants : List Bool)
    (qs : List Request) : Type 0 where
  pub earlier : List Request
  pub request : Request
  pub later : List Request
  pub parts : qs ≡ earlier ++ request ∷ later
  pub passes : IsTrue (test request)
  pub granted : IsTrue (is_granted (after kind (at_rest w) wants earlier).world
      (after kind (at_rest w) wants earlier).sessions request)
  pub session : ℕ
  pub own : ◌≡◌ {A = Option ℕ} (session_of request) (Some session)
  pub may : All (λ (n : Need). AttainsWrite kind w wants earlier session n.block n.shown) (needs request)

-- the block was live at the start, and at each moment since
abbrev pub StaysLive : PlaceKind → World → List Bool → List Request → ℕ → Type 0
StaysLive kind w wants qs b = IsTrue (at_each_state (is_live_in b) kind (at_rest w) wants qs)

-- Blocks that no session of these requests could reach: each is reached from the primary blocks, pointers lead to them
-- from one another alone, and no capability that a request shows anywhere attains anything at a primary one of them.
pub record IsOutOfReach (w : World) (qs : List Request) (region : ℕ → Bool) : Type 0 where
  pub reached : (b : ℕ) → IsTrue (region b) → IsTrue (has_number (reach w) b)
  pub pointers : (a b : ℕ) → IsTrue (holds w.pairs a b) → IsTrue (region b) → IsTrue (region a)
  pub shown : (o : ℕ) → IsTrue (region o)
      → All (λ q. All (λ (n : Need). shown_level w o n.shown ≡ level.Bare) (needs q)) qs

-- A block is as it was: its bytes, what is kept of its capabilities, and the pointers out of it and to it.
pub record BlockIsAsItWas (w now : World) (b : ℕ) : Type 0 where
  pub bytes : contents now b ≡ contents w b
  pub caps : slice_get now.records b ≡ slice_get w.records b
  pub out : (c : ℕ) → holds now.pairs b c ≡ holds w.pairs b c
  pub into : (a : ℕ) → holds now.pairs a b ≡ holds w.pairs a b

-- What these requests changed of a world, they changed by access. Where the bytes of a block, the pointers out of it,
-- those to it or its capabilities differ, a session changed them by a request that was granted, and attained write
-- there; so it is where a block went at any moment, given out again since or not. What no session could reach is as it
-- was, and no reply depends on its bytes.
pub record IsByAccess (kind : PlaceKind) (w : World) (wants : List Bool) (qs : List Request) : Type 0 where
  pub bytes : (b : ℕ) → StaysLive kind w wants qs b
      → (contents (after kind (at_rest w) wants qs).world b ≡ contents w b)
      ⊎ HasWriter (λ q. writes_to q b) kind w wants qs
  pub pointers : (a b : ℕ) → StaysLive kind w wants qs a
      → (holds (after kind (at_rest w) wants qs).world.pairs a b ≡ holds w.pairs a b)
      ⊎ HasWriter (λ q. has_source q a) kind w wants qs
  pub new_pointers : (a b : ℕ) → StaysLive kind w wants qs b
      → IsTrue (holds (after kind (at_rest w) wants qs).world.pairs a b)
      → IsTrue (holds w.pairs a b) ⊎ HasWriter (λ q. is_create_of q a b) kind w wants qs
  pub caps : (o : ℕ) → (slice_get (after kind (at_rest w) wants qs).world.records o ≡ slice_get w.records o)
      ⊎ HasWriter (λ q. is_set_cap_of q o) kind w wants qs
  pub blocks : (b : ℕ) → IsTrue (is_live w b) → StaysLive kind w wants qs b ⊎ HasWriter is_removal kind w wants qs
  pub unreached : (region : ℕ → Bool) → IsOutOfReach w qs region → (b : ℕ) → IsTrue (region b)
      → BlockIsAsItWas w (after kind (at_rest w) wants qs).world b
  pub hidden : (region : ℕ → Bool) → IsOutOfReach w qs region → (u : World) → AlikeBut region (at_rest w) (at_rest u)
      → replies kind (at_rest u) wants qs ≡ replies kind (at_rest w) wants qs

-- So it is in every run from a valid world.
abbrev pub RunsChangeByAccess : Type 0
RunsChangeByAccess = (kind : PlaceKind) (w : World) (wants : List Bool) (qs : List Request) → IsValid w
    → IsByAccess kind w wants qs
