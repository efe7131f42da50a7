-- Requests answered one after another, and what the laws of the disk say of them.
use Rattle.std.specs.Prelude.{◌≡◌, ◌⊎◌, ℕ, ◌<◌, false, ◌↔◌, Bool, List, [], ◌∷◌, ◌++◌, length, IsTrue}
use Rattle.tsd_model.specs.World.{World}
use Rattle.tsd_model.specs.Sessions.{level_le, level_from}
use Rattle.tsd_model.specs.Attained.{attained}
use Rattle.tsd_model.specs.Step.{State}
use Rattle.tsd_model.specs.Run.{after, at_rest}
use Rattle.tsd_model.specs.History.{has_grant}
use Rattle.tsd_model.specs.Valid.{IsValid}
use Rattle.tsd_model.specs.declared.caps.Shown.{Shown}
use Rattle.tsd_model.specs.declared.requests.Level.{Level}
use Rattle.tsd_model.specs.declared.requests.Level.TheVariants as level
use Rattle.tsd_model.specs.declared.requests.PlaceKind.{PlaceKind}
use Rattle.tsd_model.specs.declared.requests.Request.{Request}
use Rattle.tsd_model.specs.declared.replies.Reply.{Reply}
use Rattle.disk_laws.specs.Grants.{newest_first, ShownAttains, GrantAttains}
use Rattle.disk_laws.specs.Reached.{KeepsWhatIsReached}
use Rattle.disk_laws.specs.Reclaiming.{is_sweep, ReclaimsTheLost}
use Rattle.tsd_model.specs.Run.{IsAnswer}

-- These requests were answered one after another, from a disk with no session open, and led to this state; memory was
-- wanting at some opens.
pub record WasRun (kind : PlaceKind) (w : World) (qs : List Request) (now : State) : Type 0 where
  pub wants : List Bool
  pub each : length wants ≡ length qs
  pub state : now ≡ after kind (at_rest w) wants qs

-- A session holds at least a level from a primary block at a block exactly where it has a grant of it by those
-- requests; and it attains at least a level at a block exactly where what it shows attains it, or a pointer leads there
-- now from a block at which it has such a grant.
pub record AccessIsByGrants (kind : PlaceKind) (w : World) (qs : List Request) (now : State) : Type 0 where
  pub wants : List Bool
  pub held : (s o a : ℕ) (l : Level) → o < w.geometry.primaries → (l ≡ level.Bare → ⊥)
      → level_le l (level_from now.sessions s o a) ≡ has_grant kind (at_rest w) (newest_first wants qs) s o a l
  pub attains : (s b : ℕ) (shown : Shown) (l : Level) → (l ≡ level.Bare → ⊥)
      → IsTrue (level_le l (attained now.world now.sessions s b shown))
      ↔ (ShownAttains now.world b shown l ⊎ GrantAttains kind w wants qs s b l)

-- What an answer leaves of a valid world: a valid world, in which what was live and is still reached is live; and but
-- for a sweep exactly the blocks are free that lost their last pointer.
pub record LeavesByTheLaws (old : State) (q : Request) (new : State) : Type 0 where
  pub valid : IsValid new.world
  pub reached : KeepsWhatIsReached old.world new.world
  pub last_pointer : is_sweep q ≡ false → ReclaimsTheLost old.world new.world

-- ---- laws

-- One answer more makes a run of one request more.
abbrev pub AnswersMakeRuns : Type 0
AnswersMakeRuns =
    (kind : PlaceKind) (w : World) (qs : List Request) (s : State) (q : Request) (r : Reply) (t : State)
    → WasRun kind w qs s → IsAnswer kind s q r t → WasRun kind w (qs ++ q ∷ []) t

-- After every run access is by grants.
abbrev pub RunsGrantAccess : Type 0
RunsGrantAccess = (kind : PlaceKind) (w : World) (qs : List Request) (s : State) → IsValid w → WasRun kind w qs s
    → AccessIsByGrants kind w qs s

-- Every answer leaves a world by the laws.
abbrev pub AnswersKeepTheLaws : Type 0
AnswersKeepTheLaws = (kind : PlaceKind) (s : State) (q : Request) (r : Reply) (t : State) → IsValid s.world
    → IsAnswer kind s q r t → LeavesByTheLaws s q t
