-- Who changed what of the image that a run began with, as README says it.
use Rattle.std.specs.Prelude.{◌≡◌, ◌<◌, ◌⊎◌, ◌↔◌, ⊤, ℕ, Bool, List, ◌++◌, IsTrue}
use Rattle.tsd_model.specs.Attained.{attained}
use Rattle.tsd_model.specs.History.{has_grant}
use Rattle.tsd_model.specs.Run.{after, at_rest}
use Rattle.tsd_model.specs.Sessions.{level_from, level_le}
use Rattle.tsd_model.specs.World.{World}
use Rattle.tsd_model.specs.declared.caps.Shown.{Shown}
use Rattle.tsd_model.specs.declared.requests.Level.{Level}
use Rattle.tsd_model.specs.declared.requests.Level.TheVariants as level
use Rattle.tsd_model.specs.declared.requests.PlaceKind.{PlaceKind}
use Rattle.tsd_model.specs.declared.requests.Request.{Request}
use Rattle.image_device.specs.Runs.{IsFirm}
use Rattle.image_layout.specs.Image.{Image}
use Rattle.image_world.specs.Stands.{Stands}
use Rattle.disk_laws.specs.Grants.{GrantAttains, ShownAttains, newest_first}
use Rattle.reach_laws.specs.ByAccess.{IsByAccess}
use Rattle.tsd_words.specs.declared.commands.Command.{Command}
use Rattle.tsd_words.specs.declared.commands.Command.TheVariants as command
use Rattle.serving.specs.FrameSpelling.{frame_spelling, frame_voice}
use Rattle.serving.specs.Input.{Spelling}
use Rattle.serving.specs.LineSpelling.{line_spelling, line_voice}
use Rattle.serving.specs.Ran.{Moments, Taking}
use Rattle.serving.specs.Voice.{Voice}
use Rattle.tsd_serve.specs.Headline.{EachCrashLeaves, IsPrefixLeft}

-- What sessions may do after these requests is what they were granted by them. A session holds a level from a primary
-- block at a block exactly where it has a grant of it; and it attains one exactly by what it shows at a primary block,
-- or along a pointer from a block at which it has such a grant.
pub record IsByGrants (kind : PlaceKind) (w : World) (wants : List Bool) (qs : List Request) : Type 0 where
  pub held : (s o a : ℕ) (l : Level) → o < w.geometry.primaries → (l ≡ level.Bare → ⊥)
      → level_le l (level_from (after kind (at_rest w) wants qs).sessions s o a)
      ≡ has_grant kind (at_rest w) (newest_first wants qs) s o a l
  pub attains : (s b : ℕ) (shown : Shown) (l : Level) → (l ≡ level.Bare → ⊥)
      → IsTrue
      (level_le l (attained (after kind (at_rest w) wants qs).world
      (after kind (at_rest w) wants qs).sessions s b shown))
      ↔ (ShownAttains (after kind (at_rest w) wants qs).world b shown l ⊎ GrantAttains kind w wants qs s b l)

-- A crash left this image, with these bytes sent since `before`, of a disk that stood for this world with no session
-- open. It stands for the world after a prefix of a run of the requests, and the bytes are of the replies of that run.
-- At each point of the run what differs of the start's blocks was changed by access: of those that stayed live their
-- bytes and pointers, and of the others that they went. What no session could reach by then is as it was, and no reply
-- depends on its bytes; and what sessions may do is what they were granted.
pub record IsLeftByAccess (v : Voice) (kind : PlaceKind) (w : World) (before : List ℕ) (asked : List Request)
    (x : Image) (sent : List ℕ) : Type 0 where
  pub run : IsPrefixLeft v kind w before asked x sent
  pub by_access : (done ahead : List Request) → asked ≡ done ++ ahead → IsByAccess kind w run.wants done
  pub by_grants : (done ahead : List Request) → asked ≡ done ++ ahead → IsByGrants kind w run.wants done

-- So it is in every image that a crash at any moment leaves, and at the end: of `run`, `serve` and `group`, over an
-- image in which nothing is loose and which stands for a world.
abbrev pub LeavesByAccess : Spelling Request → Voice → PlaceKind → Taking → Moments → Type 0
LeavesByAccess p v kind source port =
    IsFirm port.old → (w : World) → Stands port.old.reads w
    → EachCrashLeaves p source port (IsLeftByAccess v kind w port.old.sent)

abbrev pub AccessLaw : Command → Taking → Moments → Type 0
AccessLaw (command.Run kind) source port = LeavesByAccess line_spelling line_voice kind source port
AccessLaw (command.Serve kind) source port = LeavesByAccess frame_spelling frame_voice kind source port
AccessLaw (command.Group kind) source port =
    IsFirm port.old → (w : World) → Stands port.old.reads w
    → ∥ EachCrashLeaves frame_spelling source port (IsLeftByAccess frame_voice kind w port.old.sent) ∥₁
AccessLaw words source port = ⊤
