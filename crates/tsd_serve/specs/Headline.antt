-- The headline, as README says it.
use Rattle.std.specs.Prelude.{◌≡◌, ◌⊎◌, ◌≤◌, ◌^◌, ⊤, ℕ, Bool, List, [], ◌++◌, length, map, take}
use Rattle.tsd_model.specs.World.{World}
use Rattle.tsd_model.specs.Run.{after, at_rest, replies}
use Rattle.tsd_model.specs.declared.requests.PlaceKind.{PlaceKind}
use Rattle.tsd_model.specs.declared.requests.Request.{Request}
use Rattle.image_device.specs.View.{IsPart}
use Rattle.image_device.specs.Runs.{IsFirm, LeavesOnly}
use Rattle.image_layout.specs.Image.{Image}
use Rattle.image_world.specs.Stands.{Stands}
use Rattle.recovery.specs.Formatting.{IsFormatting}
use Rattle.tsd_words.specs.declared.commands.Command.{Command}
use Rattle.tsd_words.specs.declared.commands.Command.TheVariants as command
use Rattle.serving.specs.FrameSpelling.{frame_spelling, frame_voice}
use Rattle.serving.specs.Input.{Spelling, all_requests}
use Rattle.serving.specs.LineSpelling.{line_spelling, line_voice}
use Rattle.serving.specs.Ran.{Moments, Taking}
use Rattle.serving.specs.Runs.{texts}
use Rattle.serving.specs.Voice.{Voice}
use Rattle.image_runs.specs.Fresh.{single_world}

-- A crash left this image, with these bytes sent since `before`, of a disk that stood for this world with no session
-- open. Each reply sent is the one that the abstract disk gives at that point, and the image stands for the world after
-- some prefix of the requests that holds every request whose reply was sent. `wants` says at which opens no memory was
-- found.
pub record IsPrefixLeft (v : Voice) (kind : PlaceKind) (w : World) (before : List ℕ) (asked : List Request) (x : Image)
    (sent : List ℕ) : Type 0 where
  pub wants : List Bool
  pub replied : IsPart before (texts (map v.text (replies kind (at_rest w) wants asked))) sent
  pub prefix : List Request
  pub rest : List Request
  pub parts : asked ≡ prefix ++ rest
  pub holds : v.acked replied.front ≤ length prefix
  pub stands : Stands x (after kind (at_rest w) wants prefix).world

-- These are the requests of the bytes that came in: those that are whole in the first 2^40 of them, or all of an input
-- that has come to its end. None is asked where no image was opened.
abbrev pub AreOf : Spelling Request → List ℕ → List Request → Type 0
AreOf p bytes asked = (asked ≡ []) ⊎ ((asked ≡ p.requests (take (2 ^ 40) bytes)) ⊎ (asked ≡ all_requests p bytes))

-- For the requests of the input, of whatever sessions, and a crash at any moment, before a write of a sector or within
-- it: what is left.
pub record EachCrashLeaves (p : Spelling Request) (source : Taking) (port : Moments)
    (P : List Request → Image → List ℕ → Type 0) : Type 0 where
  pub bytes : List ℕ
  pub came_in : source.came bytes
  pub asked : List Request
  pub are : AreOf p bytes asked
  pub any_moment : LeavesOnly port.old port.new (P asked)

-- The headline. `run`, `serve` and `group` begin with an image in which nothing is loose and which stands for a world;
-- `fresh` with any, and until its format is done a crash may also leave what formatting leaves. Of `group` there is a
-- record of what each crash leaves, and none is picked.
abbrev pub Headline : Command → Taking → Moments → Type 0
Headline (command.Run kind) source port =
    IsFirm port.old → (w : World) → Stands port.old.reads w
    → EachCrashLeaves line_spelling source port (IsPrefixLeft line_voice kind w port.old.sent)
Headline (command.Serve kind) source port =
    IsFirm port.old → (w : World) → Stands port.old.reads w
    → EachCrashLeaves frame_spelling source port (IsPrefixLeft frame_voice kind w port.old.sent)
Headline (command.Group kind) source port =
    IsFirm port.old → (w : World) → Stands port.old.reads w
    → ∥ EachCrashLeaves frame_spelling source port (IsPrefixLeft frame_voice kind w port.old.sent) ∥₁
Headline (command.Fresh fresh) source port =
    let w = single_world fresh.geometry fresh.caps in
    EachCrashLeaves line_spelling source port (λ asked x sent. (IsFormatting port.old w x sent × (sent ≡ port.old.sent))
    ⊎ IsPrefixLeft line_voice fresh.kind w port.old.sent asked x sent)
Headline words source port = ⊤
