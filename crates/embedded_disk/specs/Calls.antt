-- What a call of the disk in a program's own process did.
use Rattle.std.specs.Prelude.{◌≡◌, ◌≤◌, ◌⊎◌, ◌++◌, ◌^◌, ℕ, List, length, take}
use Rattle.tsd_model.specs.declared.requests.PlaceKind.{PlaceKind}
use Rattle.tsd_model.specs.declared.requests.Request.{Request}
use Rattle.image_device.specs.Runs.{IsFirm}
use Rattle.image_world.specs.Behind.{LeavesBehind}
use Rattle.recovery.specs.Opening.{IsForeign, IsUntouched, SparesDamaged}
use Rattle.tsd_words.specs.declared.status.Status.{Status}
use Rattle.tsd_words.specs.declared.status.Status.TheVariants as status
use Rattle.serving.specs.FrameSpelling.{frame_spelling, frame_voice}
use Rattle.serving.specs.ModelRules.{Placed}
use Rattle.serving.specs.Ran.{Ends, Moments, Ran, Taking}
use Rattle.serving.specs.Service.{Service}
use Rattle.serving.specs.Voice.{spoken}
use Rattle.image_runs.specs.Server.{disk_rules, disk_work}
use Rattle.image_runs.specs.Opened.{IsJudged}
use Rattle.image_groups.specs.Served.{ImageRanInGroups}

-- There was no room for a frame, and nothing was called.
pub record HasNoRoom (r : Status) (source : Taking) (port : Moments) : Type 0 where
  pub memory : r ≡ status.NoMemory
  pub untaken : source.untouched
  pub unused : port.untouched

-- An image was opened and its frames served in groups, at most 2^40 bytes of them, and a refusal says what is wrong
-- with it. Of one that stands for no world: where it fails one of the first three tests nothing was written; where it
-- fails another, all that a repair could use is still there. What lies behind the image stays in each image that a
-- crash leaves; of the records that say so there is one, and none is picked.
pub record OpenedAndServed (r : Status) (kind : PlaceKind) (source : Taking) (port : Moments) : Type 0 where
  pub judged : port.tells → IsJudged port.old.reads r
  pub ran : ImageRanInGroups r frame_voice frame_spelling kind (2 ^ 40) source port
  pub foreign : port.tells → IsForeign port.old.reads → IsUntouched port.old port.new
  pub damaged : port.tells → SparesDamaged port.old port.new
  pub behind : port.tells → IsFirm port.old → ∥ LeavesBehind port.old port.new ∥₁

abbrev pub ServedFrames : Status → PlaceKind → Taking → Moments → Type 0
ServedFrames r kind source port = HasNoRoom r source port ⊎ OpenedAndServed r kind source port

-- the abstract disk, with its replies as frames
abbrev pub framed_disk : Service Request
framed_disk = spoken disk_rules frame_voice

-- Frames were answered one after another, from one state of the disk to another, at most 2^40 bytes of them; or there
-- was no room for a frame, and nothing was called.
abbrev pub Applied : Status → Placed → Placed → Taking → ℕ → Moments → Type 0
Applied r before final source due port = HasNoRoom r source port
    ⊎ Ran r framed_disk disk_work frame_spelling before final (2 ^ 40) source due port

-- All these frames were answered in order, from one state of the disk to another: the answers were sent whole, and a
-- crash at any moment leaves an image of the state after as many requests as whole answers were sent, or of the one
-- after it.
pub record AllAnswered (frames : List ℕ) (before final : Placed) (due : ℕ) (port : Moments) : Type 0 where
  pub few : length frames ≤ 2 ^ 40
  pub ends : port.tells → Ends status.SourceFault framed_disk disk_work before final due port.old port.new
      (frame_spelling.requests frames)

-- The same of a front of these frames, where the run over it ended so.
pub record FrontAnswered (r : Status) (frames : List ℕ) (before final : Placed) (due : ℕ) (port : Moments)
    : Type 0 where
  pub front : List ℕ
  pub rest : List ℕ
  pub parts : frames ≡ front ++ rest
  pub ends : port.tells → Ends r framed_disk disk_work before final due port.old port.new
      (frame_spelling.requests (take (2 ^ 40) front))

-- What became of the frames of one call that ended so. Without room for one nothing was called.
abbrev pub AnsweredFrames : Status → List ℕ → Placed → Placed → ℕ → Moments → Type 0
AnsweredFrames status.Done frames before final due port = AllAnswered frames before final due port
AnsweredFrames status.DeviceFault frames before final due port =
    FrontAnswered status.DeviceFault frames before final due port
AnsweredFrames status.PutFault frames before final due port = FrontAnswered status.PutFault frames before final due port
AnsweredFrames status.TooLong frames before final due port = FrontAnswered status.TooLong frames before final due port
AnsweredFrames status.NoMemory frames before final due port = port.untouched
AnsweredFrames r frames before final due port = ⊥

-- the status of a call, where the frames came to an end in memory
abbrev pub shown : Status → Status
shown status.SourceFault = status.Done
shown r = r
