-- What a run of groups took and sent.
use Rattle.std.specs.Prelude.{◌≡◌, ℕ, List}
use Rattle.image_device.specs.Image.{Image}
use Rattle.image_device.specs.Runs.{LeavesOnly}
use Rattle.tsd_words.specs.declared.status.Status.{Status}
use Rattle.tsd_words.specs.declared.status.Status.TheVariants as status
use Rattle.serving.specs.Input.{Spelling}
use Rattle.serving.specs.Ran.{AskedBy, Moments, Taking}
use Rattle.serving.specs.Runs.{Served}
use Rattle.serving.specs.Service.{Service}
use Rattle.gathering_runs.specs.Promise.{IsLeftByRun}
use Rattle.gathering_runs.specs.Sent.{SentInGroups}

-- Which requests a run was asked that ended so: where it found no memory, the same as where the device failed.
abbrev pub AskedInGroups : {Q : Type 0} → Status → Spelling Q → ℕ → List ℕ → Type 0 → List Q → Type 0
AskedInGroups status.NoMemory p limit x ended qs = AskedBy status.DeviceFault p limit x ended qs
AskedInGroups r p limit x ended qs = AskedBy r p limit x ended qs

-- Bytes that came in, and the requests that they hold. A crash at any moment left an image of the state after a prefix
-- of these that holds each of whose answer something was sent, each answer as the service gives it. By the status all
-- answers were sent, or those to the first of them; after Done the state is this one.
pub record RanInGroups {Q : Type 0} (r : Status) (k : Service Q) (p : Spelling Q) (part : Image → Image)
    (s now : k.States) (limit : ℕ) (source : Taking) (port : Moments) : Type 0 where
  pub bytes : List ℕ
  pub came_in : source.came bytes
  pub asked : List Q
  pub these : AskedInGroups r p limit bytes source.at_end asked
  pub any_moment : port.tells → ∥ LeavesOnly port.old port.new (IsLeftByRun k part s port.old asked) ∥₁
  pub sent : port.tells → SentInGroups r k s port.old.sent asked port.new.sent
  pub done : port.tells → r ≡ status.Done → Served k s port.old.sent asked now port.new.sent
