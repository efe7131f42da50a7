-- How a command ends, and how much of its lines was sent.
use Rattle.std.specs.Prelude.{◌≡◌, ℕ, ◌<◌, List, ◌++◌, length, take, Result, Ok, Err, ⊤}
use Rattle.image_device.specs.Runs.{PutsAll}
use Rattle.image_device.specs.View.{View}
use Rattle.image_device.specs.declared.device.Failed.{Failed}
use Rattle.tsd_words.specs.declared.status.Status.{Status}
use Rattle.tsd_words.specs.declared.status.Status.TheVariants as status

-- a proper front of a text was sent behind what was sent before
abbrev pub ProperFrontWasSent : List ℕ → List ℕ → List ℕ → Type 0
ProperFrontWasSent before text now = (count : ℕ) × (count < length text) × (now ≡ before ++ take count text)

-- how a command ends that put a text once its work was done
abbrev pub ended_by : Result (Unit {0}) Failed → Status → Status
ended_by (Ok u) s = s
ended_by (Err why) s = status.PutFault

-- A text was put once the work was done that ends so.
pub record HasPut (told : Type 0) (text : List ℕ) (done r : Status) (old new : View) : Type 0 where
  pub put : Result (Unit {0}) Failed
  pub puts : PutsAll told text old new put
  pub ends : r ≡ ended_by put done

-- A command that takes no input ends so: it did its work, the image stands for no world, a call on the device or a put
-- failed, or there was no memory.
abbrev pub IsEnding : Status → Type 0
IsEnding status.Done = ⊤
IsEnding (status.NotImage why) = ⊤
IsEnding status.DeviceFault = ⊤
IsEnding status.PutFault = ⊤
IsEnding status.NoMemory = ⊤
IsEnding r = ⊥

-- a call on the device failed, or there was no memory
abbrev pub IsStopped : Status → Type 0
IsStopped status.DeviceFault = ⊤
IsStopped status.NoMemory = ⊤
IsStopped r = ⊥
