-- The promise of a run of groups.
use Rattle.std.specs.Prelude.{◌≡◌, ℕ, List, ◌++◌}
use Rattle.image_device.specs.Image.{Image}
use Rattle.image_device.specs.View.{View, IsPart}
use Rattle.serving.specs.Runs.{Run, texts}
use Rattle.serving.specs.Service.{Service}

-- A crash left this image, with these bytes sent: the image stands for the state after the first of these requests, and
-- no more was sent than the answers to those.
pub record IsOfPrefix {Q : Type 0} (k : Service Q) (s : k.States) (before : List ℕ) (qs : List Q) (x : Image)
    (f : List ℕ) : Type 0 where
  pub first : List Q
  pub rest : List Q
  pub parts : qs ≡ first ++ rest
  pub answers : List (List ℕ)
  pub state : k.States
  pub run : Run k s first answers state
  pub stands : k.stands state x
  pub sent : IsPart before (texts answers) f

-- So it is of a run that began with this device, and what no request touches is as it was.
abbrev pub IsLeftByRun : {Q : Type 0} → (k : Service Q) → (Image → Image) → k.States → View → List Q → Image → List ℕ
    → Type 0
IsLeftByRun k part s old qs x f = IsOfPrefix k s old.sent qs x f × (part x ≡ part old.reads)
