-- What `check` and `info` say of an image.
use Rattle.std.specs.Prelude.{◌≡◌, ◌⊎◌, ℕ, List, [], ◌∷◌, ◌++◌, ⊤}
use Rattle.image_device.specs.View.{IsPart}
use Rattle.image_layout.specs.Image.{Image}
use Rattle.image_world.specs.Faults.{IsGood, IsFirstFault}
use Rattle.image_world.specs.Stands.{world_of}
use Rattle.tsd_words.specs.StatusText.{fault_text}
use Rattle.tsd_words.specs.declared.status.Status.{Status}
use Rattle.tsd_words.specs.declared.status.Status.TheVariants as status
use Rattle.tsd_model.specs.World.{World}
use Rattle.tsd_words.specs.Lines.{clean_line, info_text}
use Rattle.image_runs.specs.declared.check.Telling.{Telling}
use Rattle.image_runs.specs.declared.check.Telling.TheVariants as telling
use Rattle.image_runs.specs.Sending.{ProperFrontWasSent}

-- what is told of a world: the line of `check`, or the lines of `info`
abbrev pub told_of : Telling → World → List ℕ
told_of telling.Clean w = clean_line w
told_of telling.Info w = info_text w

-- What is found of an image, and the text that says it: an image that stands for a world is told, another has a first
-- test that it fails.
abbrev pub IsCheckFound : Telling → Image → Status → List ℕ → Type 0
IsCheckFound t image status.Done text = IsGood image × (text ≡ told_of t (world_of image))
IsCheckFound t image (status.NotImage why) text = IsFirstFault image why × (text ≡ fault_text why ++ 10 ∷ [])
IsCheckFound t image r text = ⊥

-- something was found
abbrev pub IsFinding : Status → Type 0
IsFinding status.Done = ⊤
IsFinding (status.NotImage why) = ⊤
IsFinding r = ⊥

-- What was sent by the time that it ended so: the text of what was found, whole or a proper front of it, or nothing.
abbrev pub HasChecked : Telling → Status → Image → List ℕ → List ℕ → Type 0
HasChecked t status.DeviceFault image before now = now ≡ before
HasChecked t status.NoMemory image before now = now ≡ before
HasChecked t status.PutFault image before now =
    (found : Status) × (text : List ℕ) × IsCheckFound t image found text × ProperFrontWasSent before text now
HasChecked t r image before now = (text : List ℕ) × IsCheckFound t image r text × (now ≡ before ++ text)

-- nothing was sent by then, or a front of the text
abbrev pub IsSaying : Telling → Image → List ℕ → List ℕ → Type 0
IsSaying t image before now = (now ≡ before) ⊎ ((found : Status) × (text : List ℕ) × IsCheckFound t image found text
    × IsPart before text now)
