-- What the command did that serves frames in groups.
use Rattle.std.specs.Prelude.{◌^◌}
use Rattle.tsd_model.specs.declared.requests.PlaceKind.{PlaceKind}
use Rattle.tsd_model.specs.declared.requests.Request.{Request}
use Rattle.image_device.specs.Runs.{IsFirm}
use Rattle.image_world.specs.Behind.{LeavesBehind}
use Rattle.recovery.specs.Opening.{IsForeign, IsUntouched, SparesDamaged}
use Rattle.tsd_words.specs.declared.status.Status.{Status}
use Rattle.serving.specs.Input.{Spelling}
use Rattle.serving.specs.Ran.{Moments, Taking}
use Rattle.serving.specs.Voice.{Voice}
use Rattle.image_runs.specs.Opened.{IsJudged}
use Rattle.image_groups.specs.Served.{ImageRanInGroups}

-- What it leaves alone, as each command that opens an image does. What lies behind the image stays in each image that a
-- crash leaves; of the records that say so there is one, and none is picked.
pub record SparesInGroups (port : Moments) : Type 0 where
  pub foreign : port.tells → IsForeign port.old.reads → IsUntouched port.old port.new
  pub damaged : port.tells → SparesDamaged port.old port.new
  pub behind : port.tells → IsFirm port.old → ∥ LeavesBehind port.old port.new ∥₁

-- An image was opened and served in groups, at most 2^40 bytes of it, and a refusal says what is wrong with it.
pub record OpenedInGroups (r : Status) (v : Voice) (p : Spelling Request) (kind : PlaceKind) (source : Taking)
    (port : Moments) : Type 0 where
  pub judged : port.tells → IsJudged port.old.reads r
  pub ran : ImageRanInGroups r v p kind (2 ^ 40) source port
  pub spared : SparesInGroups port
