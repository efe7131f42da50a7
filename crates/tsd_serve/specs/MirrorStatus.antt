-- How the end of a run over two images as one disk is told: its code and its text.
use Rattle.std.specs.Prelude.{ℕ, List, ◌++◌, codes, Option, Some}
use Rattle.mirror_device.specs.declared.side.Side.{Side}
use Rattle.mirror_device.specs.declared.side.Side.TheVariants.{First, Second}
use Rattle.tsd_words.specs.StatusText.{status_code, status_text}
use Rattle.tsd_words.specs.declared.status.Status.{Status}
use Rattle.tsd_words.specs.declared.status.Status.TheVariants as status
use Rattle.tsd_serve.specs.declared.mirror_status.MirrorStatus.{MirrorStatus}
use Rattle.tsd_serve.specs.declared.mirror_status.MirrorStatus.TheVariants.{Ended, SideLost}

-- what the command itself answered: with a side lost too it did all its work
abbrev pub own_status : MirrorStatus → Status
own_status (Ended r) = r
own_status (SideLost side) = status.Done

-- Of a command that ended so, over sides of which this one is lost: that is told where all was done.
abbrev pub ended_with : Status → Option Side → MirrorStatus
ended_with status.Done (Some side) = SideLost side
ended_with r lost = Ended r

abbrev pub mirror_code : MirrorStatus → ℕ
mirror_code (Ended r) = status_code r
mirror_code (SideLost side) = 11

abbrev pub side_text : Side → List ℕ
side_text First = codes "first"
side_text Second = codes "second"

-- without a line feed
abbrev pub mirror_status_text : MirrorStatus → List ℕ
mirror_status_text (Ended r) = status_text r
mirror_status_text (SideLost side) = codes "tsd: side lost, " ++ side_text side
