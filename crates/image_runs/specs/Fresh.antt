-- What one run over an image did that was formatted first.
use Rattle.std.specs.Prelude.{◌≡◌, ◌≢◌, ◌⊎◌, ◌≤◌, ℕ, ◌+◌, ◌-◌, List, [], ◌∷◌, All, ⊤}
use Rattle.tsd_model.specs.World.{World}
use Rattle.tsd_model.specs.Run.{at_rest, fresh_world}
use Rattle.tsd_model.specs.declared.caps.CapPair.{CapPair}
use Rattle.tsd_model.specs.declared.geometry.Geometry.{Geometry}
use Rattle.tsd_model.specs.declared.requests.PlaceKind.{PlaceKind}
use Rattle.tsd_model.specs.declared.requests.Request.{Request}
use Rattle.image_device.specs.View.{View}
use Rattle.image_device.specs.Runs.{LeavesOnly}
use Rattle.image_layout.specs.Image.{Image}
use Rattle.image_layout.specs.declared.fault.ImageFault.{ImageFault}
use Rattle.image_runs.specs.Opened.{IsUnopened}
use Rattle.recovery.specs.Areas.{fresh_end}
use Rattle.recovery.specs.Formatting.{IsFormatting}
use Rattle.tsd_words.specs.declared.status.Status.{Status}
use Rattle.tsd_words.specs.declared.status.Status.TheVariants as status
use Rattle.serving.specs.Costs.{IsPaidFor}
use Rattle.serving.specs.Debts.{HasDebt}
use Rattle.serving.specs.Input.{Spelling}
use Rattle.serving.specs.ModelRules.{Placed}
use Rattle.serving.specs.Prompt.{Mark, mark}
use Rattle.serving.specs.Ran.{AskedBy, ByStatus, Moments, Taking}
use Rattle.serving.specs.Runs.{IsAcknowledged}
use Rattle.serving.specs.Voice.{Voice}
use Rattle.image_runs.specs.Server.{disk_work}
use Rattle.image_runs.specs.Served.{disk_service, IsAtEase, IsPromptFrom}

-- where a run over a fresh disk begins, with no session open
abbrev pub fresh_start : PlaceKind → World → Placed
fresh_start kind w = record { kind = kind; state = at_rest w }

-- a disk of this size with one primary block, of these capabilities
abbrev pub single_world : Geometry → CapPair → World
single_world geometry caps = fresh_world geometry (caps ∷ [])

-- how many sectors formatting writes at most: all of the tables and of the primary blocks, and gates, flag and header
abbrev pub format_writes : Geometry → ℕ
format_writes g = fresh_end g - 120

-- Formatting failed, or what it made wasn't opened: no request was asked, the source is as it was, and nothing was
-- sent.
pub record NotServed (r : Status) (source : Taking) (port : Moments) (asked : List Request) : Type 0 where
  pub why : IsUnopened r
  pub untouched : source.untouched
  pub none : asked ≡ []
  pub sent : port.tells → port.new.sent ≡ port.old.sent

-- The device failed: nothing was asked or sent, and a crash at any moment leaves what formatting does.
pub record IsUnformatted (r : Status) (w : World) (old new : View) (asked : List Request) : Type 0 where
  pub failed : r ≡ status.DeviceFault
  pub none : asked ≡ []
  pub sent : new.sent ≡ old.sent
  pub leaves : LeavesOnly old new (λ x f. IsFormatting old w x f × (f ≡ old.sent))

-- How a run over these requests ended. What was sent; what a crash at any moment may have left, with nothing sent also
-- what formatting leaves; and that the device failed in formatting, or else the disk was formatted at some moment, from
-- which on a crash leaves only what the replies say, however the run ended. A disk that was formatted is an image. How
-- much is still to be reclaimed in what a crash leaves, and how often was written besides the format, with no sweep
-- among the requests; and after Done, what the disk is.
pub record FreshEnds (r : Status) (v : Voice) (kind : PlaceKind) (w : World) (old new : View) (asked : List Request)
    (final : Placed) : Type 0 where
  pub sent : ByStatus r (disk_service v) (fresh_start kind w) old.sent asked final new.sent
  pub any_moment : LeavesOnly old new (λ x f. (IsFormatting old w x f × (f ≡ old.sent))
      ⊎ IsAcknowledged (disk_service v) (fresh_start kind w) old.sent asked x f)
  pub formatted : IsUnformatted r w old new asked
      ⊎ ((from : ℕ) × (old.clock ≤ from) × (from ≤ new.clock)
      × ((x : Image) (f : List ℕ) → new.left from x f
      → IsAcknowledged (disk_service v) (fresh_start kind w) old.sent asked x f))
  pub opens : (why : ImageFault) → r ≢ status.NotImage why
  pub debt : All disk_work.bounded asked → LeavesOnly old new (λ x f. (IsFormatting old w x f × (f ≡ old.sent))
      ⊎ HasDebt (disk_service v) disk_work (fresh_start kind w) old.sent 0 asked x f)
  pub writes : IsPaidFor (disk_service v) disk_work (fresh_start kind w) old.sent asked new.sent
      (old.writes + format_writes w.geometry) new.writes
  pub done : r ≡ status.Done → IsAtEase new final.state.world

-- how promptly a run answered, the format besides
abbrev pub IsPromptFresh : Status → Voice → PlaceKind → World → (Mark → Type 0) → Spelling Request → ℕ → Taking → View
    → View → Type 0
IsPromptFresh r v kind w port p limit source old new =
    IsPromptFrom r v port p limit (fresh_start kind w) source ⊤ (old.writes + format_writes w.geometry) (mark old)
    (mark new)

-- Bytes that came in, the requests that were asked by them, and how the run over these ended, where the port tells.
pub record FreshRan (r : Status) (v : Voice) (p : Spelling Request) (kind : PlaceKind) (w : World) (limit : ℕ)
    (source : Taking) (port : Moments) : Type 0 where
  pub bytes : List ℕ
  pub came_in : source.came bytes
  pub asked : List Request
  pub these : NotServed r source port asked ⊎ AskedBy r p limit bytes source.at_end asked
  pub final : Placed
  pub ends : port.tells → FreshEnds r v kind w port.old port.new asked final
