-- What one run over an image did, from its start to its end.
use Rattle.std.specs.Prelude.{◌≡◌, ◌⊎◌, ℕ, ◌≤◌, false, List, [], All}
use Rattle.tsd_model.specs.World.{World}
use Rattle.tsd_model.specs.Run.{at_rest}
use Rattle.tsd_model.specs.declared.requests.PlaceKind.{PlaceKind}
use Rattle.tsd_model.specs.declared.requests.Request.{Request}
use Rattle.image_device.specs.View.{View}
use Rattle.image_device.specs.Runs.{IsFirm, LeavesOnly}
use Rattle.image_layout.specs.Image.{Image}
use Rattle.intent_journal.specs.Home.{home}
use Rattle.image_world.specs.Stands.{Stands, world_of}
use Rattle.recovery.specs.Opening.{StandAlike}
use Rattle.image_world.specs.Tables.{tables_of}
use Rattle.volume_laws.specs.Quiet.{IsQuiet}
use Rattle.tsd_words.specs.declared.status.Status.{Status}
use Rattle.tsd_words.specs.declared.status.Status.TheVariants as status
use Rattle.serving.specs.Costs.{IsPaidFor}
use Rattle.serving.specs.Debts.{HasDebt}
use Rattle.serving.specs.Input.{Spelling}
use Rattle.serving.specs.ModelRules.{Placed}
use Rattle.serving.specs.Prompt.{Mark, Promptly, mark}
use Rattle.serving.specs.Ran.{AskedBy, ByStatus, Moments, Taking}
use Rattle.serving.specs.Runs.{IsAcknowledged}
use Rattle.serving.specs.Service.{Service}
use Rattle.serving.specs.Voice.{Voice, spoken}
use Rattle.image_world.specs.Debt.{debt}
use Rattle.image_runs.specs.Opened.{IsUnopened}
use Rattle.image_runs.specs.Server.{disk_rules, disk_work}

-- what is served: the disk by its rules, with its replies as they are sent
abbrev pub disk_service : Voice → Service Request
disk_service v = spoken disk_rules v

-- where a run begins: the world for which the image stands, with no session open
abbrev pub start_of : PlaceKind → Image → Placed
start_of kind image = record { kind = kind; state = at_rest (world_of image) }

-- Nothing was opened: no request was asked, the source is as it was, and nothing was sent. A crash at any moment leaves
-- an image of the same world as the one at the start, or of none where that stands for none.
pub record NotOpened (r : Status) (source : Taking) (port : Moments) (asked : List Request) : Type 0 where
  pub why : IsUnopened r
  pub untouched : source.untouched
  pub none : asked ≡ []
  pub sent : port.tells → port.new.sent ≡ port.old.sent
  pub alike : port.tells → IsFirm port.old → LeavesOnly port.old port.new (λ x f. StandAlike port.old.reads x
      × (f ≡ port.old.sent))

-- Nothing is loose, the disk stands for this world, and nothing is left to be done.
pub record IsAtEase (v : View) (w : World) : Type 0 where
  pub firm : IsFirm v
  pub stands : Stands v.reads w
  pub quiet : IsQuiet v.reads

-- How much a crash may have left to be reclaimed. Each request adds what it makes, and after its reply four are taken
-- off, or all: it is at most what was left so before the last request that was answered, and what that and the next one
-- make. Or nothing was sent yet, and it is at most what it was at the start, where no sweep had begun there.
abbrev pub IsOwed : Voice → PlaceKind → View → List Request → Image → List ℕ → Type 0
IsOwed v kind old asked x f =
    HasDebt (disk_service v) disk_work (start_of kind old.reads) old.sent 0 asked x f
    ⊎ ((f ≡ old.sent) × ((tables_of (home old.reads)).is_sweeping ≡ false → debt x ≤ debt old.reads))

-- How a run over these requests ended: what was sent; where the disk was firm and stood for a world, what a crash at
-- any moment may have left; how much of that is still to be reclaimed, with no sweep among the requests; how often was
-- written, where nothing was left to be done at the start and there is no sweep; and after Done, what the disk is.
pub record RunEnds (r : Status) (v : Voice) (kind : PlaceKind) (old new : View) (asked : List Request)
    (final : Placed) : Type 0 where
  pub sent : ByStatus r (disk_service v) (start_of kind old.reads) old.sent asked final new.sent
  pub any_moment : IsFirm old → (w : World) → Stands old.reads w
      → LeavesOnly old new (IsAcknowledged (disk_service v) (start_of kind old.reads) old.sent asked)
  pub debt : IsFirm old → All disk_work.bounded asked → LeavesOnly old new (IsOwed v kind old asked)
  pub writes : IsQuiet old.reads
      → IsPaidFor (disk_service v) disk_work (start_of kind old.reads) old.sent asked new.sent old.writes new.writes
  pub done : r ≡ status.Done → IsAtEase new final.state.world

-- Nothing was opened, so nothing was served: the source is as it was, and nothing is done from then on.
pub record IsUnserved (r : Status) (source : Taking) (stopped new : Mark) : Type 0 where
  pub why : IsUnopened r
  pub untouched : source.untouched
  pub nothing : new ≡ stopped

-- How promptly a run answered: from a moment at which the image was opened, with nothing sent and, where nothing was
-- left to be done at the start, so often written at most. Or nothing was opened, by that moment.
pub record IsPromptFrom (r : Status) (v : Voice) (port : Mark → Type 0) (p : Spelling Request) (limit : ℕ) (s : Placed)
    (source : Taking) (quiet : Type 0) (most : ℕ) (old new : Mark) : Type 0 where
  pub opened : Mark
  pub of_port : port opened
  pub not_before : old.clock ≤ opened.clock
  pub sent : opened.sent ≡ old.sent
  pub writes : quiet → opened.writes ≤ most
  pub prompt : IsUnserved r source opened new ⊎ Promptly r (disk_service v) disk_work port p limit s source opened new

abbrev pub IsPromptRun : Status → Voice → PlaceKind → (Mark → Type 0) → Spelling Request → ℕ → Taking → View → View
    → Type 0
IsPromptRun r v kind port p limit source old new =
    IsPromptFrom r v port p limit (start_of kind old.reads) source (IsQuiet old.reads) old.writes (mark old) (mark new)

-- Bytes that came in, the requests that were asked by them, and how the run over these ended, where the port tells.
pub record ImageRan (r : Status) (v : Voice) (p : Spelling Request) (kind : PlaceKind) (limit : ℕ) (source : Taking)
    (port : Moments) : Type 0 where
  pub bytes : List ℕ
  pub came_in : source.came bytes
  pub asked : List Request
  pub these : NotOpened r source port asked ⊎ AskedBy r p limit bytes source.at_end asked
  pub final : Placed
  pub ends : port.tells → RunEnds r v kind port.old port.new asked final
