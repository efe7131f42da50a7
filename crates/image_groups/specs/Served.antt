-- What a run over an image did that was served in groups.
use Rattle.std.specs.Prelude.{◌≡◌, ◌⊎◌, ℕ, ◌≤◌, List, []}
use Rattle.tsd_model.specs.World.{World}
use Rattle.tsd_model.specs.declared.requests.PlaceKind.{PlaceKind}
use Rattle.tsd_model.specs.declared.requests.Request.{Request}
use Rattle.image_device.specs.Runs.{IsFirm, LeavesOnly}
use Rattle.image_device.specs.View.{View}
use Rattle.image_world.specs.Stands.{Stands}
use Rattle.tsd_words.specs.declared.status.Status.{Status}
use Rattle.tsd_words.specs.declared.status.Status.TheVariants as status
use Rattle.serving.specs.Input.{Spelling}
use Rattle.serving.specs.ModelRules.{Placed}
use Rattle.serving.specs.Prompt.{Mark, mark}
use Rattle.serving.specs.Ran.{Moments, Taking}
use Rattle.serving.specs.Runs.{Served}
use Rattle.serving.specs.Voice.{Voice}
use Rattle.image_runs.specs.Served.{disk_service, start_of, IsAtEase, NotOpened}
use Rattle.gathering_runs.specs.Promise.{IsOfPrefix}
use Rattle.image_runs.specs.Server.{disk_work}
use Rattle.gathering_runs.specs.Rounds.{RanByRounds}
use Rattle.gathering_runs.specs.Run.{AskedInGroups}
use Rattle.gathering_runs.specs.Sent.{SentInGroups}
use Rattle.image_groups.specs.Waiting.{MayWait}

-- How a run over these requests ended. Where the disk was firm and stood for a world, a crash at any moment, opening
-- included, left an image of the state after a prefix of the requests that holds each one of whose reply something was
-- sent, and each reply is the one that the disk gives at that point. By the status all replies were sent, or those to
-- the first requests; and after Done the disk stands for the last world, and nothing is left to be done.
pub record GroupsEnd (r : Status) (v : Voice) (kind : PlaceKind) (old new : View) (asked : List Request)
    : Type 0 where
  pub any_moment : IsFirm old → (w : World) → Stands old.reads w
      → ∥ LeavesOnly old new (IsOfPrefix (disk_service v) (start_of kind old.reads) old.sent asked) ∥₁
  pub sent : SentInGroups r (disk_service v) (start_of kind old.reads) old.sent asked new.sent
  pub done : r ≡ status.Done → (final : Placed)
      × Served (disk_service v) (start_of kind old.reads) old.sent asked final new.sent × IsAtEase new final.state.world

-- How promptly a run answered that ended so: from a moment at which the image was opened, with nothing sent, round by
-- round. Nothing was left to be reclaimed at that moment, or nothing was answered.
pub record ImageRanByRounds (r : Status) (v : Voice) (p : Spelling Request) (kind : PlaceKind) (port : Mark → Type 0)
    (limit : ℕ) (source : Taking) (old new : View) : Type 0 where
  pub opened : Mark
  pub of_port : port opened
  pub not_before : old.clock ≤ opened.clock
  pub nothing_sent : opened.sent ≡ old.sent
  pub rounds : RanByRounds r (disk_service v) disk_work MayWait port p limit (start_of kind old.reads) source opened
      (mark new)
  pub nothing_left : (disk_work.debt opened.reads ≡ 0) ⊎ ((rounds.rounds ≡ []) × (rounds.turns ≡ []))

-- Bytes that came in, the requests that were asked by them, and how the run over these ended, where the port tells.
pub record ImageRanInGroups (r : Status) (v : Voice) (p : Spelling Request) (kind : PlaceKind) (limit : ℕ)
    (source : Taking) (port : Moments) : Type 0 where
  pub bytes : List ℕ
  pub came_in : source.came bytes
  pub asked : List Request
  pub these : NotOpened r source port asked ⊎ AskedInGroups r p limit bytes source.at_end asked
  pub ends : port.tells → GroupsEnd r v kind port.old port.new asked
