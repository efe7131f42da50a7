-- The core with its placement as a disk by its rules.
use Rattle.std.specs.Prelude.{◌≡◌, ℕ, ◌+◌, ◌*◌, false, cond}
use Rattle.tsd_model.specs.declared.requests.PlaceKind.{PlaceKind}
use Rattle.tsd_model.specs.Step.{State}
use Rattle.tsd_model.specs.Verdict.{is_granted}
use Rattle.tsd_model.specs.declared.requests.Request.{Request}
use Rattle.tsd_model.specs.declared.requests.Request.TheVariants as ask
use Rattle.image_layout.specs.Image.{Image}
use Rattle.image_world.specs.Stands.{Stands}
use Rattle.disk_laws.specs.Reclaiming.{is_sweep}
use Rattle.serving.specs.Handling.{DiskRules}
use Rattle.serving.specs.ModelRules.{Placed, model_rules}
use Rattle.serving.specs.Work.{WorkCount}
use Rattle.tsd_core.specs.Core.{Core, state_on}
use Rattle.image_world.specs.Debt.{debt}
use Rattle.tsd_core.specs.Work.{made_in, cost_in}

-- the abstract disk, where an image stands for its world
abbrev pub disk_rules : DiskRules
disk_rules = model_rules Stands

-- How often is written at most before the reply to a request that is granted, where so much is left to be done. What
-- reads, counts, or opens or closes a session writes nothing. A write, new capabilities and a deletion write one batch,
-- and first up to 121 sectors where the journal has no room for it: a body for each home, which are up to 8, 1 and 2, a
-- descriptor and a gate. New blocks and a new pointer may have to wait for what is left to be done. A sweep has no
-- bound here.
abbrev pub limit_with : ℕ → Request → ℕ
limit_with owed (ask.Write s b shown bytes) = 131
limit_with owed (ask.SetCap s b shown caps) = 124
limit_with owed (ask.Delete s a shown b) = 125
limit_with owed (ask.Alloc s a shown h count) = 600 + 12 * owed
limit_with owed (ask.Contig s a shown h count) = 600 + 12 * owed
limit_with owed (ask.Create s a shown b) = 600 + 12 * owed
limit_with owed q = 0

-- nothing is written where it is refused
abbrev pub writes_before : State → ℕ → Request → ℕ
writes_before s owed q = cond (is_granted s.world s.sessions q) (limit_with owed q) 0

-- how its work is counted; of a sweep no bound is said here, but by the core
abbrev pub disk_work : WorkCount Request Placed
disk_work = record {
  bounded = λ q. is_sweep q ≡ false;
  cost = λ s q. cost_in s.state q;
  made = λ s q. made_in s.state q;
  debt = debt;
  before_answer = λ s owed q. writes_before s.state owed q;
  behind_answer = 400;
}

-- the state, where the device reads so
abbrev pub placed_on : PlaceKind → Core → Image → Placed
placed_on kind c x = record { kind = kind; state = state_on c x }
