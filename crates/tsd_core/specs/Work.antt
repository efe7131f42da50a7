-- How much work requests make: sectors written, and what is left to be reclaimed.
use Rattle.std.specs.Prelude.{◌≡◌, ℕ, ◌+◌, ◌*◌, ◌≤◌, cond}
use Rattle.tsd_model.specs.World.{World}
use Rattle.tsd_model.specs.Step.{State}
use Rattle.tsd_model.specs.Verdict.{is_granted}
use Rattle.tsd_model.specs.declared.requests.Request.{Request}
use Rattle.tsd_model.specs.declared.requests.Request.TheVariants as ask
use Rattle.image_device.specs.View.{View}
use Rattle.image_device.specs.Runs.{LeavesOnly}
use Rattle.image_world.specs.Debt.{debt, owed}
use Rattle.volume_laws.specs.Moments.{made}
use Rattle.volume_laws.specs.Volume.{Volume}
use Rattle.volume_laws.specs.Writes.{lost_cost}
use Rattle.tsd_core.specs.Core.{Core}

-- how many blocks and pairs go by a request that deletes a pointer, that pointer included
abbrev pub made_by : World → Request → ℕ
made_by w (ask.Delete s a shown b) = made w a b
made_by w q = 0

-- the same in a state: where a rule refuses the request, nothing goes by it
abbrev pub made_in : State → Request → ℕ
made_in s q = cond (is_granted s.world s.sessions q) (made_by s.world q) 0

-- what a request costs in writes by which so many blocks and pairs go, those writes that it leaves for later included
abbrev pub cost_with : ℕ → ℕ
cost_with gone = 460 + lost_cost * gone

-- what a request costs that no rule refuses and that is no sweep
abbrev pub cost_of : World → Request → ℕ
cost_of w q = cost_with (made_by w q)

-- what a request costs in a state
abbrev pub cost_in : State → Request → ℕ
cost_in s q = cost_with (made_in s q)

-- how often one call writes at most: new blocks and a new pointer may have to wait for what is left to be reclaimed
abbrev pub write_limit : Volume → Request → ℕ
write_limit v (ask.Delete s a shown b) = 130
write_limit v (ask.Alloc s a shown h count) = 600 + 12 * owed v.tables
write_limit v (ask.Contig s a shown h count) = 600 + 12 * owed v.tables
write_limit v (ask.Create s a shown b) = 600 + 12 * owed v.tables
write_limit v q = 600

-- the size and the version of the disk stay
pub record SameSize (old new : Core) : Type 0 where
  pub geometry : new.volume.tables.geometry ≡ old.volume.tables.geometry
  pub version : new.volume.tables.version ≡ old.volume.tables.version

-- A crash at any moment leaves at most what was to be reclaimed before and so much more, and nothing more is sent.
abbrev pub LeavesDebt : View → View → ℕ → Type 0
LeavesDebt old new more = LeavesOnly old new (λ x f. (debt x ≤ debt old.reads + more) × (f ≡ old.sent))

-- It leaves no more than that.
abbrev pub LeavesNoDebt : View → View → Type 0
LeavesNoDebt old new = LeavesOnly old new (λ x f. (debt x ≤ debt old.reads) × (f ≡ old.sent))
