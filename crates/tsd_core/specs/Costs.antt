-- What requests cost, said by the pairs that they remove.
use Rattle.std.specs.Prelude.{◌≡◌, ℕ, ◌+◌, ◌-◌, ◌*◌, ◌≤◌, not, filter, length}
use Rattle.tsd_model.specs.Pairs.{holds}
use Rattle.tsd_model.specs.World.{free_count}
use Rattle.tsd_model.specs.Valid.{IsValid}
use Rattle.tsd_model.specs.Step.{State}
use Rattle.tsd_model.specs.declared.caps.Shown.{Shown}
use Rattle.tsd_model.specs.declared.requests.PlaceKind.{PlaceKind}
use Rattle.tsd_model.specs.declared.requests.Request.{Request}
use Rattle.tsd_model.specs.declared.requests.Request.TheVariants as ask
use Rattle.tsd_core.specs.Work.{made_in, cost_in}
use Rattle.tsd_core.specs.Applying.{next_world}

-- how many pairs a request removes: those of the world before that aren't in the world after
abbrev pub removed_by : PlaceKind → State → Request → ℕ
removed_by kind s q = length (filter (λ e. not (holds (next_world kind s q).pairs e.0 e.1)) s.world.pairs)

-- how many blocks it reclaims
abbrev pub reclaimed_by : PlaceKind → State → Request → ℕ
reclaimed_by kind s q = free_count (next_world kind s q) - free_count s.world

-- What a deletion makes are the blocks that it reclaims and the pairs that it removes.
abbrev pub MadeIsWhatGoes : Type 0
MadeIsWhatGoes =
    (kind : PlaceKind) (s : State) (n a : ℕ) (shown : Shown) (b : ℕ) → IsValid s.world
    → made_in s (ask.Delete n a shown b) ≡ reclaimed_by kind s (ask.Delete n a shown b)
    + removed_by kind s (ask.Delete n a shown b)

-- No request makes more than these.
abbrev pub MakesNoMoreThanGoes : Type 0
MakesNoMoreThanGoes = (kind : PlaceKind) (s : State) (q : Request) → IsValid s.world
    → made_in s q ≤ reclaimed_by kind s q + removed_by kind s q

-- Each reclaimed block lost a pair that led to it. So a request costs at most 460 writes, and 12 for each pair that it
-- removes.
abbrev pub CostsByPairs : Type 0
CostsByPairs = (kind : PlaceKind) (s : State) (q : Request) → IsValid s.world
    → cost_in s q ≤ 460 + 12 * removed_by kind s q
