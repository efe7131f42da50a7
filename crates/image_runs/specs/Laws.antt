-- What runs by the rules of the disk are, and what they cost.
use Rattle.std.specs.Prelude.{ℕ, ◌+◌, ◌*◌, ◌≤◌, List, length, All}
use Rattle.tsd_model.specs.Valid.{IsValid}
use Rattle.tsd_model.specs.declared.requests.Request.{Request}
use Rattle.serving.specs.Costs.{costs, first_cost, IsPaidFor}
use Rattle.serving.specs.ModelRules.{Placed, IsModelRun}
use Rattle.serving.specs.Runs.{Run}
use Rattle.serving.specs.Voice.{Voice, spoken}
use Rattle.tsd_core.specs.Costs.{removed_by}
use Rattle.image_runs.specs.Server.{disk_rules, disk_work}

-- A run by the rules of the disk is a run of the abstract disk from that state: it has its replies, in order, and its
-- state then, for some requests at which no memory was found for a begin.
abbrev pub RunsAreTheDisks : Type 0
RunsAreTheDisks =
    (v : Voice) (s : Placed) (qs : List Request) (answers : List (List ℕ)) (t : Placed)
    → Run (spoken disk_rules v) s qs answers t → IsModelRun v s qs answers t

-- how many pairs the requests of a run remove
abbrev pub removed_in : (v : Voice) (s : Placed) (qs : List Request) (answers : List (List ℕ)) (t : Placed)
    → Run (spoken disk_rules v) s qs answers t → ℕ
removed_in v = costs (spoken disk_rules v) (λ s q. removed_by s.kind s.state q)

-- A run from a valid world costs at most 460 writes for each request, and 12 for each pair that its requests remove.
abbrev pub RunsCostByPairs : Type 0
RunsCostByPairs =
    (v : Voice) (s : Placed) (qs : List Request) (answers : List (List ℕ)) (t : Placed)
    (run : Run (spoken disk_rules v) s qs answers t) → IsValid s.state.world
    → costs (spoken disk_rules v) disk_work.cost s qs answers t run
    ≤ 460 * length qs + 12 * removed_in v s qs answers t run

-- how many pairs the first of these removes, if there is one
abbrev pub first_removed : Voice → Placed → List Request → ℕ
first_removed v = first_cost (spoken disk_rules v) (λ s q. removed_by s.kind s.state q)

-- However a run from a valid world ended: where no request is a sweep, it wrote at most 460 sectors for each request,
-- and 12 for each pair that the answered ones and the next one remove.
abbrev pub RunsWriteByPairs : Type 0
RunsWriteByPairs =
    (v : Voice) (s : Placed) (before : List ℕ) (qs : List Request) (sent : List ℕ) (start now : ℕ)
    (run : IsPaidFor (spoken disk_rules v) disk_work s before qs sent start now) → All disk_work.bounded qs
    → IsValid s.state.world
    → now ≤ start + 460 * length qs + 12 * (removed_in v s run.answered run.answers run.state run.run
    + first_removed v run.state run.rest)
