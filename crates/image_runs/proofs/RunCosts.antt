-- What a run costs, by the pairs that its requests remove.
use Rattle.std.proofs.Common.{◌≡◌, ℕ, suc, ◌+◌, ◌*◌, ◌≤◌, All, List, [], ◌∷◌, length, length-append, sym, ◌∙◌, ap, subst, arith}
use Rattle.image_runs.proofs.Common.{State, IsValid, Request, costs, first_cost, IsPaidFor, Placed, Run, Voice, spoken, cost_in, disk_rules, disk_work}
use Rattle.disk_laws.proofs.RunLaws.{answer_valid}
use Rattle.tsd_core.specs.Costs.{removed_by}
use Rattle.tsd_core.proofs.PairCosts.{costs_by_pairs}
use Rattle.image_runs.specs.Laws.{removed_in, first_removed}

-- one request more
one_more : (cost removed costs all count : ℕ) → cost ≤ 460 + 12 * removed → costs ≤ 460 * count + 12 * all → cost + costs ≤ 460 * suc count + 12 * (removed + all)
one_more cost removed costs all count here rest = omega (arith, here, rest)

-- the world stays valid
valid_next : (v : Voice) (s : Placed) (q : Request) (a : List ℕ) (t : Placed) → (spoken disk_rules v).gives s q a t → IsValid s.state.world → IsValid t.state.world
valid_next v s q a t given valid = subst (λ (x : State). IsValid x.world) (sym given.2.0.state) (answer_valid s.kind s.state q given.2.0.want valid)

run_valid : (v : Voice) (s : Placed) (qs : List Request) (answers : List (List ℕ)) (t : Placed) → Run (spoken disk_rules v) s qs answers t → IsValid s.state.world → IsValid t.state.world
run_valid v s [] [] t run valid = subst (λ (p : Placed). IsValid p.state.world) run valid
run_valid v s [] (a ∷ answers) t run valid = absurd run
run_valid v s (q ∷ qs) [] t run valid = absurd run
run_valid v s (q ∷ qs) (a ∷ answers) t run valid = run_valid v run.0 qs answers t run.2 (valid_next v s q a run.0 run.1 valid)

pub run_costs : (v : Voice) (s : Placed) (qs : List Request) (answers : List (List ℕ)) (t : Placed) (run : Run (spoken disk_rules v) s qs answers t) → IsValid s.state.world
    → costs (spoken disk_rules v) disk_work.cost s qs answers t run ≤ 460 * length qs + 12 * removed_in v s qs answers t run
run_costs v s [] [] t run valid = omega arith
run_costs v s [] (a ∷ answers) t run valid = absurd run
run_costs v s (q ∷ qs) [] t run valid = absurd run
run_costs v s (q ∷ qs) (a ∷ answers) t run valid =
    let m = run.0 in
    one_more (cost_in s.state q) (removed_by s.kind s.state q) (costs (spoken disk_rules v) disk_work.cost m qs answers t run.2) (removed_in v m qs answers t run.2) (length qs)
    (costs_by_pairs s.kind s.state q valid) (run_costs v m qs answers t run.2 (valid_next v s q a m run.1 valid))

-- the next one
next_costs : (v : Voice) (s : Placed) (qs : List Request) → IsValid s.state.world → first_cost (spoken disk_rules v) disk_work.cost s qs ≤ 460 * length qs + 12 * first_removed v s qs
next_costs v s [] valid = omega arith
next_costs v s (q ∷ qs) valid = next_one (cost_in s.state q) (removed_by s.kind s.state q) (length qs) (costs_by_pairs s.kind s.state q valid)
  where
    next_one : (cost removed count : ℕ) → cost ≤ 460 + 12 * removed → cost ≤ 460 * suc count + 12 * removed
    next_one cost removed count here = omega (arith, here)

-- a run and the request that ended it
both : (now before cost next removed more count rest all : ℕ) → now ≤ before + cost + next → cost ≤ 460 * count + 12 * removed → next ≤ 460 * rest + 12 * more → all ≡ count + rest → now ≤ before + 460 * all + 12 * (removed + more)
both now before cost next removed more count rest all paid first then same = omega (arith, paid, first, then, same)

pub run_writes : (v : Voice) (s : Placed) (before : List ℕ) (qs : List Request) (sent : List ℕ) (start now : ℕ) (run : IsPaidFor (spoken disk_rules v) disk_work s before qs sent start now) → All disk_work.bounded qs → IsValid s.state.world
    → now ≤ start + 460 * length qs + 12 * (removed_in v s run.answered run.answers run.state run.run + first_removed v run.state run.rest)
run_writes v s before qs sent start now run bounded valid =
    let k = spoken disk_rules v in
    both now start (costs k disk_work.cost s run.answered run.answers run.state run.run) (first_cost k disk_work.cost run.state run.rest) (removed_in v s run.answered run.answers run.state run.run) (first_removed v run.state run.rest)
    (length run.answered) (length run.rest) (length qs) (run.paid bounded) (run_costs v s run.answered run.answers run.state run.run valid)
    (next_costs v run.state run.rest (run_valid v s run.answered run.answers run.state run.run valid)) (ap length run.parts ∙ length-append run.answered run.rest)
