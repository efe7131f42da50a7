use Rattle.std.proofs.Common.{◌≡◌, ◌⊎◌, true, nat_le, length, refl, subst}
use Rattle.reclaim.proofs.Common.{IsTrue, OutStep, graph_of, MayStep, TakesAll}
use Rattle.std.specs.Prelude.{◌↔◌}
use Rattle.reclaim.proofs.StepLaws.{first_step, step_keeps, this_step, first_may_step, first_frees, first_wide}
use Rattle.reclaim.proofs.step.step_at.Goals as goal

-- it is the step with the first 16 targets
this : (c : goal.After-len) → first_step (graph_of c.args.pointers.now c.args.live.now) c.args.block ≡ record { block = c.args.block; targets = c.first_targets.result; freed = nat_le c.len.result 16 }
this c = this_step (graph_of c.args.pointers.now c.args.live.now) c.args.block c.first_targets.result c.as_slice.result.now c.least_targets-all.result (nat_le c.len.result 16) c.len.result c.first_targets.ensures c.as_slice.ensures.value c.least_targets-all.ensures refl c.len.ensures.value

pub returns-clause-step : goal.returns-clause-step
returns-clause-step c =
    let w = graph_of c.args.pointers.now c.args.live.now in
    subst (MayStep w) (this c) (first_may_step w c.args.block c.requires.tables.raw.laid_out c.requires.lost)

pub returns-clause-freed : goal.returns-clause-freed
returns-clause-freed c =
    let w = graph_of c.args.pointers.now c.args.live.now in
    subst (λ (s : OutStep). IsTrue s.freed ↔ TakesAll w s) (this c) (first_frees w c.args.block c.requires.tables.raw.laid_out)

pub returns-clause-wide : goal.returns-clause-wide
returns-clause-wide c =
    let w = graph_of c.args.pointers.now c.args.live.now in
    subst (λ (s : OutStep). (s.freed ≡ true) ⊎ (length s.targets ≡ 16)) (this c) (first_wide w c.args.block)

pub returns-clause-kept : goal.returns-clause-kept
returns-clause-kept c =
    let w = graph_of c.args.pointers.now c.args.live.now in
    step_keeps w (record { block = c.args.block; targets = c.first_targets.result; freed = nat_le c.len.result 16 }) c.requires.tables.raw.laid_out (returns-clause-step c)
