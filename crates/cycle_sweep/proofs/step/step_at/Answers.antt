use Rattle.std.proofs.Common.{◌&&◌, length, take, nat_le, sym, ◌∙◌, ap}
use Rattle.tsd_model.specs.World.{has_number}
use Rattle.cycle_sweep.specs.Sweep.{is_last}
use Rattle.reclaim.specs.Tables.{graph_of}
use Rattle.cycle_sweep.proofs.SweepStepLaws.{frees_alone, may_sweep, takes_wide, is_stuck, moves}
use Rattle.cycle_sweep.proofs.step.step_at.Goals as goal

pub returns-then-is_idle-clause-none : goal.returns-then-is_idle-clause-none
returns-then-is_idle-clause-none c = λ _.
    let idle = c.is_idle.ensures.0 c.if-is_idle.true in
    is_stuck (graph_of c.args.pointers.now c.args.live.now) c.args.block c.least_targets-all.result c.first_targets-targets.result c.count-into.result c.requires.tables.raw c.least_targets-all.ensures
    (c.first_targets-targets.ensures ∙ ap (take 16) c.as_slice.ensures.value) (c.count-into.ensures.value ∙ c.requires.counts.each c.args.block c.requires.block) idle.1
    (sym (c.is_freed-freed.ensures ∙ (ap (λ n. nat_le n 16 && is_last c.count-into.result c.has_block-own.result) c.len.ensures.value
    ∙ ap (λ t. nat_le (length c.least_targets-all.result) 16 && is_last c.count-into.result t) (c.has_block-own.ensures ∙ ap (λ xs. has_number xs c.args.block) c.as_slice-2.ensures.value))) ∙ idle.0)

pub returns-else-is_idle-clause-step : goal.returns-else-is_idle-clause-step
returns-else-is_idle-clause-step c =
    may_sweep (graph_of c.args.pointers.now c.args.live.now) c.args.block c.least_targets-all.result c.first_targets-targets.result c.count-into.result c.requires.tables.raw c.least_targets-all.ensures
    (c.first_targets-targets.ensures ∙ ap (take 16) c.as_slice.ensures.value) (c.count-into.ensures.value ∙ c.requires.counts.each c.args.block c.requires.block) c.is_freed-freed.result
    (c.is_freed-freed.ensures ∙ (ap (λ n. nat_le n 16 && is_last c.count-into.result c.has_block-own.result) c.len.ensures.value
    ∙ ap (λ t. nat_le (length c.least_targets-all.result) 16 && is_last c.count-into.result t) (c.has_block-own.ensures ∙ ap (λ xs. has_number xs c.args.block) c.as_slice-2.ensures.value)))
    c.requires.live c.requires.unreached (moves c.is_idle.result c.is_freed-freed.result c.first_targets-targets.result c.is_idle.ensures c.if-is_idle.false)

pub returns-else-is_idle-clause-freed : goal.returns-else-is_idle-clause-freed
returns-else-is_idle-clause-freed c =
    frees_alone (graph_of c.args.pointers.now c.args.live.now) c.args.block c.least_targets-all.result c.first_targets-targets.result c.count-into.result c.requires.tables.raw c.least_targets-all.ensures
    (c.first_targets-targets.ensures ∙ ap (take 16) c.as_slice.ensures.value) (c.count-into.ensures.value ∙ c.requires.counts.each c.args.block c.requires.block) c.is_freed-freed.result
    (c.is_freed-freed.ensures ∙ (ap (λ n. nat_le n 16 && is_last c.count-into.result c.has_block-own.result) c.len.ensures.value
    ∙ ap (λ t. nat_le (length c.least_targets-all.result) 16 && is_last c.count-into.result t) (c.has_block-own.ensures ∙ ap (λ xs. has_number xs c.args.block) c.as_slice-2.ensures.value)))

pub returns-else-is_idle-clause-wide : goal.returns-else-is_idle-clause-wide
returns-else-is_idle-clause-wide c =
    takes_wide (graph_of c.args.pointers.now c.args.live.now) c.args.block c.least_targets-all.result c.first_targets-targets.result c.count-into.result c.requires.tables.raw c.least_targets-all.ensures
    (c.first_targets-targets.ensures ∙ ap (take 16) c.as_slice.ensures.value) (c.count-into.ensures.value ∙ c.requires.counts.each c.args.block c.requires.block) c.is_freed-freed.result
