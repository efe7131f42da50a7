use Rattle.std.proofs.Common.{◌≡◌, true, ap, ◌∙◌, arith}
use Rattle.volume.proofs.Common.{owed, due, free_count, world_with, zeros_of, Volume, told_by, kept_then, op_answers, op_fails, op_ready, within_then, within_answers, within_fails, within_ready, left_due}
use Rattle.volume.proofs.FinishLaws.{free_left, free_then}
use Rattle.std.proofs.Common.{◌+◌, ◌≤◌, sym, subst}
use Rattle.volume.proofs.SweepCosts.{ended_paid, uses_then}
use Rattle.volume.proofs.volume.Volume.finish.Given
use Rattle.volume.proofs.volume.Volume.finish.Goals as goal

-- what is free in the end
after : (g : Given.Over) (c : goal.After-raw_free_count g) → c.raw_free_count.result ≡ free_count (told_by c.args.self.now)
after g c =
    c.raw_free_count.ensures
    ∙ (ap (λ (v : Volume). free_count (world_with v.tables (zeros_of v.tables))) c.make_ready.ensures
    ∙ free_then c.args.self.now.tables c.settle_doomed.new.self.tables c.in_ok-settle_doomed.ensures.still c.in_ok-settle_doomed.ensures.settled (c.in_ok-settle_doomed.ensures.told ∙ c.in_ok-end_sweep.ensures.told))

pub overflow_sub-result : goal.overflow_sub-result
overflow_sub-result g c = omega (arith, after g c, c.raw_free_count-before.ensures, free_left c.args.self.now.tables)

pub returns-clause-count : goal.returns-clause-count
returns-clause-count g c = omega (arith, after g c, c.raw_free_count-before.ensures)

pub returns-in_err-end_sweep-clause-operation : goal.returns-in_err-end_sweep-clause-operation
returns-in_err-end_sweep-clause-operation g c =
    let told = g.D.Device.told in
    let view = g.D.Device.view in
    op_fails told (λ w. w) c.args.self.now c.end_sweep.new.self (view c.args.dev.now) (view c.end_sweep.new.dev) _ _ c.from_residual.result c.from_residual.ensures.1 c.in_err-end_sweep.ensures.operation

pub returns-in_err-end_sweep-clause-cost : goal.returns-in_err-end_sweep-clause-cost
returns-in_err-end_sweep-clause-cost g c still =
    let told = g.D.Device.told in
    let view = g.D.Device.view in
    within_fails told _ _ _ c.args.self.now c.end_sweep.new.self (view c.args.dev.now) (view c.end_sweep.new.dev) _ _ _ _ _ c.from_residual.result c.from_residual.ensures.1 (c.in_err-end_sweep.ensures.cost still) (omega arith) (omega arith)

pub returns-in_err-settle_doomed-clause-operation : goal.returns-in_err-settle_doomed-clause-operation
returns-in_err-settle_doomed-clause-operation g c =
    let told = g.D.Device.told in
    let view = g.D.Device.view in
    op_fails told (λ w. w) c.args.self.now c.settle_doomed.new.self (view c.args.dev.now) (view c.settle_doomed.new.dev) _ _ c.from_residual-in_err-settle_doomed.result c.from_residual-in_err-settle_doomed.ensures.1 (kept_then told (λ w. w) c.args.self.now c.end_sweep.new.self c.settle_doomed.new.self (view c.args.dev.now) (view c.end_sweep.new.dev) (view c.settle_doomed.new.dev) _ _ c.in_ok-end_sweep.ensures.operation c.in_err-settle_doomed.ensures.operation)

pub returns-in_err-settle_doomed-clause-cost : goal.returns-in_err-settle_doomed-clause-cost
returns-in_err-settle_doomed-clause-cost g c still =
    let told = g.D.Device.told in
    let view = g.D.Device.view in
    within_fails told _ _ _ c.args.self.now c.settle_doomed.new.self (view c.args.dev.now) (view c.settle_doomed.new.dev) _ _ _ _ _ c.from_residual-in_err-settle_doomed.result c.from_residual-in_err-settle_doomed.ensures.1 (within_then told c.args.self.now c.end_sweep.new.self c.settle_doomed.new.self (view c.args.dev.now) (view c.end_sweep.new.dev) (view c.settle_doomed.new.dev) _ _ _ _ _ _ _ _ (owed c.args.self.now.tables) 0 (due c.args.self.now) (c.in_ok-end_sweep.ensures.cost still) c.in_err-settle_doomed.ensures.cost (omega arith) (c.in_ok-end_sweep.ensures.less still) (omega arith) (omega arith)) (omega arith) (omega arith)

pub returns-clause-cost : goal.returns-clause-cost
returns-clause-cost g c still =
    let told = g.D.Device.told in
    let view = g.D.Device.view in
    within_ready told _ _ _ c.args.self.now c.settle_doomed.new.self (view c.args.dev.now) (view c.settle_doomed.new.dev) _ c.make_ready.new.self true c.make_ready.ensures (within_answers told _ _ _ c.args.self.now c.settle_doomed.new.self (view c.args.dev.now) (view c.settle_doomed.new.dev) _ _ (within_then told c.args.self.now c.end_sweep.new.self c.settle_doomed.new.self (view c.args.dev.now) (view c.end_sweep.new.dev) (view c.settle_doomed.new.dev) _ _ _ _ _ _ _ _ (owed c.args.self.now.tables) 0 (due c.args.self.now) (c.in_ok-end_sweep.ensures.cost still) c.in_ok-settle_doomed.ensures.cost (omega arith) (c.in_ok-end_sweep.ensures.less still) (omega arith) (omega arith)))

pub returns-clause-operation : goal.returns-clause-operation
returns-clause-operation g c =
    let told = g.D.Device.told in
    let view = g.D.Device.view in
    op_ready told (λ w. w) c.args.self.now c.settle_doomed.new.self (view c.args.dev.now) (view c.settle_doomed.new.dev) _ c.make_ready.new.self true c.make_ready.ensures (op_answers told (λ w. w) c.args.self.now c.settle_doomed.new.self (view c.args.dev.now) (view c.settle_doomed.new.dev) _ _ (kept_then told (λ w. w) c.args.self.now c.end_sweep.new.self c.settle_doomed.new.self (view c.args.dev.now) (view c.end_sweep.new.dev) (view c.settle_doomed.new.dev) _ _ c.in_ok-end_sweep.ensures.operation c.in_ok-settle_doomed.ensures.operation))

pub returns-clause-settled : goal.returns-clause-settled
returns-clause-settled g c = ap (λ (v : Volume). owed v.tables) c.make_ready.ensures ∙ c.in_ok-settle_doomed.ensures.settled

pub returns-in_err-settle_doomed-clause-uses : goal.returns-in_err-settle_doomed-clause-uses
returns-in_err-settle_doomed-clause-uses g c =
    let e = c.in_ok-end_sweep.ensures in
    uses_then (left_due c.args.self.now) (due c.end_sweep.new.self) (g.D.Device.view c.args.dev.now) (g.D.Device.view c.end_sweep.new.dev) (g.D.Device.view c.settle_doomed.new.dev) e.operation.works e.paid c.settle_doomed.ensures.cost.uses

pub returns-clause-uses : goal.returns-clause-uses
returns-clause-uses g c =
    let e = c.in_ok-end_sweep.ensures in
    uses_then (left_due c.args.self.now) (due c.end_sweep.new.self) (g.D.Device.view c.args.dev.now) (g.D.Device.view c.end_sweep.new.dev) (g.D.Device.view c.settle_doomed.new.dev) e.operation.works e.paid c.settle_doomed.ensures.cost.uses

pub returns-clause-paid : goal.returns-clause-paid
returns-clause-paid g c =
    let view = g.D.Device.view in
    subst (λ (x : Volume). (view c.settle_doomed.new.dev).writes + due x ≤ (view c.args.dev.now).writes + left_due c.args.self.now) (sym c.make_ready.ensures)
    (ended_paid c.args.self.now c.end_sweep.new.self c.settle_doomed.new.self (view c.args.dev.now) (view c.end_sweep.new.dev) (view c.settle_doomed.new.dev) c.in_ok-end_sweep.ensures.paid c.in_ok-settle_doomed.ensures.cost.paid)
