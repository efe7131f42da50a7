use Rattle.volume.proofs.Common.{owed, kept_then, then_kept, kept_fails, op_answers, op_fails, op_ready, swept, reach, World, free_count, has_number, world_with, zeros_of, Volume, told_by, checkpoint_writes, batch_cost, due, sweep_cost, taken_cost, unswept}
use Rattle.std.proofs.Common.{◌≡◌, true, refl, sym, ◌∙◌, ap, arith}
use Rattle.volume.proofs.FinishLaws.{free_restricted, free_then}
use Rattle.std.proofs.Common.{◌+◌, ◌*◌, ◌≤◌, subst}
use Rattle.volume.proofs.SweepCosts.{uses_most, sweep_begins, sweep_ends, sweep_paid}
use Rattle.volume.proofs.volume.Volume.sweep.Given
use Rattle.volume.proofs.volume.Volume.sweep.Goals as goal

pub returns-clause-told : goal.returns-clause-told
returns-clause-told g c =
    ap (λ (v : Volume). told_by v) c.make_ready.ensures
    ∙ (c.in_ok-end_open_sweep.ensures.told ∙ (c.in_ok-begin_sweep.ensures.told ∙ ap (λ (w : World). swept w) c.in_ok-settle_doomed.ensures.told))

-- what was free once nothing was doomed, and what is free in the end
before : (g : Given.Over) (c : goal.After-raw_free_count g) → c.raw_free_count-before.result ≡ free_count (told_by c.args.self.now)
before g c =
    let s = c.in_ok-settle_doomed.ensures in
    c.raw_free_count-before.ensures ∙ (free_then c.settle_doomed.new.self.tables c.settle_doomed.new.self.tables s.still s.settled refl ∙ ap (λ (w : World). free_count w) s.told)

after : (g : Given.Over) (c : goal.After-raw_free_count g) → c.raw_free_count.result ≡ free_count (told_by c.make_ready.new.self)
after g c =
    let e = c.in_ok-end_open_sweep.ensures in
    let now = c.end_open_sweep.new.self.tables in
    c.raw_free_count.ensures
    ∙ (ap (λ (v : Volume). free_count (world_with v.tables (zeros_of v.tables))) c.make_ready.ensures
    ∙ (free_then now now e.still e.settled refl ∙ sym (ap (λ (v : Volume). free_count (told_by v)) c.make_ready.ensures)))

told_now : (g : Given.Over) (c : goal.After-raw_free_count g) → told_by c.make_ready.new.self ≡ swept (told_by c.args.self.now)
told_now g c =
    ap (λ (v : Volume). told_by v) c.make_ready.ensures
    ∙ (c.in_ok-end_open_sweep.ensures.told ∙ (c.in_ok-begin_sweep.ensures.told ∙ ap (λ (w : World). swept w) c.in_ok-settle_doomed.ensures.told))

pub overflow_sub-result : goal.overflow_sub-result
overflow_sub-result g c =
    let w = told_by c.args.self.now in
    omega (arith, before g c, after g c, ap (λ (v : World). free_count v) (told_now g c), free_restricted w (has_number (reach w)))

pub returns-clause-count : goal.returns-clause-count
returns-clause-count g c = omega (arith, before g c, after g c)

pub returns-in_err-settle_doomed-clause-operation : goal.returns-in_err-settle_doomed-clause-operation
returns-in_err-settle_doomed-clause-operation g c =
    let told = g.D.Device.told in
    let view = g.D.Device.view in
    kept_fails told (λ w. swept w) c.args.self.now c.settle_doomed.new.self (view c.args.dev.now) (view c.settle_doomed.new.dev) _ _ c.from_residual.result c.from_residual.ensures.1 c.in_err-settle_doomed.ensures.operation

pub returns-in_err-begin_sweep-clause-operation : goal.returns-in_err-begin_sweep-clause-operation
returns-in_err-begin_sweep-clause-operation g c =
    let told = g.D.Device.told in
    let view = g.D.Device.view in
    op_fails told (λ w. swept w) c.args.self.now c.begin_sweep.new.self (view c.args.dev.now) (view c.begin_sweep.new.dev) _ _ c.from_residual-in_err-begin_sweep.result c.from_residual-in_err-begin_sweep.ensures.1
    (kept_then told (λ w. swept w) c.args.self.now c.settle_doomed.new.self c.begin_sweep.new.self (view c.args.dev.now) (view c.settle_doomed.new.dev) (view c.begin_sweep.new.dev) _ _ c.in_ok-settle_doomed.ensures.operation c.in_err-begin_sweep.ensures.operation)

pub returns-in_err-end_open_sweep-clause-operation : goal.returns-in_err-end_open_sweep-clause-operation
returns-in_err-end_open_sweep-clause-operation g c =
    let told = g.D.Device.told in
    let view = g.D.Device.view in
    op_fails told (λ w. swept w) c.args.self.now c.end_open_sweep.new.self (view c.args.dev.now) (view c.end_open_sweep.new.dev) _ _ c.from_residual-in_err-end_open_sweep.result c.from_residual-in_err-end_open_sweep.ensures.1
    (then_kept told (λ w. swept w) c.args.self.now c.begin_sweep.new.self c.end_open_sweep.new.self (view c.args.dev.now) (view c.begin_sweep.new.dev) (view c.end_open_sweep.new.dev) _ _ (kept_then told (λ w. swept w) c.args.self.now c.settle_doomed.new.self c.begin_sweep.new.self (view c.args.dev.now) (view c.settle_doomed.new.dev) (view c.begin_sweep.new.dev) _ _ c.in_ok-settle_doomed.ensures.operation c.in_ok-begin_sweep.ensures.operation) c.in_err-end_open_sweep.ensures.operation)

pub returns-clause-operation : goal.returns-clause-operation
returns-clause-operation g c =
    let told = g.D.Device.told in
    let view = g.D.Device.view in
    op_ready told (λ w. swept w) c.args.self.now c.end_open_sweep.new.self (view c.args.dev.now) (view c.end_open_sweep.new.dev) _ c.make_ready.new.self true c.make_ready.ensures (op_answers told (λ w. swept w) c.args.self.now c.end_open_sweep.new.self (view c.args.dev.now) (view c.end_open_sweep.new.dev) _ _
    (then_kept told (λ w. swept w) c.args.self.now c.begin_sweep.new.self c.end_open_sweep.new.self (view c.args.dev.now) (view c.begin_sweep.new.dev) (view c.end_open_sweep.new.dev) _ _ (kept_then told (λ w. swept w) c.args.self.now c.settle_doomed.new.self c.begin_sweep.new.self (view c.args.dev.now) (view c.settle_doomed.new.dev) (view c.begin_sweep.new.dev) _ _ c.in_ok-settle_doomed.ensures.operation c.in_ok-begin_sweep.ensures.operation) c.in_ok-end_open_sweep.ensures.operation))

pub returns-clause-settled : goal.returns-clause-settled
returns-clause-settled g c = ap (λ (v : Volume). owed v.tables) c.make_ready.ensures ∙ c.in_ok-end_open_sweep.ensures.settled

pub returns-in_err-settle_doomed-clause-uses : goal.returns-in_err-settle_doomed-clause-uses
returns-in_err-settle_doomed-clause-uses g c =
    uses_most (due c.args.self.now) (due c.args.self.now + sweep_cost (told_by c.args.self.now)) (g.D.Device.view c.args.dev.now) (g.D.Device.view c.settle_doomed.new.dev) (omega arith) c.settle_doomed.ensures.cost.uses

pub returns-in_err-begin_sweep-clause-uses : goal.returns-in_err-begin_sweep-clause-uses
returns-in_err-begin_sweep-clause-uses g c =
    let s = c.in_ok-settle_doomed.ensures in
    sweep_begins c.args.self.now c.settle_doomed.new.self (g.D.Device.view c.args.dev.now) (g.D.Device.view c.settle_doomed.new.dev) (g.D.Device.view c.begin_sweep.new.dev) s.cost.paid s.operation.works s.told c.begin_sweep.ensures.uses

pub returns-in_err-end_open_sweep-clause-uses : goal.returns-in_err-end_open_sweep-clause-uses
returns-in_err-end_open_sweep-clause-uses g c =
    let s = c.in_ok-settle_doomed.ensures in
    let b = c.in_ok-begin_sweep.ensures in
    sweep_ends c.args.self.now c.settle_doomed.new.self (g.D.Device.view c.args.dev.now) (g.D.Device.view c.settle_doomed.new.dev) (g.D.Device.view c.begin_sweep.new.dev) s.cost.paid s.operation.works s.told
    c.begin_sweep.new.self b.paid b.operation.works b.left (g.D.Device.view c.end_open_sweep.new.dev) c.end_open_sweep.ensures.uses

pub returns-clause-uses : goal.returns-clause-uses
returns-clause-uses g c =
    let s = c.in_ok-settle_doomed.ensures in
    let b = c.in_ok-begin_sweep.ensures in
    sweep_ends c.args.self.now c.settle_doomed.new.self (g.D.Device.view c.args.dev.now) (g.D.Device.view c.settle_doomed.new.dev) (g.D.Device.view c.begin_sweep.new.dev) s.cost.paid s.operation.works s.told
    c.begin_sweep.new.self b.paid b.operation.works b.left (g.D.Device.view c.end_open_sweep.new.dev) c.end_open_sweep.ensures.uses

pub returns-clause-paid : goal.returns-clause-paid
returns-clause-paid g c =
    let s = c.in_ok-settle_doomed.ensures in
    let b = c.in_ok-begin_sweep.ensures in
    let view = g.D.Device.view in
    sweep_paid c.args.self.now c.settle_doomed.new.self (view c.args.dev.now) (view c.settle_doomed.new.dev) (view c.begin_sweep.new.dev) s.cost.paid s.operation.works s.told
    c.begin_sweep.new.self b.paid b.operation.works b.left c.make_ready.new.self (view c.end_open_sweep.new.dev)
    (subst (λ (x : Volume). (view c.end_open_sweep.new.dev).writes + due x ≤ (view c.begin_sweep.new.dev).writes + (checkpoint_writes c.begin_sweep.new.self.ring + taken_cost * unswept c.begin_sweep.new.self.tables + batch_cost 1))
    (sym c.make_ready.ensures) c.in_ok-end_open_sweep.ensures.paid)
