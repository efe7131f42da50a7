use Rattle.volume.proofs.Common.{kept_then, op_answers, op_fails, checkpoint_writes, batch_cost, taken_cost, unswept}
use Rattle.std.proofs.Common.{◌+◌, ◌*◌, arith}
use Rattle.volume.proofs.SweepCosts.{uses_most, uses_paid}
use Rattle.volume.proofs.volume.Volume.end_open_sweep.Goals as goal

pub returns-in_err-make_sweep_steps-clause-operation : goal.returns-in_err-make_sweep_steps-clause-operation
returns-in_err-make_sweep_steps-clause-operation g c =
    let told = g.D.Device.told in
    let view = g.D.Device.view in
    op_fails told (λ w. w) c.args.self.now c.make_sweep_steps.new.self (view c.args.dev.now) (view c.make_sweep_steps.new.dev) _ _ c.from_residual.result c.from_residual.ensures.1 c.in_err-make_sweep_steps.ensures.operation

pub returns-in_err-close_flag-clause-operation : goal.returns-in_err-close_flag-clause-operation
returns-in_err-close_flag-clause-operation g c =
    let told = g.D.Device.told in
    let view = g.D.Device.view in
    op_fails told (λ w. w) c.args.self.now c.close_flag.new.self (view c.args.dev.now) (view c.close_flag.new.dev) _ _ c.from_residual-in_err-close_flag.result c.from_residual-in_err-close_flag.ensures.1
    (kept_then told (λ w. w) c.args.self.now c.make_sweep_steps.new.self c.close_flag.new.self (view c.args.dev.now) (view c.make_sweep_steps.new.dev) (view c.close_flag.new.dev) _ _ c.in_ok-make_sweep_steps.ensures.operation c.in_err-close_flag.ensures.operation)

pub returns-clause-operation : goal.returns-clause-operation
returns-clause-operation g c =
    let told = g.D.Device.told in
    let view = g.D.Device.view in
    op_answers told (λ w. w) c.args.self.now c.close_flag.new.self (view c.args.dev.now) (view c.close_flag.new.dev) _ tt
    (kept_then told (λ w. w) c.args.self.now c.make_sweep_steps.new.self c.close_flag.new.self (view c.args.dev.now) (view c.make_sweep_steps.new.dev) (view c.close_flag.new.dev) _ _ c.in_ok-make_sweep_steps.ensures.operation c.in_ok-close_flag.ensures.operation)

pub returns-in_err-make_sweep_steps-clause-uses : goal.returns-in_err-make_sweep_steps-clause-uses
returns-in_err-make_sweep_steps-clause-uses g c =
    let most = checkpoint_writes c.args.self.now.ring + taken_cost * unswept c.args.self.now.tables in
    uses_most most (most + batch_cost 1) (g.D.Device.view c.args.dev.now) (g.D.Device.view c.make_sweep_steps.new.dev) (omega arith) c.make_sweep_steps.ensures.uses

pub returns-in_err-close_flag-clause-uses : goal.returns-in_err-close_flag-clause-uses
returns-in_err-close_flag-clause-uses g c =
    let e = c.in_ok-make_sweep_steps.ensures in
    let left = checkpoint_writes c.make_sweep_steps.new.self.ring in
    uses_paid (checkpoint_writes c.args.self.now.ring + taken_cost * unswept c.args.self.now.tables) left (left + batch_cost 1) (g.D.Device.view c.args.dev.now) (g.D.Device.view c.make_sweep_steps.new.dev) (g.D.Device.view c.close_flag.new.dev)
    e.operation.works e.paid c.close_flag.ensures.uses (batch_cost 1) (omega arith)

pub returns-clause-uses : goal.returns-clause-uses
returns-clause-uses g c =
    let e = c.in_ok-make_sweep_steps.ensures in
    let left = checkpoint_writes c.make_sweep_steps.new.self.ring in
    uses_paid (checkpoint_writes c.args.self.now.ring + taken_cost * unswept c.args.self.now.tables) left (left + batch_cost 1) (g.D.Device.view c.args.dev.now) (g.D.Device.view c.make_sweep_steps.new.dev) (g.D.Device.view c.close_flag.new.dev)
    e.operation.works e.paid c.close_flag.ensures.uses (batch_cost 1) (omega arith)

pub returns-clause-paid : goal.returns-clause-paid
returns-clause-paid g c = let steps = c.in_ok-make_sweep_steps.ensures.paid in let flag = c.in_ok-close_flag.ensures.paid in omega (arith, steps, flag)
