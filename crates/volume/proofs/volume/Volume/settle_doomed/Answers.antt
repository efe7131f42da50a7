use Rattle.std.proofs.Common.{◌+◌, refl, arith}
use Rattle.volume.proofs.Common.{op_answers, op_fails, within_answers, within_fails, settling_none, settling_more, settling_op, settling_cost, batches_step, batches_same, batches_within, owed}
use Rattle.volume.proofs.volume.Volume.settle_doomed.Goals as goal

pub loop-init : goal.loop-init
loop-init g c = record {
  settling = settling_none g.D.Device.told c.args.self.now (g.D.Device.view c.args.dev.now) (g.met.D.Device.sound c.args.dev.now) c.requires.still c.requires.unspent c.requires.at;
  ring = (0, omega arith, refl);
}

pub loop-preserved : goal.loop-preserved
loop-preserved g c =
    let e = c.in_ok-settle_step.ensures in
    let less = e.lowered c.if-branch.true in
    let inv = c.loop.invariant in
    record {
      settling = settling_more g.D.Device.told c.args.self.now (g.D.Device.view c.args.dev.now) c.loop.self (g.D.Device.view c.loop.dev) inv.settling c.settle_step.new.self (g.D.Device.view c.settle_step.new.dev) _
          e.operation e.cost e.told e.version e.still e.same_ready (omega (arith, less));
      ring = (inv.ring.0 + 1, (let b = inv.ring.1 in omega (arith, b, less)), batches_step inv.ring.0 33 c.args.self.now.ring c.loop.self.ring c.settle_step.new.self.ring inv.ring.2 e.ring);
    }

pub returns-in_err-settle_step-clause-operation : goal.returns-in_err-settle_step-clause-operation
returns-in_err-settle_step-clause-operation g c =
    let told = g.D.Device.told in
    let view = g.D.Device.view in
    op_fails told (λ w. w) c.args.self.now c.settle_step.new.self (view c.args.dev.now) (view c.settle_step.new.dev) _ _ c.from_residual.result c.from_residual.ensures.1 (settling_op told c.args.self.now (view c.args.dev.now) c.loop.self (view c.loop.dev) c.loop.invariant.settling c.settle_step.new.self (view c.settle_step.new.dev) _ c.in_err-settle_step.ensures.operation)

pub returns-in_err-settle_step-clause-cost : goal.returns-in_err-settle_step-clause-cost
returns-in_err-settle_step-clause-cost g c =
    let told = g.D.Device.told in
    let view = g.D.Device.view in
    within_fails told _ _ _ c.args.self.now c.settle_step.new.self (view c.args.dev.now) (view c.settle_step.new.dev) _ _ _ _ _ c.from_residual.result c.from_residual.ensures.1 (settling_cost told c.args.self.now (view c.args.dev.now) c.loop.self (view c.loop.dev) c.loop.invariant.settling c.settle_step.new.self (view c.settle_step.new.dev) _ c.in_err-settle_step.ensures.cost) (omega arith) (omega arith)

pub returns-clause-operation : goal.returns-clause-operation
returns-clause-operation g c =
    let told = g.D.Device.told in
    let view = g.D.Device.view in
    op_answers told (λ w. w) c.args.self.now c.settle_step.new.self (view c.args.dev.now) (view c.settle_step.new.dev) _ tt (settling_op told c.args.self.now (view c.args.dev.now) c.loop.self (view c.loop.dev) c.loop.invariant.settling c.settle_step.new.self (view c.settle_step.new.dev) _ c.in_ok-settle_step.ensures.operation)

pub returns-clause-cost : goal.returns-clause-cost
returns-clause-cost g c =
    let told = g.D.Device.told in
    let view = g.D.Device.view in
    within_answers told _ _ _ c.args.self.now c.settle_step.new.self (view c.args.dev.now) (view c.settle_step.new.dev) _ tt (settling_cost told c.args.self.now (view c.args.dev.now) c.loop.self (view c.loop.dev) c.loop.invariant.settling c.settle_step.new.self (view c.settle_step.new.dev) _ c.in_ok-settle_step.ensures.cost)

pub returns-clause-ring : goal.returns-clause-ring
returns-clause-ring g c =
    let r = c.loop.invariant.ring in
    let few = r.1 in
    batches_within r.0 (owed c.args.self.now.tables) 33 c.args.self.now.ring c.settle_step.new.self.ring (omega (arith, few))
    (batches_same r.0 33 c.args.self.now.ring c.loop.self.ring c.settle_step.new.self.ring r.2 (c.in_ok-settle_step.ensures.idle c.if-branch.false))
