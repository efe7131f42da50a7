use Rattle.std.proofs.Common.{◌+◌, refl, arith}
use Rattle.volume.proofs.Common.{op_answers, op_fails, within_answers, within_fails, settling_none, settling_more, settling_op, settling_cost, batches_step, batches_within}
use Rattle.volume.proofs.volume.Volume.settle_some.Goals as goal

pub loop-step-init : goal.loop-step-init
loop-step-init g c = record {
  settling = settling_none g.D.Device.told c.args.self.now (g.D.Device.view c.args.dev.now) (g.met.D.Device.sound c.args.dev.now) c.requires.ready.1 c.requires.unspent c.requires.at;
  most = omega arith;
  blocks = omega arith;
  ring = refl;
  steps = omega arith;
  used = omega arith;
}

pub loop-step-preserved : goal.loop-step-preserved
loop-step-preserved g c =
    let e = c.in_ok-settle_step.ensures in
    let less = e.lowered c.if-not-branch.false in
    let inv = c.loop-step.invariant in
    record {
      settling = settling_more g.D.Device.told c.args.self.now (g.D.Device.view c.args.dev.now) c.loop-step.self (g.D.Device.view c.loop-step.dev) inv.settling c.settle_step.new.self (g.D.Device.view c.settle_step.new.dev) _
          e.operation e.cost e.told e.version e.still e.same_ready (omega (arith, less));
      most = let m = inv.most in let f = e.few in omega (arith, m, f);
      blocks = let b = inv.blocks in let f = e.few_blocks in omega (arith, b, f);
      ring = batches_step c.loop-step._step 33 c.args.self.now.ring c.loop-step.self.ring c.settle_step.new.self.ring inv.ring e.ring;
      steps = let s = inv.steps in omega (arith, less, s);
      used = let s = inv.used in let u = e.used in omega (arith, s, u);
    }

pub returns-in_err-settle_step-clause-operation : goal.returns-in_err-settle_step-clause-operation
returns-in_err-settle_step-clause-operation g c =
    let told = g.D.Device.told in
    let view = g.D.Device.view in
    op_fails told (λ w. w) c.args.self.now c.settle_step.new.self (view c.args.dev.now) (view c.settle_step.new.dev) _ _ c.from_residual.result c.from_residual.ensures.1 (settling_op told c.args.self.now (view c.args.dev.now) c.loop-step.self (view c.loop-step.dev) c.loop-step.invariant.settling c.settle_step.new.self (view c.settle_step.new.dev) _ c.in_err-settle_step.ensures.operation)

pub returns-in_err-settle_step-clause-cost : goal.returns-in_err-settle_step-clause-cost
returns-in_err-settle_step-clause-cost g c =
    let told = g.D.Device.told in
    let view = g.D.Device.view in
    within_fails told _ _ _ c.args.self.now c.settle_step.new.self (view c.args.dev.now) (view c.settle_step.new.dev) _ _ _ _ _ c.from_residual.result c.from_residual.ensures.1 (settling_cost told c.args.self.now (view c.args.dev.now) c.loop-step.self (view c.loop-step.dev) c.loop-step.invariant.settling c.settle_step.new.self (view c.settle_step.new.dev) _ c.in_err-settle_step.ensures.cost) (omega arith) (omega arith)

pub returns-then-not-branch-clause-operation : goal.returns-then-not-branch-clause-operation
returns-then-not-branch-clause-operation g c =
    let told = g.D.Device.told in
    let view = g.D.Device.view in
    op_answers told (λ w. w) c.args.self.now c.settle_step.new.self (view c.args.dev.now) (view c.settle_step.new.dev) _ _ (settling_op told c.args.self.now (view c.args.dev.now) c.loop-step.self (view c.loop-step.dev) c.loop-step.invariant.settling c.settle_step.new.self (view c.settle_step.new.dev) _ c.in_ok-settle_step.ensures.operation)

pub returns-then-not-branch-clause-cost : goal.returns-then-not-branch-clause-cost
returns-then-not-branch-clause-cost g c =
    let told = g.D.Device.told in
    let view = g.D.Device.view in
    within_answers told _ _ _ c.args.self.now c.settle_step.new.self (view c.args.dev.now) (view c.settle_step.new.dev) _ _ (settling_cost told c.args.self.now (view c.args.dev.now) c.loop-step.self (view c.loop-step.dev) c.loop-step.invariant.settling c.settle_step.new.self (view c.settle_step.new.dev) _ c.in_ok-settle_step.ensures.cost)

pub returns-clause-operation : goal.returns-clause-operation
returns-clause-operation g c =
    let told = g.D.Device.told in
    let view = g.D.Device.view in
    op_answers told (λ w. w) c.args.self.now c.loop-step.self (view c.args.dev.now) (view c.loop-step.dev) _ _ c.loop-step.invariant.settling.operation

pub returns-clause-cost : goal.returns-clause-cost
returns-clause-cost g c =
    let told = g.D.Device.told in
    let view = g.D.Device.view in
    within_answers told _ _ _ c.args.self.now c.loop-step.self (view c.args.dev.now) (view c.loop-step.dev) _ _ c.loop-step.invariant.settling.cost

pub returns-then-not-branch-clause-ring : goal.returns-then-not-branch-clause-ring
returns-then-not-branch-clause-ring g c =
    let inv = c.loop-step.invariant in
    let few = c.loop-step-test.true in
    batches_within (c.loop-step._step + 1) 4 33 c.args.self.now.ring c.settle_step.new.self.ring (omega (arith, few))
    (batches_step c.loop-step._step 33 c.args.self.now.ring c.loop-step.self.ring c.settle_step.new.self.ring inv.ring c.in_ok-settle_step.ensures.ring)

pub returns-then-not-branch-clause-few : goal.returns-then-not-branch-clause-few
returns-then-not-branch-clause-few g c = let most = c.loop-step.invariant.most in let few = c.in_ok-settle_step.ensures.few in let less = c.loop-step-test.true in omega (arith, most, few, less)

pub returns-then-not-branch-clause-few_blocks : goal.returns-then-not-branch-clause-few_blocks
returns-then-not-branch-clause-few_blocks g c = let most = c.loop-step.invariant.blocks in let few = c.in_ok-settle_step.ensures.few_blocks in let less = c.loop-step-test.true in omega (arith, most, few, less)
