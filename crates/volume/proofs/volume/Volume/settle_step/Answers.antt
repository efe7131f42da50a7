use Rattle.std.proofs.Common.{[], arith, ap, sym, subst, Ok, true, false, Bool}
use Rattle.volume.proofs.Common.{owed, IsOperation, IsWithin, Volume, due, no_op, op_answers, op_fails, none_within, within_answers, within_fails, HasBatch, batch_none}
use Rattle.volume.proofs.volume.Volume.settle_step.Goals as goal

pub returns-in-None-clause-operation : goal.returns-in-None-clause-operation
returns-in-None-clause-operation g c =
    let told = g.D.Device.told in
    let view = g.D.Device.view in
    subst (λ (x : Volume). IsOperation {T = Bool} told [] (λ w. w) c.args.self.now x (view c.args.dev.now) (view c.args.dev.now) (Ok false)) (sym c.next.ensures.same) (no_op told c.args.self.now (view c.args.dev.now) false (g.met.D.Device.sound c.args.dev.now) c.requires.at c.requires.unspent)

pub returns-in-None-clause-cost : goal.returns-in-None-clause-cost
returns-in-None-clause-cost g c =
    let told = g.D.Device.told in
    let view = g.D.Device.view in
    subst (λ (x : Volume). IsWithin {T = Bool} told (owed c.args.self.now.tables) 0 (due c.args.self.now) c.args.self.now x (view c.args.dev.now) (view c.args.dev.now) (Ok false)) (sym c.next.ensures.same) (none_within told c.args.self.now (view c.args.dev.now) false (due c.args.self.now) (g.met.D.Device.sound c.args.dev.now) c.requires.at)

pub returns-in_err-make_step-in-Some-clause-operation : goal.returns-in_err-make_step-in-Some-clause-operation
returns-in_err-make_step-in-Some-clause-operation g c =
    let told = g.D.Device.told in
    let view = g.D.Device.view in
    subst (λ (x : Volume). IsOperation told [] (λ w. w) x c.make_step.new.self (view c.args.dev.now) (view c.make_step.new.dev) c.from_residual.result) c.next.ensures.same
    (op_fails told (λ w. w) c.next.new.self c.make_step.new.self (view c.args.dev.now) (view c.make_step.new.dev) _ _ c.from_residual.result c.from_residual.ensures.1 c.in_err-make_step-in-Some.ensures.operation)

pub returns-in_err-make_step-in-Some-clause-cost : goal.returns-in_err-make_step-in-Some-clause-cost
returns-in_err-make_step-in-Some-clause-cost g c =
    let told = g.D.Device.told in
    let view = g.D.Device.view in
    subst (λ (x : Volume). IsWithin told (owed x.tables) 0 (due x) x c.make_step.new.self (view c.args.dev.now) (view c.make_step.new.dev) c.from_residual.result) c.next.ensures.same
    (within_fails told _ _ _ c.next.new.self c.make_step.new.self (view c.args.dev.now) (view c.make_step.new.dev) _ _ _ _ _ c.from_residual.result c.from_residual.ensures.1 c.in_err-make_step-in-Some.ensures.cost (omega arith) (omega arith))

pub returns-in_ok-make_step-in-Some-clause-operation : goal.returns-in_ok-make_step-in-Some-clause-operation
returns-in_ok-make_step-in-Some-clause-operation g c =
    let told = g.D.Device.told in
    let view = g.D.Device.view in
    subst (λ (x : Volume). IsOperation {T = Bool} told [] (λ w. w) x c.make_step.new.self (view c.args.dev.now) (view c.make_step.new.dev) (Ok true)) c.next.ensures.same
    (op_answers told (λ w. w) c.next.new.self c.make_step.new.self (view c.args.dev.now) (view c.make_step.new.dev) _ true c.in_ok-make_step-in-Some.ensures.operation)

pub returns-in_ok-make_step-in-Some-clause-cost : goal.returns-in_ok-make_step-in-Some-clause-cost
returns-in_ok-make_step-in-Some-clause-cost g c =
    let told = g.D.Device.told in
    let view = g.D.Device.view in
    subst (λ (x : Volume). IsWithin {T = Bool} told (owed x.tables) 0 (due x) x c.make_step.new.self (view c.args.dev.now) (view c.make_step.new.dev) (Ok true)) c.next.ensures.same
    (within_answers told _ _ _ c.next.new.self c.make_step.new.self (view c.args.dev.now) (view c.make_step.new.dev) _ true c.in_ok-make_step-in-Some.ensures.cost)

pub returns-in-None-clause-ring : goal.returns-in-None-clause-ring
returns-in-None-clause-ring g c = subst (λ (x : Volume). HasBatch 33 c.args.self.now.ring x.ring) (sym c.next.ensures.same) (batch_none 33 c.args.self.now.ring)

pub returns-in_ok-make_step-in-Some-clause-ring : goal.returns-in_ok-make_step-in-Some-clause-ring
returns-in_ok-make_step-in-Some-clause-ring g c = subst (λ (x : Volume). HasBatch 33 x.ring c.make_step.new.self.ring) c.next.ensures.same c.in_ok-make_step-in-Some.ensures.ring

pub returns-in-None-clause-idle : goal.returns-in-None-clause-idle
returns-in-None-clause-idle g c none = ap (λ (x : Volume). x.ring) c.next.ensures.same
