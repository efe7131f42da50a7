use Rattle.std.proofs.Common.{◌∙◌, inl, inr, List, sym, ap, subst}
use Rattle.gathered_tasks.proofs.Common.{Core, IsBound, Patch, on_ok, gone_on, told_state, world_of}
use Rattle.std.proofs.lemmas.Result.{on_ok_weaker}
use Rattle.gathered_tasks.proofs.CarryLaws.{carried_failed, carried_then}
use Rattle.gathered_tasks.proofs.carry.ask.Goals as goal

pub returns-in_err-commit-in-None-clause-carried : goal.returns-in_err-commit-in-None-clause-carried
returns-in_err-commit-in-None-clause-carried g c =
    carried_failed (g.L.Placing.kind c.args.placement.now) c.args.request.now _ c.from_residual-in_err-commit-in-None.result c.from_residual-in_err-commit-in-None.ensures.1
    (record { goes_on = c.in_err-commit-in-None.ensures.goes_on; state = λ t. tt; told_state = tt })

pub returns-in_ok-commit-in-None-clause-carried : goal.returns-in_ok-commit-in-None-clause-carried
returns-in_ok-commit-in-None-clause-carried g c =
    let k = c.in_ok-commit-in-None.ensures in
    let e = c.on_device.ensures in
    carried_then (record { goes_on = k.goes_on; state = k.state; told_state = ap told_state k.same }) (λ t. g.met.D.Device.sound c.commit.new.dev t) (record {
      goes_on = e.goes_on;
      given = e.given;
      told_given = e.told;
      base = λ t. on_ok_weaker c.on_device.result (λ is. inr (inr (is ∙ ap (λ (b : List Patch). world_of (gone_on b (g.D.Device.view c.on_device.new.dev).reads)) (sym e.none)))) (e.base t);
    })

pub in_memory-requires-clause-fits : goal.in_memory-requires-clause-fits
in_memory-requires-clause-fits g c =
    (c.in-Some.most, subst (λ (k : Core). IsBound k.volume c.args.request.now c.in-Some.most) (sym c.in_ok-make_room-in-Some.ensures.same) c.in-Some.ensures.most.0, c.in_ok-make_room-in-Some.ensures.fits)

pub returns-in_err-make_room-in-Some-clause-carried : goal.returns-in_err-make_room-in-Some-clause-carried
returns-in_err-make_room-in-Some-clause-carried g c =
    carried_failed (g.L.Placing.kind c.args.placement.now) c.args.request.now _ c.from_residual.result c.from_residual.ensures.1 c.in_err-make_room-in-Some.ensures.holds

pub returns-in_ok-make_room-in-Some-clause-carried : goal.returns-in_ok-make_room-in-Some-clause-carried
returns-in_ok-make_room-in-Some-clause-carried g c =
    let e = c.in_memory.ensures in
    carried_then c.in_ok-make_room-in-Some.ensures.holds (λ t. g.met.D.Device.sound c.make_room.new.dev t) (record { goes_on = e.goes_on; given = e.given; told_given = e.told; base = λ t. on_ok c.in_memory.result (inl (ap world_of (e.reads t))) })
