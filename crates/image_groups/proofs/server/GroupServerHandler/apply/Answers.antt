use Rattle.std.proofs.Common.{◌≡◌, true, ap}
use Rattle.tsd_core.specs.Carrying.{left_in}
use Rattle.image_runs.proofs.Common.{behind, disk_rules, is_refusal, HasForm, placed_on}
use Rattle.image_runs.proofs.Serving.{before_or_after, before_reply, counted_in, err_left, faults_left, given_by, if_left, on_left, refusal_asks}
use Rattle.image_groups.proofs.server.GroupServerHandler.apply.Goals as goal

pub returns-clause-ready : goal.returns-clause-ready
returns-clause-ready g c = on_left _ c.apply_into.result c.apply_into.new.into c.apply_into.ensures.applied.ready

pub returns-clause-at : goal.returns-clause-at
returns-clause-at g c = λ told. on_left _ c.apply_into.result c.apply_into.new.into (c.apply_into.ensures.applied.at told)

pub returns-clause-spent : goal.returns-clause-spent
returns-clause-spent g c = err_left _ c.apply_into.result c.apply_into.new.into c.apply_into.ensures.applied.spent

pub returns-clause-form : goal.returns-clause-form
returns-clause-form g c = if_left HasForm c.apply_into.result c.apply_into.new.into c.apply_into.ensures.applied.form

pub returns-clause-given : goal.returns-clause-given
returns-clause-given g c = λ told.
    let x = (g.D.Device.view c.args.dev.now).reads in
    let y = (g.D.Device.view c.apply_into.new.dev).reads in
    let kind = c.args.self.now.placement.now.kind in
    if_left (λ r. disk_rules.gives (placed_on kind c.args.self.now.core.now x) c.args.request.now r (placed_on kind c.apply_into.new.self y)) c.apply_into.result c.apply_into.new.into
    (given_by kind c.args.self.now.core.now c.apply_into.new.self x y c.args.request.now (left_in c.apply_into.result c.apply_into.new.into) (c.apply_into.ensures.applied.given told) c.apply_into.ensures.applied.form)

pub returns-clause-sent : goal.returns-clause-sent
returns-clause-sent g c = c.apply_into.ensures.applied.sent

pub returns-clause-any_moment : goal.returns-clause-any_moment
returns-clause-any_moment g c = λ told.
    before_or_after c.args.self.now.placement.now.kind c.args.self.now.core.now c.args.request.now (g.D.Device.view c.args.dev.now) (g.D.Device.view c.apply_into.new.dev)
    (g.met.D.Device.sound c.args.dev.now told) (c.requires.at told).1 (c.apply_into.ensures.applied.any_moment told)

pub returns-clause-debt : goal.returns-clause-debt
returns-clause-debt g c = c.apply_into.ensures.applied.debt

pub returns-clause-paid : goal.returns-clause-paid
returns-clause-paid g c = λ told bounded. on_left _ c.apply_into.result c.apply_into.new.into (c.apply_into.ensures.applied.paid told bounded)

pub returns-clause-most : goal.returns-clause-most
returns-clause-most g c = c.apply_into.ensures.applied.most

pub returns-clause-before : goal.returns-clause-before
returns-clause-before g c = λ told bounded.
    on_left _ c.apply_into.result c.apply_into.new.into
    (before_reply c.args.self.now.placement.now.kind c.args.self.now.core.now c.args.request.now (g.D.Device.view c.args.dev.now) (g.D.Device.view c.apply_into.new.dev) _ (left_in c.apply_into.result c.apply_into.new.into) _
    (λ same. ap (λ d. (g.D.Device.view d).writes) same) (g.met.D.Device.sound c.args.dev.now told) (c.requires.at told).1 bounded (c.apply_into.ensures.applied.limit bounded)
    (λ one. (c.apply_into.ensures.applied.once one).most) (c.apply_into.ensures.applied.given told) c.apply_into.ensures.asks_nothing)

pub returns-clause-refused : goal.returns-clause-refused
returns-clause-refused g c =
    if_left (λ r. is_refusal r ≡ true → c.apply_into.new.dev ≡ c.args.dev.now) c.apply_into.result c.apply_into.new.into
    (refusal_asks (left_in c.apply_into.result c.apply_into.new.into) _ _ c.apply_into.ensures.asks_nothing)

pub returns-clause-aside : goal.returns-clause-aside
returns-clause-aside g c = ap behind c.apply_into.ensures.applied.size.geometry

pub returns-clause-aside_kept : goal.returns-clause-aside_kept
returns-clause-aside_kept g c = c.apply_into.ensures.applied.behind

pub returns-clause-works : goal.returns-clause-works
returns-clause-works g c = counted_in (g.D.Device.view c.args.dev.now) (g.D.Device.view c.apply_into.new.dev) c.apply_into.ensures.applied.works

pub returns-clause-faults : goal.returns-clause-faults
returns-clause-faults g c = faults_left c.apply_into.result c.apply_into.new.into _ _ c.apply_into.ensures.applied.faults
