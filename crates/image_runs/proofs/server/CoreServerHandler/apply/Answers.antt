use Rattle.std.proofs.Common.{◌≡◌, true, ap, rules}
use Rattle.tsd_core.specs.Carrying.{left_in}
use Rattle.image_runs.proofs.Common.{behind, disk_rules, is_refusal, HasForm, placed_on}
use Rattle.image_runs.proofs.Serving.{before_or_after, before_reply, counted_in, err_left, faults_left, given_by, if_left, on_left, refusal_asks}
use Rattle.image_runs.proofs.server.CoreServerHandler.apply.Goals as goal

pub returns : goal.returns
returns g c =
    let kind = c.args.self.now.placement.now.kind in
    let core = c.args.self.now.core.now in
    let q = c.args.request.now in
    let old = g.D.Device.view c.args.dev.now in
    let new = g.D.Device.view c.apply_into.new.dev in
    let r = c.apply_into.result in
    let room = c.apply_into.new.into in
    let is = c.apply_into.ensures.applied in
    let asks = c.apply_into.ensures.asks_nothing in
    let sound = g.met.D.Device.sound c.args.dev.now in
    record {
      lender = search rules;
      ready = on_left _ r room is.ready;
      at = λ told. on_left _ r room (is.at told);
      spent = err_left _ r room is.spent;
      form = if_left HasForm r room is.form;
      given = λ told.
          if_left (λ a. disk_rules.gives (placed_on kind core old.reads) q a (placed_on kind c.apply_into.new.self new.reads)) r room
          (given_by kind core c.apply_into.new.self old.reads new.reads q (left_in r room) (is.given told) is.form);
      sent = is.sent;
      any_moment = λ told. before_or_after kind core q old new (sound told) (c.requires.at told).1 (is.any_moment told);
      debt = is.debt;
      paid = λ told bounded. on_left _ r room (is.paid told bounded);
      most = is.most;
      before = λ told bounded.
          on_left _ r room
          (before_reply kind core q old new _ (left_in r room) _ (λ same. ap (λ d. (g.D.Device.view d).writes) same) (sound told) (c.requires.at told).1 bounded (is.limit bounded) (λ one. (is.once one).most) (is.given told) asks);
      refused = if_left (λ a. is_refusal a ≡ true → c.apply_into.new.dev ≡ c.args.dev.now) r room (refusal_asks (left_in r room) _ _ asks);
      aside = ap behind is.size.geometry;
      aside_kept = is.behind;
      works = counted_in old new is.works;
      faults = faults_left r room _ _ is.faults;
    }
