use Rattle.std.proofs.Common.{◌≡◌, ◌+◌, ◌++◌, take, inl, inr, refl, sym, ◌∙◌, ap, subst, arith}
use Rattle.image_device.specs.Runs.{LeavesOnly}
use Rattle.image_device.proofs.Outcomes.{where_err, unless_err}
use Rattle.serving.proofs.Aside.{aside_put, aside_then}
use Rattle.serving.proofs.Answering.{any_applied, any_replied, any_settled, put_failed, all_put, debt_now, debt_replied, debt_settled}
use Rattle.serving.specs.Prompt.{mark}
use Rattle.serving.proofs.disk.AnyServer.answer.Goals as goal

pub returns-in-Err-clause-any_moment : goal.returns-in-Err-clause-any_moment
returns-in-Err-clause-any_moment g c told = any_applied g.H.Handler.rules g.R.Replies.voice _ c.args.request.now (g.P.Device.view c.args.port.now) (g.P.Device.view c.apply.new.dev) (c.apply.ensures.any_moment told)

pub returns-then-is_err-clause-left : goal.returns-then-is_err-clause-left
returns-then-is_err-clause-left g c told =
    let part = where_err c.put_reply.result c.is_err.result c.if-is_err.true c.is_err.ensures.value (c.put_reply.ensures.part told) in
    put_failed g.H.Handler.rules g.R.Replies.voice _ c.args.request.now _ _ c.apply.new.into _ _ (c.in-Ok.ensures.given told) (ap (λ x. g.H.Handler.state c.apply.new.self x) (c.put_reply.ensures.reads told)) part.0 part.1 (part.2 ∙ ap (λ l. l ++ take part.0 (g.R.Replies.voice.text c.apply.new.into)) (c.apply.ensures.sent told))

pub returns-then-is_err-clause-any_moment : goal.returns-then-is_err-clause-any_moment
returns-then-is_err-clause-any_moment g c told =
    let at = c.in-Ok.ensures.at told in
    any_replied g.H.Handler.rules g.R.Replies.voice _ c.args.request.now (g.P.Device.view c.args.port.now) (g.P.Device.view c.apply.new.dev) (c.apply.ensures.any_moment told) (g.P.Device.view c.put_reply.new.port) c.apply.new.into _
    (c.apply.ensures.sent told) (c.in-Ok.ensures.given told) at.0 (g.met.H.Handler.stands_now c.apply.new.self _ at.1) (c.put_reply.ensures.any_moment told)

pub returns-then-is_err-clause-debt : goal.returns-then-is_err-clause-debt
returns-then-is_err-clause-debt g c told bounded =
    let v0 = g.P.Device.view c.args.port.now in
    let v1 = g.P.Device.view c.apply.new.dev in
    let v2 = g.P.Device.view c.put_reply.new.port in
    let most = g.H.Handler.work.debt v0.reads + g.H.Handler.work.made (g.H.Handler.state c.args.self.now v0.reads) c.args.request.now in
    debt_replied g.H.Handler.work.debt most v0 v1 v2 _ (g.met.P.Device.sound c.apply.new.dev told) (c.apply.ensures.debt told bounded) (c.in-Ok.ensures.at told).0 (c.put_reply.ensures.any_moment told)

pub returns-in-Ok-settle_some-clause-any_moment : goal.returns-in-Ok-settle_some-clause-any_moment
returns-in-Ok-settle_some-clause-any_moment g c told =
    let at = c.in-Ok.ensures.at told in
    let v0 = g.P.Device.view c.args.port.now in
    let v1 = g.P.Device.view c.apply.new.dev in
    let v2 = g.P.Device.view c.put_reply.new.port in
    let v3 = g.P.Device.view c.settle_some.new.dev in
    let sent2 = unless_err c.put_reply.result c.is_err.result c.if-is_err.false c.is_err.ensures.value (c.put_reply.ensures.sent told) in
    any_settled g.H.Handler.rules g.R.Replies.voice (g.H.Handler.state c.args.self.now v0.reads) c.args.request.now v0 v2 v3 c.apply.new.into (g.H.Handler.state c.apply.new.self v1.reads)
    (any_replied g.H.Handler.rules g.R.Replies.voice _ c.args.request.now v0 v1 (c.apply.ensures.any_moment told) v2 c.apply.new.into _ (c.apply.ensures.sent told) (c.in-Ok.ensures.given told) at.0 (g.met.H.Handler.stands_now c.apply.new.self _ at.1) (c.put_reply.ensures.any_moment told))
    (c.in-Ok.ensures.given told) (sent2 ∙ ap (λ l. l ++ g.R.Replies.voice.text c.apply.new.into) (c.apply.ensures.sent told))
    (subst (λ x. LeavesOnly v2 v3 (λ y f. g.H.Handler.rules.stands (g.H.Handler.state c.apply.new.self x) y × (f ≡ v2.sent))) (c.put_reply.ensures.reads told) (c.settle_some.ensures.any_moment told))

pub returns-in-Err-settle_some-clause-any_moment : goal.returns-in-Err-settle_some-clause-any_moment
returns-in-Err-settle_some-clause-any_moment g c told =
    let at = c.in-Ok.ensures.at told in
    let v0 = g.P.Device.view c.args.port.now in
    let v1 = g.P.Device.view c.apply.new.dev in
    let v2 = g.P.Device.view c.put_reply.new.port in
    let v3 = g.P.Device.view c.settle_some.new.dev in
    let sent2 = unless_err c.put_reply.result c.is_err.result c.if-is_err.false c.is_err.ensures.value (c.put_reply.ensures.sent told) in
    any_settled g.H.Handler.rules g.R.Replies.voice (g.H.Handler.state c.args.self.now v0.reads) c.args.request.now v0 v2 v3 c.apply.new.into (g.H.Handler.state c.apply.new.self v1.reads)
    (any_replied g.H.Handler.rules g.R.Replies.voice _ c.args.request.now v0 v1 (c.apply.ensures.any_moment told) v2 c.apply.new.into _ (c.apply.ensures.sent told) (c.in-Ok.ensures.given told) at.0 (g.met.H.Handler.stands_now c.apply.new.self _ at.1) (c.put_reply.ensures.any_moment told))
    (c.in-Ok.ensures.given told) (sent2 ∙ ap (λ l. l ++ g.R.Replies.voice.text c.apply.new.into) (c.apply.ensures.sent told))
    (subst (λ x. LeavesOnly v2 v3 (λ y f. g.H.Handler.rules.stands (g.H.Handler.state c.apply.new.self x) y × (f ≡ v2.sent))) (c.put_reply.ensures.reads told) (c.settle_some.ensures.any_moment told))

pub returns-in-Ok-settle_some-clause-debt : goal.returns-in-Ok-settle_some-clause-debt
returns-in-Ok-settle_some-clause-debt g c told bounded =
    let v0 = g.P.Device.view c.args.port.now in
    let v1 = g.P.Device.view c.apply.new.dev in
    let v2 = g.P.Device.view c.put_reply.new.port in
    let v3 = g.P.Device.view c.settle_some.new.dev in
    let most = g.H.Handler.work.debt v0.reads + g.H.Handler.work.made (g.H.Handler.state c.args.self.now v0.reads) c.args.request.now in
    debt_settled g.H.Handler.work.debt most v0 v1 v2 v3 _ (g.met.P.Device.sound c.apply.new.dev told) (c.apply.ensures.debt told bounded) (c.in-Ok.ensures.at told).0 (c.put_reply.ensures.any_moment told) (c.put_reply.ensures.reads told) (c.settle_some.ensures.debt told)

pub returns-in-Err-settle_some-clause-debt : goal.returns-in-Err-settle_some-clause-debt
returns-in-Err-settle_some-clause-debt g c told bounded =
    let v0 = g.P.Device.view c.args.port.now in
    let v1 = g.P.Device.view c.apply.new.dev in
    let v2 = g.P.Device.view c.put_reply.new.port in
    let v3 = g.P.Device.view c.settle_some.new.dev in
    let most = g.H.Handler.work.debt v0.reads + g.H.Handler.work.made (g.H.Handler.state c.args.self.now v0.reads) c.args.request.now in
    debt_settled g.H.Handler.work.debt most v0 v1 v2 v3 _ (g.met.P.Device.sound c.apply.new.dev told) (c.apply.ensures.debt told bounded) (c.in-Ok.ensures.at told).0 (c.put_reply.ensures.any_moment told) (c.put_reply.ensures.reads told) (c.settle_some.ensures.debt told)

pub returns-in-Ok-settle_some-clause-less : goal.returns-in-Ok-settle_some-clause-less
returns-in-Ok-settle_some-clause-less g c told bounded =
    let v0 = g.P.Device.view c.args.port.now in
    let v1 = g.P.Device.view c.apply.new.dev in
    let most = g.H.Handler.work.debt v0.reads + g.H.Handler.work.made (g.H.Handler.state c.args.self.now v0.reads) c.args.request.now in
    let few = debt_now g.H.Handler.work.debt most v0 v1 (g.met.P.Device.sound c.apply.new.dev told) (c.apply.ensures.debt told bounded) in
    omega (arith, few, c.in-Ok-settle_some.ensures.less told, ap g.H.Handler.work.debt (c.put_reply.ensures.reads told))

pub returns-in-Err-settle_some-clause-left : goal.returns-in-Err-settle_some-clause-left
returns-in-Err-settle_some-clause-left g c told =
    let sent2 = unless_err c.put_reply.result c.is_err.result c.if-is_err.false c.is_err.ensures.value (c.put_reply.ensures.sent told) in
    let all = all_put g.H.Handler.rules g.R.Replies.voice _ c.args.request.now _ _ c.apply.new.into _ (c.in-Ok.ensures.given told) (c.settle_some.ensures.sent told ∙ sent2 ∙ ap (λ l. l ++ g.R.Replies.voice.text c.apply.new.into) (c.apply.ensures.sent told)) in
    inr (all.0, inl all.1)

pub returns-in-Ok-settle_some-clause-prompt : goal.returns-in-Ok-settle_some-clause-prompt
returns-in-Ok-settle_some-clause-prompt g c told = record {
  replied = mark (g.P.Device.view c.put_reply.new.port);
  of_port = (c.put_reply.new.port, refl);
  between =
      let applied = (c.apply.ensures.any_moment told).later in
      let put = c.put_reply.ensures.puts.clock in
      (omega (arith, applied, put), (c.settle_some.ensures.any_moment told).later);
  sent = sym (c.settle_some.ensures.sent told);
  before = λ bounded. omega (arith, c.put_reply.ensures.puts.writes, c.in-Ok.ensures.before told bounded);
  behind = c.settle_some.ensures.behind;
}

pub returns-then-is_err-clause-aside_kept : goal.returns-then-is_err-clause-aside_kept
returns-then-is_err-clause-aside_kept g c told =
    let v0 = g.P.Device.view c.args.port.now in
    let v1 = g.P.Device.view c.apply.new.dev in
    let v2 = g.P.Device.view c.put_reply.new.port in
    aside_put (g.H.Handler.aside c.args.self.now) _ v0 v1 v2 (g.met.P.Device.sound c.apply.new.dev told) (c.in-Ok.ensures.at told).0 (c.apply.ensures.aside_kept told) (c.put_reply.ensures.any_moment told)

pub returns-in-Ok-settle_some-clause-aside_kept : goal.returns-in-Ok-settle_some-clause-aside_kept
returns-in-Ok-settle_some-clause-aside_kept g c told =
    let v0 = g.P.Device.view c.args.port.now in
    let v1 = g.P.Device.view c.apply.new.dev in
    let v2 = g.P.Device.view c.put_reply.new.port in
    let v3 = g.P.Device.view c.settle_some.new.dev in
    aside_then (g.H.Handler.aside c.args.self.now) (g.H.Handler.aside c.apply.new.self) v0 v2 v3 (g.met.P.Device.sound c.put_reply.new.port told) c.apply.ensures.aside
    (aside_put (g.H.Handler.aside c.args.self.now) _ v0 v1 v2 (g.met.P.Device.sound c.apply.new.dev told) (c.in-Ok.ensures.at told).0 (c.apply.ensures.aside_kept told) (c.put_reply.ensures.any_moment told))
    (c.settle_some.ensures.aside_kept told)

pub returns-in-Err-settle_some-clause-aside_kept : goal.returns-in-Err-settle_some-clause-aside_kept
returns-in-Err-settle_some-clause-aside_kept g c told =
    let v0 = g.P.Device.view c.args.port.now in
    let v1 = g.P.Device.view c.apply.new.dev in
    let v2 = g.P.Device.view c.put_reply.new.port in
    let v3 = g.P.Device.view c.settle_some.new.dev in
    aside_then (g.H.Handler.aside c.args.self.now) (g.H.Handler.aside c.apply.new.self) v0 v2 v3 (g.met.P.Device.sound c.put_reply.new.port told) c.apply.ensures.aside
    (aside_put (g.H.Handler.aside c.args.self.now) _ v0 v1 v2 (g.met.P.Device.sound c.apply.new.dev told) (c.in-Ok.ensures.at told).0 (c.apply.ensures.aside_kept told) (c.put_reply.ensures.any_moment told))
    (c.settle_some.ensures.aside_kept told)

pub returns-in-Ok-settle_some-clause-still : goal.returns-in-Ok-settle_some-clause-still
returns-in-Ok-settle_some-clause-still g c told ends = absurd ends
