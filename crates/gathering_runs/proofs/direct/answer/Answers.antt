use Rattle.std.proofs.Common.{◌∷◌, [], ◌≡◌, ◌≤◌, ◌+◌, ◌-◌, refl, sym, ◌∙◌, ap, arith}
use Rattle.image_device.proofs.Moments.{ends_in}
use Rattle.image_device.proofs.Outcomes.{unless_err}
use Rattle.tsd_words.specs.declared.status.Status.TheVariants as status
use Rattle.serving.specs.Voice.{spoken}
use Rattle.gathering_runs.proofs.OnDevice.{left_applied, left_replied, sent_replied, went_replied, left_stayed, went_stayed}
use Rattle.gathering_runs.proofs.Sent.{sent_none, sent_served}
use Rattle.serving.specs.Prompt.{mark}
use Rattle.gathering_runs.proofs.Turning.{turned_err, turned_ok}
use Rattle.gathering_runs.proofs.direct.answer.Goals as goal

pub returns-in-Err-clause-did : goal.returns-in-Err-clause-did
returns-in-Err-clause-did g c told =
    let v0 = g.P.Device.view c.args.port.now in
    let v1 = g.P.Device.view c.apply.new.dev in
    turned_err (spoken g.H.Handler.rules g.R.Replies.voice) (g.H.Handler.aside c.args.server.now) status.DeviceFault _ _ v0 v1 (c.args.request.now ∷ []) (sent_none (spoken g.H.Handler.rules g.R.Replies.voice) status.DeviceFault _ v0.sent v1.sent (c.args.request.now ∷ []) (c.apply.ensures.sent told))
    (left_applied g.H.Handler.rules g.R.Replies.voice (g.H.Handler.aside c.args.server.now) _ c.args.request.now v0 v1 (c.apply.ensures.any_moment told) (c.apply.ensures.aside_kept told))

pub returns-then-is_err-clause-did : goal.returns-then-is_err-clause-did
returns-then-is_err-clause-did g c told =
    let v0 = g.P.Device.view c.args.port.now in
    let v1 = g.P.Device.view c.apply.new.dev in
    let v2 = g.P.Device.view c.put_reply.new.port in
    let at = c.in-Ok.ensures.at told in
    turned_err (spoken g.H.Handler.rules g.R.Replies.voice) (g.H.Handler.aside c.args.server.now) status.PutFault _ _ v0 v2 (c.args.request.now ∷ [])
    (sent_replied g.H.Handler.rules g.R.Replies.voice _ (g.H.Handler.state c.apply.new.self v1.reads) c.args.request.now v0 v1 v2 c.apply.new.into (c.in-Ok.ensures.given told) (g.met.P.Device.sound c.put_reply.new.port told) (c.apply.ensures.sent told) (c.put_reply.ensures.any_moment told))
    (left_replied g.H.Handler.rules g.R.Replies.voice (g.H.Handler.aside c.args.server.now) _ c.args.request.now v0 v1 v2 c.apply.new.into (g.H.Handler.state c.apply.new.self v1.reads) (c.in-Ok.ensures.given told) (g.met.P.Device.sound c.apply.new.dev told)
    at.0 (g.met.H.Handler.stands_now c.apply.new.self v1.reads at.1) (c.apply.ensures.sent told) (c.apply.ensures.any_moment told) (c.apply.ensures.aside_kept told) (c.put_reply.ensures.any_moment told))

pub returns-then-is_err-2-clause-did : goal.returns-then-is_err-2-clause-did
returns-then-is_err-2-clause-did g c told =
    let k = spoken g.H.Handler.rules g.R.Replies.voice in
    let part = g.H.Handler.aside c.args.server.now in
    let v0 = g.P.Device.view c.args.port.now in
    let v1 = g.P.Device.view c.apply.new.dev in
    let v2 = g.P.Device.view c.put_reply.new.port in
    let v3 = g.P.Device.view c.settle_some.new.dev in
    let at = c.in-Ok.ensures.at told in
    let t = g.H.Handler.state c.apply.new.self v1.reads in
    let m = g.H.Handler.state c.apply.new.self v2.reads in
    let reads = c.put_reply.ensures.reads told in
    let w = went_replied g.H.Handler.rules g.R.Replies.voice part _ c.args.request.now v0 v1 v2 c.apply.new.into t (c.in-Ok.ensures.given told) (g.met.P.Device.sound c.apply.new.dev told)
    at.0 (g.met.H.Handler.stands_now c.apply.new.self v1.reads at.1) (c.apply.ensures.sent told) (c.apply.ensures.any_moment told) (c.apply.ensures.aside_kept told) (c.put_reply.ensures.any_moment told)
    m (ap (λ x. g.H.Handler.state c.apply.new.self x) (sym reads)) reads (unless_err c.put_reply.result c.is_err.result c.if-is_err.false c.is_err.ensures.value (c.put_reply.ensures.sent told)) in
    turned_err k part status.DeviceFault _ _ v0 v3 (c.args.request.now ∷ []) (sent_served k status.DeviceFault _ m v0.sent v2.sent v3.sent (c.args.request.now ∷ []) w.served (c.settle_some.ensures.sent told))
    (left_stayed k part (g.H.Handler.aside c.apply.new.self) _ m v0 v2 v3 (c.args.request.now ∷ []) w c.apply.ensures.aside (c.settle_some.ensures.any_moment told) (c.settle_some.ensures.aside_kept told))

pub returns-then-is_err-3-clause-did : goal.returns-then-is_err-3-clause-did
returns-then-is_err-3-clause-did g c told =
    let k = spoken g.H.Handler.rules g.R.Replies.voice in
    let part = g.H.Handler.aside c.args.server.now in
    let v0 = g.P.Device.view c.args.port.now in
    let v1 = g.P.Device.view c.apply.new.dev in
    let v2 = g.P.Device.view c.put_reply.new.port in
    let v3 = g.P.Device.view c.settle_some.new.dev in
    let v4 = g.P.Device.view c.empty_ring.new.dev in
    let at = c.in-Ok.ensures.at told in
    let t = g.H.Handler.state c.apply.new.self v1.reads in
    let m = g.H.Handler.state c.apply.new.self v2.reads in
    let n = g.H.Handler.state c.settle_some.new.self v3.reads in
    let reads = c.put_reply.ensures.reads told in
    let w = went_replied g.H.Handler.rules g.R.Replies.voice part _ c.args.request.now v0 v1 v2 c.apply.new.into t (c.in-Ok.ensures.given told) (g.met.P.Device.sound c.apply.new.dev told)
    at.0 (g.met.H.Handler.stands_now c.apply.new.self v1.reads at.1) (c.apply.ensures.sent told) (c.apply.ensures.any_moment told) (c.apply.ensures.aside_kept told) (c.put_reply.ensures.any_moment told)
    m (ap (λ x. g.H.Handler.state c.apply.new.self x) (sym reads)) reads (unless_err c.put_reply.result c.is_err.result c.if-is_err.false c.is_err.ensures.value (c.put_reply.ensures.sent told)) in
    let w3 = went_stayed k part (g.H.Handler.aside c.apply.new.self) _ m v0 v2 v3 (c.args.request.now ∷ []) w c.apply.ensures.aside (c.settle_some.ensures.any_moment told) (c.settle_some.ensures.aside_kept told)
    n (g.met.P.Device.sound c.settle_some.new.dev told) (unless_err c.settle_some.result c.is_err-2.result c.if-is_err-2.false c.is_err-2.ensures.value (c.settle_some.ensures.state told)) (c.settle_some.ensures.sent told) in
    turned_err k part status.DeviceFault _ _ v0 v4 (c.args.request.now ∷ []) (sent_served k status.DeviceFault _ n v0.sent v3.sent v4.sent (c.args.request.now ∷ []) w3.served (c.empty_ring.ensures.sent told))
    (left_stayed k part (g.H.Handler.aside c.settle_some.new.self) _ n v0 v3 v4 (c.args.request.now ∷ []) w3 (c.settle_some.ensures.aside ∙ c.apply.ensures.aside) (c.empty_ring.ensures.any_moment told) (c.empty_ring.ensures.aside_kept told))

pub returns-clause-did : goal.returns-clause-did
returns-clause-did g c told =
    let k = spoken g.H.Handler.rules g.R.Replies.voice in
    let part = g.H.Handler.aside c.args.server.now in
    let v0 = g.P.Device.view c.args.port.now in
    let v1 = g.P.Device.view c.apply.new.dev in
    let v2 = g.P.Device.view c.put_reply.new.port in
    let v3 = g.P.Device.view c.settle_some.new.dev in
    let v4 = g.P.Device.view c.empty_ring.new.dev in
    let at = c.in-Ok.ensures.at told in
    let t = g.H.Handler.state c.apply.new.self v1.reads in
    let m = g.H.Handler.state c.apply.new.self v2.reads in
    let n = g.H.Handler.state c.settle_some.new.self v3.reads in
    let reads = c.put_reply.ensures.reads told in
    let w = went_replied g.H.Handler.rules g.R.Replies.voice part _ c.args.request.now v0 v1 v2 c.apply.new.into t (c.in-Ok.ensures.given told) (g.met.P.Device.sound c.apply.new.dev told)
    at.0 (g.met.H.Handler.stands_now c.apply.new.self v1.reads at.1) (c.apply.ensures.sent told) (c.apply.ensures.any_moment told) (c.apply.ensures.aside_kept told) (c.put_reply.ensures.any_moment told)
    m (ap (λ x. g.H.Handler.state c.apply.new.self x) (sym reads)) reads (unless_err c.put_reply.result c.is_err.result c.if-is_err.false c.is_err.ensures.value (c.put_reply.ensures.sent told)) in
    let w3 = went_stayed k part (g.H.Handler.aside c.apply.new.self) _ m v0 v2 v3 (c.args.request.now ∷ []) w c.apply.ensures.aside (c.settle_some.ensures.any_moment told) (c.settle_some.ensures.aside_kept told)
    n (g.met.P.Device.sound c.settle_some.new.dev told) (unless_err c.settle_some.result c.is_err-2.result c.if-is_err-2.false c.is_err-2.ensures.value (c.settle_some.ensures.state told)) (c.settle_some.ensures.sent told) in
    turned_ok k part tt _ _ v0 v4 (c.args.request.now ∷ [])
    (went_stayed k part (g.H.Handler.aside c.settle_some.new.self) _ n v0 v3 v4 (c.args.request.now ∷ []) w3 (c.settle_some.ensures.aside ∙ c.apply.ensures.aside) (c.empty_ring.ensures.any_moment told) (c.empty_ring.ensures.aside_kept told)
    _ (g.met.P.Device.sound c.empty_ring.new.dev told) (unless_err c.empty_ring.result c.is_err-3.result c.if-is_err-3.false c.is_err-3.ensures.value (c.empty_ring.ensures.state told)) (c.empty_ring.ensures.sent told))

pub returns-clause-prompt : goal.returns-clause-prompt
returns-clause-prompt g c told = record {
  replied = mark (g.P.Device.view c.put_reply.new.port);
  of_port = (c.put_reply.new.port, refl);
  between =
      let applied = (c.apply.ensures.any_moment told).later in
      let put = c.put_reply.ensures.puts.clock in
      let settled = (c.settle_some.ensures.any_moment told).later in
      let emptied = (c.empty_ring.ensures.any_moment told).later in
      (omega (arith, applied, put), omega (arith, settled, emptied));
  sent = sym (c.empty_ring.ensures.sent told ∙ c.settle_some.ensures.sent told);
  before = λ bounded.
      let same = c.put_reply.ensures.puts.writes in
      let few = c.in-Ok.ensures.before told bounded in
      omega (arith, same, few);
}

pub returns-clause-left : goal.returns-clause-left
returns-clause-left g c told bounded =
    let debt = g.H.Handler.work.debt in
    let h0 = c.args.server.now in
    let h1 = c.apply.new.self in
    let h2 = c.settle_some.new.self in
    let v0 = g.P.Device.view c.args.port.now in
    let v1 = g.P.Device.view c.apply.new.dev in
    let v2 = g.P.Device.view c.put_reply.new.port in
    let v3 = g.P.Device.view c.settle_some.new.dev in
    let first = g.met.H.GroupHandler.owes h0 v0.reads (c.requires.at told).1 in
    let then = g.met.H.GroupHandler.owes h2 v3.reads (unless_err c.settle_some.result c.is_err-2.result c.if-is_err-2.false c.is_err-2.ensures.value (c.settle_some.ensures.at told)).1 in
    let made = (ends_in v0 v1 _ (g.met.P.Device.sound c.apply.new.dev told) (c.apply.ensures.debt told bounded)).0 in
    let same = ap debt (c.put_reply.ensures.reads told) in
    let less = unless_err c.settle_some.result c.is_err-2.result c.if-is_err-2.false c.is_err-2.ensures.value (c.settle_some.ensures.less told) in
    let kept = unless_err c.empty_ring.result c.is_err-3.result c.if-is_err-3.false c.is_err-3.ensures.value c.empty_ring.ensures.owes in
    omega (arith, first, then, made, same, less, kept)
