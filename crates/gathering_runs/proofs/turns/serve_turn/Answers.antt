use Rattle.std.proofs.Common.{◌∷◌, [], sym, subst, arith}
use Rattle.image_device.specs.Image.{Image}
use Rattle.serving.specs.Voice.{spoken}
use Rattle.gathering.specs.Gathered.{cleared}
use Rattle.gathering_runs.specs.Sent.{IsSentBy}
use Rattle.gathering_runs.specs.Turns.{Turned}
use Rattle.gathering_runs.proofs.Ending.{left_longer}
use Rattle.gathering_runs.proofs.Handing.{hands_none}
use Rattle.gathering_runs.proofs.Outcome.{err_is_if, ok_is, on_ok}
use Rattle.gathering_runs.proofs.Rounds.{run_none}
use Rattle.gathering_runs.proofs.Sent.{sent_longer}
use Rattle.serving.specs.Prompt.{IsOfPort, mark}
use Rattle.gathering_runs.proofs.ByTurns.{turn_after}
use Rattle.gathering_runs.proofs.Turning.{turned_err, turned_then, went}
use Rattle.gathering_runs.proofs.turns.serve_turn.Goals as goal

pub returns-in-Ok-clause-did : goal.returns-in-Ok-clause-did
returns-in-Ok-clause-did g c =
    let k = spoken g.H.Handler.rules g.R.Replies.voice in
    let part = g.H.Handler.aside c.args.server.now in
    let e1 = c.settle_in_groups-left.ensures in
    let r = c.settle_in_groups-left.result.1 in
    let did = c.serve_settled.ensures.did in
    let v0 = g.P.Device.view c.args.disk.port in
    let v1 = g.P.Device.view c.settle_in_groups-left.result.0.port in
    let v2 = g.P.Device.view c.serve_settled.result.0.port in
    let s0 = g.H.Handler.state c.args.server.now (cleared v0.reads) in
    let s1 = g.H.Handler.state c.settle_in_groups-left.new.server (cleared v1.reads) in
    let s2 = g.H.Handler.state c.serve_settled.new.server (cleared v2.reads) in
    let q = c.args.request.now in (
      did.0,
      did.1,
      λ told.
          turned_then k part c.serve_settled.result.1 s0 s1 s2 v0 v1 v2 [] (q ∷ did.0) (went k part r _ s0 s1 v0 v1 [] c.in-Ok.is (e1.did told))
          (subst (λ (p : Image → Image). Turned c.serve_settled.result.1 k p s1 s2 v1 v2 (q ∷ did.0)) e1.aside (did.2 told)),
      λ told.
          let rest = went k part r _ s0 s1 v0 v1 [] c.in-Ok.is (e1.did told) in
          let groups = ok_is r _ c.in-Ok.is (e1.groups told) in
          on_ok c.serve_settled.result.1 (turn_after k g.H.Handler.work g.H.GroupHandler.may_wait (IsOfPort g.P.Device.view) s0 s1 s2 q did.0 (mark v0) (mark v1) (mark v2) groups.0 (c.homes.ensures (omega (arith, c.if-homes-le-HOMES_MAX.false))) groups.1 (sym (run_none k s0 s1 rest.served.answers rest.served.run))) (did.3 told),
    )

pub returns-in-Err-clause-did : goal.returns-in-Err-clause-did
returns-in-Err-clause-did g c =
    let k = spoken g.H.Handler.rules g.R.Replies.voice in
    let part = g.H.Handler.aside c.args.server.now in
    let v0 = g.P.Device.view c.args.disk.port in
    let v1 = g.P.Device.view c.settle_in_groups-left.result.0.port in
    let s0 = g.H.Handler.state c.args.server.now (cleared v0.reads) in (
      [],
      hands_none g.R.Protocol.spelling _ _,
      λ told. turned_err k part _ s0 _ v0 v1 (c.args.request.now ∷ [])
          (sent_longer k c.in-Err.why s0 v0.sent v1.sent [] (c.args.request.now ∷ []) (err_is_if (λ w. IsSentBy w k s0 v0.sent [] v1.sent) c.settle_in_groups-left.result.1 c.in-Err.why c.in-Err.is (c.settle_in_groups-left.ensures.did told).stopped))
          (left_longer k part s0 v0 v1 [] (c.args.request.now ∷ []) (c.settle_in_groups-left.ensures.did told).any_moment),
      λ told. tt,
    )
