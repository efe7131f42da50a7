use Rattle.std.proofs.Common.{◌≡◌, ◌++◌, ◌∷◌, [], refl, sym, ◌∙◌, subst, arith, append-nil}
use Rattle.image_device.specs.Image.{Image}
use Rattle.image_device.specs.Runs.{LeavesOnly}
use Rattle.serving.specs.Input.{completed}
use Rattle.serving.specs.Voice.{spoken}
use Rattle.gathering.specs.Gathered.{cleared}
use Rattle.gathering.proofs.Merely.{rested_now}
use Rattle.gathering_runs.specs.Promise.{IsLeftByRun}
use Rattle.gathering_runs.specs.Sent.{IsSentBy}
use Rattle.gathering_runs.specs.Turns.{HandsOut, Turned, waits_by}
use Rattle.gathering_runs.proofs.Ending.{left_longer}
use Rattle.gathering_runs.proofs.Outcome.{err_is_if, ok_is}
use Rattle.gathering_runs.proofs.Rounds.{run_none}
use Rattle.gathering_runs.proofs.Sent.{sent_longer}
use Rattle.serving.specs.Prompt.{IsOfPort, mark}
use Rattle.gathering_runs.proofs.ByTurns.{turn_of_group}
use Rattle.gathering_runs.proofs.Reclaiming.{leaves_as, owed_between}
use Rattle.gathering_runs.proofs.Turning.{Went, left_then, sent_turned, turned_err, turned_ok, went, went_then}
use Rattle.gathering_runs.proofs.turns.serve_caught_up.Goals as goal

pub serve_group-left-requires-clause-rests : goal.serve_group-left-requires-clause-rests
serve_group-left-requires-clause-rests g c told = rested_now _ (g.met.P.Device.sound c.args.disk.port told)

pub returns-in-Ok-settled-clause-did : goal.returns-in-Ok-settled-clause-did
returns-in-Ok-settled-clause-did g c =
    let k = spoken g.H.Handler.rules g.R.Replies.voice in
    let w = g.H.Handler.work in
    let part = g.H.Handler.aside c.args.server.now in
    let e1 = c.serve_group-left.ensures in
    let e2 = c.settle_in_groups-disk.ensures in
    let r1 = c.serve_group-left.result.1 in
    let r2 = c.settle_in_groups-disk.result.1 in
    let did = e1.did in
    let h0 = c.args.server.now in
    let h1 = c.serve_group-left.new.server in
    let h2 = c.settle_in_groups-disk.new.server in
    let v0 = g.P.Device.view c.args.disk.port in
    let v1 = g.P.Device.view c.serve_group-left.result.0.port in
    let v2 = g.P.Device.view c.settle_in_groups-disk.result.0.port in
    let s0 = g.H.Handler.state h0 (cleared v0.reads) in
    let s1 = g.H.Handler.state h1 (cleared v1.reads) in
    let s2 = g.H.Handler.state h2 (cleared v2.reads) in
    let q = c.args.request.now in
    let next = c.serve_group-left.new.request in (
      did.0,
      subst (λ t. HandsOut g.R.Protocol.spelling (λ x. g.R.Protocol.was_fed x c.args.protocol.now) (λ x. g.R.Protocol.was_fed x c.serve_group-left.new.protocol) c.args.intake.now c.serve_group-left.new.intake (did.0 ++ waits_by t next)) c.in-Ok.is did.1,
      λ told.
          turned_ok k part c.in-Ok.waits s0 s2 v0 v2 (q ∷ did.0)
          (subst (λ l. Went k part s0 s2 v0 v2 l) (append-nil (q ∷ did.0))
          (went_then k part s0 s1 s2 v0 v1 v2 (q ∷ did.0) [] (went k part r1 c.in-Ok.waits s0 s1 v0 v1 (q ∷ did.0) c.in-Ok.is (did.2 told))
          (went k part r2 tt s1 s2 v1 v2 [] c.in-Ok-settled.is (subst (λ (p : Image → Image). Turned r2 k p s1 s2 v1 v2 []) e1.aside (e2.did told))))),
      λ told.
          let lacking = c.serve_group-left.new.lacking in
          let b0 = c.requires.between told in
          let b1 = ok_is r1 c.in-Ok.waits c.in-Ok.is (e1.between told) in
          let b2 = ok_is r2 tt c.in-Ok-settled.is (e2.between told) in
          let owed0 = owed_between (g.H.Handler.holds h0) w.debt (g.H.GroupHandler.owed h0) (g.met.H.GroupHandler.owes h0) (g.met.H.GroupHandler.owed_alike h0) _ v0 b0 in
          let owed1 = owed_between (g.H.Handler.holds h1) w.debt (g.H.GroupHandler.owed h1) (g.met.H.GroupHandler.owes h1) (g.met.H.GroupHandler.owed_alike h1) _ v1 b1 in
          let owed2 = owed_between (g.H.Handler.holds h2) w.debt (g.H.GroupHandler.owed h2) (g.met.H.GroupHandler.owes h2) (g.met.H.GroupHandler.owed_alike h2) _ v2 b2 in
          let groups = ok_is r2 tt c.in-Ok-settled.is (e2.groups told) in
          let less = ok_is r2 tt c.in-Ok-settled.is e2.less refl in
          let leaves = ok_is r1 c.in-Ok.waits c.in-Ok.is (did.3 told) in
          let rest = went k part r2 tt s1 s2 v1 v2 [] c.in-Ok-settled.is (subst (λ (p : Image → Image). Turned r2 k p s1 s2 v1 v2 []) e1.aside (e2.did told)) in
          turn_of_group k w g.H.GroupHandler.may_wait (IsOfPort g.P.Device.view) s0 s1 s2 q did.0 (mark v0) (mark v1) (mark v2) lacking groups.0 (c.serve_group-left.result.0.port, refl) e1.writes
          (leaves_as k w s0 s1 v0.sent v1.sent (q ∷ did.0) (g.H.GroupHandler.owed h0) (g.H.GroupHandler.owed h1) (w.debt v0.reads) (w.debt v1.reads) lacking (sym owed0) (sym owed1) leaves)
          (ok_is r1 c.in-Ok.waits c.in-Ok.is e1.lacks) (groups.2 refl) groups.1 (omega (arith, less, owed1, owed2)) (run_none k s1 s2 rest.served.answers rest.served.run),
    )

pub returns-in-Err-settled-clause-did : goal.returns-in-Err-settled-clause-did
returns-in-Err-settled-clause-did g c =
    let k = spoken g.H.Handler.rules g.R.Replies.voice in
    let part = g.H.Handler.aside c.args.server.now in
    let e1 = c.serve_group-left.ensures in
    let e2 = c.settle_in_groups-disk.ensures in
    let r1 = c.serve_group-left.result.1 in
    let r2 = c.settle_in_groups-disk.result.1 in
    let did = e1.did in
    let v0 = g.P.Device.view c.args.disk.port in
    let v1 = g.P.Device.view c.serve_group-left.result.0.port in
    let v2 = g.P.Device.view c.settle_in_groups-disk.result.0.port in
    let s0 = g.H.Handler.state c.args.server.now (cleared v0.reads) in
    let s1 = g.H.Handler.state c.serve_group-left.new.server (cleared v1.reads) in
    let s2 = g.H.Handler.state c.settle_in_groups-disk.new.server (cleared v2.reads) in
    let q = c.args.request.now in
    let next = c.serve_group-left.new.request in
    let more = completed c.in-Ok.waits next in
    let why = c.in-Err-settled.why in (
      did.0 ++ more,
      subst (λ l. HandsOut g.R.Protocol.spelling (λ x. g.R.Protocol.was_fed x c.args.protocol.now) (λ x. g.R.Protocol.was_fed x c.serve_group-left.new.protocol) c.args.intake.now c.serve_group-left.new.intake l) (sym (append-nil (did.0 ++ more)))
          (subst (λ t. HandsOut g.R.Protocol.spelling (λ x. g.R.Protocol.was_fed x c.args.protocol.now) (λ x. g.R.Protocol.was_fed x c.serve_group-left.new.protocol) c.args.intake.now c.serve_group-left.new.intake (did.0 ++ waits_by t next)) c.in-Ok.is did.1),
      λ told.
          let first = went k part r1 c.in-Ok.waits s0 s1 v0 v1 (q ∷ did.0) c.in-Ok.is (did.2 told) in
          let then = subst (λ (p : Image → Image). Turned r2 k p s1 s2 v1 v2 []) e1.aside (e2.did told) in
          turned_err k part why s0 s2 v0 v2 (q ∷ (did.0 ++ more))
          (sent_longer k why s0 v0.sent v2.sent (q ∷ did.0) more (subst (λ l. IsSentBy why k s0 v0.sent l v2.sent) (append-nil (q ∷ did.0)) (sent_turned k part r2 why s0 s1 s2 v0 v1 v2 (q ∷ did.0) [] c.in-Err-settled.is first then)))
          (left_longer k part s0 v0 v2 (q ∷ did.0) more (subst (λ l. ∥ LeavesOnly v0 v2 (IsLeftByRun k part s0 v0 l) ∥₁) (append-nil (q ∷ did.0)) (left_then k part s0 s1 v0 v1 v2 (q ∷ did.0) [] first then.any_moment))),
      λ told. tt,
    )

pub returns-in-Err-clause-did : goal.returns-in-Err-clause-did
returns-in-Err-clause-did g c =
    let k = spoken g.H.Handler.rules g.R.Replies.voice in
    let part = g.H.Handler.aside c.args.server.now in
    let r1 = c.serve_group-left.result.1 in
    let did = c.serve_group-left.ensures.did in
    let v0 = g.P.Device.view c.args.disk.port in
    let v1 = g.P.Device.view c.serve_group-left.result.0.port in
    let s0 = g.H.Handler.state c.args.server.now (cleared v0.reads) in
    let s1 = g.H.Handler.state c.serve_group-left.new.server (cleared v1.reads) in
    let q = c.args.request.now in
    let next = c.serve_group-left.new.request in (
      did.0,
      subst (λ t. HandsOut g.R.Protocol.spelling (λ x. g.R.Protocol.was_fed x c.args.protocol.now) (λ x. g.R.Protocol.was_fed x c.serve_group-left.new.protocol) c.args.intake.now c.serve_group-left.new.intake (did.0 ++ waits_by t next)) c.in-Err.is did.1,
      λ told. turned_err k part c.in-Err.why s0 s1 v0 v1 (q ∷ did.0) (err_is_if (λ w. IsSentBy w k s0 v0.sent (q ∷ did.0) v1.sent) r1 c.in-Err.why c.in-Err.is (did.2 told).stopped) (did.2 told).any_moment,
      λ told. tt,
    )
