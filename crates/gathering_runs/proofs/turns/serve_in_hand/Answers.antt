use Rattle.std.proofs.Common.{◌≡◌, ℕ, true, false, List, [], ◌∷◌, ◌++◌, refl, sym, ◌∙◌, ap, subst, arith, append-nil}
use Rattle.std.specs.Prelude.{Ok, Err}
use Rattle.image_device.specs.Image.{Image}
use Rattle.image_device.specs.Runs.{LeavesOnly}
use Rattle.tsd_words.specs.declared.status.Status.TheVariants as status
use Rattle.serving.specs.Voice.{spoken}
use Rattle.gathering.specs.Gathered.{cleared}
use Rattle.gathering_runs.specs.Promise.{IsLeftByRun}
use Rattle.gathering_runs.specs.Sent.{IsSentBy}
use Rattle.gathering_runs.specs.Turns.{HandsOut, Turned, waits_by}
use Rattle.gathering_runs.proofs.Handing.{behind_first, behind_waiting, hands_none, hands_then}
use Rattle.serving.specs.Goes.{unread}
use Rattle.gathering_runs.proofs.Outcome.{counts_ok, ok_is, ok_is_if}
use Rattle.serving.specs.Prompt.{IsOfPort, mark}
use Rattle.gathering_runs.specs.ByTurns.{AnswersByTurns}
use Rattle.gathering_runs.proofs.ByTurns.{AllTurns, no_turns, turn_then, turns_err, turns_ok}
use Rattle.gathering_runs.proofs.Turning.{Went, later_mere, left_then, sent_turned, turned_err, turned_ok, went, went_between, went_then}
use Rattle.gathering_runs.proofs.turns.serve_in_hand.Goals as goal

pub loop-disk-init : goal.loop-disk-init
loop-disk-init g c = record {
  aside = refl;
  ready = c.requires.ready;
  between = c.requires.between;
  fewer = omega arith;
  faults = refl;
  put_faults = refl;
  goes = (
    [],
    [],
    refl,
    hands_none g.R.Protocol.spelling _ _,
    λ told.
        let b = c.requires.between told in
        went_between (spoken g.H.Handler.rules g.R.Replies.voice) (g.H.Handler.aside c.args.server.now) (λ s x y has. g.met.H.GroupHandler.alike s x y has) _ (g.P.Device.view c.args.disk.port) c.args.disk.ring (g.met.P.Device.sound c.args.disk.port told) b.firm b.ring_at (g.met.H.Handler.stands_now c.args.server.now _ b.held),
    λ told. no_turns (spoken g.H.Handler.rules g.R.Replies.voice) g.H.Handler.work g.H.GroupHandler.may_wait (IsOfPort g.P.Device.view) _ _ _ _ refl refl,
  );
}

pub loop-disk-preserved : goal.loop-disk-preserved
loop-disk-preserved g c =
    let i = c.loop-disk.invariant in
    let was = i.goes in
    let r = c.serve_turn-left.result.1 in
    let e = c.serve_turn-left.ensures in
    let did = e.did in
    let k = spoken g.H.Handler.rules g.R.Replies.voice in
    let sp = g.R.Protocol.spelling in
    let fed0 = λ (x : List ℕ). g.R.Protocol.was_fed x c.args.protocol.now in
    let fed1 = λ (x : List ℕ). g.R.Protocol.was_fed x c.loop-disk.protocol in
    let fed2 = λ (x : List ℕ). g.R.Protocol.was_fed x c.serve_turn-left.new.protocol in
    let next = c.serve_turn-left.new.request in
    let ok : r ≡ Ok true = c.in-Ok-true.is ∙ ap (λ b. Ok b) c.in-Ok-true.field-0-test in
    let handed = subst (λ t. HandsOut sp fed1 fed2 c.loop-disk.intake c.serve_turn-left.new.intake (did.0 ++ waits_by t next)) ok did.1 in
    record {
      aside = e.aside ∙ i.aside;
      ready = ok_is r true ok e.ready;
      between = λ told. ok_is r true ok (e.between told);
      fewer = omega (arith, e.fewer, i.fewer);
      faults = counts_ok status.DeviceFault r true _ _ ok e.device_fault ∙ i.faults;
      put_faults = counts_ok status.PutFault r true _ _ ok e.put_fault ∙ i.put_faults;
      goes = (
        was.0 ++ c.loop-disk.request ∷ did.0,
        was.1 ++ (did.0 ++ next ∷ []),
        behind_waiting c.args.request.now c.loop-disk.request next was.1 was.0 did.0 was.2,
        hands_then sp fed0 fed1 fed2 c.args.intake.now c.loop-disk.intake c.serve_turn-left.new.intake was.1 (did.0 ++ next ∷ []) was.3 handed,
        λ told.
            went_then k (g.H.Handler.aside c.args.server.now) _ _ _ (g.P.Device.view c.args.disk.port) (g.P.Device.view c.loop-disk.disk.port) (g.P.Device.view c.serve_turn-left.result.0.port) was.0 (c.loop-disk.request ∷ did.0) (was.4 told)
            (went k (g.H.Handler.aside c.args.server.now) r true _ _ _ _ (c.loop-disk.request ∷ did.0) ok
            (subst (λ (p : Image → Image). Turned r k p (g.H.Handler.state c.loop-disk.server (cleared (g.P.Device.view c.loop-disk.disk.port).reads)) (g.H.Handler.state c.serve_turn-left.new.server (cleared (g.P.Device.view c.serve_turn-left.result.0.port).reads)) (g.P.Device.view c.loop-disk.disk.port) (g.P.Device.view c.serve_turn-left.result.0.port) (c.loop-disk.request ∷ did.0)) i.aside (did.2 told))),
        λ told.
            turn_then k g.H.Handler.work g.H.GroupHandler.may_wait (IsOfPort g.P.Device.view) (g.H.Handler.state c.args.server.now (cleared (g.P.Device.view c.args.disk.port).reads)) (g.H.Handler.state c.loop-disk.server (cleared (g.P.Device.view c.loop-disk.disk.port).reads)) (g.H.Handler.state c.serve_turn-left.new.server (cleared (g.P.Device.view c.serve_turn-left.result.0.port).reads)) was.0 (c.loop-disk.request ∷ did.0) (mark (g.P.Device.view c.args.disk.port)) (mark (g.P.Device.view c.loop-disk.disk.port)) (mark (g.P.Device.view c.serve_turn-left.result.0.port)) (was.5 told)
            (ok_is r true ok (did.3 told)),
      );
    }

pub returns-in-Ok-false-clause-did : goal.returns-in-Ok-false-clause-did
returns-in-Ok-false-clause-did g c =
    let i = c.loop-disk.invariant in
    let was = i.goes in
    let r = c.serve_turn-left.result.1 in
    let e = c.serve_turn-left.ensures in
    let did = e.did in
    let k = spoken g.H.Handler.rules g.R.Replies.voice in
    let sp = g.R.Protocol.spelling in
    let fed0 = λ (x : List ℕ). g.R.Protocol.was_fed x c.args.protocol.now in
    let fed1 = λ (x : List ℕ). g.R.Protocol.was_fed x c.loop-disk.protocol in
    let fed2 = λ (x : List ℕ). g.R.Protocol.was_fed x c.serve_turn-left.new.protocol in
    let next = c.serve_turn-left.new.request in
    let ok : r ≡ Ok false = c.in-Ok-false.is ∙ ap (λ b. Ok b) c.in-Ok-false.field-0-test in
    let part = g.H.Handler.aside c.args.server.now in
    let v0 = g.P.Device.view c.args.disk.port in
    let v1 = g.P.Device.view c.loop-disk.disk.port in
    let v2 = g.P.Device.view c.serve_turn-left.result.0.port in
    let s1 = g.H.Handler.state c.loop-disk.server (cleared v1.reads) in
    let s2 = g.H.Handler.state c.serve_turn-left.new.server (cleared v2.reads) in
    let s0 = g.H.Handler.state c.args.server.now (cleared v0.reads) in
    let q = c.loop-disk.request in (
      was.1 ++ did.0,
      hands_then sp fed0 fed1 fed2 c.args.intake.now c.loop-disk.intake c.serve_turn-left.new.intake was.1 did.0 was.3
          (subst (λ l. HandsOut sp fed1 fed2 c.loop-disk.intake c.serve_turn-left.new.intake l) (append-nil did.0)
          (subst (λ t. HandsOut sp fed1 fed2 c.loop-disk.intake c.serve_turn-left.new.intake (did.0 ++ waits_by t next)) ok did.1)),
      λ told.
          turned_ok k part tt s0 s2 v0 v2 (c.args.request.now ∷ (was.1 ++ did.0))
          (subst (λ l. Went k part s0 s2 v0 v2 l) (sym (behind_first c.args.request.now q was.1 was.0 did.0 was.2))
          (went_then k part s0 s1 s2 v0 v1 v2 was.0 (q ∷ did.0) (was.4 told)
          (went k part r false s1 s2 v1 v2 (q ∷ did.0) ok (subst (λ (p : Image → Image). Turned r k p s1 s2 v1 v2 (q ∷ did.0)) i.aside (did.2 told))))),
      λ told.
          turns_ok k g.H.Handler.work g.H.GroupHandler.may_wait (IsOfPort g.P.Device.view) tt s0 s2 (c.args.request.now ∷ (was.1 ++ did.0)) (mark v0) (mark v2)
          (subst (λ l. AllTurns k g.H.Handler.work g.H.GroupHandler.may_wait (IsOfPort g.P.Device.view) s0 s2 l (mark v0) (mark v2)) (sym (behind_first c.args.request.now q was.1 was.0 did.0 was.2))
          (turn_then k g.H.Handler.work g.H.GroupHandler.may_wait (IsOfPort g.P.Device.view) s0 s1 s2 was.0 (q ∷ did.0) (mark v0) (mark v1) (mark v2) (was.5 told) (ok_is r false ok (did.3 told)))),
    )

pub returns-in-Err-clause-did : goal.returns-in-Err-clause-did
returns-in-Err-clause-did g c =
    let i = c.loop-disk.invariant in
    let was = i.goes in
    let r = c.serve_turn-left.result.1 in
    let e = c.serve_turn-left.ensures in
    let did = e.did in
    let k = spoken g.H.Handler.rules g.R.Replies.voice in
    let sp = g.R.Protocol.spelling in
    let fed0 = λ (x : List ℕ). g.R.Protocol.was_fed x c.args.protocol.now in
    let fed1 = λ (x : List ℕ). g.R.Protocol.was_fed x c.loop-disk.protocol in
    let fed2 = λ (x : List ℕ). g.R.Protocol.was_fed x c.serve_turn-left.new.protocol in
    let next = c.serve_turn-left.new.request in
    let part = g.H.Handler.aside c.args.server.now in
    let v0 = g.P.Device.view c.args.disk.port in
    let v1 = g.P.Device.view c.loop-disk.disk.port in
    let v2 = g.P.Device.view c.serve_turn-left.result.0.port in
    let s1 = g.H.Handler.state c.loop-disk.server (cleared v1.reads) in
    let s2 = g.H.Handler.state c.serve_turn-left.new.server (cleared v2.reads) in
    let s0 = g.H.Handler.state c.args.server.now (cleared v0.reads) in
    let q = c.loop-disk.request in (
      was.1 ++ did.0,
      hands_then sp fed0 fed1 fed2 c.args.intake.now c.loop-disk.intake c.serve_turn-left.new.intake was.1 did.0 was.3
          (subst (λ l. HandsOut sp fed1 fed2 c.loop-disk.intake c.serve_turn-left.new.intake l) (append-nil did.0)
          (subst (λ t. HandsOut sp fed1 fed2 c.loop-disk.intake c.serve_turn-left.new.intake (did.0 ++ waits_by t next)) c.in-Err.is did.1)),
      λ told.
          turned_err k part c.in-Err.why s0 s2 v0 v2 (c.args.request.now ∷ (was.1 ++ did.0))
          (subst (λ l. IsSentBy c.in-Err.why k s0 v0.sent l v2.sent) (sym (behind_first c.args.request.now q was.1 was.0 did.0 was.2))
          (sent_turned k part r c.in-Err.why s0 s1 s2 v0 v1 v2 was.0 (q ∷ did.0) c.in-Err.is (was.4 told) (subst (λ (p : Image → Image). Turned r k p s1 s2 v1 v2 (q ∷ did.0)) i.aside (did.2 told))))
          (subst (λ l. ∥ LeavesOnly v0 v2 (IsLeftByRun k part s0 v0 l) ∥₁) (sym (behind_first c.args.request.now q was.1 was.0 did.0 was.2))
          (left_then k part s0 s1 v0 v1 v2 was.0 (q ∷ did.0) (was.4 told) (subst (λ (p : Image → Image). Turned r k p s1 s2 v1 v2 (q ∷ did.0)) i.aside (did.2 told)).any_moment)),
      λ told.
          subst (λ l. AnswersByTurns {T = Unit {0}} (Err c.in-Err.why) k g.H.Handler.work g.H.GroupHandler.may_wait (IsOfPort g.P.Device.view) s0 s2 l (mark v0) (mark v2)) (sym (behind_first c.args.request.now q was.1 was.0 did.0 was.2))
          (turns_err k g.H.Handler.work g.H.GroupHandler.may_wait (IsOfPort g.P.Device.view) c.in-Err.why s0 s1 s2 was.0 (q ∷ did.0) (mark v0) (mark v1) (mark v2) (was.5 told) (later_mere v1 v2 _ (did.2 told).any_moment)),
    )

pub returns-in-Ok-false-clause-read : goal.returns-in-Ok-false-clause-read
returns-in-Ok-false-clause-read g c over =
    let was = c.loop-disk.invariant.goes in
    let r = c.serve_turn-left.result.1 in
    let ok : r ≡ Ok false = c.in-Ok-false.is ∙ ap (λ b. Ok b) c.in-Ok-false.field-0-test in
    ok_is_if (λ waits. waits ≡ false → c.loop-disk.intake.over ≡ false → unread c.serve_turn-left.new.intake ≡ []) r false ok c.serve_turn-left.ensures.read refl (was.3.over ∙ over)
