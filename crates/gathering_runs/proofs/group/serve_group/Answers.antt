use Rattle.std.proofs.Common.{◌≡◌, ◌⊎◌, ◌∷◌, ◌++◌, [], inl, inr, false, refl, sym, ◌∙◌, ap, subst, append-nil}
use Rattle.std.specs.Prelude.{Err}
use Rattle.serving.specs.Voice.{spoken}
use Rattle.gathering.specs.Gathered.{cleared, gathered_view}
use Rattle.gathering_runs.specs.Turns.{HandsOut, status_by, waits_by}
use Rattle.gathering_runs.proofs.Carried.{to_next}
use Rattle.gathering_runs.proofs.Grouped.{gathered_badly, gathered_well, left_flushed, left_given_up, sent_by_flush, went_flushed}
use Rattle.gathering_runs.specs.Sent.{IsSentBy}
use Rattle.gathering_runs.proofs.Sent.{sent_given_up, sent_none, unsent_by}
use Rattle.serving.specs.Goes.{unread}
use Rattle.gathering_runs.proofs.Reclaiming.{leaves_flushed}
use Rattle.gathering_runs.proofs.Outcome.{err_is, ok_by, ok_is, ok_is_if, ok_or_err}
use Rattle.gathering_runs.proofs.Turning.{turned_err, turned_ok}
use Rattle.gathering_runs.proofs.group.serve_group.Goals as goal

pub returns-in-Ok-clause-did : goal.returns-in-Ok-clause-did
returns-in-Ok-clause-did g c =
    let start = g.K.Began.start in
    let e0 = c.new-gathering.ensures in
    let e1 = c.gather-gathered.ensures in
    let e2 = c.flush-inner.ensures in
    let m = c.gather-gathered.new.port in
    let v = gathered_view start m.group.past.events m.faults m.put_faults m.writes in
    let new = g.P.Device.view c.flush-inner.result.inner in
    let h0 = c.args.server.now in
    let h1 = c.gather-gathered.new.server in
    let k = spoken g.H.Handler.rules g.R.Replies.voice in
    let done = e1.did.0 in
    let q = c.args.request.now in
    let next = c.gather-gathered.new.request in
    let whole = ok_is c.flush-inner.result.result _ c.in-Ok.is e2.whole in
    let well = gathered_well c.gather-gathered.result _ _ _ _ e0.faults e0.put_faults whole.0 whole.1 e1.failed in
    let was = ok_by c.gather-gathered.result well.0 c.unwrap_or.result false well.1 c.unwrap_or.ensures in
    let went_so = λ (told : g.P.Device.told).
    let at = ok_is c.gather-gathered.result _ well.1 (e1.at told) in
    let closed = ok_is c.gather-gathered.result _ well.1 (e1.closed told) in
    let flushed = ok_is c.flush-inner.result.result _ c.in-Ok.is (e2.done told) in
    let over = to_next (g.H.Handler.holds h1) (g.H.Handler.state h1) (g.met.H.GroupHandler.carried h1) v.reads new.reads at.1 closed flushed in
    went_flushed k (g.H.Handler.aside h0) start v new (λ s x y has. g.met.H.GroupHandler.alike s x y has) (λ x y has. g.met.H.GroupHandler.aside_alike h0 x y has) (g.H.Handler.state h0 (cleared start.reads)) (g.met.H.Handler.stands_now h0 (cleared start.reads) (c.requires.between told).held) (q ∷ done) []
    (g.H.Handler.state h1 v.reads) _ e0.reads _ e0.sent _ (ap (λ x. g.H.Handler.state h0 x) e0.reads) (ok_is c.gather-gathered.result _ well.1 (e1.did.2 told)).served (g.met.H.Handler.stands_now h1 v.reads at.1) closed (ok_is c.gather-gathered.result _ well.1 (e1.part told))
    (g.H.Handler.state h1 (cleared new.reads)) c.flush-inner.result.ring refl (e2.any_moment told) flushed (ok_is c.flush-inner.result.result _ c.in-Ok.is (e2.at told)) (ok_is c.flush-inner.result.result _ c.in-Ok.is (e2.sent told)) over.1 in (
      done,
      subst (λ r. HandsOut g.R.Protocol.spelling (λ x. g.R.Protocol.was_fed x c.args.protocol.now) (λ x. g.R.Protocol.was_fed x c.gather-gathered.new.protocol) c.args.intake.now c.gather-gathered.new.intake (done ++ waits_by r next)) was e1.did.1,
      λ told. turned_ok k (g.H.Handler.aside h0) _ _ _ start new (q ∷ done) (went_so told),
      λ told.
          let at = ok_is c.gather-gathered.result _ well.1 (e1.at told) in
          let closed = ok_is c.gather-gathered.result _ well.1 (e1.closed told) in
          let flushed = ok_is c.flush-inner.result.result _ c.in-Ok.is (e2.done told) in
          let over = to_next (g.H.Handler.holds h1) (g.H.Handler.state h1) (g.met.H.GroupHandler.carried h1) v.reads new.reads at.1 closed flushed in
          leaves_flushed k g.H.Handler.work _ (g.H.Handler.state h0 (cleared start.reads)) (g.H.Handler.state h1 v.reads) (g.H.Handler.state h1 (cleared new.reads)) _ start.sent v.sent new.sent (q ∷ done) (g.H.GroupHandler.owed h0) (g.H.GroupHandler.owed h1) c.gather-gathered.new.lacking
          (ok_is c.gather-gathered.result _ well.1 (e1.did.2 told)) (ap (λ x. g.H.Handler.state h0 x) e0.reads) (sym over.1) e0.sent (sym (ok_is c.flush-inner.result.result _ c.in-Ok.is (e2.sent told))),
    )

pub returns-in-Ok-clause-between : goal.returns-in-Ok-clause-between
returns-in-Ok-clause-between g c told =
    let start = g.K.Began.start in
    let e0 = c.new-gathering.ensures in
    let e1 = c.gather-gathered.ensures in
    let e2 = c.flush-inner.ensures in
    let m = c.gather-gathered.new.port in
    let v = gathered_view start m.group.past.events m.faults m.put_faults m.writes in
    let new = g.P.Device.view c.flush-inner.result.inner in
    let h1 = c.gather-gathered.new.server in
    let whole = ok_is c.flush-inner.result.result _ c.in-Ok.is e2.whole in
    let well = gathered_well c.gather-gathered.result _ _ _ _ e0.faults e0.put_faults whole.0 whole.1 e1.failed in
    let at = ok_is c.gather-gathered.result _ well.1 (e1.at told) in
    let closed = ok_is c.gather-gathered.result _ well.1 (e1.closed told) in
    let flushed = ok_is c.flush-inner.result.result _ c.in-Ok.is (e2.done told) in
    record {
      firm = ok_is c.flush-inner.result.result _ c.in-Ok.is (e2.firm told);
      ring_at = ok_is c.flush-inner.result.result _ c.in-Ok.is (e2.at told);
      held = (to_next (g.H.Handler.holds h1) (g.H.Handler.state h1) (g.met.H.GroupHandler.carried h1) v.reads new.reads at.1 closed flushed).0;
    }

pub returns-in-Err-clause-did : goal.returns-in-Err-clause-did
returns-in-Err-clause-did g c =
    let start = g.K.Began.start in
    let e0 = c.new-gathering.ensures in
    let e1 = c.gather-gathered.ensures in
    let e2 = c.flush-inner.ensures in
    let m = c.gather-gathered.new.port in
    let v = gathered_view start m.group.past.events m.faults m.put_faults m.writes in
    let new = g.P.Device.view c.flush-inner.result.inner in
    let h0 = c.args.server.now in
    let h1 = c.gather-gathered.new.server in
    let k = spoken g.H.Handler.rules g.R.Replies.voice in
    let done = e1.did.0 in
    let q = c.args.request.now in
    let next = c.gather-gathered.new.request in
    let more = waits_by c.gather-gathered.result next in
    let s = g.H.Handler.state h0 (cleared start.reads) in (
      done ++ more,
      subst (λ l. HandsOut g.R.Protocol.spelling (λ x. g.R.Protocol.was_fed x c.args.protocol.now) (λ x. g.R.Protocol.was_fed x c.gather-gathered.new.protocol) c.args.intake.now c.gather-gathered.new.intake l) (sym (append-nil (done ++ more))) e1.did.1,
      λ told.
          let held = g.met.H.Handler.stands_now h0 (cleared start.reads) (c.requires.between told).held in
          turned_err k (g.H.Handler.aside h0) _ _ _ start new (q ∷ (done ++ more))
          (subst (λ w. IsSentBy w k s start.sent (q ∷ (done ++ more)) new.sent) (sym c.status_of.ensures)
          (elim (ok_or_err c.gather-gathered.result) [
            | inl ok ↦
                sent_by_flush k (g.H.Handler.aside h0) start v new (λ u x y has. g.met.H.GroupHandler.alike u x y has) (λ x y has. g.met.H.GroupHandler.aside_alike h0 x y has) s held (q ∷ done) more
                (g.H.Handler.state h1 v.reads) _ e0.reads _ e0.sent _ (ap (λ x. g.H.Handler.state h0 x) e0.reads) (ok_is c.gather-gathered.result _ ok.1 (e1.did.2 told)).served (g.met.H.Handler.stands_now h1 v.reads (ok_is c.gather-gathered.result _ ok.1 (e1.at told)).1) (ok_is c.gather-gathered.result _ ok.1 (e1.closed told)) (ok_is c.gather-gathered.result _ ok.1 (e1.part told))
                c.in-Err.fault (unsent_by c.flush-inner.result.result c.in-Err.fault c.in-Err.is (e2.unsent told)) (λ put. e2.put_sent told (c.in-Err.is ∙ ap (λ x. Err x) put))
            | inr bad ↦
                sent_none k (status_by c.in-Err.fault) s start.sent new.sent (q ∷ (done ++ more)) (sent_given_up start new (g.met.P.Device.sound c.flush-inner.result.inner told)
                (e2.given_up told (gathered_badly _ _ _ _ e0.faults e0.put_faults (err_is c.gather-gathered.result _ bad.1 e1.failed))))
          ]))
          (elim (ok_or_err c.gather-gathered.result) [
            | inl ok ↦
                left_flushed k (g.H.Handler.aside h0) start v new (λ u x y has. g.met.H.GroupHandler.alike u x y has) (λ x y has. g.met.H.GroupHandler.aside_alike h0 x y has) s held (q ∷ done) more
                (g.H.Handler.state h1 v.reads) _ e0.reads _ e0.sent _ (ap (λ x. g.H.Handler.state h0 x) e0.reads) (ok_is c.gather-gathered.result _ ok.1 (e1.did.2 told)).served (g.met.H.Handler.stands_now h1 v.reads (ok_is c.gather-gathered.result _ ok.1 (e1.at told)).1) (ok_is c.gather-gathered.result _ ok.1 (e1.closed told)) (ok_is c.gather-gathered.result _ ok.1 (e1.part told)) (e2.any_moment told)
            | inr bad ↦
                left_given_up k (g.H.Handler.aside h0) start v new (λ u x y has. g.met.H.GroupHandler.alike u x y has) (λ x y has. g.met.H.GroupHandler.aside_alike h0 x y has) s held (q ∷ done) more
                (e2.given_up told (gathered_badly _ _ _ _ e0.faults e0.put_faults (err_is c.gather-gathered.result _ bad.1 e1.failed)))
          ]),
      λ told. tt,
    )

pub returns-in-Ok-clause-read : goal.returns-in-Ok-clause-read
returns-in-Ok-clause-read g c =
    let e0 = c.new-gathering.ensures in
    let e1 = c.gather-gathered.ensures in
    let whole = ok_is c.flush-inner.result.result _ c.in-Ok.is c.flush-inner.ensures.whole in
    let well = gathered_well c.gather-gathered.result _ _ _ _ e0.faults e0.put_faults whole.0 whole.1 e1.failed in
    let was = ok_by c.gather-gathered.result well.0 c.unwrap_or.result false well.1 c.unwrap_or.ensures in
    ok_is_if (λ waits. waits ≡ false → c.args.intake.now.over ≡ false → unread c.gather-gathered.new.intake ≡ []) c.gather-gathered.result c.unwrap_or.result was e1.read

pub returns-in-Ok-clause-lacks : goal.returns-in-Ok-clause-lacks
returns-in-Ok-clause-lacks g c =
    let e0 = c.new-gathering.ensures in
    let e1 = c.gather-gathered.ensures in
    let whole = ok_is c.flush-inner.result.result _ c.in-Ok.is c.flush-inner.ensures.whole in
    let well = gathered_well c.gather-gathered.result _ _ _ _ e0.faults e0.put_faults whole.0 whole.1 e1.failed in
    ok_is c.gather-gathered.result _ well.1 e1.lacks
