use Rattle.std.proofs.Common.{◌⊎◌, ◌≤◌, ◌<◌, ◌+◌, ◌-◌, ℕ, [], inl, inr, refl, sym, ◌∙◌, ap, subst, arith, append-nil}
use Rattle.std.specs.Prelude.{Result, Ok, Err, OnErr}
use Rattle.image_device.specs.Counts.{CountsFault, Rose}
use Rattle.serving.specs.Voice.{spoken}
use Rattle.gathering.specs.Gathered.{cleared, gathered_view}
use Rattle.gathering_runs.proofs.Carried.{to_next}
use Rattle.gathering_runs.proofs.Grouped.{gathered_badly, gathered_well, left_flushed, left_given_up, sent_by_flush, went_flushed}
use Rattle.gathering_runs.proofs.Outcome.{err_is, ok_by, ok_is, ok_is_if, ok_or_err}
use Rattle.gathering_runs.specs.Sent.{IsSentBy}
use Rattle.gathering_runs.specs.Turns.{status_by}
use Rattle.gathering_runs.proofs.Sent.{sent_given_up, sent_none, unsent_by}
use Rattle.gathering_runs.proofs.Reclaiming.{owed_between}
use Rattle.gathering_runs.proofs.Turning.{turned_err, turned_ok}
use Rattle.gathering_runs.proofs.settle.settle_group.Goals as goal

failed_of : {T E : Type 0} (P : Type 0) (r : Result T E) (before now : ℕ) → CountsFault r before now → OnErr r (Rose before now ⊎ P)
failed_of P (Ok x) before now counts = tt
failed_of P (Err e) before now counts = inl counts

pub returns-in-Ok-clause-did : goal.returns-in-Ok-clause-did
returns-in-Ok-clause-did g c told =
    let start = g.K.Began.start in
    let e0 = c.new-gathering.ensures in
    let e1 = c.settle_first-settled.ensures in
    let e2 = c.flush-inner.ensures in
    let r = c.settle_first-settled.result in
    let m = c.settle_first-settled.new.port in
    let v = gathered_view start m.group.past.events m.faults m.put_faults m.writes in
    let new = g.P.Device.view c.flush-inner.result.inner in
    let h0 = c.args.server.now in
    let h1 = c.settle_first-settled.new.server in
    let k = spoken g.H.Handler.rules g.R.Replies.voice in
    let whole = ok_is c.flush-inner.result.result _ c.in-Ok.is e2.whole in
    let well = gathered_well r _ _ _ _ e0.faults e0.put_faults whole.0 whole.1 (failed_of _ r _ _ e1.faults) in
    let at = ok_is r _ well.1 (e1.at told) in
    let closed = ok_is r _ well.1 (e1.closed told) in
    let flushed = ok_is c.flush-inner.result.result _ c.in-Ok.is (e2.done told) in
    let over = to_next (g.H.Handler.holds h1) (g.H.Handler.state h1) (g.met.H.GroupHandler.carried h1) v.reads new.reads at.1 closed flushed in
    turned_ok k (g.H.Handler.aside h0) _ _ _ start new []
    (went_flushed k (g.H.Handler.aside h0) start v new (λ s x y has. g.met.H.GroupHandler.alike s x y has) (λ x y has. g.met.H.GroupHandler.aside_alike h0 x y has) (g.H.Handler.state h0 (cleared start.reads)) (g.met.H.Handler.stands_now h0 (cleared start.reads) (c.requires.between told).held) [] []
    (g.H.Handler.state h1 v.reads) _ e0.reads _ e0.sent _ (ap (λ x. g.H.Handler.state h0 x) e0.reads) (record { answers = []; run = sym (ok_is r _ well.1 (e1.state told)); sent = ok_is r _ well.1 (e1.sent told) ∙ sym (append-nil _) }) (g.met.H.Handler.stands_now h1 v.reads at.1) closed (ok_is r _ well.1 (e1.part told))
    (g.H.Handler.state h1 (cleared new.reads)) c.flush-inner.result.ring refl (e2.any_moment told) flushed (ok_is c.flush-inner.result.result _ c.in-Ok.is (e2.at told)) (ok_is c.flush-inner.result.result _ c.in-Ok.is (e2.sent told)) over.1)

pub returns-in-Ok-clause-ready : goal.returns-in-Ok-clause-ready
returns-in-Ok-clause-ready g c =
    let e0 = c.new-gathering.ensures in
    let e1 = c.settle_first-settled.ensures in
    let whole = ok_is c.flush-inner.result.result _ c.in-Ok.is c.flush-inner.ensures.whole in
    ok_is c.settle_first-settled.result _ (gathered_well c.settle_first-settled.result _ _ _ _ e0.faults e0.put_faults whole.0 whole.1 (failed_of _ c.settle_first-settled.result _ _ e1.faults)).1 e1.ready

pub returns-in-Ok-clause-between : goal.returns-in-Ok-clause-between
returns-in-Ok-clause-between g c told =
    let start = g.K.Began.start in
    let e0 = c.new-gathering.ensures in
    let e1 = c.settle_first-settled.ensures in
    let e2 = c.flush-inner.ensures in
    let r = c.settle_first-settled.result in
    let m = c.settle_first-settled.new.port in
    let v = gathered_view start m.group.past.events m.faults m.put_faults m.writes in
    let new = g.P.Device.view c.flush-inner.result.inner in
    let h1 = c.settle_first-settled.new.server in
    let whole = ok_is c.flush-inner.result.result _ c.in-Ok.is e2.whole in
    let well = gathered_well r _ _ _ _ e0.faults e0.put_faults whole.0 whole.1 (failed_of _ r _ _ e1.faults) in
    let at = ok_is r _ well.1 (e1.at told) in
    let closed = ok_is r _ well.1 (e1.closed told) in
    let flushed = ok_is c.flush-inner.result.result _ c.in-Ok.is (e2.done told) in
    record {
      firm = ok_is c.flush-inner.result.result _ c.in-Ok.is (e2.firm told);
      ring_at = ok_is c.flush-inner.result.result _ c.in-Ok.is (e2.at told);
      held = (to_next (g.H.Handler.holds h1) (g.H.Handler.state h1) (g.met.H.GroupHandler.carried h1) v.reads new.reads at.1 closed flushed).0;
    }

pub returns-in-Err-clause-did : goal.returns-in-Err-clause-did
returns-in-Err-clause-did g c told =
    let start = g.K.Began.start in
    let e0 = c.new-gathering.ensures in
    let e1 = c.settle_first-settled.ensures in
    let e2 = c.flush-inner.ensures in
    let r = c.settle_first-settled.result in
    let m = c.settle_first-settled.new.port in
    let v = gathered_view start m.group.past.events m.faults m.put_faults m.writes in
    let new = g.P.Device.view c.flush-inner.result.inner in
    let h0 = c.args.server.now in
    let h1 = c.settle_first-settled.new.server in
    let k = spoken g.H.Handler.rules g.R.Replies.voice in
    let s = g.H.Handler.state h0 (cleared start.reads) in
    let held = g.met.H.Handler.stands_now h0 (cleared start.reads) (c.requires.between told).held in
    turned_err k (g.H.Handler.aside h0) _ _ _ start new []
    (subst (λ w. IsSentBy w k s start.sent [] new.sent) (sym c.status_of.ensures)
    (elim (ok_or_err r) [
      | inl ok ↦
          sent_by_flush k (g.H.Handler.aside h0) start v new (λ u x y has. g.met.H.GroupHandler.alike u x y has) (λ x y has. g.met.H.GroupHandler.aside_alike h0 x y has) s held [] []
          (g.H.Handler.state h1 v.reads) _ e0.reads _ e0.sent _ (ap (λ x. g.H.Handler.state h0 x) e0.reads) (record { answers = []; run = sym (ok_is r _ ok.1 (e1.state told)); sent = ok_is r _ ok.1 (e1.sent told) ∙ sym (append-nil _) }) (g.met.H.Handler.stands_now h1 v.reads (ok_is r _ ok.1 (e1.at told)).1) (ok_is r _ ok.1 (e1.closed told)) (ok_is r _ ok.1 (e1.part told))
          c.in-Err.fault (unsent_by c.flush-inner.result.result c.in-Err.fault c.in-Err.is (e2.unsent told)) (λ put. e2.put_sent told (c.in-Err.is ∙ ap (λ x. Err x) put))
      | inr bad ↦
          sent_none k (status_by c.in-Err.fault) s start.sent new.sent [] (sent_given_up start new (g.met.P.Device.sound c.flush-inner.result.inner told)
          (e2.given_up told (gathered_badly _ _ _ _ e0.faults e0.put_faults (err_is r _ bad.1 (failed_of _ r _ _ e1.faults)))))
    ]))
    (elim (ok_or_err r) [
      | inl ok ↦
          left_flushed k (g.H.Handler.aside h0) start v new (λ u x y has. g.met.H.GroupHandler.alike u x y has) (λ x y has. g.met.H.GroupHandler.aside_alike h0 x y has) s held [] []
          (g.H.Handler.state h1 v.reads) _ e0.reads _ e0.sent _ (ap (λ x. g.H.Handler.state h0 x) e0.reads) (record { answers = []; run = sym (ok_is r _ ok.1 (e1.state told)); sent = ok_is r _ ok.1 (e1.sent told) ∙ sym (append-nil _) }) (g.met.H.Handler.stands_now h1 v.reads (ok_is r _ ok.1 (e1.at told)).1) (ok_is r _ ok.1 (e1.closed told)) (ok_is r _ ok.1 (e1.part told)) (e2.any_moment told)
      | inr bad ↦
          left_given_up k (g.H.Handler.aside h0) start v new (λ u x y has. g.met.H.GroupHandler.alike u x y has) (λ x y has. g.met.H.GroupHandler.aside_alike h0 x y has) s held [] []
          (e2.given_up told (gathered_badly _ _ _ _ e0.faults e0.put_faults (err_is r _ bad.1 (failed_of _ r _ _ e1.faults))))
    ])

pub returns-in-Ok-clause-group : goal.returns-in-Ok-clause-group
returns-in-Ok-clause-group g c told =
    let start = g.K.Began.start in
    let e0 = c.new-gathering.ensures in
    let e1 = c.settle_first-settled.ensures in
    let e2 = c.flush-inner.ensures in
    let r = c.settle_first-settled.result in
    let new = g.P.Device.view c.flush-inner.result.inner in
    let h0 = c.args.server.now in
    let h1 = c.settle_first-settled.new.server in
    let whole = ok_is c.flush-inner.result.result _ c.in-Ok.is e2.whole in
    let well = gathered_well r _ _ _ _ e0.faults e0.put_faults whole.0 whole.1 (failed_of _ r _ _ e1.faults) in
    let before = owed_between (g.H.Handler.holds h0) g.H.Handler.work.debt (g.H.GroupHandler.owed h0) (g.met.H.GroupHandler.owes h0) (g.met.H.GroupHandler.owed_alike h0) _ start (c.requires.between told) in
    let behind = owed_between (g.H.Handler.holds h1) g.H.Handler.work.debt (g.H.GroupHandler.owed h1) (g.met.H.GroupHandler.owes h1) (g.met.H.GroupHandler.owed_alike h1) _ new (returns-in-Ok-clause-between g c told) in
    record {
      of_port = (c.flush-inner.result.inner, refl);
      nothing_sent = ok_is c.flush-inner.result.result _ c.in-Ok.is (e2.sent told) ∙ ok_is r _ well.1 (e1.sent told) ∙ e0.sent;
      writes = (e2.later, e2.bounded);
      lowered = let less = ok_is r _ well.1 e1.lowered in omega (arith, less, before, behind);
    }

pub returns-in-Ok-clause-lowered : goal.returns-in-Ok-clause-lowered
returns-in-Ok-clause-lowered g c =
    let e0 = c.new-gathering.ensures in
    let e1 = c.settle_first-settled.ensures in
    let whole = ok_is c.flush-inner.result.result _ c.in-Ok.is c.flush-inner.ensures.whole in
    ok_is c.settle_first-settled.result _ (gathered_well c.settle_first-settled.result _ _ _ _ e0.faults e0.put_faults whole.0 whole.1 (failed_of _ c.settle_first-settled.result _ _ e1.faults)).1 e1.lowered

pub returns-in-Ok-clause-less : goal.returns-in-Ok-clause-less
returns-in-Ok-clause-less g c =
    let e0 = c.new-gathering.ensures in
    let e1 = c.settle_first-settled.ensures in
    let r = c.settle_first-settled.result in
    let whole = ok_is c.flush-inner.result.result _ c.in-Ok.is c.flush-inner.ensures.whole in
    let well = gathered_well r _ _ _ _ e0.faults e0.put_faults whole.0 whole.1 (failed_of _ r _ _ e1.faults) in
    ok_is_if (λ lack. g.H.GroupHandler.owed c.settle_first-settled.new.server ≤ g.H.GroupHandler.owed c.args.server.now + lack - c.args.most) r c.unwrap_or.result (ok_by r well.0 c.unwrap_or.result 0 well.1 c.unwrap_or.ensures) e1.less

pub returns-in-Ok-clause-fewer : goal.returns-in-Ok-clause-fewer
returns-in-Ok-clause-fewer g c =
    let e0 = c.new-gathering.ensures in
    let e1 = c.settle_first-settled.ensures in
    let r = c.settle_first-settled.result in
    let whole = ok_is c.flush-inner.result.result _ c.in-Ok.is c.flush-inner.ensures.whole in
    let well = gathered_well r _ _ _ _ e0.faults e0.put_faults whole.0 whole.1 (failed_of _ r _ _ e1.faults) in
    ok_is_if (λ lack. lack < c.args.most) r c.unwrap_or.result (ok_by r well.0 c.unwrap_or.result 0 well.1 c.unwrap_or.ensures) e1.fewer
