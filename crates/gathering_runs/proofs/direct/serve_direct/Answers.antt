use Rattle.std.proofs.Common.{◌∷◌, [], OnOk, refl, sym, arith}
use Rattle.std.proofs.lemmas.List.Elements.{All-head}
use Rattle.std.specs.Prelude.{Result, Ok, Err}
use Rattle.image_device.proofs.Outcomes.{unless_err}
use Rattle.tsd_words.specs.declared.status.Status.TheVariants as status
use Rattle.serving.specs.Voice.{spoken}
use Rattle.gathering.specs.Gathered.{cleared}
use Rattle.gathering_runs.proofs.Carried.{between, from_cleared, placed_home, ring_closed, to_cleared}
use Rattle.gathering_runs.proofs.OnDevice.{left_in_place, went_in_place}
use Rattle.gathering_runs.proofs.Sent.{sent_none}
use Rattle.serving.specs.Prompt.{IsOfPort, mark}
use Rattle.gathering_runs.proofs.ByTurns.{turn_of_direct}
use Rattle.gathering_runs.proofs.Reclaiming.{one_left, owed_between}
use Rattle.gathering_runs.proofs.Turning.{turned_err, turned_then, turned_to}
use Rattle.gathering_runs.proofs.direct.serve_direct.Goals as goal

both_ok : {T E A B P : Type 0} (r : Result T E) → (A → B → P) → OnOk r A → OnOk r B → OnOk r P
both_ok (Ok x) f a b = f a b
both_ok (Err e) f a b = tt

all_ok : {T E A B C D F L P : Type 0} (r : Result T E) → OnOk r A → OnOk r B → OnOk r C → OnOk r D → (F → OnOk r L) → (A → B → C → D → (F → L) → P) → OnOk r P
all_ok (Ok x) a b c d f made = made a b c d f
all_ok (Err e) a b c d f made = tt

pub returns-then-is_err-clause-did : goal.returns-then-is_err-clause-did
returns-then-is_err-clause-did g c told =
    let k = spoken g.H.Handler.rules g.R.Replies.voice in
    let h = c.args.server.now in
    let part = g.H.Handler.aside h in
    let v0 = g.P.Device.view c.args.disk.now.port in
    let v1 = g.P.Device.view c.empty_journal.new.port in
    let b = c.requires.between told in
    let s = g.H.Handler.state h (cleared v0.reads) in
    turned_err k part status.DeviceFault s _ v0 v1 (c.args.request.now ∷ []) (sent_none k status.DeviceFault s v0.sent v1.sent (c.args.request.now ∷ []) (c.empty_journal.ensures.sent told))
    (left_in_place k part s v0 v1 (λ x y has. g.met.H.GroupHandler.alike s x y has) (λ x y has. g.met.H.GroupHandler.aside_alike h x y has) b.firm (g.met.H.Handler.stands_now h (cleared v0.reads) b.held) (c.args.request.now ∷ []) (c.empty_journal.ensures.any_moment told))

pub returns-clause-did : goal.returns-clause-did
returns-clause-did g c told =
    let k = spoken g.H.Handler.rules g.R.Replies.voice in
    let h = c.args.server.now in
    let part = g.H.Handler.aside h in
    let v0 = g.P.Device.view c.args.disk.now.port in
    let v1 = g.P.Device.view c.empty_journal.new.port in
    let v2 = g.P.Device.view c.answer.new.port in
    let h2 = c.answer.new.server in
    let b = c.requires.between told in
    let s = g.H.Handler.state h (cleared v0.reads) in
    let closed = ring_closed v1 (unless_err c.empty_journal.result c.is_err.result c.if-is_err.false c.is_err.ensures.value (c.empty_journal.ensures.at told)) in
    let done = unless_err c.empty_journal.result c.is_err.result c.if-is_err.false c.is_err.ensures.value (c.empty_journal.ensures.done told) in
    let over = from_cleared (g.H.Handler.holds h) (g.H.Handler.state h) (g.met.H.GroupHandler.carried h) v0.reads v1.reads b.held closed done in
    let m = g.H.Handler.state h v1.reads in
    let first = went_in_place k part s v0 v1 (λ x y has. g.met.H.GroupHandler.alike s x y has) (λ x y has. g.met.H.GroupHandler.aside_alike h x y has) b.firm (g.met.H.Handler.stands_now h (cleared v0.reads) b.held) m over.1 (c.empty_journal.ensures.sent told)
    (g.met.H.GroupHandler.aside_alike h v0.reads v1.reads (placed_home v0.reads v1.reads closed done)) (c.empty_journal.ensures.any_moment told) in
    turned_to k part c.answer.result s (g.H.Handler.state h2 v2.reads) (g.H.Handler.state h2 (cleared v2.reads)) v0 v2 (c.args.request.now ∷ [])
    (turned_then k part c.answer.result s m (g.H.Handler.state h2 v2.reads) v0 v1 v2 [] (c.args.request.now ∷ []) first (c.answer.ensures.did told))
    (both_ok c.answer.result (λ at shut. (to_cleared (g.H.Handler.holds h2) (g.H.Handler.state h2) (g.met.H.GroupHandler.carried h2) v2.reads at.1 shut).1) (c.answer.ensures.at told) (c.answer.ensures.closed told))

pub returns-clause-between : goal.returns-clause-between
returns-clause-between g c told =
    let v2 = g.P.Device.view c.answer.new.port in
    let h2 = c.answer.new.server in
    let none = unless_err c.empty_journal.result c.is_err.result c.if-is_err.false c.is_err.ensures.value c.empty_journal.ensures.empty in
    both_ok c.answer.result (λ at shut. between (g.H.Handler.holds h2) (g.H.Handler.state h2) (g.met.H.GroupHandler.carried h2) c.empty_journal.new.ring v2 none at.0 at.1 shut) (c.answer.ensures.at told) (c.answer.ensures.closed told)

pub returns-clause-turn : goal.returns-clause-turn
returns-clause-turn g c told =
    let k = spoken g.H.Handler.rules g.R.Replies.voice in
    let w = g.H.Handler.work in
    let h = c.args.server.now in
    let v0 = g.P.Device.view c.args.disk.now.port in
    let v1 = g.P.Device.view c.empty_journal.new.port in
    let v2 = g.P.Device.view c.answer.new.port in
    let h2 = c.answer.new.server in
    let b = c.requires.between told in
    let closed = ring_closed v1 (unless_err c.empty_journal.result c.is_err.result c.if-is_err.false c.is_err.ensures.value (c.empty_journal.ensures.at told)) in
    let done = unless_err c.empty_journal.result c.is_err.result c.if-is_err.false c.is_err.ensures.value (c.empty_journal.ensures.done told) in
    let over = from_cleared (g.H.Handler.holds h) (g.H.Handler.state h) (g.met.H.GroupHandler.carried h) v0.reads v1.reads b.held closed done in
    let before = owed_between (g.H.Handler.holds h) w.debt (g.H.GroupHandler.owed h) (g.met.H.GroupHandler.owes h) (g.met.H.GroupHandler.owed_alike h) _ v0 b in
    all_ok c.answer.result (c.answer.ensures.at told) (c.answer.ensures.closed told) (c.answer.ensures.did told).served (c.answer.ensures.prompt told) (λ bounded. c.answer.ensures.left told bounded)
    (λ at shut served replied left.
    let behind = g.met.H.GroupHandler.owes h2 v2.reads at.1 in
    turn_of_direct k w g.H.GroupHandler.may_wait (IsOfPort g.P.Device.view) (g.H.Handler.state h (cleared v0.reads)) (g.H.Handler.state h v1.reads) (g.H.Handler.state h2 v2.reads) (g.H.Handler.state h2 (cleared v2.reads)) c.args.request.now (mark v0) (mark v1) (mark v2)
    c.requires.waits (c.empty_journal.new.port, refl) c.empty_journal.ensures.uses.clock (c.empty_journal.ensures.sent told) c.empty_journal.ensures.uses.most (c.answer.new.port, refl) replied
    (record { served = served; few = λ all. let h = left (All-head w.bounded c.args.request.now [] all) in let e = one_left k w _ _ _ _ c.args.request.now served (w.debt v0.reads) in omega (arith, h, e, before, behind) })
    over.1 (sym (to_cleared (g.H.Handler.holds h2) (g.H.Handler.state h2) (g.met.H.GroupHandler.carried h2) v2.reads at.1 shut).1))
