use Rattle.std.proofs.Common.{[], refl, ◌∙◌, subst}
use Rattle.std.specs.Prelude.{Result, Ok, Err, OnOk}
use Rattle.image_device.specs.Image.{Image}
use Rattle.serving.specs.Voice.{spoken}
use Rattle.gathering.specs.Gathered.{cleared}
use Rattle.gathering_runs.specs.Turns.{Turned}
use Rattle.gathering_runs.specs.Sent.{IsSentBy}
use Rattle.gathering_runs.proofs.Outcome.{err_is_if, ok_is}
use Rattle.gathering_runs.proofs.Reclaiming.{owed_between}
use Rattle.serving.specs.Prompt.{mark}
use Rattle.gathering_runs.proofs.Turning.{later_mere, turned_err, turned_then, went}
use Rattle.gathering_runs.proofs.run.finish.Goals as goal

all_three : {T E A B C P : Type 0} (r : Result T E) → OnOk r A → OnOk r B → OnOk r C → (A → B → C → P) → OnOk r P
all_three (Ok x) a b c made = made a b c
all_three (Err e) a b c made = tt

pub returns-in-Ok-clause-did : goal.returns-in-Ok-clause-did
returns-in-Ok-clause-did g c told =
    let k = spoken g.H.Handler.rules g.R.Replies.voice in
    let part = g.H.Handler.aside c.args.server.now in
    let e1 = c.settle_in_groups-left.ensures in
    let r = c.close-closed.result in
    let v0 = g.P.Device.view c.args.disk.port in
    let v1 = g.P.Device.view c.settle_in_groups-left.result.0.port in
    let v2 = g.P.Device.view c.close-closed.new.disk.port in
    let s0 = g.H.Handler.state c.args.server.now (cleared v0.reads) in
    let s1 = g.H.Handler.state c.settle_in_groups-left.new.server (cleared v1.reads) in
    let s2 = g.H.Handler.state c.close-closed.new.server v2.reads in
    turned_then k part r s0 s1 s2 v0 v1 v2 [] [] (went k part c.settle_in_groups-left.result.1 _ s0 s1 v0 v1 [] c.in-Ok.is (e1.did told))
    (subst (λ (p : Image → Image). Turned r k p s1 s2 v1 v2 []) e1.aside (c.close-closed.ensures.did told))

pub returns-in-Err-clause-did : goal.returns-in-Err-clause-did
returns-in-Err-clause-did g c told =
    let k = spoken g.H.Handler.rules g.R.Replies.voice in
    turned_err k (g.H.Handler.aside c.args.server.now) _ _ _ (g.P.Device.view c.args.disk.port) (g.P.Device.view c.settle_in_groups-left.result.0.port) []
    (err_is_if (λ w. IsSentBy w k _ _ [] _) c.settle_in_groups-left.result.1 c.in-Err.why c.in-Err.is (c.settle_in_groups-left.ensures.did told).stopped) (c.settle_in_groups-left.ensures.did told).any_moment

pub returns-in-Ok-clause-finished : goal.returns-in-Ok-clause-finished
returns-in-Ok-clause-finished g c told =
    let w = g.H.Handler.work in
    let h1 = c.settle_in_groups-left.new.server in
    let e1 = c.settle_in_groups-left.ensures in
    let r1 = c.settle_in_groups-left.result.1 in
    let e2 = c.close-closed.ensures in
    let groups = ok_is r1 tt c.in-Ok.is (e1.groups told) in
    let b1 = ok_is r1 tt c.in-Ok.is (e1.between told) in
    let owed1 = owed_between (g.H.Handler.holds h1) w.debt (g.H.GroupHandler.owed h1) (g.met.H.GroupHandler.owes h1) (g.met.H.GroupHandler.owed_alike h1) _ (g.P.Device.view c.settle_in_groups-left.result.0.port) b1 in
    all_three c.close-closed.result (e2.sent told) (e2.writes told) (e2.none told)
    (λ sent writes none. record {
      groups = groups.0;
      settled = mark (g.P.Device.view c.settle_in_groups-left.result.0.port);
      reclaimed = groups.1;
      not_after = later_mere (g.P.Device.view c.settle_in_groups-left.result.0.port) (g.P.Device.view c.close-closed.new.disk.port) _ (e2.did told).any_moment;
      nothing_left = owed1 ∙ ok_is r1 tt c.in-Ok.is e1.none refl;
      nothing_sent = sent;
      writes = writes;
      still_nothing = none;
    })

pub close-closed-requires-clause-settled : goal.close-closed-requires-clause-settled
close-closed-requires-clause-settled g c = ok_is c.settle_in_groups-left.result.1 tt c.in-Ok.is c.settle_in_groups-left.ensures.none refl
