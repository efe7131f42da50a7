use Rattle.std.proofs.Common.{[], refl, ◌∙◌}
use Rattle.tsd_words.specs.declared.status.Status.TheVariants as status
use Rattle.serving.specs.Voice.{spoken}
use Rattle.gathering.specs.Gathered.{cleared}
use Rattle.gathering_runs.proofs.Carried.{between, to_cleared}
use Rattle.gathering_runs.proofs.OnDevice.{left_resting, went_resting}
use Rattle.gathering_runs.proofs.Sent.{sent_none}
use Rattle.gathering_runs.proofs.Turning.{turned_err, turned_ok, went_nowhere}
use Rattle.gathering_runs.proofs.run.begin.Goals as goal

pub returns-in-Err-clause-did : goal.returns-in-Err-clause-did
returns-in-Err-clause-did g c told =
    let k = spoken g.H.Handler.rules g.R.Replies.voice in
    let h = c.args.server.now in
    let v = g.P.Device.view c.args.port.now in
    let at = c.requires.at told in
    turned_err k (g.H.Handler.aside h) status.NoMemory _ _ v v [] (sent_none k status.NoMemory _ v.sent v.sent [] refl) (went_nowhere k (g.H.Handler.aside h) (g.H.Handler.state h v.reads) v (g.met.P.Device.sound c.args.port.now told) at.0 (g.met.H.Handler.stands_now h v.reads at.1)).any_moment

pub returns-in-Err-new-clause-did : goal.returns-in-Err-new-clause-did
returns-in-Err-new-clause-did g c told =
    let k = spoken g.H.Handler.rules g.R.Replies.voice in
    let h = c.args.server.now in
    let v = g.P.Device.view c.args.port.now in
    let at = c.requires.at told in
    turned_err k (g.H.Handler.aside h) status.NoMemory _ _ v v [] (sent_none k status.NoMemory _ v.sent v.sent [] refl) (went_nowhere k (g.H.Handler.aside h) (g.H.Handler.state h v.reads) v (g.met.P.Device.sound c.args.port.now told) at.0 (g.met.H.Handler.stands_now h v.reads at.1)).any_moment

pub returns-in-Ok-empty_ring-clause-did : goal.returns-in-Ok-empty_ring-clause-did
returns-in-Ok-empty_ring-clause-did g c told =
    let k = spoken g.H.Handler.rules g.R.Replies.voice in
    let h = c.args.server.now in
    let h1 = c.empty_ring.new.self in
    let v = g.P.Device.view c.args.port.now in
    let w = g.P.Device.view c.empty_ring.new.dev in
    let at = c.in-Ok-empty_ring.ensures.at told in
    let over = to_cleared (g.H.Handler.holds h1) (g.H.Handler.state h1) (g.met.H.GroupHandler.carried h1) w.reads at.1 (c.in-Ok-empty_ring.ensures.closed told) in
    turned_ok k (g.H.Handler.aside h) _ _ _ v w []
    (went_resting k (g.H.Handler.aside h) (g.H.Handler.state h v.reads) v w (g.H.Handler.state h1 (cleared w.reads)) (g.met.P.Device.sound c.empty_ring.new.dev told) (over.1 ∙ c.in-Ok-empty_ring.ensures.state told) (c.empty_ring.ensures.sent told) (c.empty_ring.ensures.any_moment told) (c.empty_ring.ensures.aside_kept told))

pub returns-in-Ok-empty_ring-clause-between : goal.returns-in-Ok-empty_ring-clause-between
returns-in-Ok-empty_ring-clause-between g c told =
    let h1 = c.empty_ring.new.self in
    let w = g.P.Device.view c.empty_ring.new.dev in
    let at = c.in-Ok-empty_ring.ensures.at told in
    between (g.H.Handler.holds h1) (g.H.Handler.state h1) (g.met.H.GroupHandler.carried h1) _ w c.in-Ok.ensures at.0 at.1 (c.in-Ok-empty_ring.ensures.closed told)

pub returns-in-Err-empty_ring-clause-did : goal.returns-in-Err-empty_ring-clause-did
returns-in-Err-empty_ring-clause-did g c told =
    let k = spoken g.H.Handler.rules g.R.Replies.voice in
    let h = c.args.server.now in
    let v = g.P.Device.view c.args.port.now in
    let w = g.P.Device.view c.empty_ring.new.dev in
    turned_err k (g.H.Handler.aside h) status.DeviceFault _ _ v w [] (sent_none k status.DeviceFault _ v.sent w.sent [] (c.empty_ring.ensures.sent told)) (left_resting k (g.H.Handler.aside h) (g.H.Handler.state h v.reads) v w [] (c.empty_ring.ensures.any_moment told) (c.empty_ring.ensures.aside_kept told))
