use Rattle.std.proofs.Common.{[], ◌∙◌, arith}
use Rattle.image_device.proofs.Moments.{ends_in}
use Rattle.image_device.proofs.Outcomes.{unless_err}
use Rattle.tsd_words.specs.declared.status.Status.TheVariants as status
use Rattle.serving.specs.Voice.{spoken}
use Rattle.gathering.specs.Gathered.{cleared}
use Rattle.gathering_runs.proofs.Carried.{from_cleared, placed_home, ring_closed}
use Rattle.gathering_runs.proofs.OnDevice.{left_in_place, left_stayed, went_in_place, went_stayed}
use Rattle.gathering_runs.proofs.Sent.{sent_none}
use Rattle.gathering_runs.proofs.Turning.{turned_err, turned_ok}
use Rattle.std.proofs.Common.{refl}
use Rattle.gathering_runs.proofs.run.close.Goals as goal

pub returns-then-is_err-clause-did : goal.returns-then-is_err-clause-did
returns-then-is_err-clause-did g c told =
    let k = spoken g.H.Handler.rules g.R.Replies.voice in
    let h = c.args.server.now in
    let part = g.H.Handler.aside h in
    let v0 = g.P.Device.view c.args.disk.now.port in
    let v1 = g.P.Device.view c.checkpoint.new.dev in
    let b = c.requires.between told in
    let s = g.H.Handler.state h (cleared v0.reads) in
    turned_err k part status.DeviceFault s _ v0 v1 [] (sent_none k status.DeviceFault s v0.sent v1.sent [] (c.checkpoint.ensures.sent told))
    (left_in_place k part s v0 v1 (λ x y has. g.met.H.GroupHandler.alike s x y has) (λ x y has. g.met.H.GroupHandler.aside_alike h x y has) b.firm (g.met.H.Handler.stands_now h (cleared v0.reads) b.held) [] (c.checkpoint.ensures.any_moment told))

pub returns-in-Ok-clause-did : goal.returns-in-Ok-clause-did
returns-in-Ok-clause-did g c told =
    let k = spoken g.H.Handler.rules g.R.Replies.voice in
    let h = c.args.server.now in
    let part = g.H.Handler.aside h in
    let v0 = g.P.Device.view c.args.disk.now.port in
    let v1 = g.P.Device.view c.checkpoint.new.dev in
    let v2 = g.P.Device.view c.close.new.dev in
    let b = c.requires.between told in
    let s = g.H.Handler.state h (cleared v0.reads) in
    let m = g.H.Handler.state h v1.reads in
    let closed = ring_closed v1 (unless_err c.checkpoint.result c.is_err.result c.if-is_err.false c.is_err.ensures.value (c.checkpoint.ensures.at told)) in
    let done = unless_err c.checkpoint.result c.is_err.result c.if-is_err.false c.is_err.ensures.value (c.checkpoint.ensures.done told) in
    let over = from_cleared (g.H.Handler.holds h) (g.H.Handler.state h) (g.met.H.GroupHandler.carried h) v0.reads v1.reads b.held closed done in
    let first = went_in_place k part s v0 v1 (λ x y has. g.met.H.GroupHandler.alike s x y has) (λ x y has. g.met.H.GroupHandler.aside_alike h x y has) b.firm (g.met.H.Handler.stands_now h (cleared v0.reads) b.held) m over.1 (c.checkpoint.ensures.sent told)
    (g.met.H.GroupHandler.aside_alike h v0.reads v1.reads (placed_home v0.reads v1.reads closed done)) (c.checkpoint.ensures.any_moment told) in
    turned_ok k part tt s _ v0 v2 [] (went_stayed k part part s m v0 v1 v2 [] first refl (c.close.ensures.any_moment told) (c.close.ensures.aside_kept told) _ (g.met.P.Device.sound c.close.new.dev told) (c.in-Ok.ensures.state told) (c.close.ensures.sent told))

pub returns-in-Err-clause-did : goal.returns-in-Err-clause-did
returns-in-Err-clause-did g c told =
    let k = spoken g.H.Handler.rules g.R.Replies.voice in
    let h = c.args.server.now in
    let part = g.H.Handler.aside h in
    let v0 = g.P.Device.view c.args.disk.now.port in
    let v1 = g.P.Device.view c.checkpoint.new.dev in
    let v2 = g.P.Device.view c.close.new.dev in
    let b = c.requires.between told in
    let s = g.H.Handler.state h (cleared v0.reads) in
    let m = g.H.Handler.state h v1.reads in
    let closed = ring_closed v1 (unless_err c.checkpoint.result c.is_err.result c.if-is_err.false c.is_err.ensures.value (c.checkpoint.ensures.at told)) in
    let done = unless_err c.checkpoint.result c.is_err.result c.if-is_err.false c.is_err.ensures.value (c.checkpoint.ensures.done told) in
    let over = from_cleared (g.H.Handler.holds h) (g.H.Handler.state h) (g.met.H.GroupHandler.carried h) v0.reads v1.reads b.held closed done in
    let first = went_in_place k part s v0 v1 (λ x y has. g.met.H.GroupHandler.alike s x y has) (λ x y has. g.met.H.GroupHandler.aside_alike h x y has) b.firm (g.met.H.Handler.stands_now h (cleared v0.reads) b.held) m over.1 (c.checkpoint.ensures.sent told)
    (g.met.H.GroupHandler.aside_alike h v0.reads v1.reads (placed_home v0.reads v1.reads closed done)) (c.checkpoint.ensures.any_moment told) in
    turned_err k part status.DeviceFault s _ v0 v2 [] (sent_none k status.DeviceFault s v0.sent v2.sent [] (c.close.ensures.sent told ∙ c.checkpoint.ensures.sent told)) (left_stayed k part part s m v0 v1 v2 [] first refl (c.close.ensures.any_moment told) (c.close.ensures.aside_kept told))

pub returns-in-Ok-clause-none : goal.returns-in-Ok-clause-none
returns-in-Ok-clause-none g c told =
    let h = c.args.server.now in
    let v0 = g.P.Device.view c.args.disk.now.port in
    let v1 = g.P.Device.view c.checkpoint.new.dev in
    let v2 = g.P.Device.view c.close.new.dev in
    let b = c.requires.between told in
    let closed = ring_closed v1 (unless_err c.checkpoint.result c.is_err.result c.if-is_err.false c.is_err.ensures.value (c.checkpoint.ensures.at told)) in
    let done = unless_err c.checkpoint.result c.is_err.result c.if-is_err.false c.is_err.ensures.value (c.checkpoint.ensures.done told) in
    let over = from_cleared (g.H.Handler.holds h) (g.H.Handler.state h) (g.met.H.GroupHandler.carried h) v0.reads v1.reads b.held closed done in
    let before = g.met.H.GroupHandler.owes h v1.reads over.0 in
    let less = (ends_in v1 v2 _ (g.met.P.Device.sound c.close.new.dev told) (c.close.ensures.debt told)).0 in
    let none = c.requires.settled in
    omega (arith, before, less, none)

pub returns-in-Ok-clause-writes : goal.returns-in-Ok-clause-writes
returns-in-Ok-clause-writes g c told =
    let h = c.args.server.now in
    let v0 = g.P.Device.view c.args.disk.now.port in
    let v1 = g.P.Device.view c.checkpoint.new.dev in
    let b = c.requires.between told in
    let closed = ring_closed v1 (unless_err c.checkpoint.result c.is_err.result c.if-is_err.false c.is_err.ensures.value (c.checkpoint.ensures.at told)) in
    let done = unless_err c.checkpoint.result c.is_err.result c.if-is_err.false c.is_err.ensures.value (c.checkpoint.ensures.done told) in
    let over = from_cleared (g.H.Handler.holds h) (g.H.Handler.state h) (g.met.H.GroupHandler.carried h) v0.reads v1.reads b.held closed done in
    let due = g.met.H.GroupHandler.due_none h v1.reads over.0 closed c.requires.settled in
    let most = c.close.ensures.most told in
    let few = c.checkpoint.ensures.uses.most in
    let bound = c.checkpoint.ensures.most in
    omega (arith, due, most, few, bound)
