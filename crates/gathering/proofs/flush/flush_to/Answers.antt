use Rattle.std.proofs.Common.{◌++◌, take, drop, sym, ◌∙◌, ap}
use Rattle.std.proofs.lemmas.List.{take-append-drop}
use Rattle.image_device.proofs.Outcomes.{where_err}
use Rattle.gathering.proofs.Flushing.{flushed}
use Rattle.gathering.proofs.flush.flush_to.Goals as goal

pub returns-then-is_err-clause-put_sent : goal.returns-then-is_err-clause-put_sent
returns-then-is_err-clause-put_sent g c told is =
    let text = c.args.waiting.now in
    let part = where_err c.put_all.result c.is_err.result c.if-is_err.true c.is_err.ensures.value (c.put_all.ensures.part told) in
    record {
      front = take part.0 text;
      back = drop part.0 text;
      sent = part.2 ∙ ap (λ s. s ++ take part.0 text) (c.commit_some.ensures.sent told);
      whole = sym (take-append-drop part.0 text);
    }

pub returns-then-is_err-clause-any_moment : goal.returns-then-is_err-clause-any_moment
returns-then-is_err-clause-any_moment g c told =
    let view = g.P.Device.view in
    flushed c.commit_some.new.ring c.args.batch.now c.args.waiting.now (view c.args.inner.now) (view c.commit_some.new.dev) (view c.put_all.new.port) (c.commit_some.ensures.any_moment told)
    (c.in_ok-commit_some.ensures.at told) (c.in_ok-commit_some.ensures.firm told) (c.in_ok-commit_some.ensures.done told) (c.commit_some.ensures.sent told) (c.put_all.ensures.any_moment told)

pub returns-clause-any_moment : goal.returns-clause-any_moment
returns-clause-any_moment g c told =
    let view = g.P.Device.view in
    flushed c.commit_some.new.ring c.args.batch.now c.args.waiting.now (view c.args.inner.now) (view c.commit_some.new.dev) (view c.put_all.new.port) (c.commit_some.ensures.any_moment told)
    (c.in_ok-commit_some.ensures.at told) (c.in_ok-commit_some.ensures.firm told) (c.in_ok-commit_some.ensures.done told) (c.commit_some.ensures.sent told) (c.put_all.ensures.any_moment told)
