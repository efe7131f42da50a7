use Rattle.std.proofs.Common.{◌∷◌, []}
use Rattle.serving.specs.Voice.{spoken}
use Rattle.gathering_runs.proofs.Handing.{hands_held, hands_none}
use Rattle.gathering_runs.specs.Sent.{IsSentBy}
use Rattle.gathering_runs.proofs.Outcome.{err_is_if, ok_is}
use Rattle.gathering_runs.proofs.Turning.{turned_err, turned_ok, went}
use Rattle.gathering_runs.proofs.turns.serve_settled.Goals as goal

pub returns-in-Ok-clause-did : goal.returns-in-Ok-clause-did
returns-in-Ok-clause-did g c =
    let n = c.next_held-waits.ensures in
    let next = c.next_held-waits.new.into in (
      [],
      hands_held g.R.Protocol.spelling (λ x. g.R.Protocol.was_fed x c.args.protocol.now) (λ x. g.R.Protocol.was_fed x c.next_held-waits.new.protocol) c.args.intake.now c.next_held-waits.new.self c.next_held-waits.result next n.counts n.over n.nothing n.handed,
      λ told. let k = spoken g.H.Handler.rules g.R.Replies.voice in
          turned_ok k (g.H.Handler.aside c.args.server.now) c.next_held-waits.result _ _ _ _ (c.args.request.now ∷ []) (went k (g.H.Handler.aside c.args.server.now) c.serve_direct.result tt _ _ _ _ (c.args.request.now ∷ []) c.in-Ok.is (c.serve_direct.ensures.did told)),
      λ told. ok_is c.serve_direct.result tt c.in-Ok.is (c.serve_direct.ensures.turn told),
    )

pub returns-in-Err-clause-did : goal.returns-in-Err-clause-did
returns-in-Err-clause-did g c = (
  [],
  hands_none g.R.Protocol.spelling (λ x. g.R.Protocol.was_fed x c.args.protocol.now) c.args.intake.now,
  λ told. let k = spoken g.H.Handler.rules g.R.Replies.voice in turned_err k (g.H.Handler.aside c.args.server.now) _ _ _ _ _ (c.args.request.now ∷ [])
      (err_is_if (λ w. IsSentBy w k _ _ (c.args.request.now ∷ []) _) c.serve_direct.result c.in-Err.why c.in-Err.is (c.serve_direct.ensures.did told).stopped) (c.serve_direct.ensures.did told).any_moment,
  λ told. tt,
)
