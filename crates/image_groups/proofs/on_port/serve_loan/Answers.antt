use Rattle.std.proofs.Common.{sym}
use Rattle.recovery.specs.Opening.{IsForeign, IsUntouched}
use Rattle.serving.specs.Ran.{moments, taking}
use Rattle.image_groups.specs.Served.{ImageRanByRounds, ImageRanInGroups}
use Rattle.serving.specs.Prompt.{IsOfPort}
use Rattle.image_runs.specs.Served.{disk_service}
use Rattle.image_runs.specs.Server.{disk_work}
use Rattle.gathering_runs.proofs.Rounds.{ran_over}
use Rattle.image_groups.specs.Waiting.{MayWait}
use Rattle.image_groups.proofs.Opened.{of_same, ran_alike}
use Rattle.recovery.specs.Opening.{SparesDamaged}
use Rattle.image_groups.proofs.on_port.serve_loan.Goals as goal

pub returns-clause-ran : goal.returns-clause-ran
returns-clause-ran g c =
    let view = g.P.Device.view in
    let r = c.serve_image_in_groups-lent.result.1 in
    let source = taking g.S.Source.told g.S.Source.taken g.S.Source.left_bytes g.S.Source.ended c.args.source.now c.serve_image_in_groups-lent.new.source in
    of_same (λ x y. ImageRanInGroups r g.R.Replies.voice g.R.Protocol.spelling c.args.placement.now.kind c.args.limit source (moments g.P.Device.told view x y))
    _ _ _ _ c.new-lent.ensures (sym c.into_loan.ensures.port)
    (ran_alike r g.R.Replies.voice g.R.Protocol.spelling c.args.placement.now.kind c.args.limit source _ _ _ _ _ c.serve_image_in_groups-lent.ensures.ran)

pub returns-clause-untouched : goal.returns-clause-untouched
returns-clause-untouched g c =
    let view = g.P.Device.view in
    of_same (λ x y. g.P.Device.told → IsForeign (view x).reads → IsUntouched (view x) (view y)) _ _ _ _ c.new-lent.ensures (sym c.into_loan.ensures.port) c.serve_image_in_groups-lent.ensures.untouched

pub returns-clause-rounds : goal.returns-clause-rounds
unfolding ran_over
returns-clause-rounds g c told =
    let view = g.P.Device.view in
    let r = c.serve_image_in_groups-lent.result.1 in
    let kind = c.args.placement.now.kind in
    let source = taking g.S.Source.told g.S.Source.taken g.S.Source.left_bytes g.S.Source.ended c.args.source.now c.serve_image_in_groups-lent.new.source in
    let ran = c.serve_image_in_groups-lent.ensures.rounds told in
    of_same (λ x y. ImageRanByRounds r g.R.Replies.voice g.R.Protocol.spelling kind (IsOfPort view) c.args.limit source (view x) (view y))
    _ _ _ _ c.new-lent.ensures (sym c.into_loan.ensures.port)
    (record {
      opened = ran.opened;
      of_port = (ran.of_port.0.loan.port.now, ran.of_port.1);
      not_before = ran.not_before;
      nothing_sent = ran.nothing_sent;
      rounds = ran_over (disk_service g.R.Replies.voice) disk_work MayWait _ (IsOfPort view) (λ m here. (here.0.loan.port.now, here.1)) r g.R.Protocol.spelling c.args.limit _ source _ _ ran.rounds;
      nothing_left = ran.nothing_left;
    })

pub returns-clause-spared : goal.returns-clause-spared
returns-clause-spared g c told =
    of_same (λ x y. SparesDamaged (g.P.Device.view x) (g.P.Device.view y)) _ _ _ _ c.new-lent.ensures (sym c.into_loan.ensures.port) (c.serve_image_in_groups-lent.ensures.spared told)
