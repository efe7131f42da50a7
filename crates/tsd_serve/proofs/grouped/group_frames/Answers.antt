use Rattle.std.proofs.Common.{◌^◌, [], inr, refl, sym, append-nil, subst, arith}
use Rattle.tsd_model.specs.declared.requests.PlaceKind.{PlaceKind}
use Rattle.tsd_words.specs.declared.status.Status.TheVariants as status
use Rattle.serving.specs.FrameSpelling.{frame_spelling, frame_voice}
use Rattle.serving.specs.FrameLaws.{frames_lawful}
use Rattle.serving.specs.Prompt.{IsOfPort, mark}
use Rattle.serving.specs.Ran.{taking}
use Rattle.image_runs.specs.Served.{disk_service, start_of}
use Rattle.image_runs.specs.Server.{disk_work}
use Rattle.image_runs.specs.Opened.{IsUnopened}
use Rattle.image_groups.specs.Served.{ImageRanByRounds}
use Rattle.image_groups.specs.Waiting.{MayWait}
use Rattle.gathering_runs.proofs.Rounds.{near_none, ran_by_rounds, so_far_none, take_none}
use Rattle.tsd_serve.proofs.grouped.group_frames.Goals as goal

pub returns-in-Ok-clause-rounds : goal.returns-in-Ok-clause-rounds
returns-in-Ok-clause-rounds g c told =
    let view = g.P.Device.view in
    let source = taking g.S.Source.told g.S.Source.taken g.S.Source.left_bytes g.S.Source.ended c.args.source.now c.serve_port_in_groups.new.source in
    subst (λ (k : PlaceKind). ImageRanByRounds c.serve_port_in_groups.result frame_voice frame_spelling k (IsOfPort view) (2 ^ 40) source (view c.args.port.now) (view c.serve_port_in_groups.new.port)) c.pick.ensures (c.serve_port_in_groups.ensures.rounds told)

pub returns-in-Err-clause-rounds : goal.returns-in-Err-clause-rounds
unfolding ran_by_rounds so_far_none
returns-in-Err-clause-rounds g c told =
    let k = disk_service frame_voice in
    let port = IsOfPort g.P.Device.view in
    let m = mark (g.P.Device.view c.args.port.now) in
    let s = start_of c.args.kind (g.P.Device.view c.args.port.now).reads in
    record {
      opened = m;
      of_port = (c.args.port.now, refl);
      not_before = omega arith;
      nothing_sent = refl;
      rounds = ran_by_rounds k disk_work MayWait port frame_spelling (2 ^ 40) status.NoMemory s s s _ [] [] [] [] m m m m (so_far_none k disk_work MayWait port frame_spelling (2 ^ 40) s s m.sent (disk_work.debt m.reads) m.clock m (c.args.port.now, refl) (omega arith) refl (omega arith) refl)
          (record { taken = λ tells. sym (append-nil _); left = λ tells. refl }) (near_none frame_spelling (2 ^ 40) frames_lawful.none (take_none (2 ^ 40))) (refl, refl) (omega arith) (λ cut. refl) (λ is. absurd (subst IsUnopened is tt));
      nothing_left = inr (refl, refl);
    }
