use Rattle.std.proofs.Common.{inl, inr, ℕ, [], refl, sym, ◌∙◌, ap, subst, arith, append-nil}
use Rattle.std.specs.Prelude.{Err}
use Rattle.image_runs.proofs.Common.{Rose, Status, behind}
use Rattle.image_runs.proofs.Behind.{size_of_core}
use Rattle.image_runs.proofs.Opened.{not_foreign}
use Rattle.image_runs.proofs.Started.{placed_at, not_of_source, not_of_put}
use Rattle.serving.specs.ModelRules.{Placed}
use Rattle.serving.specs.Prompt.{IsOfPort, mark}
use Rattle.serving.specs.Ran.{taking}
use Rattle.image_runs.specs.Served.{disk_service, start_of}
use Rattle.image_runs.specs.Server.{disk_work}
use Rattle.gathering_runs.specs.Rounds.{RanByRounds}
use Rattle.gathering_runs.proofs.Rounds.{near_none, ran_by_rounds, so_far_none, take_none}
use Rattle.image_groups.specs.Waiting.{MayWait}
use Rattle.image_groups.proofs.Opened.{behind_opened, ends_opened, ends_unopened, judged_groups, not_unopened, ok_no_err}
use Rattle.image_groups.proofs.run.serve_image_in_groups.Goals as goal

pub returns-in-Ok-clause-read : goal.returns-in-Ok-clause-read
returns-in-Ok-clause-read g c told =
    let ran = c.serve_in_groups.ensures.ran in
    judged_groups (g.P.Device.view c.args.port).reads c.serve_in_groups.result.1 g.R.Protocol.spelling c.args.limit ran.bytes _ ran.asked ran.these (c.in-Ok.ensures.read told)

pub returns-in-Ok-clause-ran : goal.returns-in-Ok-clause-ran
returns-in-Ok-clause-ran g c =
    let ran = c.serve_in_groups.ensures.ran in
    let old = g.P.Device.view c.args.port in
    let mid = g.P.Device.view c.open_core.new.dev in
    record {
      bytes = ran.bytes;
      came_in = ran.came_in;
      asked = ran.asked;
      these = inr ran.these;
      ends = λ told.
          ends_opened g.R.Replies.voice c.args.placement.now.kind old mid ran.asked (c.open_core.ensures.any_moment told) c.serve_in_groups.result.1 (g.P.Device.view c.serve_in_groups.result.0) _ _ (behind c.in-Ok.core.volume.tables.geometry)
          (placed_at c.args.placement.now.kind c.in-Ok.core mid.reads _ (c.in-Ok.ensures.state told)) (c.open_core.ensures.sent told)
          (ran.any_moment told) (ran.sent told) (ran.done told)
          (λ done.
          let at = c.serve_in_groups.ensures.at done told in
          record { firm = at.0; stands = record { good = at.1.good; world = refl }; quiet = c.serve_in_groups.ensures.closed done told });
    }

pub returns-in-Ok-clause-faults : goal.returns-in-Ok-clause-faults
returns-in-Ok-clause-faults g c =
    let opened = c.in-Ok.ensures.faults.1 (λ e. ok_no_err _ _ e) in
    let put_before = c.open_core.ensures.works.put_faults in
    let f = c.serve_in_groups.ensures.faults in
    record {
      source_fault = f.source_fault;
      no_source_fault = f.no_source_fault;
      port = record {
        device_fault = λ e. subst (λ (n : ℕ). Rose n (g.P.Device.view c.serve_in_groups.result.0).faults) opened (f.port.device_fault e);
        put_fault = λ e. subst (λ (n : ℕ). Rose n (g.P.Device.view c.serve_in_groups.result.0).put_faults) put_before (f.port.put_fault e);
        no_device_fault = λ other. f.port.no_device_fault other ∙ opened;
        no_put_fault = λ other. f.port.no_put_fault other ∙ put_before;
      };
    }

pub returns-in-Ok-clause-untouched : goal.returns-in-Ok-clause-untouched
returns-in-Ok-clause-untouched g c told foreign = absurd (not_foreign _ (c.in-Ok.ensures.read told) foreign)

pub returns-in-Ok-clause-spared : goal.returns-in-Ok-clause-spared
returns-in-Ok-clause-spared g c told bad = absurd (bad (c.in-Ok.ensures.read told))

pub returns-in-Err-clause-read : goal.returns-in-Err-clause-read
returns-in-Err-clause-read g c = c.in-Err.ensures.read

pub returns-in-Err-clause-ran : goal.returns-in-Err-clause-ran
returns-in-Err-clause-ran g c =
    let old = g.P.Device.view c.args.port in
    let now = g.P.Device.view c.open_core.new.dev in
    record {
      bytes = [];
      came_in = record { taken = λ tells. sym (append-nil _); left = λ tells. refl };
      asked = [];
      these = inl (record { why = c.in-Err.ensures.stops; untouched = refl; none = refl; sent = c.open_core.ensures.sent; alike = c.open_core.ensures.any_moment });
      ends = λ told. ends_unopened g.R.Replies.voice c.args.placement.now.kind old now [] (c.open_core.ensures.any_moment told) g.met.R.Replies.apart.nothing c.in-Err.why refl (c.open_core.ensures.sent told) c.in-Err.ensures.stops;
    }

pub returns-in-Err-clause-faults : goal.returns-in-Err-clause-faults
returns-in-Err-clause-faults g c =
    let stops = c.in-Err.ensures.stops in
    record {
      source_fault = λ e. absurd (not_of_source c.in-Err.why stops e);
      no_source_fault = λ other. refl;
      port = record {
        device_fault = λ e. c.in-Err.ensures.faults.0 (ap (λ (w : Status). Err w) e);
        put_fault = λ e. absurd (not_of_put c.in-Err.why stops e);
        no_device_fault = λ other. c.in-Err.ensures.faults.1 (λ e. other (cc));
        no_put_fault = λ other. c.open_core.ensures.works.put_faults;
      };
    }

pub returns-in-Err-clause-untouched : goal.returns-in-Err-clause-untouched
returns-in-Err-clause-untouched g c = c.open_core.ensures.untouched

pub returns-in-Err-clause-spared : goal.returns-in-Err-clause-spared
returns-in-Err-clause-spared g c = c.open_core.ensures.spared

pub returns-in-Ok-clause-behind : goal.returns-in-Ok-clause-behind
returns-in-Ok-clause-behind g c told firm =
    let old = g.P.Device.view c.args.port in
    let mid = g.P.Device.view c.open_core.new.dev in
    let core = c.in-Ok.core in
    behind_opened core.volume.tables.geometry old mid (g.P.Device.view c.serve_in_groups.result.0) _ (g.met.P.Device.sound c.open_core.new.dev told)
    (size_of_core core old.reads mid (c.in-Ok.ensures.at told) (c.in-Ok.ensures.state told)) (c.open_core.ensures.behind told firm) (c.serve_in_groups.ensures.ran.any_moment told)

pub returns-in-Err-clause-behind : goal.returns-in-Err-clause-behind
returns-in-Err-clause-behind g c told firm = ∣ c.open_core.ensures.behind told firm ∣₁

pub returns-in-Ok-clause-rounds : goal.returns-in-Ok-clause-rounds
returns-in-Ok-clause-rounds g c told =
    let old = g.P.Device.view c.args.port in
    let mid = g.P.Device.view c.open_core.new.dev in
    let r = c.serve_in_groups.result.1 in
    let source = taking g.S.Source.told g.S.Source.taken g.S.Source.left_bytes g.S.Source.ended c.args.source.now c.serve_in_groups.new.source in
    record {
      opened = mark mid;
      of_port = (c.open_core.new.dev, refl);
      not_before = c.open_core.ensures.works.clock;
      nothing_sent = c.open_core.ensures.sent told;
      rounds = subst (λ (s : Placed). RanByRounds r (disk_service g.R.Replies.voice) disk_work MayWait (IsOfPort g.P.Device.view) g.R.Protocol.spelling c.args.limit s source (mark mid) (mark (g.P.Device.view c.serve_in_groups.result.0)))
          (placed_at c.args.placement.now.kind c.in-Ok.core mid.reads _ (c.in-Ok.ensures.state told)) (c.serve_in_groups.ensures.rounds told);
      nothing_left = inl (c.in-Ok.ensures.settled told);
    }

pub returns-in-Err-clause-rounds : goal.returns-in-Err-clause-rounds
unfolding ran_by_rounds so_far_none
returns-in-Err-clause-rounds g c told =
    let k = disk_service g.R.Replies.voice in
    let port = IsOfPort g.P.Device.view in
    let p = g.R.Protocol.spelling in
    let m = mark (g.P.Device.view c.open_core.new.dev) in
    let s = start_of c.args.placement.now.kind (g.P.Device.view c.args.port).reads in
    record {
      opened = m;
      of_port = (c.open_core.new.dev, refl);
      not_before = c.open_core.ensures.works.clock;
      nothing_sent = c.open_core.ensures.sent told;
      rounds = ran_by_rounds k disk_work MayWait port p c.args.limit c.in-Err.why s s s _ [] [] [] [] m m m m (so_far_none k disk_work MayWait port p c.args.limit s s m.sent (disk_work.debt m.reads) m.clock m (c.open_core.new.dev, refl) (omega arith) refl (omega arith) refl)
          (record { taken = λ tells. sym (append-nil _); left = λ tells. refl }) (near_none p c.args.limit g.met.R.Protocol.lawful.none (take_none c.args.limit)) (refl, refl) (omega arith) (λ cut. refl) (λ is. absurd (not_unopened c.in-Err.why c.in-Err.ensures.stops is));
      nothing_left = inr (refl, refl);
    }
