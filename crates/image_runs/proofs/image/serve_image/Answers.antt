use Rattle.std.proofs.Common.{inl, inr, [], refl, sym, subst, append-nil, arith, lit<}
use Rattle.image_runs.proofs.Common.{IsCounted, disk_rules, disk_work, disk_service, placed_on, Placed, IsOfPort, Promptly, mark, spoken, spoken_counted, start_of, taking, world_of}
use Rattle.image_runs.proofs.Behind.{behind_then, size_of_core}
use Rattle.image_runs.proofs.Looking.{spares_good}
use Rattle.image_runs.proofs.Saying.{faults_stopped, faults_then}
use Rattle.image_runs.proofs.Started.{placed_at, ends_opened, ends_unopened, judged_by, done_no_fault, not_of_source, not_of_put, ok_no_fault}
use Rattle.image_runs.proofs.image.serve_image.Given as given
use Rattle.image_runs.proofs.image.serve_image.Goals as goal

pub new-intake-requires : goal.new-intake-requires
new-intake-requires g c = c.requires.few

pub serve_core_in-requires : goal.serve_core_in-requires
serve_core_in-requires g c =
    let new = c.new-intake.ensures in
    record { few = c.requires.few; fresh = c.requires.fresh; room = record { limit = new.limit; taken = new.taken; held = new.held; over = new.over; ends = new.ends }; ready = c.in-Ok.ensures.ready; at = c.in-Ok.ensures.at }

pub array_drop-core-inside-requires : goal.array_drop-core-inside-requires
array_drop-core-inside-requires g c = lit< tt

counted : (g : given.Over) → IsCounted (disk_service g.R.Replies.voice)
counted g = spoken_counted disk_rules g.R.Replies.voice (λ s q r t given. given.1) g.met.R.Replies.apart

pub returns-in-Ok : goal.returns-in-Ok
returns-in-Ok g c =
    let ran = c.serve_core_in.ensures.ran in
    let kind = c.args.placement.now.kind in
    let old = g.P.Device.view c.args.port.now in
    let mid = g.P.Device.view c.open_core.new.dev in
    let new = g.P.Device.view c.serve_core_in.new.port in
    let is = c.in-Ok.ensures in
    let spares = spares_good {told = g.P.Device.told} {old = old} {new = new} is.read (λ told firm.
    behind_then c.in-Ok.core.volume.tables.geometry old mid new (g.met.P.Device.sound c.open_core.new.dev told) (size_of_core c.in-Ok.core old.reads mid (is.at told) (is.state told)) (c.open_core.ensures.behind told firm) (c.serve_core_in.ensures.behind told)) in
    record {
      read = λ told. judged_by old.reads c.serve_core_in.result g.R.Protocol.spelling c.args.limit ran.bytes _ ran.asked ran.these (is.read told);
      ran = record {
        bytes = ran.bytes;
        came_in = ran.came_in;
        asked = ran.asked;
        these = inr ran.these;
        final = placed_on kind c.serve_core_in.new.core new.reads;
        ends = λ told.
            ends_opened c.serve_core_in.result g.R.Replies.voice kind old mid new ran.asked _ _ _ (counted g) (placed_at kind c.in-Ok.core mid.reads _ (is.state told)) (is.settled told)
            (record { sent = c.open_core.ensures.sent told; any_moment = c.open_core.ensures.any_moment told; any_debt = c.open_core.ensures.any_debt told; writes = is.paid told })
            (ran.ends told)
            (λ done.
            let at = c.serve_core_in.ensures.at (done_no_fault c.serve_core_in.result done) told in
            record { firm = at.0; stands = record { good = at.1.good; world = refl {a = world_of new.reads} }; quiet = c.serve_core_in.ensures.closed done told });
      };
      prompt = λ told.
          let source = taking g.S.Source.told g.S.Source.taken g.S.Source.left_bytes g.S.Source.ended c.args.source.now c.serve_core_in.new.source in
          record {
            opened = mark mid;
            of_port = (c.open_core.new.dev, refl);
            not_before = c.open_core.ensures.works.clock;
            sent = c.open_core.ensures.sent told;
            writes = λ quiet. omega (arith, c.open_core.ensures.unwritten told quiet);
            prompt = inr (subst (λ (s : Placed). Promptly c.serve_core_in.result (spoken disk_rules g.R.Replies.voice) disk_work (IsOfPort g.P.Device.view) g.R.Protocol.spelling c.args.limit s source (mark mid) (mark new))
                (placed_at kind c.in-Ok.core mid.reads _ (is.state told)) (c.serve_core_in.ensures.prompt told));
          };
      untouched = spares.foreign;
      spared = spares.damaged;
      behind = spares.behind;
      once = c.serve_core_in.ensures.once;
      faults = faults_then (is.faults.1 (ok_no_fault c.in-Ok.core)) c.open_core.ensures.works.put_faults c.serve_core_in.ensures.faults;
    }

pub returns-in-Err : goal.returns-in-Err
returns-in-Err g c =
    let kind = c.args.placement.now.kind in
    let old = g.P.Device.view c.args.port.now in
    let new = g.P.Device.view c.open_core.new.dev in
    let is = c.open_core.ensures in
    let stops = c.in-Err.ensures.stops in
    record {
      read = c.in-Err.ensures.read;
      ran = record {
        bytes = [];
        came_in = record { taken = λ tells. sym (append-nil _); left = λ tells. refl };
        asked = [];
        these = inl (record { why = stops; untouched = refl; none = refl; sent = is.sent; alike = is.any_moment });
        final = start_of kind old.reads;
        ends = λ told.
            ends_unopened c.in-Err.why g.R.Replies.voice kind old new (counted g) stops
            (record { sent = is.sent told; any_moment = is.any_moment told; any_debt = is.any_debt told; writes = λ quiet. omega (arith, is.unwritten told quiet) });
      };
      prompt = λ told. record {
        opened = mark new;
        of_port = (c.open_core.new.dev, refl);
        not_before = is.works.clock;
        sent = is.sent told;
        writes = λ quiet. omega (arith, is.unwritten told quiet);
        prompt = inl (record { why = stops; untouched = refl; nothing = refl });
      };
      untouched = is.untouched;
      spared = is.spared;
      behind = is.behind;
      once = omega arith;
      faults = record {
        source_fault = λ e. absurd (not_of_source c.in-Err.why stops e);
        no_source_fault = λ other. refl;
        port = faults_stopped c.in-Err.why old new (not_of_put c.in-Err.why stops) c.in-Err.ensures.faults is.works.put_faults;
      };
    }
