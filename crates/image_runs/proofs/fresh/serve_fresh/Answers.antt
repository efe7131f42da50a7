use Rattle.std.proofs.Common.{◌≡◌, inl, List, refl, sym, subst, append-nil}
use Rattle.image_runs.proofs.Common.{IsCounted, LeavesOnly, Stands, IsFormatting, fresh_world, CapPair, disk_rules, disk_service, spoken_counted, taking, single_world, IsOfPort, mark}
use Rattle.image_runs.proofs.Behind.{behind_format, behind_formatted, behind_fresh}
use Rattle.image_runs.proofs.FreshRuns.{Formatted, prompt_formatted, ran_formatted, ran_unformatted}
use Rattle.image_runs.proofs.Saying.{faults_then}
use Rattle.image_runs.proofs.fresh.serve_fresh.Given as given
use Rattle.image_runs.proofs.fresh.serve_fresh.Goals as goal

counted : (g : given.Over) → IsCounted (disk_service g.R.Replies.voice)
counted g = spoken_counted disk_rules g.R.Replies.voice (λ s q r t given. given.1) g.met.R.Replies.apart

pub returns-in-Ok : goal.returns-in-Ok
returns-in-Ok g c =
    let old = g.P.Device.view c.args.port.now in
    let mid = g.P.Device.view c.format.new.dev in
    let new = g.P.Device.view c.serve_image.new.port in
    let geometry = c.args.geometry.now in
    let world = single_world geometry c.args.caps.now in
    let took = taking g.S.Source.told g.S.Source.taken g.S.Source.left_bytes g.S.Source.ended c.args.source.now c.serve_image.new.source in
    let is = c.serve_image.ensures in
    let done : g.P.Device.told → Formatted world old mid = λ told. record {
      ease = record {
        firm = c.in-Ok.ensures.firm told;
        stands = subst (λ (l : List CapPair). Stands mid.reads (fresh_world geometry l)) c.one_pair.ensures (c.in-Ok.ensures.done told);
        quiet = c.in-Ok.ensures.quiet told;
      };
      sent = c.format.ensures.sent told;
      leaves = subst (λ (l : List CapPair). LeavesOnly old mid (λ x f. IsFormatting old (fresh_world geometry l) x f × (f ≡ old.sent))) c.one_pair.ensures (c.format.ensures.any_moment told);
      uses = c.format.ensures.uses;
    } in
    record {
      ran = ran_formatted g.P.Device.told _ _ old mid new (counted g) done is.read is.ran;
      prompt = λ told. prompt_formatted c.serve_image.result g.R.Replies.voice c.args.placement.now.kind world (IsOfPort g.P.Device.view) g.R.Protocol.spelling c.args.limit took old mid new (done told) (is.prompt told);
      behind = λ told firm.
          let ease = (done told).ease in
          behind_fresh geometry world old mid new (g.met.P.Device.sound c.format.new.dev told) refl ease.stands ease.quiet.closed (behind_format geometry old mid c.requires.lawful firm (c.format.ensures.inside told)) (is.behind told ease.firm);
      once = is.once;
      faults = faults_then c.in-Ok.ensures.faults c.format.ensures.uses.put_faults is.faults;
    }

pub returns-in-Err-clause-ran : goal.returns-in-Err-clause-ran
returns-in-Err-clause-ran g c =
    let old = g.P.Device.view c.args.port.now in
    let new = g.P.Device.view c.format.new.dev in
    ran_unformatted (counted g) (record { taken = λ tells. sym (append-nil _); left = λ tells. refl }) refl c.format.ensures.sent
    (λ told. subst (λ (l : List CapPair). LeavesOnly old new (λ x f. IsFormatting old (fresh_world c.args.geometry.now l) x f × (f ≡ old.sent))) c.one_pair.ensures (c.format.ensures.any_moment told))
    c.format.ensures.uses

pub returns-in-Err-clause-prompt : goal.returns-in-Err-clause-prompt
returns-in-Err-clause-prompt g c told =
    let new = g.P.Device.view c.format.new.dev in
    record {
      opened = mark new;
      of_port = (c.format.new.dev, refl);
      not_before = c.format.ensures.uses.clock;
      sent = c.format.ensures.sent told;
      writes = λ _. c.format.ensures.uses.most;
      prompt = inl (record { why = tt; untouched = refl; nothing = refl });
    }

pub returns-in-Err-clause-behind : goal.returns-in-Err-clause-behind
returns-in-Err-clause-behind g c told firm =
    let old = g.P.Device.view c.args.port.now in
    let mid = g.P.Device.view c.format.new.dev in
    behind_formatted c.args.geometry.now old mid (behind_format c.args.geometry.now old mid c.requires.lawful firm (c.format.ensures.inside told))
