use Rattle.std.proofs.Common.{◌≡◌, inr, [], ◌++◌, refl, ◌∙◌, arith}
use Rattle.std.specs.Prelude.{Result, Ok, Err}
use Rattle.image_device.proofs.Parts.{part_stays}
use Rattle.tsd_words.specs.declared.status.Status.TheVariants as status
use Rattle.serving.proofs.Aside.{aside_then}
use Rattle.serving.proofs.Inputs.{came_first, came_then, handed_first, asked_stopped}
use Rattle.serving.proofs.Steps.{served_of, ends_now, goes_first, goes_next, ends_stopped, ends_done, ends_close_fault, ends_longer, not_cut, prompt_done, prompt_stopped, ran_of}
use Rattle.serving.proofs.Still.{still_first, still_next}
use Rattle.serving.specs.Prompt.{IsOfPort}
use Rattle.serving.specs.Ran.{taking, moments}
use Rattle.serving.proofs.run.serve_in.Goals as goal

ok_not_err : {T E : Type 0} (r : Result T E) (x : T) (why : E) → r ≡ Ok x → r ≡ Err why → ⊥
ok_not_err r x why ok err = cc

pub loop-server-init : goal.loop-server-init
loop-server-init g c = record {
  limit = c.requires.room.limit;
  lender = refl;
  aside = refl;
  aside_kept = λ told. part_stays (g.H.Server.aside c.args.server.now) (g.P.Device.view c.args.port.now) (g.met.P.Device.sound c.args.port.now told) (c.requires.at told).0;
  still = λ told ends. still_first (g.P.Device.view c.args.port.now) (g.met.P.Device.sound c.args.port.now told) (c.requires.at told).0;
  ready = c.requires.ready;
  at = c.requires.at;
  once = omega (arith, c.requires.room.ends);
  source_faults = refl;
  faults = refl;
  put_faults = refl;
  goes = (
    [],
    [],
    came_first g.S.Source.told _ _,
    handed_first g.R.Protocol.spelling _ _ c.args.intake.now c.requires.fresh g.met.R.Protocol.lawful.none c.requires.room.taken c.requires.room.held c.requires.room.over,
    λ told.
        let at = c.requires.at told in
        goes_first g.H.Server.service g.met.H.Server.counted g.H.Server.work (IsOfPort g.P.Device.view) _ _ (g.P.Device.view c.args.port.now) (g.met.P.Device.sound c.args.port.now told) at.0 (g.met.H.Server.stands_now c.args.server.now _ at.1) (g.met.H.Server.rests_now c.args.server.now _ at.1),
  );
}

pub loop-server-preserved : goal.loop-server-preserved
loop-server-preserved g c =
    let i = c.loop-server.invariant in
    let was = i.goes in
    let found = c.in-Request.ensures.found was.0 was.1 was.3 in
    record {
      limit = c.next.ensures.limit ∙ i.limit;
      lender = c.answer.ensures.lender ∙ i.lender;
      aside = c.answer.ensures.aside ∙ i.aside;
      aside_kept = λ told. aside_then (g.H.Server.aside c.args.server.now) (g.H.Server.aside c.loop-server.server) (g.P.Device.view c.args.port.now) (g.P.Device.view c.loop-server.port) (g.P.Device.view c.answer.new.port) (g.met.P.Device.sound c.loop-server.port told) i.aside (i.aside_kept told) (c.answer.ensures.aside_kept told);
      still = λ told ends.
          let a = c.in-Ok.ensures.answered told in
          still_next g.H.Server.service g.met.H.Server.counted _ _ _ a.0 a.1 (g.P.Device.view c.args.port.now) (g.P.Device.view c.loop-server.port) (g.P.Device.view c.answer.new.port) (i.still told ends) (c.in-Ok.ensures.still told ends) a.2;
      ready = c.answer.ensures.ready (ok_not_err c.answer.result _ _ c.in-Ok.is);
      at = c.answer.ensures.at (ok_not_err c.answer.result _ _ c.in-Ok.is);
      once = omega (arith, i.once, c.in-Request.ensures.later refl);
      source_faults = omega (arith, i.source_faults, c.in-Request.ensures.no_source_fault (λ e. cc));
      faults = c.in-Ok.ensures.faults.1 (λ e. cc) ∙ i.faults;
      put_faults = c.in-Ok.ensures.put_faults.1 (λ e. cc) ∙ i.put_faults;
      goes = (
        was.0 ++ found.0,
        _,
        came_then g.S.Source.told _ _ _ _ _ _ was.0 found.0 was.2 found.1,
        found.2,
        λ told.
            let a = c.in-Ok.ensures.answered told in
            goes_next g.H.Server.service g.met.H.Server.counted g.H.Server.work (IsOfPort g.P.Device.view) _ _ (g.P.Device.view c.args.port.now) was.1 _ _ (g.P.Device.view c.loop-server.port) (was.4 told) _ (g.P.Device.view c.answer.new.port) (c.answer.ensures.any_moment told) (c.answer.ensures.debt told)
            (g.met.P.Device.sound c.answer.new.port told) _ (g.met.H.Server.rests_now c.answer.new.self _ (c.answer.ensures.at (ok_not_err c.answer.result _ _ c.in-Ok.is) told).1) _ a.0 a.1 a.2 (c.in-Ok.ensures.less told) (c.in-Ok.ensures.paid told) (c.answer.new.port, refl) (c.in-Ok.ensures.prompt told),
      );
    }

pub returns-in-Err-clause-ran : goal.returns-in-Err-clause-ran
returns-in-Err-clause-ran g c =
    let i = c.loop-server.invariant in
    let was = i.goes in
    let found = c.in-Request.ensures.found was.0 was.1 was.3 in
    let asked = asked_stopped g.R.Protocol.spelling g.met.R.Protocol.lawful c.in-Err.why _ _ c.next.new.self (was.0 ++ found.0) _ c.in-Err.ensures.stops found.2 in
    ran_of c.in-Err.why g.H.Server.service g.H.Server.work g.R.Protocol.spelling _ _ c.args.limit c.next.new.self.limit (taking g.S.Source.told g.S.Source.taken g.S.Source.left_bytes g.S.Source.ended c.args.source.now c.next.new.source) _ (moments g.P.Device.told g.P.Device.view c.args.port.now c.answer.new.port) (was.0 ++ found.0) _ (c.next.ensures.limit ∙ i.limit)
    (came_then g.S.Source.told _ _ _ _ _ _ was.0 found.0 was.2 found.1) asked.1
    (λ told.
    ends_longer g.H.Server.service g.H.Server.work _ _ _ (g.P.Device.view c.args.port.now) (g.P.Device.view c.answer.new.port) _ asked.0 c.in-Err.why c.in-Err.ensures.stops
    (ends_stopped g.H.Server.service g.met.H.Server.counted g.H.Server.work (IsOfPort g.P.Device.view) _ _ (g.P.Device.view c.args.port.now) was.1 _ _ (g.P.Device.view c.loop-server.port) (was.4 told) _ (g.P.Device.view c.answer.new.port) (c.answer.ensures.any_moment told) (c.answer.ensures.debt told)
    c.in-Err.why _ c.in-Err.ensures.stops (c.in-Err.ensures.left told) (c.answer.ensures.most told)))

pub returns-in-Ok-close-clause-ran : goal.returns-in-Ok-close-clause-ran
returns-in-Ok-close-clause-ran g c =
    let i = c.loop-server.invariant in
    let was = i.goes in
    let found = c.in-End.ensures.found was.0 was.1 was.3 in
    ran_of _ g.H.Server.service g.H.Server.work g.R.Protocol.spelling _ _ c.args.limit c.next.new.self.limit (taking g.S.Source.told g.S.Source.taken g.S.Source.left_bytes g.S.Source.ended c.args.source.now c.next.new.source) _ (moments g.P.Device.told g.P.Device.view c.args.port.now c.close.new.dev) (was.0 ++ found.0) was.1 (c.next.ensures.limit ∙ i.limit)
    (came_then g.S.Source.told _ _ _ _ _ _ was.0 found.0 was.2 found.1) found.2
    (λ told.
    ends_done g.H.Server.service g.met.H.Server.counted g.H.Server.work (IsOfPort g.P.Device.view) _ _ (g.P.Device.view c.args.port.now) was.1 _ _ (g.P.Device.view c.loop-server.port) (was.4 told) (g.P.Device.view c.close.new.dev) (c.close.ensures.any_moment told) (c.close.ensures.debt told) (c.close.ensures.sent told) (c.close.ensures.most told)
    _ (c.in-Ok-close.ensures.state told))

pub returns-in-Err-close-clause-ran : goal.returns-in-Err-close-clause-ran
returns-in-Err-close-clause-ran g c =
    let i = c.loop-server.invariant in
    let was = i.goes in
    let found = c.in-End.ensures.found was.0 was.1 was.3 in
    ran_of _ g.H.Server.service g.H.Server.work g.R.Protocol.spelling _ _ c.args.limit c.next.new.self.limit (taking g.S.Source.told g.S.Source.taken g.S.Source.left_bytes g.S.Source.ended c.args.source.now c.next.new.source) _ (moments g.P.Device.told g.P.Device.view c.args.port.now c.close.new.dev) (was.0 ++ found.0) was.1 (c.next.ensures.limit ∙ i.limit)
    (came_then g.S.Source.told _ _ _ _ _ _ was.0 found.0 was.2 found.1) (inr (found.2.0, found.2.1, found.2.3))
    (λ told.
    ends_close_fault g.H.Server.service g.met.H.Server.counted g.H.Server.work (IsOfPort g.P.Device.view) _ _ (g.P.Device.view c.args.port.now) was.1 _ _ (g.P.Device.view c.loop-server.port) (was.4 told) (g.P.Device.view c.close.new.dev) (c.close.ensures.any_moment told) (c.close.ensures.debt told) (c.close.ensures.sent told) (c.close.ensures.most told) _)

pub returns-in-CutOff-clause-ran : goal.returns-in-CutOff-clause-ran
returns-in-CutOff-clause-ran g c =
    let i = c.loop-server.invariant in
    let was = i.goes in
    let found = c.in-CutOff.ensures.found was.0 was.1 was.3 in
    ran_of _ g.H.Server.service g.H.Server.work g.R.Protocol.spelling _ _ c.args.limit c.next.new.self.limit (taking g.S.Source.told g.S.Source.taken g.S.Source.left_bytes g.S.Source.ended c.args.source.now c.next.new.source) _ (moments g.P.Device.told g.P.Device.view c.args.port.now c.loop-server.port) (was.0 ++ found.0) was.1 (c.next.ensures.limit ∙ i.limit)
    (came_then g.S.Source.told _ _ _ _ _ _ was.0 found.0 was.2 found.1) found.2
    (λ told. ends_now g.H.Server.service g.H.Server.work (IsOfPort g.P.Device.view) _ _ (g.P.Device.view c.args.port.now) g.met.H.Server.counted _ was.1 _ _ (g.P.Device.view c.loop-server.port) (was.4 told) (served_of g.H.Server.service g.H.Server.work (IsOfPort g.P.Device.view) _ _ (g.P.Device.view c.args.port.now) was.1 _ _ (g.P.Device.view c.loop-server.port) (was.4 told)))

pub returns-in-Fault-clause-ran : goal.returns-in-Fault-clause-ran
returns-in-Fault-clause-ran g c =
    let i = c.loop-server.invariant in
    let was = i.goes in
    let found = c.in-Fault.ensures.found was.0 was.1 was.3 in
    ran_of _ g.H.Server.service g.H.Server.work g.R.Protocol.spelling _ _ c.args.limit c.next.new.self.limit (taking g.S.Source.told g.S.Source.taken g.S.Source.left_bytes g.S.Source.ended c.args.source.now c.next.new.source) _ (moments g.P.Device.told g.P.Device.view c.args.port.now c.loop-server.port) (was.0 ++ found.0) was.1 (c.next.ensures.limit ∙ i.limit)
    (came_then g.S.Source.told _ _ _ _ _ _ was.0 found.0 was.2 found.1) found.2
    (λ told. ends_now g.H.Server.service g.H.Server.work (IsOfPort g.P.Device.view) _ _ (g.P.Device.view c.args.port.now) g.met.H.Server.counted _ was.1 _ _ (g.P.Device.view c.loop-server.port) (was.4 told) (served_of g.H.Server.service g.H.Server.work (IsOfPort g.P.Device.view) _ _ (g.P.Device.view c.args.port.now) was.1 _ _ (g.P.Device.view c.loop-server.port) (was.4 told)))

pub returns-in-TooLong-clause-ran : goal.returns-in-TooLong-clause-ran
returns-in-TooLong-clause-ran g c =
    let i = c.loop-server.invariant in
    let was = i.goes in
    let found = c.in-TooLong.ensures.found was.0 was.1 was.3 in
    ran_of _ g.H.Server.service g.H.Server.work g.R.Protocol.spelling _ _ c.args.limit c.next.new.self.limit (taking g.S.Source.told g.S.Source.taken g.S.Source.left_bytes g.S.Source.ended c.args.source.now c.next.new.source) _ (moments g.P.Device.told g.P.Device.view c.args.port.now c.loop-server.port) (was.0 ++ found.0) was.1 (c.next.ensures.limit ∙ i.limit)
    (came_then g.S.Source.told _ _ _ _ _ _ was.0 found.0 was.2 found.1) found.2
    (λ told. ends_now g.H.Server.service g.H.Server.work (IsOfPort g.P.Device.view) _ _ (g.P.Device.view c.args.port.now) g.met.H.Server.counted _ was.1 _ _ (g.P.Device.view c.loop-server.port) (was.4 told) (served_of g.H.Server.service g.H.Server.work (IsOfPort g.P.Device.view) _ _ (g.P.Device.view c.args.port.now) was.1 _ _ (g.P.Device.view c.loop-server.port) (was.4 told)))

pub returns-in-Err-clause-prompt : goal.returns-in-Err-clause-prompt
returns-in-Err-clause-prompt g c told =
    let i = c.loop-server.invariant in
    let was = i.goes in
    let found = c.in-Request.ensures.found was.0 was.1 was.3 in
    let asked = asked_stopped g.R.Protocol.spelling g.met.R.Protocol.lawful c.in-Err.why _ _ c.next.new.self (was.0 ++ found.0) _ c.in-Err.ensures.stops found.2 in
    prompt_stopped g.H.Server.service g.met.H.Server.counted g.H.Server.work (IsOfPort g.P.Device.view) _ _ (g.P.Device.view c.args.port.now) was.1 _ _ (g.P.Device.view c.loop-server.port) (was.4 told) _ (g.P.Device.view c.answer.new.port) (c.answer.ensures.any_moment told) (c.answer.ensures.debt told)
    c.in-Err.why _ c.in-Err.ensures.stops (c.in-Err.ensures.left told) g.R.Protocol.spelling c.next.new.self.limit c.args.limit (taking g.S.Source.told g.S.Source.taken g.S.Source.left_bytes g.S.Source.ended c.args.source.now c.next.new.source) (was.0 ++ found.0) asked.0 (c.next.ensures.limit ∙ i.limit)
    (came_then g.S.Source.told _ _ _ _ _ _ was.0 found.0 was.2 found.1) asked.1

pub returns-in-Ok-close-clause-prompt : goal.returns-in-Ok-close-clause-prompt
returns-in-Ok-close-clause-prompt g c told =
    let i = c.loop-server.invariant in
    let was = i.goes in
    let found = c.in-End.ensures.found was.0 was.1 was.3 in
    prompt_done status.Done g.H.Server.service g.met.H.Server.counted g.H.Server.work (IsOfPort g.P.Device.view) _ _ (g.P.Device.view c.args.port.now) was.1 _ _ (g.P.Device.view c.loop-server.port) (g.P.Device.view c.close.new.dev) (was.4 told) (c.close.ensures.sent told) (c.close.ensures.any_moment told).later (λ cut. absurd cut)
    g.R.Protocol.spelling c.next.new.self.limit c.args.limit (taking g.S.Source.told g.S.Source.taken g.S.Source.left_bytes g.S.Source.ended c.args.source.now c.next.new.source) (was.0 ++ found.0) (c.next.ensures.limit ∙ i.limit)
    (came_then g.S.Source.told _ _ _ _ _ _ was.0 found.0 was.2 found.1) found.2

pub returns-in-Err-close-clause-prompt : goal.returns-in-Err-close-clause-prompt
returns-in-Err-close-clause-prompt g c told =
    let i = c.loop-server.invariant in
    let was = i.goes in
    let found = c.in-End.ensures.found was.0 was.1 was.3 in
    prompt_done status.DeviceFault g.H.Server.service g.met.H.Server.counted g.H.Server.work (IsOfPort g.P.Device.view) _ _ (g.P.Device.view c.args.port.now) was.1 _ _ (g.P.Device.view c.loop-server.port) (g.P.Device.view c.close.new.dev) (was.4 told) (c.close.ensures.sent told) (c.close.ensures.any_moment told).later (λ cut. absurd cut)
    g.R.Protocol.spelling c.next.new.self.limit c.args.limit (taking g.S.Source.told g.S.Source.taken g.S.Source.left_bytes g.S.Source.ended c.args.source.now c.next.new.source) (was.0 ++ found.0) (c.next.ensures.limit ∙ i.limit)
    (came_then g.S.Source.told _ _ _ _ _ _ was.0 found.0 was.2 found.1) (inr (found.2.0, found.2.1, found.2.3))

pub returns-in-CutOff-clause-prompt : goal.returns-in-CutOff-clause-prompt
returns-in-CutOff-clause-prompt g c told =
    let i = c.loop-server.invariant in
    let was = i.goes in
    let found = c.in-CutOff.ensures.found was.0 was.1 was.3 in
    prompt_done status.Truncated g.H.Server.service g.met.H.Server.counted g.H.Server.work (IsOfPort g.P.Device.view) _ _ (g.P.Device.view c.args.port.now) was.1 _ _ (g.P.Device.view c.loop-server.port) (g.P.Device.view c.loop-server.port) (was.4 told) refl (omega arith) (λ cut. refl)
    g.R.Protocol.spelling c.next.new.self.limit c.args.limit (taking g.S.Source.told g.S.Source.taken g.S.Source.left_bytes g.S.Source.ended c.args.source.now c.next.new.source) (was.0 ++ found.0) (c.next.ensures.limit ∙ i.limit)
    (came_then g.S.Source.told _ _ _ _ _ _ was.0 found.0 was.2 found.1) found.2

pub returns-in-Fault-clause-prompt : goal.returns-in-Fault-clause-prompt
returns-in-Fault-clause-prompt g c told =
    let i = c.loop-server.invariant in
    let was = i.goes in
    let found = c.in-Fault.ensures.found was.0 was.1 was.3 in
    prompt_done status.SourceFault g.H.Server.service g.met.H.Server.counted g.H.Server.work (IsOfPort g.P.Device.view) _ _ (g.P.Device.view c.args.port.now) was.1 _ _ (g.P.Device.view c.loop-server.port) (g.P.Device.view c.loop-server.port) (was.4 told) refl (omega arith) (λ cut. refl)
    g.R.Protocol.spelling c.next.new.self.limit c.args.limit (taking g.S.Source.told g.S.Source.taken g.S.Source.left_bytes g.S.Source.ended c.args.source.now c.next.new.source) (was.0 ++ found.0) (c.next.ensures.limit ∙ i.limit)
    (came_then g.S.Source.told _ _ _ _ _ _ was.0 found.0 was.2 found.1) found.2

pub returns-in-TooLong-clause-prompt : goal.returns-in-TooLong-clause-prompt
returns-in-TooLong-clause-prompt g c told =
    let i = c.loop-server.invariant in
    let was = i.goes in
    let found = c.in-TooLong.ensures.found was.0 was.1 was.3 in
    prompt_done status.TooLong g.H.Server.service g.met.H.Server.counted g.H.Server.work (IsOfPort g.P.Device.view) _ _ (g.P.Device.view c.args.port.now) was.1 _ _ (g.P.Device.view c.loop-server.port) (g.P.Device.view c.loop-server.port) (was.4 told) refl (omega arith) (λ cut. refl)
    g.R.Protocol.spelling c.next.new.self.limit c.args.limit (taking g.S.Source.told g.S.Source.taken g.S.Source.left_bytes g.S.Source.ended c.args.source.now c.next.new.source) (was.0 ++ found.0) (c.next.ensures.limit ∙ i.limit)
    (came_then g.S.Source.told _ _ _ _ _ _ was.0 found.0 was.2 found.1) found.2

pub returns-in-Err-clause-aside_kept : goal.returns-in-Err-clause-aside_kept
returns-in-Err-clause-aside_kept g c told =
    let i = c.loop-server.invariant in
    aside_then (g.H.Server.aside c.args.server.now) (g.H.Server.aside c.loop-server.server) (g.P.Device.view c.args.port.now) (g.P.Device.view c.loop-server.port) (g.P.Device.view c.answer.new.port) (g.met.P.Device.sound c.loop-server.port told) i.aside (i.aside_kept told) (c.answer.ensures.aside_kept told)

pub returns-in-Ok-close-clause-aside_kept : goal.returns-in-Ok-close-clause-aside_kept
returns-in-Ok-close-clause-aside_kept g c told =
    let i = c.loop-server.invariant in
    aside_then (g.H.Server.aside c.args.server.now) (g.H.Server.aside c.loop-server.server) (g.P.Device.view c.args.port.now) (g.P.Device.view c.loop-server.port) (g.P.Device.view c.close.new.dev) (g.met.P.Device.sound c.loop-server.port told) i.aside (i.aside_kept told) (c.close.ensures.aside_kept told)

pub returns-in-Err-close-clause-aside_kept : goal.returns-in-Err-close-clause-aside_kept
returns-in-Err-close-clause-aside_kept g c told =
    let i = c.loop-server.invariant in
    aside_then (g.H.Server.aside c.args.server.now) (g.H.Server.aside c.loop-server.server) (g.P.Device.view c.args.port.now) (g.P.Device.view c.loop-server.port) (g.P.Device.view c.close.new.dev) (g.met.P.Device.sound c.loop-server.port told) i.aside (i.aside_kept told) (c.close.ensures.aside_kept told)

pub returns-in-Err-clause-still : goal.returns-in-Err-clause-still
returns-in-Err-clause-still g c told ends cut = absurd (not_cut c.in-Err.why c.in-Err.ensures.stops cut)

pub returns-in-CutOff-clause-still : goal.returns-in-CutOff-clause-still
returns-in-CutOff-clause-still g c told ends cut = c.loop-server.invariant.still told ends

pub returns-in-Fault-clause-still : goal.returns-in-Fault-clause-still
returns-in-Fault-clause-still g c told ends cut = c.loop-server.invariant.still told ends

pub returns-in-TooLong-clause-still : goal.returns-in-TooLong-clause-still
returns-in-TooLong-clause-still g c told ends cut = c.loop-server.invariant.still told ends
