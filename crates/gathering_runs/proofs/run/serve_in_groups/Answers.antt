use Rattle.std.proofs.Common.{◌≡◌, cond, ℕ, false, List, [], ◌∷◌, ◌++◌, refl, sym, ◌∙◌, ap, subst, arith, append_assoc, append-nil}
use Rattle.image_device.specs.Image.{Image}
use Rattle.image_device.specs.Runs.{LeavesOnly}
use Rattle.tsd_words.specs.declared.status.Status.TheVariants as status
use Rattle.serving.specs.Goes.{Handed, ends_left, unread}
use Rattle.serving.specs.Ran.{AskedBy, IsAtEnd}
use Rattle.serving.specs.Voice.{spoken, spoken_counted}
use Rattle.serving.proofs.Inputs.{came_first, came_then, handed_first}
use Rattle.gathering.specs.Gathered.{cleared}
use Rattle.gathering_runs.specs.Promise.{IsLeftByRun}
use Rattle.gathering_runs.specs.Run.{AskedInGroups}
use Rattle.gathering_runs.specs.Sent.{IsSentBy}
use Rattle.gathering_runs.specs.Turns.{StopsBy, Turned}
use Rattle.gathering_runs.proofs.Ending.{asked_none, asked_then_stopped, asked_to_end, left_longer, not_cut, not_done}
use Rattle.gathering_runs.proofs.Handing.{handed_then}
use Rattle.gathering_runs.proofs.Outcome.{counts_ok, err_is_if, ok_is, stopped_faults}
use Rattle.gathering_runs.proofs.Sent.{sent_longer, sent_stopped}
use Rattle.serving.specs.Prompt.{IsOfPort, mark}
use Rattle.gathering_runs.proofs.ByTurns.{all_turns}
use Rattle.gathering_runs.proofs.Reclaiming.{owed_between}
use Rattle.gathering_runs.proofs.Rounds.{all_handed, near_cut, near_end, near_fault, near_found, near_none, ran_by_rounds, run_none, so_far_more, so_far_none, take_none}
use Rattle.gathering_runs.proofs.Turning.{Went, later_mere, left_then, sent_turned, went, went_then}
use Rattle.gathering_runs.proofs.run.serve_in_groups.Goals as goal

pub returns-in-Err-clause-ran : goal.returns-in-Err-clause-ran
returns-in-Err-clause-ran g c = record {
  bytes = [];
  came_in = came_first g.S.Source.told _ _;
  asked = [];
  these = asked_none g.R.Protocol.spelling c.in-Err.why c.args.limit _ c.in-Err.ensures.stops g.met.R.Protocol.lawful.none;
  any_moment = λ told. (c.in-Err.ensures.did told).any_moment;
  sent = λ told.
      sent_stopped (spoken g.H.Handler.rules g.R.Replies.voice) (spoken_counted g.H.Handler.rules g.R.Replies.voice (λ s q r t given. g.met.H.Handler.given_form s q r t given) g.met.R.Replies.apart)
      _ _ [] _ c.in-Err.why c.in-Err.ensures.stops (c.in-Err.ensures.did told).stopped;
  done = λ told is. absurd (not_done c.in-Err.why c.in-Err.ensures.stops is);
}

pub loop-server-init : goal.loop-server-init
loop-server-init g c = record {
  limit = c.new-intake.ensures.limit;
  read = λ over. c.new-intake.ensures.held;
  aside = c.begin.ensures.aside;
  ready = c.in-Ok.ensures.ready;
  between = c.in-Ok.ensures.between;
  once = omega (arith, c.new-intake.ensures.ends);
  source_faults = refl;
  faults = c.in-Ok.ensures.device_fault.1 (λ e. cc);
  put_faults = c.in-Ok.ensures.put_fault.1 (λ e. cc);
  goes = (
    [],
    [],
    came_first g.S.Source.told _ _,
    handed_first g.R.Protocol.spelling _ _ c.new-intake.result c.requires.fresh g.met.R.Protocol.lawful.none c.new-intake.ensures.taken c.new-intake.ensures.held c.new-intake.ensures.over,
    λ told. went (spoken g.H.Handler.rules g.R.Replies.voice) (g.H.Handler.aside c.args.server.now) _ _ _ _ _ _ [] refl (c.in-Ok.ensures.did told),
    λ told.
        let h0 = c.args.server.now in
        let h1 = c.begin.new.server in
        let before = g.met.H.GroupHandler.owes h0 (g.P.Device.view c.args.port).reads (c.requires.at told).1 in
        let behind = owed_between (g.H.Handler.holds h1) g.H.Handler.work.debt (g.H.GroupHandler.owed h1) (g.met.H.GroupHandler.owes h1) (g.met.H.GroupHandler.owed_alike h1) _ (g.P.Device.view c.begin.new.port) (c.in-Ok.ensures.between told) in
        so_far_none (spoken g.H.Handler.rules g.R.Replies.voice) g.H.Handler.work g.H.GroupHandler.may_wait (IsOfPort g.P.Device.view) g.R.Protocol.spelling c.args.limit _ _ _ (g.H.Handler.work.debt (g.P.Device.view c.args.port).reads) _ (mark (g.P.Device.view c.begin.new.port)) (c.begin.new.port, refl) (later_mere (g.P.Device.view c.args.port) (g.P.Device.view c.begin.new.port) _ (c.in-Ok.ensures.did told).any_moment) (c.begin.ensures.sent told)
        (let same = c.in-Ok.ensures.owes in omega (arith, same, before, behind))
        (run_none (spoken g.H.Handler.rules g.R.Replies.voice) _ _ (c.in-Ok.ensures.did told).served.answers (c.in-Ok.ensures.did told).served.run),
  );
}

pub loop-server-smaller : goal.loop-server-smaller
loop-server-smaller g c = let less = c.in-Request.ensures.less refl in omega (arith, less, c.serve_in_hand-left.ensures.fewer)

pub loop-server-preserved : goal.loop-server-preserved
loop-server-preserved g c =
    let i = c.loop-server.invariant in
    let was = i.goes in
    let found = c.in-Request.ensures.found was.0 was.1 was.3 in
    let e = c.serve_in_hand-left.ensures in
    let did = e.did in
    let r = c.serve_in_hand-left.result.1 in
    let q = c.next.new.into in
    let k = spoken g.H.Handler.rules g.R.Replies.voice in
    let sp = g.R.Protocol.spelling in
    let ended = IsAtEnd g.S.Source.told (g.S.Source.ended c.next.new.source) (g.S.Source.left_bytes c.next.new.source) in
    let fed1 = λ (x : List ℕ). g.R.Protocol.was_fed x c.next.new.protocol in
    let fed2 = λ (x : List ℕ). g.R.Protocol.was_fed x c.serve_in_hand-left.new.protocol in
    let j = c.serve_in_hand-left.new.intake in
    let bytes = was.0 ++ found.0 in
    let part = g.H.Handler.aside c.args.server.now in
    let v0 = g.P.Device.view c.args.port in
    let v1 = g.P.Device.view c.loop-server.disk.port in
    let v2 = g.P.Device.view c.serve_in_hand-left.result.0.port in
    let s1 = g.H.Handler.state c.loop-server.server (cleared v1.reads) in
    let s2 = g.H.Handler.state c.serve_in_hand-left.new.server (cleared v2.reads) in
    let left : ends_left j ≡ ends_left c.next.new.self = ap (λ b. cond b 0 1) did.1.over in
    let handed = subst (λ l. Handed sp fed2 ended j bytes l) (append_assoc was.1 (q ∷ []) did.0) (handed_then sp fed1 fed2 ended c.next.new.self j bytes (was.1 ++ q ∷ []) did.0 found.2 did.1) in
    let read : j.over ≡ false → unread j ≡ [] = λ over. ok_is r _ c.in-Ok-served.is e.read (sym did.1.over ∙ over) in
    record {
      limit = did.1.limit ∙ c.next.ensures.limit ∙ i.limit;
      read = read;
      aside = e.aside ∙ i.aside;
      ready = ok_is r _ c.in-Ok-served.is e.ready;
      between = λ told. ok_is r _ c.in-Ok-served.is (e.between told);
      once = let l = c.in-Request.ensures.later refl in omega (arith, i.once, l, left);
      source_faults = omega (arith, i.source_faults, c.in-Request.ensures.no_source_fault (λ e. cc));
      faults = counts_ok status.DeviceFault r _ _ _ c.in-Ok-served.is e.device_fault ∙ i.faults;
      put_faults = counts_ok status.PutFault r _ _ _ c.in-Ok-served.is e.put_fault ∙ i.put_faults;
      goes = (
        bytes,
        was.1 ++ q ∷ did.0,
        came_then g.S.Source.told _ _ _ _ _ _ was.0 found.0 was.2 found.1,
        handed,
        λ told.
            went_then k part _ s1 s2 v0 v1 v2 was.1 (q ∷ did.0) (was.4 told)
            (went k part r _ s1 s2 v1 v2 (q ∷ did.0) c.in-Ok-served.is (subst (λ (p : Image → Image). Turned r k p s1 s2 v1 v2 (q ∷ did.0)) i.aside (did.2 told))),
        λ told.
            so_far_more k g.H.Handler.work g.H.GroupHandler.may_wait (IsOfPort g.P.Device.view) sp c.args.limit _ s1 s2 was.0 found.0 was.1 (q ∷ did.0) _ _ _ (mark v1) (mark v2) (was.5 told)
            (near_found sp fed1 ended c.next.new.self c.args.limit was.0 found.0 was.1 q (c.next.ensures.limit ∙ i.limit) found.2)
            (all_turns k g.H.Handler.work g.H.GroupHandler.may_wait (IsOfPort g.P.Device.view) r _ s1 s2 (q ∷ did.0) (mark v1) (mark v2) c.in-Ok-served.is (did.3 told))
            (all_handed sp fed2 ended j c.args.limit bytes (was.1 ++ q ∷ did.0) (did.1.limit ∙ c.next.ensures.limit ∙ i.limit) read handed),
      );
    }

pub returns-in-Err-served-clause-ran : goal.returns-in-Err-served-clause-ran
returns-in-Err-served-clause-ran g c =
    let i = c.loop-server.invariant in
    let was = i.goes in
    let found = c.in-Request.ensures.found was.0 was.1 was.3 in
    let e = c.serve_in_hand-left.ensures in
    let did = e.did in
    let r = c.serve_in_hand-left.result.1 in
    let q = c.next.new.into in
    let k = spoken g.H.Handler.rules g.R.Replies.voice in
    let sp = g.R.Protocol.spelling in
    let ended = IsAtEnd g.S.Source.told (g.S.Source.ended c.next.new.source) (g.S.Source.left_bytes c.next.new.source) in
    let fed1 = λ (x : List ℕ). g.R.Protocol.was_fed x c.next.new.protocol in
    let fed2 = λ (x : List ℕ). g.R.Protocol.was_fed x c.serve_in_hand-left.new.protocol in
    let j = c.serve_in_hand-left.new.intake in
    let bytes = was.0 ++ found.0 in
    let part = g.H.Handler.aside c.args.server.now in
    let v0 = g.P.Device.view c.args.port in
    let v1 = g.P.Device.view c.loop-server.disk.port in
    let v2 = g.P.Device.view c.serve_in_hand-left.result.0.port in
    let s0 = g.H.Handler.state c.args.server.now v0.reads in
    let s1 = g.H.Handler.state c.loop-server.server (cleared v1.reads) in
    let s2 = g.H.Handler.state c.serve_in_hand-left.new.server (cleared v2.reads) in
    let stops = err_is_if StopsBy r _ c.in-Err-served.is e.stops in
    let handed = subst (λ l. Handed sp fed2 ended j bytes l) (append_assoc was.1 (q ∷ []) did.0) (handed_then sp fed1 fed2 ended c.next.new.self j bytes (was.1 ++ q ∷ []) did.0 found.2 did.1) in
    let asked = asked_then_stopped sp g.met.R.Protocol.lawful c.in-Err-served.why fed2 ended j bytes (was.1 ++ q ∷ did.0) stops handed in
    record {
      bytes = bytes;
      came_in = came_then g.S.Source.told _ _ _ _ _ _ was.0 found.0 was.2 found.1;
      asked = (was.1 ++ q ∷ did.0) ++ asked.0;
      these = subst (λ n. AskedInGroups c.in-Err-served.why sp n bytes ended ((was.1 ++ q ∷ did.0) ++ asked.0)) (did.1.limit ∙ c.next.ensures.limit ∙ i.limit) asked.1;
      any_moment = λ told.
          left_longer k part s0 v0 v2 (was.1 ++ q ∷ did.0) asked.0
          (left_then k part s0 s1 v0 v1 v2 was.1 (q ∷ did.0) (was.4 told) (subst (λ (p : Image → Image). Turned r k p s1 s2 v1 v2 (q ∷ did.0)) i.aside (did.2 told)).any_moment);
      sent = λ told.
          sent_stopped k (spoken_counted g.H.Handler.rules g.R.Replies.voice (λ s q r t given. g.met.H.Handler.given_form s q r t given) g.met.R.Replies.apart)
          s0 v0.sent ((was.1 ++ q ∷ did.0) ++ asked.0) v2.sent c.in-Err-served.why stops
          (sent_longer k c.in-Err-served.why s0 v0.sent v2.sent (was.1 ++ q ∷ did.0) asked.0
          (sent_turned k part r c.in-Err-served.why s0 s1 s2 v0 v1 v2 was.1 (q ∷ did.0) c.in-Err-served.is (was.4 told) (subst (λ (p : Image → Image). Turned r k p s1 s2 v1 v2 (q ∷ did.0)) i.aside (did.2 told))));
      done = λ told is. absurd (not_done c.in-Err-served.why stops is);
    }

pub returns-in-Ok-finished-clause-ran : goal.returns-in-Ok-finished-clause-ran
returns-in-Ok-finished-clause-ran g c =
    let i = c.loop-server.invariant in
    let was = i.goes in
    let found = c.in-End.ensures.found was.0 was.1 was.3 in
    let ended = IsAtEnd g.S.Source.told (g.S.Source.ended c.next.new.source) (g.S.Source.left_bytes c.next.new.source) in
    let k = spoken g.H.Handler.rules g.R.Replies.voice in
    let part = g.H.Handler.aside c.args.server.now in
    let v0 = g.P.Device.view c.args.port in
    let v1 = g.P.Device.view c.loop-server.disk.port in
    let v2 = g.P.Device.view c.finish-left.result.0.port in
    let s0 = g.H.Handler.state c.args.server.now v0.reads in
    let s1 = g.H.Handler.state c.loop-server.server (cleared v1.reads) in
    let s2 = g.H.Handler.state c.finish-left.new.server v2.reads in
    let all : g.P.Device.told → Went k part s0 s2 v0 v2 was.1 = λ told.
    subst (λ l. Went k part s0 s2 v0 v2 l) (append-nil was.1)
    (went_then k part s0 s1 s2 v0 v1 v2 was.1 [] (was.4 told) (went k part c.finish-left.result.1 _ s1 s2 v1 v2 [] c.in-Ok-finished.is (subst (λ (p : Image → Image). Turned c.finish-left.result.1 k p s1 s2 v1 v2 []) i.aside (c.finish-left.ensures.did told)))) in
    record {
      bytes = was.0 ++ found.0;
      came_in = came_then g.S.Source.told _ _ _ _ _ _ was.0 found.0 was.2 found.1;
      asked = was.1;
      these = subst (λ n. AskedBy status.Done g.R.Protocol.spelling n (was.0 ++ found.0) ended was.1) (c.next.ensures.limit ∙ i.limit) found.2;
      any_moment = λ told. (all told).any_moment;
      sent = λ told. (s2, (all told).served);
      done = λ told is. (all told).served;
    }

pub returns-in-Err-finished-clause-ran : goal.returns-in-Err-finished-clause-ran
returns-in-Err-finished-clause-ran g c =
    let i = c.loop-server.invariant in
    let was = i.goes in
    let found = c.in-End.ensures.found was.0 was.1 was.3 in
    let ended = IsAtEnd g.S.Source.told (g.S.Source.ended c.next.new.source) (g.S.Source.left_bytes c.next.new.source) in
    let k = spoken g.H.Handler.rules g.R.Replies.voice in
    let part = g.H.Handler.aside c.args.server.now in
    let v0 = g.P.Device.view c.args.port in
    let v1 = g.P.Device.view c.loop-server.disk.port in
    let v2 = g.P.Device.view c.finish-left.result.0.port in
    let s0 = g.H.Handler.state c.args.server.now v0.reads in
    let s1 = g.H.Handler.state c.loop-server.server (cleared v1.reads) in
    let s2 = g.H.Handler.state c.finish-left.new.server v2.reads in
    let stops = err_is_if StopsBy c.finish-left.result.1 _ c.in-Err-finished.is c.finish-left.ensures.stops in
    record {
      bytes = was.0 ++ found.0;
      came_in = came_then g.S.Source.told _ _ _ _ _ _ was.0 found.0 was.2 found.1;
      asked = was.1;
      these = asked_to_end g.R.Protocol.spelling c.in-Err-finished.why c.args.limit ended (was.0 ++ found.0) was.1 stops (subst (λ n. AskedBy status.Done g.R.Protocol.spelling n (was.0 ++ found.0) ended was.1) (c.next.ensures.limit ∙ i.limit) found.2);
      any_moment = λ told.
          subst (λ l. ∥ LeavesOnly v0 v2 (IsLeftByRun k part s0 v0 l) ∥₁) (append-nil was.1)
          (left_then k part s0 s1 v0 v1 v2 was.1 [] (was.4 told) (subst (λ (p : Image → Image). Turned c.finish-left.result.1 k p s1 s2 v1 v2 []) i.aside (c.finish-left.ensures.did told)).any_moment);
      sent = λ told.
          sent_stopped k (spoken_counted g.H.Handler.rules g.R.Replies.voice (λ s q r t given. g.met.H.Handler.given_form s q r t given) g.met.R.Replies.apart)
          s0 v0.sent was.1 v2.sent c.in-Err-finished.why stops
          (subst (λ l. IsSentBy c.in-Err-finished.why k s0 v0.sent l v2.sent) (append-nil was.1)
          (sent_turned k part c.finish-left.result.1 c.in-Err-finished.why s0 s1 s2 v0 v1 v2 was.1 [] c.in-Err-finished.is (was.4 told) (subst (λ (p : Image → Image). Turned c.finish-left.result.1 k p s1 s2 v1 v2 []) i.aside (c.finish-left.ensures.did told))));
      done = λ told is. absurd (not_done c.in-Err-finished.why stops is);
    }

pub returns-in-CutOff-clause-ran : goal.returns-in-CutOff-clause-ran
returns-in-CutOff-clause-ran g c =
    let i = c.loop-server.invariant in
    let was = i.goes in
    let found = c.in-CutOff.ensures.found was.0 was.1 was.3 in
    let ended = IsAtEnd g.S.Source.told (g.S.Source.ended c.next.new.source) (g.S.Source.left_bytes c.next.new.source) in
    record {
      bytes = was.0 ++ found.0;
      came_in = came_then g.S.Source.told _ _ _ _ _ _ was.0 found.0 was.2 found.1;
      asked = was.1;
      these = subst (λ n. AskedBy status.Truncated g.R.Protocol.spelling n (was.0 ++ found.0) ended was.1) (c.next.ensures.limit ∙ i.limit) found.2;
      any_moment = λ told. (was.4 told).any_moment;
      sent = λ told. (_, (was.4 told).served);
      done = λ told is. absurd (cc);
    }

pub returns-in-Fault-clause-ran : goal.returns-in-Fault-clause-ran
returns-in-Fault-clause-ran g c =
    let i = c.loop-server.invariant in
    let was = i.goes in
    let found = c.in-Fault.ensures.found was.0 was.1 was.3 in
    let ended = IsAtEnd g.S.Source.told (g.S.Source.ended c.next.new.source) (g.S.Source.left_bytes c.next.new.source) in
    record {
      bytes = was.0 ++ found.0;
      came_in = came_then g.S.Source.told _ _ _ _ _ _ was.0 found.0 was.2 found.1;
      asked = was.1;
      these = subst (λ n. AskedBy status.SourceFault g.R.Protocol.spelling n (was.0 ++ found.0) ended was.1) (c.next.ensures.limit ∙ i.limit) found.2;
      any_moment = λ told. (was.4 told).any_moment;
      sent = λ told. (_, (was.4 told).served);
      done = λ told is. absurd (cc);
    }

pub returns-in-TooLong-clause-ran : goal.returns-in-TooLong-clause-ran
returns-in-TooLong-clause-ran g c =
    let i = c.loop-server.invariant in
    let was = i.goes in
    let found = c.in-TooLong.ensures.found was.0 was.1 was.3 in
    let ended = IsAtEnd g.S.Source.told (g.S.Source.ended c.next.new.source) (g.S.Source.left_bytes c.next.new.source) in
    record {
      bytes = was.0 ++ found.0;
      came_in = came_then g.S.Source.told _ _ _ _ _ _ was.0 found.0 was.2 found.1;
      asked = was.1;
      these = subst (λ n. AskedBy status.TooLong g.R.Protocol.spelling n (was.0 ++ found.0) ended was.1) (c.next.ensures.limit ∙ i.limit) found.2;
      any_moment = λ told. (was.4 told).any_moment;
      sent = λ told. (_, (was.4 told).served);
      done = λ told is. absurd (cc);
    }

pub returns-in-Err-clause-rounds : goal.returns-in-Err-clause-rounds
returns-in-Err-clause-rounds g c told =
    let k = spoken g.H.Handler.rules g.R.Replies.voice in
    let w = g.H.Handler.work in
    let waits = g.H.GroupHandler.may_wait in
    let port = IsOfPort g.P.Device.view in
    let sp = g.R.Protocol.spelling in
    let m0 = mark (g.P.Device.view c.args.port) in
    ran_by_rounds k w waits port sp c.args.limit c.in-Err.why _ _ _ _ [] [] [] [] m0 m0 m0 _
    (so_far_none k w waits port sp c.args.limit _ _ _ (w.debt m0.reads) m0.clock m0 (c.args.port, refl) (omega arith) refl (omega arith) refl)
    (came_first g.S.Source.told _ _) (near_none sp c.args.limit g.met.R.Protocol.lawful.none (take_none c.args.limit)) (refl, refl) (later_mere (g.P.Device.view c.args.port) (g.P.Device.view c.begin.new.port) _ (c.in-Err.ensures.did told).any_moment) (λ cut. absurd (not_cut c.in-Err.why c.in-Err.ensures.stops cut)) (λ is. absurd (not_done c.in-Err.why c.in-Err.ensures.stops is))

pub returns-in-Err-served-clause-rounds : goal.returns-in-Err-served-clause-rounds
returns-in-Err-served-clause-rounds g c told =
    let i = c.loop-server.invariant in
    let was = i.goes in
    let found = c.in-Request.ensures.found was.0 was.1 was.3 in
    let k = spoken g.H.Handler.rules g.R.Replies.voice in
    let sp = g.R.Protocol.spelling in
    let bytes = was.0 ++ found.0 in
    let m1 = mark (g.P.Device.view c.loop-server.disk.port) in
    let came = came_then g.S.Source.told _ _ _ _ _ _ was.0 found.0 was.2 found.1 in
    let q = c.next.new.into in
    let ended = IsAtEnd g.S.Source.told (g.S.Source.ended c.next.new.source) (g.S.Source.left_bytes c.next.new.source) in
    let fed1 = λ (x : List ℕ). g.R.Protocol.was_fed x c.next.new.protocol in
    let stops = err_is_if StopsBy c.serve_in_hand-left.result.1 _ c.in-Err-served.is c.serve_in_hand-left.ensures.stops in
    let t = c.serve_in_hand-left.ensures.did.3 told in
    ran_by_rounds k g.H.Handler.work g.H.GroupHandler.may_wait (IsOfPort g.P.Device.view) sp c.args.limit c.in-Err-served.why _ _ t.state _ was.0 found.0 was.1 t.turns _ m1 t.rested _ (was.5 told) came
    (near_found sp fed1 ended c.next.new.self c.args.limit was.0 found.0 was.1 q (c.next.ensures.limit ∙ i.limit) found.2) t.each t.not_after (λ cut. absurd (not_cut c.in-Err-served.why stops cut)) (λ is. absurd (not_done c.in-Err-served.why stops is))

pub returns-in-Ok-finished-clause-rounds : goal.returns-in-Ok-finished-clause-rounds
returns-in-Ok-finished-clause-rounds g c told =
    let i = c.loop-server.invariant in
    let was = i.goes in
    let found = c.in-End.ensures.found was.0 was.1 was.3 in
    let k = spoken g.H.Handler.rules g.R.Replies.voice in
    let sp = g.R.Protocol.spelling in
    let bytes = was.0 ++ found.0 in
    let m1 = mark (g.P.Device.view c.loop-server.disk.port) in
    let came = came_then g.S.Source.told _ _ _ _ _ _ was.0 found.0 was.2 found.1 in
    let ended = IsAtEnd g.S.Source.told (g.S.Source.ended c.next.new.source) (g.S.Source.left_bytes c.next.new.source) in
    let by = subst (λ n. AskedBy status.Done sp n bytes ended was.1) (c.next.ensures.limit ∙ i.limit) found.2 in
    ran_by_rounds k g.H.Handler.work g.H.GroupHandler.may_wait (IsOfPort g.P.Device.view) sp c.args.limit status.Done _ _ _ _ was.0 found.0 was.1 [] _ m1 m1 _ (was.5 told) came (near_end sp c.args.limit was.0 found.0 was.1 by.0 by.3) (refl, refl) (later_mere (g.P.Device.view c.loop-server.disk.port) (g.P.Device.view c.finish-left.result.0.port) _ (c.finish-left.ensures.did told).any_moment) (λ cut. absurd cut) (λ is. ok_is c.finish-left.result.1 _ c.in-Ok-finished.is (c.finish-left.ensures.finished told))

pub returns-in-Err-finished-clause-rounds : goal.returns-in-Err-finished-clause-rounds
returns-in-Err-finished-clause-rounds g c told =
    let i = c.loop-server.invariant in
    let was = i.goes in
    let found = c.in-End.ensures.found was.0 was.1 was.3 in
    let k = spoken g.H.Handler.rules g.R.Replies.voice in
    let sp = g.R.Protocol.spelling in
    let bytes = was.0 ++ found.0 in
    let m1 = mark (g.P.Device.view c.loop-server.disk.port) in
    let came = came_then g.S.Source.told _ _ _ _ _ _ was.0 found.0 was.2 found.1 in
    let ended = IsAtEnd g.S.Source.told (g.S.Source.ended c.next.new.source) (g.S.Source.left_bytes c.next.new.source) in
    let by = subst (λ n. AskedBy status.Done sp n bytes ended was.1) (c.next.ensures.limit ∙ i.limit) found.2 in
    let stops = err_is_if StopsBy c.finish-left.result.1 _ c.in-Err-finished.is c.finish-left.ensures.stops in
    ran_by_rounds k g.H.Handler.work g.H.GroupHandler.may_wait (IsOfPort g.P.Device.view) sp c.args.limit c.in-Err-finished.why _ _ _ _ was.0 found.0 was.1 [] _ m1 m1 _ (was.5 told) came (near_end sp c.args.limit was.0 found.0 was.1 by.0 by.3) (refl, refl) (later_mere (g.P.Device.view c.loop-server.disk.port) (g.P.Device.view c.finish-left.result.0.port) _ (c.finish-left.ensures.did told).any_moment) (λ cut. absurd (not_cut c.in-Err-finished.why stops cut)) (λ is. absurd (not_done c.in-Err-finished.why stops is))

pub returns-in-CutOff-clause-rounds : goal.returns-in-CutOff-clause-rounds
returns-in-CutOff-clause-rounds g c told =
    let i = c.loop-server.invariant in
    let was = i.goes in
    let found = c.in-CutOff.ensures.found was.0 was.1 was.3 in
    let k = spoken g.H.Handler.rules g.R.Replies.voice in
    let sp = g.R.Protocol.spelling in
    let bytes = was.0 ++ found.0 in
    let m1 = mark (g.P.Device.view c.loop-server.disk.port) in
    let came = came_then g.S.Source.told _ _ _ _ _ _ was.0 found.0 was.2 found.1 in
    let ended = IsAtEnd g.S.Source.told (g.S.Source.ended c.next.new.source) (g.S.Source.left_bytes c.next.new.source) in
    let by = subst (λ n. AskedBy status.Truncated sp n bytes ended was.1) (c.next.ensures.limit ∙ i.limit) found.2 in
    ran_by_rounds k g.H.Handler.work g.H.GroupHandler.may_wait (IsOfPort g.P.Device.view) sp c.args.limit status.Truncated _ _ _ _ was.0 found.0 was.1 [] _ m1 m1 m1 (was.5 told) came (near_end sp c.args.limit was.0 found.0 was.1 by.0 by.3) (refl, refl) (omega arith) (λ cut. refl) (λ is. absurd (cc))

pub returns-in-Fault-clause-rounds : goal.returns-in-Fault-clause-rounds
returns-in-Fault-clause-rounds g c told =
    let i = c.loop-server.invariant in
    let was = i.goes in
    let found = c.in-Fault.ensures.found was.0 was.1 was.3 in
    let k = spoken g.H.Handler.rules g.R.Replies.voice in
    let sp = g.R.Protocol.spelling in
    let bytes = was.0 ++ found.0 in
    let m1 = mark (g.P.Device.view c.loop-server.disk.port) in
    let came = came_then g.S.Source.told _ _ _ _ _ _ was.0 found.0 was.2 found.1 in
    let by = subst (λ n. AskedBy status.SourceFault sp n bytes (Unit {0}) was.1) (c.next.ensures.limit ∙ i.limit) found.2 in
    ran_by_rounds k g.H.Handler.work g.H.GroupHandler.may_wait (IsOfPort g.P.Device.view) sp c.args.limit status.SourceFault _ _ _ _ was.0 found.0 was.1 [] _ m1 m1 m1 (was.5 told) came (near_fault sp c.args.limit was.0 found.0 was.1 by.0 by.1) (refl, refl) (omega arith) (λ cut. refl) (λ is. absurd (cc))

pub returns-in-TooLong-clause-rounds : goal.returns-in-TooLong-clause-rounds
returns-in-TooLong-clause-rounds g c told =
    let i = c.loop-server.invariant in
    let was = i.goes in
    let found = c.in-TooLong.ensures.found was.0 was.1 was.3 in
    let k = spoken g.H.Handler.rules g.R.Replies.voice in
    let sp = g.R.Protocol.spelling in
    let bytes = was.0 ++ found.0 in
    let m1 = mark (g.P.Device.view c.loop-server.disk.port) in
    let came = came_then g.S.Source.told _ _ _ _ _ _ was.0 found.0 was.2 found.1 in
    let by = subst (λ n. AskedBy status.TooLong sp n bytes (Unit {0}) was.1) (c.next.ensures.limit ∙ i.limit) found.2 in
    ran_by_rounds k g.H.Handler.work g.H.GroupHandler.may_wait (IsOfPort g.P.Device.view) sp c.args.limit status.TooLong _ _ _ _ was.0 found.0 was.1 [] _ m1 m1 m1 (was.5 told) came (near_cut sp c.args.limit was.0 found.0 was.1 by.1) (refl, refl) (omega arith) (λ cut. refl) (λ is. absurd (cc))

pub returns-in-Err-served-clause-faults : goal.returns-in-Err-served-clause-faults
returns-in-Err-served-clause-faults g c =
    let i = c.loop-server.invariant in
    let e = c.serve_in_hand-left.ensures in
    stopped_faults c.serve_in_hand-left.result.1 c.in-Err-served.why _ _ (g.P.Device.view c.args.port) (g.P.Device.view c.loop-server.disk.port) (g.P.Device.view c.serve_in_hand-left.result.0.port)
    c.in-Err-served.is e.stops (c.in-Request.ensures.no_source_fault (λ e. cc) ∙ i.source_faults) i.faults i.put_faults e.device_fault e.put_fault

pub returns-in-Err-finished-clause-faults : goal.returns-in-Err-finished-clause-faults
returns-in-Err-finished-clause-faults g c =
    let i = c.loop-server.invariant in
    let e = c.finish-left.ensures in
    stopped_faults c.finish-left.result.1 c.in-Err-finished.why _ _ (g.P.Device.view c.args.port) (g.P.Device.view c.loop-server.disk.port) (g.P.Device.view c.finish-left.result.0.port)
    c.in-Err-finished.is e.stops (c.in-End.ensures.no_source_fault (λ e. cc) ∙ i.source_faults) i.faults i.put_faults e.device_fault e.put_fault
