use Rattle.std.proofs.Common.{◌≡◌, ◌≢◌, ◌∙◌, ap, append-nil, inl, inr, map, refl, string_bytes, subst, sym, arith}
use Rattle.std.specs.Prelude.{Option, Some}
use Rattle.image_device.specs.View.{View}
use Rattle.mirror_device.specs.Mirror.{CountsAgree, IsShown, LeftIsSound, Start, mirror_view, start_at}
use Rattle.mirror_device.specs.MirrorLaws.{mirror_sound}
use Rattle.mirror_device.specs.Sending.{IsIdleSince, StartsAt}
use Rattle.serving.specs.Ran.{Moments, Taking, taking}
use Rattle.tsd_words.specs.Words.{command_of}
use Rattle.tsd_words.specs.declared.commands.Command.{Command}
use Rattle.tsd_words.specs.declared.status.Status.{Status}
use Rattle.tsd_words.specs.declared.status.Status.TheVariants as status
use Rattle.tsd_serve.specs.Did.{Did}
use Rattle.tsd_serve.specs.MirrorDid.{AreSoundAtEnd, DidOver, EndedAs}
use Rattle.tsd_serve.specs.MirrorStatus.{own_status, ended_with}
use Rattle.tsd_serve.specs.MirrorTest.{HasStopped, OpensImage}
use Rattle.tsd_serve.specs.declared.mirror_status.MirrorStatus.TheVariants.{Ended}
use Rattle.tsd_serve.proofs.Mirrored.{headline_over, headline_unbegun, sound_at_end}
use Rattle.tsd_serve.proofs.Promises.{headline}
use Rattle.tsd_serve.proofs.Tests.{breaks_after, copied_merely, copies_more, did_stopped, headline_stopped, idle_more}
use Rattle.tsd_serve.proofs.Tests.{late_stopped, left_more, left_stopped, lost_stopped, same_reads, same_sent}
use Rattle.tsd_serve.proofs.Tests.{sound_stopped, stands_for_one, starts_after, usage_stopped, writes_more}
use Rattle.tsd_serve.proofs.mirror.tsd_mirror.Given as given
use Rattle.tsd_serve.proofs.mirror.tsd_mirror.Goals as goal

-- ---- the command ended in the tests

-- how it did, by its words
stopped_of : (g : given.Over) (c : goal.In-Err g)
    → HasStopped g.P.Sides.told (command_of (map string_bytes c.args.words.now.items)) c.in-Err.end.0
    (g.P.Sides.view c.args.sides) (g.P.Sides.view c.in-Err.end.1)
stopped_of g c =
    let is : command_of (map string_bytes c.args.words.now.items) ≡ Some c.in-Some.words = cc in
    subst
    (λ (w : Option Command). HasStopped g.P.Sides.told w c.in-Err.end.0 (g.P.Sides.view c.args.sides)
    (g.P.Sides.view c.in-Err.end.1))
    (sym is) c.in-Err.ensures.stopped

pub returns-in-Err-clause-usage : goal.returns-in-Err-clause-usage
returns-in-Err-clause-usage g c = usage_stopped _ _ _ _ _ (stopped_of g c) c.in-Some.words (cc)

pub returns-in-Err-clause-did : goal.returns-in-Err-clause-did
returns-in-Err-clause-did g c other = inl (did_stopped _ _ _ _ _ (stopped_of g c) _ refl)

pub returns-in-Err-clause-spares_second : goal.returns-in-Err-clause-spares_second
returns-in-Err-clause-spares_second g c told opens none = (stopped_of g c).spared told

pub returns-in-Err-clause-headline : goal.returns-in-Err-clause-headline
returns-in-Err-clause-headline g c told words is =
    let s = c.args.source.now in
    let stopped =
    subst
    (λ (w : Option Command). HasStopped g.P.Sides.told w c.in-Err.end.0 (g.P.Sides.view c.args.sides)
    (g.P.Sides.view c.in-Err.end.1))
    is (stopped_of g c) in
    headline_stopped g.P.Sides.told words c.in-Err.end.0 (g.P.Sides.view c.args.sides) (g.P.Sides.view c.in-Err.end.1)
    (taking g.S.Source.told g.S.Source.taken g.S.Source.left_bytes g.S.Source.ended s s) stopped
    (record { taken = λ t. sym (append-nil (g.S.Source.taken s)); left = λ t. refl })
    (g.met.P.Sides.sound c.args.sides told) told

pub returns-in-Err-clause-sends_late : goal.returns-in-Err-clause-sends_late
returns-in-Err-clause-sends_late g c told silent can i left idle =
    late_stopped _ _ _ _ _ (stopped_of g c) told (g.met.P.Sides.sound c.args.sides told) silent i left

pub returns-in-Err-clause-sound : goal.returns-in-Err-clause-sound
returns-in-Err-clause-sound g c = sound_stopped _ _ _ _ _ (stopped_of g c)

pub returns-in-Err-clause-lost : goal.returns-in-Err-clause-lost
returns-in-Err-clause-lost g c side = lost_stopped _ _ _ _ _ (stopped_of g c) side

pub returns-in-Err-clause-device_fault : goal.returns-in-Err-clause-device_fault
returns-in-Err-clause-device_fault g c is = left_stopped _ _ _ _ _ (stopped_of g c) (ap own_status is)

pub returns-in-Err-clause-put_fault : goal.returns-in-Err-clause-put_fault
returns-in-Err-clause-put_fault g c is = (stopped_of g c).put_cause (ap own_status is)

pub returns-in-Err-clause-no_put_fault : goal.returns-in-Err-clause-no_put_fault
returns-in-Err-clause-no_put_fault g c other = (stopped_of g c).put_faults (λ e. other (ap Ended e))

-- ---- it went on

pub after_reads-requires-clause-counts : goal.after_reads-requires-clause-counts
after_reads-requires-clause-counts g c =
    subst (λ (s : Start). StartsAt s (g.P.Sides.view c.in-Ok.sides)) (sym c.requires)
    (starts_after _ _ _ _ c.in-Ok.ensures.passed)

pub after_reads-requires-clause-idle : goal.after_reads-requires-clause-idle
after_reads-requires-clause-idle g c told =
    subst (λ (s : Start). IsIdleSince s (g.P.Sides.view c.in-Ok.sides)) (sym c.requires)
    (idle_more _ _ (c.in-Ok.ensures.passed.reads told) (g.met.P.Sides.sound c.args.sides told))

-- the first side failed in the copying

pub returns-in-Err-after_reads-clause-did : goal.returns-in-Err-after_reads-clause-did
returns-in-Err-after_reads-clause-did g c other =
    let passed = c.in-Ok.ensures.passed in
    inr (inl (record {
      status = refl;
      untaken = refl;
      broken_off = breaks_after _ _ _ _ passed _ c.in-Err-after_reads.ensures.cause;
      left = λ told. copies_more _ _ (passed.reads told) _ (c.in-Err-after_reads.ensures.given_back told);
      differing = λ told. writes_more _ _ (passed.reads told) _ (c.in-Err-after_reads.ensures.differing told);
    }))

pub returns-in-Err-after_reads-clause-spares_second : goal.returns-in-Err-after_reads-clause-spares_second
returns-in-Err-after_reads-clause-spares_second g c told opens none =
    let is : command_of (map string_bytes c.args.words.now.items) ≡ Some c.in-Some.words = cc in
    absurd (stands_for_one _ (c.in-Ok.ensures.passed.good told (subst OpensImage is opens)) none)

pub returns-in-Err-after_reads-clause-sends_late : goal.returns-in-Err-after_reads-clause-sends_late
returns-in-Err-after_reads-clause-sends_late g c told silent can i left idle =
    (copied_merely _ _ (c.in-Ok.ensures.passed.reads told) (g.met.P.Sides.sound c.args.sides told) _
    (c.in-Err-after_reads.ensures.given_back told) i left).sent

pub returns-in-Err-after_reads-clause-headline : goal.returns-in-Err-after_reads-clause-headline
returns-in-Err-after_reads-clause-headline g c told words is =
    let s = c.args.source.now in
    headline_unbegun words (taking g.S.Source.told g.S.Source.taken g.S.Source.left_bytes g.S.Source.ended s s)
    (g.P.Sides.view c.args.sides) (g.P.Sides.view c.in-Err-after_reads.sides)
    (record { taken = λ t. sym (append-nil (g.S.Source.taken s)); left = λ t. refl })
    (g.met.P.Sides.sound c.args.sides told)
    (copied_merely _ _ (c.in-Ok.ensures.passed.reads told) (g.met.P.Sides.sound c.args.sides told) _
    (c.in-Err-after_reads.ensures.given_back told))

pub returns-in-Err-after_reads-clause-device_fault : goal.returns-in-Err-after_reads-clause-device_fault
returns-in-Err-after_reads-clause-device_fault g c is =
    let broken = breaks_after _ _ _ _ c.in-Ok.ensures.passed _ c.in-Err-after_reads.ensures.cause in
    record { first = broken.first_faults; second = λ le. omega (arith, broken.syncs) }

-- what came in while the command ran
abbrev source_of : (g : given.Over) → goal.After-into_sides g → Taking
source_of g c = taking g.S.Source.told g.S.Source.taken g.S.Source.left_bytes g.S.Source.ended c.args.source.now c.obey-status.new.source

-- the mirror as one port
abbrev port_of : (g : given.Over) → goal.After-into_sides g → Moments
port_of g c =
    let m = c.in-Ok-after_reads.mirror in
    let n = c.obey-status.new.port in
    let view = g.P.Sides.view in
    let s = g.K.Began.start in
    record {
      tells = g.P.Sides.told;
      untouched = n ≡ m;
      old = mirror_view (view m.sides.sides) s m.serving m.faults m.writes;
      new = mirror_view (view n.sides.sides) s n.serving n.faults n.writes;
    }

did_over : (g : given.Over) (c : goal.After-into_sides g)
    → DidOver (command_of (map string_bytes c.args.words.now.items)) c.of-status.result (source_of g c) (g.P.Sides.view c.args.sides) (g.P.Sides.view c.into_sides.result) c.obey-status.new.port.serving (port_of g c)
did_over g c =
    let view = g.P.Sides.view in
    let old = view c.args.sides in
    let mid = view c.in-Ok.sides in
    let passed = c.in-Ok.ensures.passed in
    let m = c.in-Ok-after_reads.mirror in
    let n = c.obey-status.new.port in
    let e = c.in-Ok-after_reads.ensures in
    let ended : View = mirror_view (view n.sides.sides) g.K.Began.start n.serving n.faults n.writes in
    let is : command_of (map string_bytes c.args.words.now.items) ≡ Some c.in-Some.words = cc in
    record {
      did = subst (λ (w : Option Command). Did w (own_status c.of-status.result) (source_of g c) (port_of g c)) (sym is)
          (subst (λ (r : Status). Did (Some c.in-Some.words) r (source_of g c) (port_of g c)) (sym c.of-status.ensures.answered) c.obey-status.ensures.did);
      begins = λ told. record {
        sound = mirror_sound (view m.sides.sides) g.K.Began.start m.serving m.faults m.writes (g.met.P.Sides.sound m.sides.sides told) m.stands (m.alike told);
        reads = e.reads told ∙ same_reads old mid (passed.reads told);
        firm = e.firm told;
        sent = e.sent told ∙ same_sent old mid (passed.reads told);
        later = omega (arith, e.clock, passed.counts.clock);
        left = λ x f shown. left_more old mid (passed.reads told) x f
            (e.left told x f (subst (λ (s : Start). IsShown (view m.sides.sides) g.K.Began.start m.serving s.clock x f) (sym c.requires) shown));
      };
      ends = λ told. subst (λ r. EndedAs old (view r) n.serving ended) (sym c.into_sides.ensures.sides) (record {
        reads = refl;
        loose = refl;
        sent = refl;
        left = λ t x f shown. subst (λ (s : Start). IsShown (view n.sides.sides) s n.serving t x f) (sym c.requires) shown;
      });
    }

pub returns-clause-did : goal.returns-clause-did
returns-clause-did g c other =
    inr (inr (
      c.obey-status.new.port.serving,
      c.in-Ok-after_reads.mirror,
      c.obey-status.new.port,
      did_over g c,
      λ told. writes_more _ _ (c.in-Ok.ensures.passed.reads told) _ (c.in-Ok-after_reads.ensures.differing told),
    ))

pub returns-clause-spares_second : goal.returns-clause-spares_second
returns-clause-spares_second g c told opens none =
    let is : command_of (map string_bytes c.args.words.now.items) ≡ Some c.in-Some.words = cc in
    absurd (stands_for_one _ (c.in-Ok.ensures.passed.good told (subst OpensImage is opens)) none)

pub returns-clause-headline : goal.returns-clause-headline
returns-clause-headline g c told words is =
    let over = did_over g c in
    let source = source_of g c in
    let port = port_of g c in
    headline_over words source (g.P.Sides.view c.args.sides) (g.P.Sides.view c.into_sides.result) c.obey-status.new.port.serving port (over.begins told) (over.ends told)
    (headline words (own_status c.of-status.result) source port
    (λ same. record { taken = λ t. ap g.S.Source.taken same ∙ sym (append-nil (g.S.Source.taken c.args.source.now)); left = λ t. ap g.S.Source.left_bytes (sym same) })
    (λ same. ap (λ m. mirror_view (g.P.Sides.view m.sides.sides) g.K.Began.start m.serving m.faults m.writes) same)
    (λ told. (over.begins told).sound)
    (subst (λ (w : Option Command). Did w (own_status c.of-status.result) source port) is over.did)
    told)

pub returns-clause-sound : goal.returns-clause-sound
returns-clause-sound g c =
    let view = g.P.Sides.view in
    let old = view c.args.sides in
    let new = view c.into_sides.result in
    let n = c.obey-status.new.port in
    let s = c.obey-status.result in
    let stands : CountsAgree new (start_at old) n.serving = subst (λ k. CountsAgree new k n.serving) c.requires c.into_sides.ensures.stands in
    let left : s ≢ status.DeviceFault → LeftIsSound new (start_at old) n.serving =
    λ other. subst (λ k. LeftIsSound new k n.serving) c.requires (c.into_sides.ensures.unfailed (c.obey-status.ensures.faults.port.no_device_fault other ∙ c.in-Ok-after_reads.ensures.faults)) in
    subst (λ r. AreSoundAtEnd r old new) (sym (c.of-status.ensures.value ∙ ap (λ l. ended_with s l) c.lost_side.ensures)) (sound_at_end old new s n.serving stands left)
