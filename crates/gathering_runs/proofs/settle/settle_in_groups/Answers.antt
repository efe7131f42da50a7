use Rattle.std.proofs.Common.{◌≡◌, ◌≤◌, ◌<◌, ◌+◌, ◌-◌, inl, inr, suc, [], refl, ◌∙◌, subst, arith}
use Rattle.std.specs.Prelude.{Ok}
use Rattle.image_device.specs.Image.{Image}
use Rattle.tsd_words.specs.declared.status.Status.TheVariants as status
use Rattle.serving.specs.Voice.{spoken}
use Rattle.gathering.specs.Gathered.{cleared}
use Rattle.gathering.proofs.Merely.{rested_now}
use Rattle.gathering_runs.specs.Turns.{Turned}
use Rattle.gathering_runs.proofs.Outcome.{counts_ok, ok_is, ok_is_if}
use Rattle.serving.specs.Prompt.{IsOfPort, mark}
use Rattle.gathering_runs.proofs.Reclaiming.{reclaims_more}
use Rattle.gathering_runs.proofs.Turning.{left_then, sent_turned, turned_err, turned_ok, went, went_between, went_then}
use Rattle.gathering_runs.proofs.settle.settle_in_groups.Goals as goal

pub settle_group-left-requires-clause-rests : goal.settle_group-left-requires-clause-rests
settle_group-left-requires-clause-rests g c told = rested_now _ (g.met.P.Device.sound c.loop-disk.disk.port told)

pub loop-disk-init : goal.loop-disk-init
loop-disk-init g c = record {
  aside = refl;
  ready = c.requires.ready;
  between = c.requires.between;
  faults = refl;
  put_faults = refl;
  went = λ told.
      let b = c.requires.between told in
      went_between (spoken g.H.Handler.rules g.R.Replies.voice) (g.H.Handler.aside c.args.server.now) (λ s x y has. g.met.H.GroupHandler.alike s x y has) _ (g.P.Device.view c.args.disk.port) c.args.disk.ring (g.met.P.Device.sound c.args.disk.port told) b.firm b.ring_at (g.met.H.Handler.stands_now c.args.server.now _ b.held);
  less = λ some. omega arith;
  groups = λ told. (0, refl, λ some. omega arith);
}

pub loop-disk-preserved : goal.loop-disk-preserved
loop-disk-preserved g c =
    let i = c.loop-disk.invariant in
    let r = c.settle_group-left.result.1 in
    let e = c.settle_group-left.ensures in
    let k = spoken g.H.Handler.rules g.R.Replies.voice in
    let ok : r ≡ Ok c.in-Ok.lack = c.in-Ok.is in
    let part = g.H.Handler.aside c.args.server.now in
    let v0 = g.P.Device.view c.args.disk.port in
    let v1 = g.P.Device.view c.loop-disk.disk.port in
    let v2 = g.P.Device.view c.settle_group-left.result.0.port in
    let s1 = g.H.Handler.state c.loop-disk.server (cleared v1.reads) in
    let s2 = g.H.Handler.state c.settle_group-left.new.server (cleared v2.reads) in
    let some = c.is_settled.ensures.owed c.if-is_settled.false in
    let less = ok_is_if (λ lack. g.H.GroupHandler.owed c.settle_group-left.new.server ≤ g.H.GroupHandler.owed c.loop-disk.server + lack - c.steps_of-most.result) r c.in-Ok.lack ok e.less in
    let fewer = ok_is_if (λ lack. lack < c.steps_of-most.result) r c.in-Ok.lack ok e.fewer in
    record {
      aside = e.aside ∙ i.aside;
      ready = ok_is r c.in-Ok.lack ok e.ready;
      between = λ told. ok_is r c.in-Ok.lack ok (e.between told);
      faults = counts_ok status.DeviceFault r c.in-Ok.lack _ _ ok e.device_fault ∙ i.faults;
      put_faults = counts_ok status.PutFault r c.in-Ok.lack _ _ ok e.put_fault ∙ i.put_faults;
      went = λ told. went_then k part _ s1 s2 v0 v1 v2 [] [] (i.went told) (went k part r c.in-Ok.lack s1 s2 v1 v2 [] ok (subst (λ (p : Image → Image). Turned r k p s1 s2 v1 v2 []) i.aside (e.did told)));
      less = λ steps.
          let same = c.steps_of-most.ensures.lacking steps in
          let so_far = i.less steps in
          omega (arith, so_far, same, less, fewer, some);
      groups = λ told.
          let was = i.groups told in (
            suc was.0,
            reclaims_more g.H.Handler.work (IsOfPort g.P.Device.view) was.0 (mark v0) (mark v1) (mark v2) was.1 (ok_is r c.in-Ok.lack ok (e.group told)),
            λ steps.
                let same = c.steps_of-most.ensures.lacking steps in
                let so_far = was.2 steps in
                omega (arith, so_far, same, fewer),
          );
    }

pub returns-in-Err-clause-did : goal.returns-in-Err-clause-did
returns-in-Err-clause-did g c told =
    let i = c.loop-disk.invariant in
    let r = c.settle_group-left.result.1 in
    let e = c.settle_group-left.ensures in
    let k = spoken g.H.Handler.rules g.R.Replies.voice in
    let part = g.H.Handler.aside c.args.server.now in
    let v0 = g.P.Device.view c.args.disk.port in
    let v1 = g.P.Device.view c.loop-disk.disk.port in
    let v2 = g.P.Device.view c.settle_group-left.result.0.port in
    let s0 = g.H.Handler.state c.args.server.now (cleared v0.reads) in
    let s1 = g.H.Handler.state c.loop-disk.server (cleared v1.reads) in
    let s2 = g.H.Handler.state c.settle_group-left.new.server (cleared v2.reads) in
    turned_err k part c.in-Err.why s0 s2 v0 v2 [] (sent_turned k part r c.in-Err.why s0 s1 s2 v0 v1 v2 [] [] c.in-Err.is (i.went told) (subst (λ (p : Image → Image). Turned r k p s1 s2 v1 v2 []) i.aside (e.did told))) (left_then k part s0 s1 v0 v1 v2 [] [] (i.went told) (subst (λ (p : Image → Image). Turned r k p s1 s2 v1 v2 []) i.aside (e.did told)).any_moment)

pub returns-then-is_settled-clause-did : goal.returns-then-is_settled-clause-did
returns-then-is_settled-clause-did g c told = turned_ok (spoken g.H.Handler.rules g.R.Replies.voice) (g.H.Handler.aside c.args.server.now) tt _ _ _ _ [] (c.loop-disk.invariant.went told)

pub returns-then-is_settled-clause-groups : goal.returns-then-is_settled-clause-groups
returns-then-is_settled-clause-groups g c told =
    let was = c.loop-disk.invariant.groups told in (
      was.0,
      was.1,
      λ steps. let few = was.2 steps in omega (arith, few),
    )

pub returns-then-is_settled-clause-less : goal.returns-then-is_settled-clause-less
returns-then-is_settled-clause-less g c steps =
    let so_far = c.loop-disk.invariant.less steps in
    elim (c.is_settled.ensures.settled c.if-is_settled.true) [
      | inl none ↦ omega (arith, none)
      | inr done ↦ let lacks = done.1 in omega (arith, so_far, lacks)
    ]

pub returns-then-is_settled-clause-none : goal.returns-then-is_settled-clause-none
returns-then-is_settled-clause-none g c all = elim (c.is_settled.ensures.settled c.if-is_settled.true) [
  | inl none ↦ none
  | inr done ↦ absurd (let some = done.0 in cc)
]
