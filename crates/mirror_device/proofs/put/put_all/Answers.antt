use Rattle.std.proofs.Common.{[], ◌++◌, ◌≡◌, ◌∙◌, ℕ, take, drop, refl, arith, rules, ap, sym, subst, length-drop}
use Rattle.std.proofs.lemmas.List.{append-nil, nil_from_length, take_all}
use Rattle.std.proofs.lemmas.Bool.Decides.{nat_tests}
use Rattle.image_device.proofs.Outcomes.{on_err}
use Rattle.image_device.specs.Counts.{Rose}
use Rattle.mirror_device.proofs.Puts.{part_of}
use Rattle.mirror_device.proofs.Texts.{part_on, puts_none, puts_on, sends_none, sends_on, sent_on, split_more}
use Rattle.mirror_device.proofs.put.put_all.Goals as goal

pub loop-rest-init : goal.loop-rest-init
loop-rest-init g c =
    let v0 = g.P.Sides.view c.args.sides.now in
    record {
      done = [];
      split = refl;
      sent = λ told. sym (append-nil v0.sent);
      sends = λ told. sends_none c.args.piece.now v0;
      puts = puts_none v0;
      faultless = refl;
    }

pub loop-rest-preserved : goal.loop-rest-preserved
loop-rest-preserved g c =
    let i = c.loop-rest.invariant in
    let v0 = g.P.Sides.view c.args.sides.now in
    let v = g.P.Sides.view c.loop-rest.sides in
    let v' = g.P.Sides.view c.put.new.self in
    let t = c.in_ok-count.count in
    let rest = c.loop-rest.rest.now in
    record {
      done = i.done ++ take t rest;
      split =
          split_more i.done rest c.args.piece.now i.split t
          ∙ ap (λ l. (i.done ++ take t rest) ++ l)
          (sym (take_all _ (drop t rest) (omega (arith, length-drop t rest))));
      sent = λ told.
          sent_on v0 v v' i.done rest c.args.piece.now i.split (i.sent told) t (c.in_ok-count.ensures.sent told);
      sends = λ told.
          sends_on v0 v v' i.done rest c.args.piece.now i.split (i.sent told) (i.sends told)
          (c.put.ensures.appends told)
          (part_of c.put.result v.sent rest v'.sent (c.put.ensures.sent told) (c.put.ensures.part told));
      puts = puts_on v0 v v' i.puts c.put.ensures.puts;
      faultless = c.in_ok-count.ensures.faults ∙ i.faultless;
    }

pub returns-in_err-count : goal.returns-in_err-count
returns-in_err-count g c =
    let i = c.loop-rest.invariant in
    let v0 = g.P.Sides.view c.args.sides.now in
    let v = g.P.Sides.view c.loop-rest.sides in
    let v' = g.P.Sides.view c.put.new.self in
    let rest = c.loop-rest.rest.now in
    let failed = c.in_err-count.ensures in
    let rose : Rose v0.put_faults v'.put_faults = subst (λ (k : ℕ). Rose k v'.put_faults) i.faultless failed.faults in
    record {
      sends = λ told.
          sends_on v0 v v' i.done rest c.args.piece.now i.split (i.sent told) (i.sends told)
          (c.put.ensures.appends told)
          (part_of c.put.result v.sent rest v'.sent (c.put.ensures.sent told) (c.put.ensures.part told));
      sent = search rules;
      part = λ told.
          let part = failed.part told in
          on_err _ (part_on v0 v v' i.done rest c.args.piece.now i.split (i.sent told) part.0 part.1 part.2);
      puts = puts_on v0 v v' i.puts c.put.ensures.puts;
      faults = search rules;
    }

pub returns : goal.returns
returns g c =
    let i = c.loop-rest.invariant in
    let v0 = g.P.Sides.view c.args.sides.now in
    let none : c.loop-rest.rest.now ≡ [] =
    nil_from_length c.loop-rest.rest.now
    (grind (arith, nat_tests, c.is_empty.ensures, c.loop-rest-test.false)) in
    let all : c.args.piece.now ≡ i.done = i.split ∙ ap (λ l. i.done ++ l) none ∙ append-nil i.done in
    record {
      sends = i.sends;
      sent = λ told. i.sent told ∙ ap (λ l. v0.sent ++ l) (sym all);
      part = λ told. tt;
      puts = i.puts;
      faults = i.faultless;
    }
