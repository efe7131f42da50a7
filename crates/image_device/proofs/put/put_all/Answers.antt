use Rattle.std.proofs.Common.{[], ◌++◌, ◌≡◌, ◌∙◌, ℕ, take, drop, arith, rules, ap, sym, subst, length-drop}
use Rattle.std.proofs.lemmas.List.{append-nil, nil_from_length, take_all}
use Rattle.std.proofs.lemmas.Bool.Decides.{nat_tests}
use Rattle.image_device.proofs.PutAll.{puts_on, sent_more, split_more, part_more, put_more}
use Rattle.image_device.proofs.Outcomes.{on_err}
use Rattle.image_device.specs.Counts.{Rose}
use Rattle.image_device.proofs.put.put_all.Goals as goal

pub loop-rest-preserved : goal.loop-rest-preserved
loop-rest-preserved g c =
    let i = c.loop-rest.invariant in
    let v0 = g.P.Device.view c.args.port.now in
    let v = g.P.Device.view c.loop-rest.port in
    let v' = g.P.Device.view c.put.new.self in
    let t = c.in_ok-count.count in
    record {
      done = i.done ++ take t c.loop-rest.rest.now;
      split = split_more i.done c.loop-rest.rest.now c.args.piece.now i.split t ∙ ap (λ l. (i.done ++ take t c.loop-rest.rest.now) ++ l) (sym (take_all _ (drop t c.loop-rest.rest.now) (omega (arith, length-drop t c.loop-rest.rest.now))));
      sent = λ told. sent_more v0 v v' i.done c.loop-rest.rest.now c.args.piece.now i.split (i.sent told) (i.reads told) (i.loose told) t (c.in_ok-count.ensures.sent told);
      reads = λ told. (c.put.ensures.appends told).reads ∙ i.reads told;
      loose = λ told. (c.put.ensures.appends told).loose ∙ i.loose told;
      leaves = λ told. puts_on v0 v v' i.done c.loop-rest.rest.now c.args.piece.now i.split (i.sent told) (i.reads told) (i.loose told) (i.leaves told) (c.put.ensures.appends told);
      puts = put_more _ _ _ i.puts c.put.ensures.puts;
      faultless = c.in_ok-count.ensures.faults ∙ i.faultless;
    }

pub returns-in_err-count : goal.returns-in_err-count
returns-in_err-count g c =
    let i = c.loop-rest.invariant in
    let v0 = g.P.Device.view c.args.port.now in
    let v = g.P.Device.view c.loop-rest.port in
    let v' = g.P.Device.view c.put.new.self in
    let failed = c.in_err-count.ensures in
    let rose : Rose (g.P.Device.view c.args.port.now).put_faults v'.put_faults = subst (λ (k : ℕ). Rose k v'.put_faults) i.faultless failed.faults in
    record {
      reads = λ told. (c.put.ensures.appends told).reads ∙ i.reads told;
      loose = λ told. (c.put.ensures.appends told).loose ∙ i.loose told;
      sent = search rules;
      part = λ told. on_err _ (part_more v0 v v' i.done c.loop-rest.rest.now c.args.piece.now i.split (i.sent told) (i.reads told) (i.loose told) (failed.part told).0 (failed.part told).1 (failed.part told).2);
      any_moment = λ told. puts_on v0 v v' i.done c.loop-rest.rest.now c.args.piece.now i.split (i.sent told) (i.reads told) (i.loose told) (i.leaves told) (c.put.ensures.appends told);
      puts = put_more _ _ _ i.puts c.put.ensures.puts;
      faults = search rules;
    }

pub returns : goal.returns
returns g c =
    let i = c.loop-rest.invariant in
    let none : c.loop-rest.rest.now ≡ [] = nil_from_length c.loop-rest.rest.now (grind (arith, nat_tests, c.is_empty.ensures, c.loop-rest-test.false)) in
    let all : c.args.piece.now ≡ i.done = i.split ∙ ap (λ l. i.done ++ l) none ∙ append-nil i.done in
    record {
      reads = i.reads;
      loose = i.loose;
      sent = λ told. i.sent told ∙ ap (λ l. (g.P.Device.view c.args.port.now).sent ++ l) (sym all);
      part = λ told. tt;
      any_moment = i.leaves;
      puts = i.puts;
      faults = i.faultless;
    }
