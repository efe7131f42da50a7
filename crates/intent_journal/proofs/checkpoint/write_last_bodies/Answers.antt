use Rattle.std.proofs.Common.{◌+◌, refl, ◌∙◌, arith}
use Rattle.intent_journal.proofs.Common.{take_rest, confined_start, confined_wider, confined_joined, has_home, uses_and, uses_none}
use Rattle.intent_journal.proofs.Lasts.{placed_start, placed_more, count_more, home_at}
use Rattle.intent_journal.proofs.checkpoint.write_last_bodies.Goals as goal

pub loop-index-init : goal.loop-index-init
loop-index-init g c =
    let v = g.D.Device.view c.args.dev.now in
    record {
      homes = omega arith;
      few = omega arith;
      placed = λ told n. placed_start c.args.patches.now v.reads n;
      confined = λ told. confined_start _ v (g.met.D.Device.sound c.args.dev.now told);
      uses = uses_none v;
      faultless = refl;
    }

pub returns-in_err-homes-clause-confined : goal.returns-in_err-homes-clause-confined
returns-in_err-homes-clause-confined g c told =
    let view = g.D.Device.view in
    let ps = c.args.patches.now in
    let one = confined_wider _ (has_home ps) (view c.loop-index.dev) (view c.write_if_last.new.dev) (home_at ps c.loop-index.index _ _ c.loop-index-test.true refl) (c.write_if_last.ensures.confined told) in
    confined_joined (has_home ps) _ (view c.loop-index.dev) (view c.write_if_last.new.dev) (c.loop-index.invariant.confined told) one

pub loop-index-preserved : goal.loop-index-preserved
loop-index-preserved g c =
    let view = g.D.Device.view in
    let ps = c.args.patches.now in
    let i = c.loop-index.index in
    let counts = count_more ps i _ _ _ c.loop-index.homes c.in_ok-homes.field-0 c.loop-index-test.true refl (take_rest ps (i + 1)) c.loop-index.invariant.homes c.in_ok-homes.ensures.homes in
    record {
      homes = counts.0;
      few = omega (arith, c.loop-index.invariant.few, counts.1);
      placed = λ told. placed_more ps i _ _ _ (view c.args.dev.now).reads (view c.loop-index.dev).reads (view c.write_if_last.new.dev).reads c.loop-index-test.true refl (take_rest ps (i + 1)) (c.loop-index.invariant.placed told) (c.in_ok-homes.ensures.placed told);
      confined = λ told.
          let one = confined_wider _ (has_home ps) (view c.loop-index.dev) (view c.write_if_last.new.dev) (home_at ps i _ _ c.loop-index-test.true refl) (c.write_if_last.ensures.confined told) in
          confined_joined (has_home ps) _ (view c.loop-index.dev) (view c.write_if_last.new.dev) (c.loop-index.invariant.confined told) one;
      uses = uses_and c.loop-index.homes _ _ _ _ _ (omega (arith, c.in_ok-homes.ensures.homes)) c.loop-index.invariant.uses c.write_if_last.ensures.uses;
      faultless = c.in_ok-homes.ensures.faults ∙ c.loop-index.invariant.faultless;
    }
