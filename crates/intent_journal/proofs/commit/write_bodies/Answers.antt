use Rattle.std.proofs.Common.{◌+◌, length, refl, ◌∙◌, ap, arith}
use Rattle.intent_journal.proofs.Common.{confined_write, is_body_of, uses_and}
use Rattle.intent_journal.proofs.Bodies.{bodies_more, body_within, got_within}
use Rattle.intent_journal.proofs.commit.write_bodies.Goals as goal

pub loop-patch-preserved : goal.loop-patch-preserved
loop-patch-preserved g c =
    let view = g.D.Device.view in
    let ps = c.args.patches.now in
    let i = c.loop-patch.patch-index in
    let place = c.loop-patch.invariant.place in
    record {
      place = omega arith;
      bodies = λ told. bodies_more ps c.args.start i c.loop-patch.body c.body_sector.result _ _ (view c.loop-patch.dev) (view c.write.new.self) place c.body_sector.ensures.value (c.loop-patch.invariant.bodies told) (c.write.ensures.touches told) (c.in_ok-write.ensures.written told) refl;
      confined = λ told. confined_write (is_body_of c.args.start (length ps)) c.body_sector.result _ (view c.loop-patch.dev) (view c.write.new.self)
          (ap (is_body_of c.args.start (length ps)) c.body_sector.ensures.value ∙ body_within c.args.start (length ps) c.loop-patch.body (omega arith) (omega (arith, c.loop-patch-test.true))) (c.loop-patch.invariant.confined told) (c.write.ensures.touches told);
      uses = uses_and i 1 (i + 1) _ _ _ (omega arith) c.loop-patch.invariant.uses c.write.ensures.uses;
      faultless = c.in_ok-write.ensures.faults ∙ c.loop-patch.invariant.faultless;
    }

pub returns-clause-bodies : goal.returns-clause-bodies
returns-clause-bodies g c told k p found = c.loop-patch.invariant.bodies told k p (omega (arith, got_within c.args.patches.now k p found, c.loop-patch-test.false)) found
