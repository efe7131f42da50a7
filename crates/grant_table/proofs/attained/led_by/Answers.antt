use Rattle.std.proofs.Common.{◌≤◌, ◌+◌, sym, ap, arith, [], subst}
use Rattle.std.specs.Prelude.{slice_index_or}
use Rattle.std.proofs.lemmas.List.{get_or_past}
use Rattle.tsd_model.specs.declared.requests.Level.TheVariants as level
use Rattle.grant_table.specs.Led.{AreFound}
use Rattle.grant_table.proofs.LedLaws.{found_none, found_next, found_kept, found_all, found_write}
use Rattle.grant_table.proofs.TableLaws.{held_short}
use Rattle.grant_table.proofs.attained.led_by.Goals as goal

pub loop-below-init : goal.loop-below-init
loop-below-init g c =
    let none = found_none c.args.holding.now (g.F.DiskFacts.world c.args.facts.now).pairs c.args.block in
    let same = subst (λ ls. AreFound c.args.holding.now (g.F.DiskFacts.world c.args.facts.now).pairs c.args.block 0 ls) (sym c.bare-best.ensures) none in
    record { within = omega arith; inside = omega arith; sources = same; held = same }

pub loop-below-preserved-then-alone-gt0 : goal.loop-below-preserved-then-alone-gt0
loop-below-preserved-then-alone-gt0 g c =
    let held = c.args.holding.now in let es = (g.F.DiskFacts.world c.args.facts.now).pairs in let a = c.in-Some.source in
    record {
      within = omega (arith, c.in-Some.ensures.1);
      inside = c.loop-below.invariant.inside;
      sources = found_next held es a c.args.block c.loop-below.start c.loop-below.best c.add_to.new.best c.in-Some.ensures.0.there c.add_to.ensures.sized c.add_to.ensures.each c.loop-below.invariant.sources
          (λ o x there from before. absurd (let least : a ≤ x = c.in-Some.ensures.0.least x there from in omega arith));
      held = found_kept held es a c.args.block c.loop-below.below c.loop-below.best c.add_to.new.best c.in-Some.ensures.0.there c.add_to.ensures.sized c.add_to.ensures.each c.loop-below.invariant.held;
    }

pub add_held-below-requires-clause-found : goal.add_held-below-requires-clause-found
add_held-below-requires-clause-found g c =
    found_kept c.args.holding.now (g.F.DiskFacts.world c.args.facts.now).pairs c.in-Some.source c.args.block c.loop-below.below c.loop-below.best c.add_to.new.best
    c.in-Some.ensures.0.there c.add_to.ensures.sized c.add_to.ensures.each c.loop-below.invariant.held

pub loop-below-preserved : goal.loop-below-preserved
loop-below-preserved g c =
    let held = c.args.holding.now in let es = (g.F.DiskFacts.world c.args.facts.now).pairs in let a = c.in-Some.source in
    let on = c.add_held-below.ensures.on in
    let same = ap (λ d. d.blocks) c.geometry-geometry.ensures.value in
    record {
      within = omega (arith, c.in-Some.ensures.1);
      inside = omega (arith, on, same);
      sources = c.add_held-below.ensures.kept (a + 1)
          (found_next held es a c.args.block c.loop-below.start c.loop-below.best c.add_to.new.best c.in-Some.ensures.0.there c.add_to.ensures.sized c.add_to.ensures.each c.loop-below.invariant.sources
          (λ o x there from before. absurd (let least : a ≤ x = c.in-Some.ensures.0.least x there from in omega arith)));
      held = c.add_held-below.ensures.found;
    }

pub returns-in_default-clause-each : goal.returns-in_default-clause-each
returns-in_default-clause-each g c =
    let w = g.F.DiskFacts.world c.args.facts.now in let held = c.args.holding.now in
    let same = ap (λ d. d.blocks) c.geometry-geometry.ensures.value in
    let none = c.in_default.ensures in
    found_all held w.pairs c.args.block c.loop-below.start c.loop-below.best c.loop-below.invariant.sources
    (λ o a there from. get_or_past (slice_index_or held o []) a level.Bare
    (let far : c.geometry-geometry.result.blocks ≤ a = none a there from in let short = held_short w.geometry.blocks w.geometry.primaries held o c.requires.held in omega (arith, far, short, same)))

pub returns-else-not-are_write-clause-each : goal.returns-else-not-are_write-clause-each
returns-else-not-are_write-clause-each g c =
    let w = g.F.DiskFacts.world c.args.facts.now in let held = c.args.holding.now in
    let same = ap (λ d. d.primaries) c.geometry-geometry.ensures.value in
    found_write held w.pairs c.args.block c.loop-below.start c.loop-below.best c.loop-below.invariant.sources
    (λ o h. c.are_write.ensures c.if-not-are_write.false o (let count = c.requires.held.origins in omega (arith, count, same, h)))

pub returns-after-loop-below-clause-each : goal.returns-after-loop-below-clause-each
returns-after-loop-below-clause-each g c =
    let w = g.F.DiskFacts.world c.args.facts.now in let held = c.args.holding.now in
    let same = ap (λ d. d.blocks) c.geometry-geometry.ensures.value in
    let end = c.loop-below-test.false in
    found_all held w.pairs c.args.block c.loop-below.below c.loop-below.best c.loop-below.invariant.held
    (λ o a there from. get_or_past (slice_index_or held o []) a level.Bare
    (let short = held_short w.geometry.blocks w.geometry.primaries held o c.requires.held in omega (arith, from, end, short, same)))
