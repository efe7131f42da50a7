use Rattle.std.proofs.Common.{◌≡◌, ◌+◌, ◌<◌, cond, length, sym, ◌∙◌, ap, subst, arith, get_or}
use Rattle.reclaim.proofs.Common.{length-set, slice_index, has_number}
use Rattle.reclaim.proofs.HeldLaws.{has-at, not_before, take-whole}
use Rattle.reclaim.proofs.PlaceLaws.{raised_next}
use Rattle.reclaim.proofs.tally.Tally.raise_all.Goals as goal

pub raise-requires-clause-within : goal.raise-requires-clause-within
raise-requires-clause-within c =
    let i = c.loop-target.target-index in
    subst (λ n. get_or c.args.targets.now i 0 < n) (sym c.loop-target.invariant.long) (c.requires.within (get_or c.args.targets.now i 0) (has-at c.args.targets.now i c.loop-target-test.true))

pub raise-requires-clause-fits : goal.raise-requires-clause-fits
raise-requires-clause-fits c =
    let i = c.loop-target.target-index in
    let t = get_or c.args.targets.now i 0 in
    subst (λ n. n < 4294967295) (sym (c.loop-target.invariant.counts t ∙ (ap (λ s. cond s 1 0 + slice_index c.args.self.now.counts.items t) (not_before c.args.targets.now i c.requires.once c.loop-target-test.true)
    ∙ (let none : 0 + slice_index c.args.self.now.counts.items t ≡ slice_index c.args.self.now.counts.items t = omega arith in none))))
    (c.requires.fits t (has-at c.args.targets.now i c.loop-target-test.true))

pub loop-target-preserved : goal.loop-target-preserved
loop-target-preserved c =
    let i = c.loop-target.target-index in
    let t = get_or c.args.targets.now i 0 in
    let one = c.raise.ensures in
    let inv = c.loop-target.invariant in record {
      counts = raised_next c.args.targets.now i c.args.self.now.counts.items c.loop-target.self.counts.items c.raise.new.self.counts.items c.requires.once c.loop-target-test.true (subst (λ n. t < n) (sym inv.long) (c.requires.within t (has-at c.args.targets.now i c.loop-target-test.true))) inv.counts one.counts;
      long = ap length one.counts ∙ (length-set c.loop-target.self.counts.items t (slice_index c.loop-target.self.counts.items t + 1) ∙ inv.long);
      others = record { gone = one.others.gone ∙ inv.others.gone; waiting = one.others.waiting ∙ inv.others.waiting; doomed = one.others.doomed ∙ inv.others.doomed; pairs = one.others.pairs ∙ inv.others.pairs };
    }

pub returns-clause-counts : goal.returns-clause-counts
returns-clause-counts c = λ b. c.loop-target.invariant.counts b
    ∙ ap (λ xs. cond (has_number xs b) 1 0 + slice_index c.args.self.now.counts.items b) (take-whole c.loop-target.target-index c.args.targets.now (omega (arith, c.loop-target-test.false)))
