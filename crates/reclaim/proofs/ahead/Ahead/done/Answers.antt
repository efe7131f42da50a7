use Rattle.std.proofs.Common.{ℕ, ◌+◌, ◌<◌, ◌≤◌, cond, List, length, ◌∙◌, ap, subst, sym, arith}
use Rattle.reclaim.proofs.Common.{Kept, IsStepping, IsAheadOf, kept_ahead, after_step}
use Rattle.reclaim.proofs.ToldLaws.{step_within, step_fits, step_ahead}
use Rattle.reclaim.proofs.ahead.Ahead.done.Goals as goal

pub take-requires-clause-within : goal.take-requires-clause-within
take-requires-clause-within c = let told = c.requires.told in
    subst (λ (k : Kept). c.args.step.now.block < length k.gone) (sym c.self.view_is) (step_within told.0 c.args.step.now c.args.self.now told.1)

pub take-requires-clause-some : goal.take-requires-clause-some
take-requires-clause-some c = let told = c.requires.told in
    subst (λ (k : Kept). cond c.args.step.now.freed 1 0 ≤ k.doomed) (sym c.self.view_is) (step_fits told.0 c.args.step.now c.args.self.now told.1).0

pub take-requires-clause-pairs : goal.take-requires-clause-pairs
take-requires-clause-pairs c = let told = c.requires.told in
    subst (λ (k : Kept). c.len-taken.result ≤ k.pairs) (sym c.self.view_is) (let fits = (step_fits told.0 c.args.step.now c.args.self.now told.1).1 in omega (arith, fits, c.len-taken.ensures.value))

pub returns-clause-ahead : goal.returns-clause-ahead
returns-clause-ahead c = λ w stepping.
    let t = c.self.inside.tally in let n = c.take.new.self in let one = c.take.ensures in let s = c.args.step.now in
    subst (λ (xs : List ℕ). IsAheadOf (after_step w s) (kept_ahead xs n.gone n.doomed n.pairs)) (sym one.counts)
    (step_ahead w s (kept_ahead t.counts.items t.gone t.doomed t.pairs) n.gone n.doomed n.pairs (subst (λ (k : Kept). IsStepping w s k) (sym c.self.view_is) stepping)
    one.long one.gone one.doomed (one.taken ∙ ap (λ m. m + n.pairs) c.len-taken.ensures.value))
