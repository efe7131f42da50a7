use Rattle.std.proofs.Common.{◌≡◌, length, ◌∙◌, ap, subst, sym}
use Rattle.reclaim.proofs.Common.{Kept, IsAheadOf, kept_ahead}
use Rattle.reclaim.proofs.ToldLaws.{reset_ahead}
use Rattle.reclaim.proofs.ahead.Ahead.reset.Goals as goal

pub returns-clause-ahead : goal.returns-clause-ahead
returns-clause-ahead c = λ w size none have.
    let n = c.reset.new.self in
    let long : length c.self.inside.tally.counts.items ≡ c.args.counts.now.geometry.blocks = ap (λ (k : Kept). length k.counts) c.self.view_is ∙ c.requires.sizes in
    subst (λ i. IsAheadOf w (kept_ahead n.counts.items n.gone i n.pairs)) (sym c.reset.ensures.doomed)
    (subst (λ i. IsAheadOf w (kept_ahead n.counts.items n.gone 0 i)) (sym c.reset.ensures.pairs)
    (reset_ahead w none c.args.counts.now.counts n.counts.items n.gone c.args.counts.now.geometry.blocks size have
    (c.reset.ensures.long.0 ∙ long) (c.reset.ensures.long.1 ∙ (c.self.invariant.0 ∙ long)) c.reset.ensures.counts c.reset.ensures.gone))
