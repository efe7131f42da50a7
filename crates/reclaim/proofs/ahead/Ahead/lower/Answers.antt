use Rattle.std.proofs.Common.{length, ◌∙◌, ap, subst, sym}
use Rattle.reclaim.proofs.Common.{World, Kept, IsDeleting, kept_ahead}
use Rattle.reclaim.proofs.HidingLaws.{unhidden_settled}
use Rattle.reclaim.proofs.ahead.Ahead.lower.Goals as goal

pub lower-requires-clause-room : goal.lower-requires-clause-room
lower-requires-clause-room c = let d = c.requires.deleted in
    c.self.invariant.1 ∙ (ap (λ (k : Kept). length k.counts) c.self.view_is ∙ (d.2.ahead.counts_each ∙ ap (λ (x : World). x.geometry.blocks) (sym d.3)))

pub lower-requires-clause-deleted : goal.lower-requires-clause-deleted
lower-requires-clause-deleted c = let d = c.requires.deleted in
    (d.0, d.1, subst (λ (k : Kept). IsDeleting d.0 d.1 c.args.target k) (sym c.self.view_is) d.2, d.3)

pub returns-clause-settled : goal.returns-clause-settled
returns-clause-settled c = λ b within. let n = c.lower.new.self in
    unhidden_settled c.args.pointers.now c.lower.new.live (kept_ahead n.counts.items n.gone n.doomed n.pairs) c.lower.ensures.ahead c.lower.ensures.hidden b within
