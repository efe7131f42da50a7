use Rattle.std.proofs.Common.{◌≡◌, ◌+◌, false, length, sym, ◌∙◌, ap}
use Rattle.reclaim.specs.Held.{HeldTargets}
use Rattle.cycle_sweep.specs.Marked.{is_marked, count_marked}
use Rattle.cycle_sweep.proofs.MarkLaws.{balance-set}
use Rattle.cycle_sweep.proofs.marks.mark_one.Goals as goal

pub returns-then-not-get-clause-balance : goal.returns-then-not-get-clause-balance
returns-then-not-get-clause-balance c =
    let new : is_marked c.args.marked.now c.args.block ≡ false = sym c.get.ensures ∙ c.if-not-get.true in
    ap (λ marked. count_marked marked + length c.args.waiting.now.blocks) c.set.ensures
    ∙ (balance-set c.args.marked.now c.args.block c.args.waiting.now.blocks c.requires.inside new
    ∙ ap (λ (h : HeldTargets). count_marked c.args.marked.now + length h.blocks) (sym c.push.ensures))
