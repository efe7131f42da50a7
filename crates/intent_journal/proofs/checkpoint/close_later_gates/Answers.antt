use Rattle.std.proofs.Common.{◌≡◌, ℕ, subst, arith}
use Rattle.intent_journal.proofs.Common.{Uses, later_open, uses_and}
use Rattle.intent_journal.proofs.checkpoint.close_later_gates.Goals as goal

pub returns-clause-uses : goal.returns-clause-uses
returns-clause-uses g c =
    let view = g.D.Device.view in
    let all : c.loop-index.index ≡ 8 = omega arith in
    let n = later_open c.args.gates.now 8 in
    uses_and n 0 n _ _ _ (omega arith) (subst (λ (i : ℕ). Uses (later_open c.args.gates.now i) (view c.args.dev.now) (view c.loop-index.dev)) all c.loop-index.invariant.uses) c.sync.ensures.uses
