use Rattle.std.proofs.Common.{ℕ, List, subst, ap}
use Rattle.pointer_table.proofs.Common.{IsNextTarget, pairs}
use Rattle.pointer_table.proofs.table.PointerTable.next_target.Goals as goal

pub returns : goal.returns
returns c =
    subst (λ (es : List (ℕ × ℕ)). IsNextTarget es c.args.source c.args.start c.next_target.result)
    (ap pairs c.self.view_is) c.next_target.ensures
