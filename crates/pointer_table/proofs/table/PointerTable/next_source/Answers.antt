use Rattle.std.proofs.Common.{ℕ, List, subst, ap}
use Rattle.pointer_table.proofs.Common.{IsNextSource, pairs}
use Rattle.pointer_table.proofs.table.PointerTable.next_source.Goals as goal

pub returns : goal.returns
returns c =
    subst (λ (es : List (ℕ × ℕ)). IsNextSource es c.args.target c.args.start c.next_source.result)
    (ap pairs c.self.view_is) c.next_source.ensures
