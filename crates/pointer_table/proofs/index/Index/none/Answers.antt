use Rattle.std.proofs.Common.{true, [], get_or, sym, ap, ◌∙◌, arith}
use Rattle.pointer_table.proofs.Common.{unset_link}
use Rattle.pointer_table.proofs.LinkLaws.{get_unset}
use Rattle.pointer_table.proofs.index.Index.none.Goals as goal

pub returns-clause-row : goal.returns-clause-row
returns-clause-row c k inside none =
    let slots = c.args.geometry.now.slots in
    let long = c.in_ok-none-3.ensures.next in
    ap (λ links. get_or links k 0) c.in_ok-none-3.ensures.row
    ∙ (sym (get_unset true slots [] k (omega arith) (omega arith)) ∙ ap (λ n. unset_link true n k) (sym long))
