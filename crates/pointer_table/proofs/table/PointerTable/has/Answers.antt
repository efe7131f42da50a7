use Rattle.std.proofs.Common.{ap, ◌∙◌}
use Rattle.pointer_table.proofs.Common.{holds, pairs}
use Rattle.pointer_table.proofs.ChangeLaws.{has_is}
use Rattle.pointer_table.proofs.table.PointerTable.has.Goals as goal

pub returns : goal.returns
returns c =
    let a = c.args.source in
    let b = c.args.target in
    c.is_some.ensures
    ∙ (has_is c.self.inside.slots a b c.position_of.result c.position_of.ensures
    ∙ ap (λ t. holds (pairs t) a b) c.self.view_is)
