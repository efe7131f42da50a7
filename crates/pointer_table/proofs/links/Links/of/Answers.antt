use Rattle.std.proofs.Common.{Bool, length, ap, ◌∙◌, arith}
use Rattle.pointer_table.proofs.Common.{links_of}
use Rattle.pointer_table.proofs.LinkLaws.{length_links, none_set}
use Rattle.pointer_table.proofs.links.Links.of.Goals as goal

pub returns-in-Ok-clause-len : goal.returns-in-Ok-clause-len
returns-in-Ok-clause-len c =
    let none = ap length c.in-Ok.ensures.items in
    length_links c.args.in_row c.args.count c.in-Ok.items.items (omega arith)

pub returns-in-Ok-clause-nowhere : goal.returns-in-Ok-clause-nowhere
returns-in-Ok-clause-nowhere c = λ is.
    ap (λ (in_row : Bool). links_of in_row c.args.count c.in-Ok.items.items) is ∙ none_set c.args.count c.in-Ok.items.items c.in-Ok.ensures.items
