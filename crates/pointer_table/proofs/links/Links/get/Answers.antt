use Rattle.std.proofs.Common.{ℕ, List, length, get_or, sym, ap, ◌∙◌, arith}
use Rattle.pointer_table.proofs.LinkLaws.{length_links, get_unset}
use Rattle.pointer_table.proofs.links.Links.get.Goals as goal

pub unset_link-requires-clause-inside : goal.unset_link-requires-clause-inside
unset_link-requires-clause-inside c =
    let l = c.self.inside in
    let all = ap length (sym c.self.view_is) ∙ length_links l.in_row l.count l.items.items c.self.invariant.within in
    let inside = c.requires in
    omega arith

pub returns-else-position-len : goal.returns-else-position-len
returns-else-position-len c =
    let l = c.self.inside in
    let all = ap length (sym c.self.view_is) ∙ length_links l.in_row l.count l.items.items c.self.invariant.within in
    let inside = c.requires in
    let len = l.items.ok.0 in
    c.unset_link.ensures
    ∙ (get_unset l.in_row l.count l.items.items c.args.position (omega arith) (omega arith)
    ∙ ap (λ (xs : List ℕ). get_or xs c.args.position 0) c.self.view_is)
