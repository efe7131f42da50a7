use Rattle.std.proofs.Common.{ℕ, List, length, set, sym, ap, ◌∙◌, arith}
use Rattle.pointer_table.proofs.LinkLaws.{length_links, set_touched}
use Rattle.pointer_table.proofs.links.Links.set.Goals as goal

pub touch-requires-clause-inside : goal.touch-requires-clause-inside
touch-requires-clause-inside c =
    let l = c.self.inside in
    let all = ap length (sym c.self.view_is) ∙ length_links l.in_row l.count l.items.items c.self.invariant.within in
    let inside = c.requires in
    omega arith

pub returns : goal.returns
returns c =
    let l = c.self.inside in
    set_touched l.in_row l.count c.touch.new.items.items c.args.position c.args.link c.touch.ensures.touched
    ∙ ap (λ (xs : List ℕ). set xs c.args.position c.args.link) (c.touch.ensures.same ∙ c.self.view_is)
