use Rattle.std.proofs.Common.{length, sym, ap, ◌∙◌}
use Rattle.pointer_table.proofs.LinkLaws.{length_links}
use Rattle.pointer_table.proofs.links.Links.len.Goals as goal

pub returns : goal.returns
returns c =
    let l = c.self.inside in
    sym (ap length (sym c.self.view_is) ∙ length_links l.in_row l.count l.items.items c.self.invariant.within)
