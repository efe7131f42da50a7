use Rattle.std.proofs.Common.{length, sym, ap, ◌∙◌, arith}
use Rattle.pointer_table.proofs.RawLaws.{length_all}
use Rattle.pointer_table.proofs.slots.Slots.len.Goals as goal

pub returns-clause-value : goal.returns-clause-value
returns-clause-value c =
    let s = c.self.inside in
    sym (ap length (sym c.self.view_is) ∙ length_all s.count s.items.items c.self.invariant.within)

pub returns-clause-few : goal.returns-clause-few
returns-clause-few c =
    let s = c.self.inside in
    let all = ap length (sym c.self.view_is) ∙ length_all s.count s.items.items c.self.invariant.within in
    let few = c.self.invariant.few in
    omega arith
