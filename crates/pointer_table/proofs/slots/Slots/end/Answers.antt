use Rattle.std.proofs.Common.{length, sym, ap, ◌∙◌, arith}
use Rattle.pointer_table.proofs.Common.{slot_at}
use Rattle.pointer_table.proofs.RawLaws.{length_all, none_behind}
use Rattle.pointer_table.proofs.slots.Slots.end.Goals as goal

pub returns-clause-inside : goal.returns-clause-inside
returns-clause-inside c =
    let s = c.self.inside in
    let all = ap length (sym c.self.view_is) ∙ length_all s.count s.items.items c.self.invariant.within in
    let within = c.self.invariant.within in
    let len = s.items.ok.0 in
    omega arith

pub returns-clause-behind : goal.returns-clause-behind
returns-clause-behind c k far =
    let s = c.self.inside in
    let len = s.items.ok.0 in
    ap (λ slots. slot_at slots k) (sym c.self.view_is) ∙ none_behind s.count s.items.items k (omega arith)
