use Rattle.std.proofs.Common.{◌≡◌, ℕ, ◌==◌, true, sym, ◌∙◌, ap, arith}
use Rattle.volume.proofs.Common.{nil_from_length, nat_tests, doomed, graph_in, owed, Volume, tables_in, none_owed}
use Rattle.volume.proofs.volume.Volume.is_settled.Goals as goal

equal : (m n : ℕ) → (m == n) ≡ true → m ≡ n
equal m n is = grind (arith, nat_tests)

pub returns-then-self : goal.returns-then-self
returns-then-self c = λ is.
    let i = c.self.inside in
    let t = tables_in i.header i.pointers i.counts i.live i.caps i.is_sweeping in
    let none = equal c.doomed.result 0 is in
    let told = c.doomed.ensures.told (graph_in t) (c.self.invariant.ahead c.if-self.true) in
    sym (ap (λ (w : Volume). owed w.tables) c.self.view_is) ∙ (none_owed t).1 (nil_from_length (doomed (graph_in t)) (omega (arith, none, told)))
