use Rattle.std.proofs.Common.{◌≡◌, ◌≤◌, length, refl, subst, ap, ◌∙◌, arith}
use Rattle.pointer_table.proofs.Common.{Table, pairs, IsTable}
use Rattle.pointer_table.proofs.TableLaws.{pairs_with, are_pairs}
use Rattle.pointer_table.proofs.table.PointerTable.add.Goals as goal

pub returns-then-self-clause-pairs : goal.returns-then-self-clause-pairs
returns-then-self-clause-pairs c =
    pairs_with c.args.self.now c.put.new.self c.put.result (c.args.source, c.args.target) (subst IsTable c.self.view_is c.self.invariant.0) c.put.ensures.change

pub returns-else-self-clause-full : goal.returns-else-self-clause-full
returns-else-self-clause-full c =
    let t = c.args.self.now in
    let held : c.self.inside.held ≡ length (pairs t) = c.self.invariant.1 ∙ ap (λ (u : Table). length (pairs u)) c.self.view_is in
    let sizes : c.self.inside.geometry.slots ≡ t.geometry.slots = ap (λ (u : Table). u.geometry.slots) c.self.view_is in
    let room : length (pairs t) ≤ t.geometry.slots = (are_pairs t (subst IsTable c.self.view_is c.self.invariant.0)).room in
    (λ _. omega arith, λ _. refl)
