use Rattle.std.proofs.Common.{◌≡◌, Some, sym, subst, ap, ◌∙◌}
use Rattle.pointer_table.proofs.Common.{both_ways, holds, slot_at, Table, pairs, IsTable}
use Rattle.pointer_table.proofs.SlotLaws.{holds_from_slot}
use Rattle.pointer_table.proofs.TableLaws.{pairs_without}
use Rattle.pointer_table.proofs.table.PointerTable.remove.Goals as goal

pub returns-in-Some-clause-absent : goal.returns-in-Some-clause-absent
returns-in-Some-clause-absent c =
    let t = c.args.self.now in
    let position = c.in-Some.position in
    let found : slot_at t.slots position ≡ Some (c.args.source, c.args.target) =
    sym (ap (λ (u : Table). slot_at u.slots position) c.self.view_is) ∙ c.in-Some.ensures in
    (λ never. absurd (cc), λ absent. absurd (both_ways (holds (pairs t) c.args.source c.args.target) absent (holds_from_slot t.slots position c.args.source c.args.target found)))

pub returns-in-Some-clause-pairs : goal.returns-in-Some-clause-pairs
returns-in-Some-clause-pairs c =
    pairs_without c.args.self.now c.clear.new.self c.clear.result c.args.source c.args.target (subst IsTable c.self.view_is c.self.invariant.0) c.clear.ensures.change
