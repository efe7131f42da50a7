use Rattle.std.proofs.Common.{◌≡◌, ◌-◌, Some, None, set, length, ap, ◌∙◌, arith}
use Rattle.pointer_table.proofs.Common.{Table}
use Rattle.pointer_table.proofs.ChangeLaws.{Kept, emptied, some_held, change_after, stored_after}
use Rattle.pointer_table.proofs.SlotLaws.{some_inside}
use Rattle.pointer_table.proofs.table.PointerTable.clear.Goals as goal

pub give_empty-requires : goal.give_empty-requires
give_empty-requires c =
    let s = c.self.inside in
    let inside = some_inside c.args.self.now.slots c.args.position (c.args.source, c.args.target) c.requires in
    let same : length s.slots ≡ length c.args.self.now.slots = ap (λ (t : Table). length t.slots) c.self.view_is in
    let all : length s.slots ≡ s.geometry.slots = c.self.invariant.0.count in
    let links = (c.remove.ensures.room s.geometry.blocks s.geometry.slots c.self.invariant.4).by_bucket in
    omega arith

pub overflow_sub-self : goal.overflow_sub-self
overflow_sub-self c =
    let s = c.self.inside in
    some_held c.args.self.now s.geometry s.slots s.held s.index c.args.position c.args.source c.args.target c.self.view_is c.self.invariant c.requires

pub invariant_of-self : goal.invariant_of-self
invariant_of-self c =
    let s = c.self.inside in
    let some = some_held c.args.self.now s.geometry s.slots s.held s.index c.args.position c.args.source c.args.target c.self.view_is c.self.invariant c.requires in
    let inside = some_inside c.args.self.now.slots c.args.position (c.args.source, c.args.target) c.requires in
    let same : length s.slots ≡ length c.args.self.now.slots = ap (λ (t : Table). length t.slots) c.self.view_is in
    let all : length s.slots ≡ s.geometry.slots = c.self.invariant.0.count in
    let links = (c.remove.ensures.room s.geometry.blocks s.geometry.slots c.self.invariant.4).by_bucket in
    emptied c.args.self.now s.geometry s.slots s.held (s.held - 1) s.index c.remove.new.self c.give_empty.new.self c.args.position c.args.source c.args.target c.set.new.self
    c.self.view_is c.self.invariant c.requires (omega arith) c.set.ensures
    c.remove.ensures.index
    c.give_empty.ensures.index
    (c.give_empty.ensures.room s.geometry.blocks s.geometry.slots (c.remove.ensures.room s.geometry.blocks s.geometry.slots c.self.invariant.4))
    c.give_empty.ensures.empty
    (c.give_empty.ensures.next ∙ ap (set c.remove.new.self.by_bucket.next c.args.position) c.remove.ensures.empty)
    (omega arith)
    c.remove.ensures.empties

kept_now : (c : goal.After-patch) → Kept c.self.inside.geometry c.set.new.self (c.self.inside.held - 1) c.give_empty.new.self
kept_now c =
    let s = c.self.inside in
    let some = some_held c.args.self.now s.geometry s.slots s.held s.index c.args.position c.args.source c.args.target c.self.view_is c.self.invariant c.requires in
    let inside = some_inside c.args.self.now.slots c.args.position (c.args.source, c.args.target) c.requires in
    let same : length s.slots ≡ length c.args.self.now.slots = ap (λ (t : Table). length t.slots) c.self.view_is in
    let all : length s.slots ≡ s.geometry.slots = c.self.invariant.0.count in
    let links = (c.remove.ensures.room s.geometry.blocks s.geometry.slots c.self.invariant.4).by_bucket in
    emptied c.args.self.now s.geometry s.slots s.held (s.held - 1) s.index c.remove.new.self c.give_empty.new.self c.args.position c.args.source c.args.target c.set.new.self
    c.self.view_is c.self.invariant c.requires (omega arith) c.set.ensures
    c.remove.ensures.index
    c.give_empty.ensures.index
    (c.give_empty.ensures.room s.geometry.blocks s.geometry.slots (c.remove.ensures.room s.geometry.blocks s.geometry.slots c.self.invariant.4))
    c.give_empty.ensures.empty
    (c.give_empty.ensures.next ∙ ap (set c.remove.new.self.by_bucket.next c.args.position) c.remove.ensures.empty)
    (omega arith)
    c.remove.ensures.empties

pub returns-clause-change : goal.returns-clause-change
returns-clause-change c =
    let s = c.self.inside in
    let inside = some_inside c.args.self.now.slots c.args.position (c.args.source, c.args.target) c.requires in
    let same : length s.slots ≡ length c.args.self.now.slots = ap (λ (t : Table). length t.slots) c.self.view_is in
    let sizes : s.geometry.slots ≡ c.args.self.now.geometry.slots = ap (λ (t : Table). t.geometry.slots) c.self.view_is in
    let all : length s.slots ≡ s.geometry.slots = c.self.invariant.0.count in
    change_after c.args.self.now s.geometry s.slots c.set.new.self c.args.position c.patch.result (Some (c.args.source, c.args.target)) None
    c.self.view_is c.set.ensures (omega arith) c.requires c.patch.ensures.position c.patch.ensures.bytes

pub returns-clause-stored : goal.returns-clause-stored
returns-clause-stored c x old =
    let s = c.self.inside in
    stored_after c.args.self.now s.geometry s.slots c.set.new.self c.args.position None c.patch.result c.self.view_is c.set.ensures (kept_now c).0 c.patch.ensures.position c.patch.ensures.bytes x old

pub returns-clause-table : goal.returns-clause-table
returns-clause-table c = (kept_now c).0
