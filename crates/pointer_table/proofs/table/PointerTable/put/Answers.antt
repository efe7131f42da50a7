use Rattle.std.proofs.Common.{◌≡◌, ◌+◌, Some, None, set, length, sym, ap, ◌∙◌, arith}
use Rattle.pointer_table.proofs.Common.{holds, slot_at, Table, pairs}
use Rattle.pointer_table.proofs.ChangeLaws.{Kept, absent_slots, put_kept, next_empty, change_after, stored_after}
use Rattle.pointer_table.proofs.table.PointerTable.put.Goals as goal

pub take_empty-position-requires : goal.take_empty-position-requires
take_empty-position-requires c =
    let s = c.self.inside in
    let inside = (next_empty c.args.self.now s.geometry s.slots s.held s.index c.self.view_is c.self.invariant c.requires.room).0 in
    let all : length s.slots ≡ s.geometry.slots = c.self.invariant.0.count in
    let links = c.self.invariant.4.by_bucket in
    omega arith

pub add-requires-clause-inside : goal.add-requires-clause-inside
add-requires-clause-inside c =
    let s = c.self.inside in
    let inside = (next_empty c.args.self.now s.geometry s.slots s.held s.index c.self.view_is c.self.invariant c.requires.room).0 in
    let position = c.take_empty-position.ensures.position in
    omega arith

pub add-requires-clause-empty : goal.add-requires-clause-empty
add-requires-clause-empty c =
    let s = c.self.inside in
    (ap (slot_at s.slots) c.take_empty-position.ensures.position
    ∙ (next_empty c.args.self.now s.geometry s.slots s.held s.index c.self.view_is c.self.invariant c.requires.room).1)

pub add-requires-clause-absent : goal.add-requires-clause-absent
add-requires-clause-absent c =
    absent_slots c.self.inside.slots c.args.source c.args.target
    ((ap (λ (t : Table). holds (pairs t) c.args.source c.args.target) c.self.view_is ∙ c.requires.absent))

pub set-requires : goal.set-requires
set-requires c =
    let s = c.self.inside in
    let inside = (next_empty c.args.self.now s.geometry s.slots s.held s.index c.self.view_is c.self.invariant c.requires.room).0 in
    let position = c.take_empty-position.ensures.position in
    omega arith

pub invariant_of-self : goal.invariant_of-self
invariant_of-self c =
    let s = c.self.inside in
    put_kept c.args.self.now s.geometry s.slots s.held s.index c.take_empty-position.new.self c.add.new.self c.take_empty-position.result c.args.source c.args.target c.set.new.self
    c.self.view_is c.self.invariant c.requires.room c.requires.absent c.requires.within c.take_empty-position.ensures.position c.take_empty-position.ensures.now
    (c.set.ensures ∙ ap (set s.slots c.take_empty-position.result) c.of.ensures)
    c.add.ensures.index c.add.ensures.room c.add.ensures.empty c.add.ensures.empties

kept_now : (c : goal.After-patch) → Kept c.self.inside.geometry c.set.new.self (c.self.inside.held + 1) c.add.new.self
kept_now c =
    let s = c.self.inside in
    put_kept c.args.self.now s.geometry s.slots s.held s.index c.take_empty-position.new.self c.add.new.self c.take_empty-position.result c.args.source c.args.target c.set.new.self
    c.self.view_is c.self.invariant c.requires.room c.requires.absent c.requires.within c.take_empty-position.ensures.position c.take_empty-position.ensures.now
    (c.set.ensures ∙ ap (set s.slots c.take_empty-position.result) c.of.ensures)
    c.add.ensures.index c.add.ensures.room c.add.ensures.empty c.add.ensures.empties

pub patch-requires : goal.patch-requires
patch-requires c =
    let s = c.self.inside in
    let inside = (next_empty c.args.self.now s.geometry s.slots s.held s.index c.self.view_is c.self.invariant c.requires.room).0 in
    let position = c.take_empty-position.ensures.position in
    let all : length s.slots ≡ s.geometry.slots = c.self.invariant.0.count in
    omega arith

pub returns-clause-change : goal.returns-clause-change
returns-clause-change c =
    let s = c.self.inside in
    let next = next_empty c.args.self.now s.geometry s.slots s.held s.index c.self.view_is c.self.invariant c.requires.room in
    let inside = next.0 in
    let position = c.take_empty-position.ensures.position in
    let all : length s.slots ≡ s.geometry.slots = c.self.invariant.0.count in
    let sizes : s.geometry.slots ≡ c.args.self.now.geometry.slots = ap (λ (t : Table). t.geometry.slots) c.self.view_is in
    change_after c.args.self.now s.geometry s.slots c.set.new.self c.take_empty-position.result c.patch.result None (Some (c.args.source, c.args.target))
    c.self.view_is (c.set.ensures ∙ ap (set s.slots c.take_empty-position.result) c.of.ensures) (omega arith)
    (ap (λ (t : Table). slot_at t.slots c.take_empty-position.result) (sym c.self.view_is) ∙ (ap (slot_at s.slots) c.take_empty-position.ensures.position ∙ next.1))
    c.patch.ensures.position c.patch.ensures.bytes

pub returns-clause-stored : goal.returns-clause-stored
returns-clause-stored c x old =
    let s = c.self.inside in
    stored_after c.args.self.now s.geometry s.slots c.set.new.self c.take_empty-position.result (Some (c.args.source, c.args.target)) c.patch.result
    c.self.view_is (c.set.ensures ∙ ap (set s.slots c.take_empty-position.result) c.of.ensures) (kept_now c).0 c.patch.ensures.position c.patch.ensures.bytes x old

pub returns-clause-table : goal.returns-clause-table
returns-clause-table c = (kept_now c).0
