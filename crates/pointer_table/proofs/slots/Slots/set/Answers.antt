use Rattle.std.proofs.Common.{length, set, sym, ap, ◌∙◌, arith}
use Rattle.pointer_table.proofs.Common.{slot_in, slot_of, slot_at}
use Rattle.pointer_table.proofs.RawLaws.{length_all, none_behind, set_touched, set_again}
use Rattle.pointer_table.proofs.slots.Slots.set.Goals as goal

pub touch-requires-clause-inside : goal.touch-requires-clause-inside
touch-requires-clause-inside c =
    let s = c.self.inside in
    let all = ap length (sym c.self.view_is) ∙ length_all s.count s.items.items c.self.invariant.within in
    let inside = c.requires in
    omega arith

pub returns : goal.returns
returns c =
    let s = c.self.inside in
    set_touched s.count c.touch.new.items.items c.args.position c.args.slot c.touch.ensures.touched
    ∙ ap (λ slots. set slots c.args.position (slot_in c.args.slot)) (c.touch.ensures.same ∙ c.self.view_is)

pub returns-then-len-position : goal.returns-then-len-position
returns-then-len-position c =
    let s = c.self.inside in
    let len = s.items.ok.0 in
    set_again c.args.self.now c.args.position (slot_in c.args.slot)
    (ap (λ slots. slot_at slots c.args.position) (sym c.self.view_is)
    ∙ (none_behind s.count s.items.items c.args.position (omega arith)
    ∙ sym (ap (λ n. slot_of n c.args.slot.target) c.if-slot-eq0.true)))
