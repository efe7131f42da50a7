use Rattle.std.proofs.Common.{◌≡◌, ◌+◌, ◌-◌, ◌<◌, length, take, get_or, set, subst, sym, ap, ◌∙◌, arith}
use Rattle.std.proofs.Math.ListN.{length-set}
use Rattle.image_world.proofs.Common.{get_or_default_zero, slots_to}
use Rattle.image_world.proofs.CountLaws.{few_to, all_counted, found_more, none_counted, none_from}
use Rattle.image_world.proofs.counting.pairs_to_each.Goals as goal
use Rattle.image_world.proofs.counting.pairs_to_each.Goals.{in-Some, in_default}

pub overflow_add-index_mut : goal.overflow_add-index_mut
overflow_add-index_mut c =
    let table = c.pair_in.ensures.table in
    let slots = c.args.pointers.now.slots in
    let target = c.in-Some.target in
    let ends = table.ends c.loop-slot.slot (c.in-Some.field-0-0, target) (sym c.pair_in.ensures.value ∙ c.in-Some.is) in
    let inside : target < length c.loop-slot.found.items = omega (arith, c.loop-slot.invariant.each, ends.2) in
    let now : c.index_mut.result.now ≡ slots_to (take c.loop-slot.slot slots) target =
    c.index_mut.ensures.value ∙ get_or_default_zero c.loop-slot.found.items target c.index_mut.result.now inside ∙ c.loop-slot.invariant.found target inside in
    omega (arith, now, few_to slots c.loop-slot.slot target, table.count, table.lawful.slots)

pub loop-slot-preserved : goal.loop-slot-preserved
loop-slot-preserved c = elim c.match-pair_in.branch [
  | in-Some w ↦
      let table = c.pair_in.ensures.table in
      let slots = c.args.pointers.now.slots in
      let old = c.loop-slot.found.items in
      let target = w.in-Some.target in
      let held = sym c.pair_in.ensures.value ∙ w.in-Some.is in
      let ends = table.ends c.loop-slot.slot (w.in-Some.field-0-0, target) held in
      let inside : target < length old = omega (arith, c.loop-slot.invariant.each, ends.2) in
      let now : w.index_mut.result.now ≡ get_or old target 0 = w.index_mut.ensures.value ∙ get_or_default_zero old target w.index_mut.result.now inside in
      let items : c.match-pair_in.found.items ≡ set old target (w.index_mut.result.now + 1) = ap (λ v. v.items) w.found-is in
      let all : length c.match-pair_in.found.items ≡ length old = ap length items ∙ length-set old target (w.index_mut.result.now + 1) in
      let position : c.loop-slot.slot < length slots = omega (arith, c.slots_end-slot-end.ensures.inside, c.requires.count, c.loop-slot-test.true) in
      record {
        each = all ∙ c.loop-slot.invariant.each;
        found = λ b h. ap (λ xs. get_or xs b 0) items
            ∙ found_more old slots c.loop-slot.slot w.in-Some.field-0-0 target (w.index_mut.result.now + 1) position held inside (ap (λ n. n + 1) now) c.loop-slot.invariant.found b (omega arith);
      }
  | in_default w ↦
      let slots = c.args.pointers.now.slots in
      let position : c.loop-slot.slot < length slots = omega (arith, c.slots_end-slot-end.ensures.inside, c.requires.count, c.loop-slot-test.true) in
      let items = ap (λ v. v.items) w.found-is in
      record {
        each = ap length items ∙ c.loop-slot.invariant.each;
        found = λ b h. ap (λ xs. get_or xs b 0) items
            ∙ (c.loop-slot.invariant.found b (subst (λ xs. b < length xs) items h) ∙ sym (none_counted slots c.loop-slot.slot b position (sym c.pair_in.ensures.value ∙ w.in_default.is)));
      }
]

pub returns-clause-found : goal.returns-clause-found
returns-clause-found c b h =
    let slots = c.args.pointers.now.slots in
    let table = c.requires in
    let end : c.loop-slot.slot ≡ c.slots_end-slot-end.result = omega arith in
    let inside = c.slots_end-slot-end.ensures.inside in
    c.loop-slot.invariant.found b (omega (arith, c.loop-slot.invariant.each))
    ∙ (sym (none_from slots c.loop-slot.slot (length slots - c.loop-slot.slot) b (omega (arith, table.count)) (λ j far. c.slots_end-slot-end.ensures.empty j (omega arith)))
    ∙ all_counted slots (length slots) b (omega arith) table.apart)
