use Rattle.std.proofs.Common.{◌≡◌, ◌-◌, ℕ, length, refl, sym, subst, ap, ◌∙◌, arith}
use Rattle.pointer_table.proofs.Common.{IsIndex, slot_at}
use Rattle.pointer_table.proofs.EmptyLaws.{not_some}
use Rattle.pointer_table.proofs.ThreadingLaws.{threaded, none_threaded, one_more, all_threaded, row_more, index_same}
use Rattle.pointer_table.proofs.threading.by_order.Goals as goal

pub loop-left-init : goal.loop-left-init
loop-left-init c =
    let slots = c.args.slots.now in
    let order = c.args.order.now in
    record {
      inside = omega arith;
      index = index_same _ (threaded slots order (length order)) c.in_ok-index.index (none_threaded slots order (length order) (omega arith)) c.in_ok-index.ensures.index;
      room = c.in_ok-index.ensures.room;
      row = λ k inside none. c.in_ok-index.ensures.row k inside refl;
    }

pub add_first-requires-clause-source : goal.add_first-requires-clause-source
add_first-requires-clause-source c =
    let ends = c.requires.table.ends _ (c.in-Some.source, c.in-Some.target) (sym c.pair_at.ensures ∙ c.in-Some.is) in
    let heads = c.loop-left.invariant.room.sources in
    omega arith

pub add_first-requires-clause-target : goal.add_first-requires-clause-target
add_first-requires-clause-target c =
    let ends = c.requires.table.ends _ (c.in-Some.source, c.in-Some.target) (sym c.pair_at.ensures ∙ c.in-Some.is) in
    let heads = c.loop-left.invariant.room.sources in
    omega arith

pub loop-left-preserved-in-Some : goal.loop-left-preserved-in-Some
loop-left-preserved-in-Some c =
    let slots = c.args.slots.now in
    let order = c.args.order.now in
    let left = c.loop-left.left in
    let so_far = c.loop-left.invariant in
    let e : ℕ × ℕ = (c.in-Some.source, c.in-Some.target) in
    let here = sym c.pair_at.ensures ∙ c.in-Some.is in
    let room = c.add_first.ensures.room c.args.geometry.now.blocks c.args.geometry.now.slots so_far.room in
    record {
      inside = (let inside = so_far.inside in omega arith);
      index =
          one_more c.args.geometry.now slots order left e (λ held. IsIndex held c.loop-left.index) (λ now. IsIndex now c.add_first.new.self)
          c.requires.table c.requires.order c.loop-left-test.true so_far.inside here so_far.index c.add_first.ensures.index;
      room = room;
      row =
          row_more slots order left e c.loop-left.index.by_bucket.next c.add_first.new.self.by_bucket.next c.requires.order c.loop-left-test.true so_far.inside here
          (room.by_bucket ∙ sym so_far.room.by_bucket) c.add_first.ensures.others so_far.row;
    }

pub loop-left-preserved : goal.loop-left-preserved
loop-left-preserved c =
    let within = c.loop-left.invariant.inside in
    let there = c.requires.order.holders.held (c.loop-left.left - 1) (omega arith) in
    absurd (not_some (slot_at c.args.slots.now _) there.0 (sym c.pair_at.ensures ∙ c.in_default.is) there.1)

pub returns-clause-index : goal.returns-clause-index
returns-clause-index c =
    let slots = c.args.slots.now in
    let order = c.args.order.now in
    let end : c.loop-left.left ≡ 0 = omega arith in
    index_same (threaded slots order 0) (slot_at slots) c.loop-left.index (all_threaded slots order c.requires.order)
    (subst (λ (n : ℕ). IsIndex (threaded slots order n) c.loop-left.index) end c.loop-left.invariant.index)

pub returns-clause-row : goal.returns-clause-row
returns-clause-row c k inside none =
    let slots = c.args.slots.now in
    let order = c.args.order.now in
    let end : c.loop-left.left ≡ 0 = omega arith in
    c.loop-left.invariant.row k inside (ap (λ n. threaded slots order n k) end ∙ (all_threaded slots order c.requires.order k ∙ none))
