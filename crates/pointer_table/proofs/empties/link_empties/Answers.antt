use Rattle.std.proofs.Common.{◌≡◌, ℕ, ◌-◌, not, nat_lt, cond, length, sym, subst, ap, ◌∙◌, arith}
use Rattle.std.proofs.Common.{None}
use Rattle.pointer_table.proofs.Common.{lt-ltb, le-ltb, slot_at, no_link}
use Rattle.pointer_table.proofs.EmptyLaws.{AreEmptiesFrom, empties_more, empties_behind}
use Rattle.pointer_table.proofs.SlotLaws.{none_is}
use Rattle.pointer_table.proofs.empties.link_empties.Goals.{then-left-len, else-left-len}
use Rattle.pointer_table.proofs.empties.link_empties.Goals as goal

pub loop-left-init : goal.loop-left-init
loop-left-init c =
    let slots = c.args.slots.now in
    let end = c.end-left.result in
    let test : nat_lt end c.len.result ≡ nat_lt end (length slots) = ap (nat_lt end) c.len.ensures.value in
    let first : c.if-left-len.index ≡ cond (nat_lt end (length slots)) end no_link =
    elim c.if-left-len.branch [
      | then-left-len w ↦ w.index-is ∙ sym (ap (λ t. cond t end no_link) (sym test ∙ lt-ltb end c.len.result w.if-left-len.true))
      | else-left-len w ↦ w.index-is ∙ sym (ap (λ t. cond t end no_link) (sym test ∙ le-ltb end c.len.result (let far = w.if-left-len.false in omega arith)))
    ] in
    let room = c.requires.room in
    let index = c.requires.index in
    record {
      inside = c.end-left.ensures.inside;
      index = record { sources = index.sources; targets = index.targets; buckets = index.buckets };
      room = record { sources = room.sources; targets = room.targets; by_source = room.by_source; by_target = room.by_target; by_bucket = room.by_bucket };
      empties = empties_behind slots end c.if-left-len.index c.args.index.now.by_bucket.next c.end-left.ensures.inside room.by_bucket c.end-left.ensures.behind c.requires.row first;
    }

pub loop-left-preserved-then-is_none : goal.loop-left-preserved-then-is_none
loop-left-preserved-then-is_none c =
    let slots = c.args.slots.now in
    let position = c.loop-left.left - 1 in
    let so_far = c.loop-left.invariant in
    let within = so_far.inside in
    let many = so_far.room.by_bucket in
    let none : slot_at slots position ≡ None = sym c.pair_at.ensures ∙ none_is c.pair_at.result (c.is_none.ensures ∙ ap not c.if-is_none.true) in
    record {
      inside = omega arith;
      index = c.give_empty.ensures.index (slot_at slots) none so_far.index;
      room = c.give_empty.ensures.room (length c.args.index.now.by_source.heads) (length slots) so_far.room;
      empties =
          subst (λ (l : ℕ). AreEmptiesFrom slots position l c.give_empty.new.self.by_bucket.next) (sym c.give_empty.ensures.empty)
          (subst (AreEmptiesFrom slots position position) (sym c.give_empty.ensures.next)
          (empties_more slots c.loop-left.left c.loop-left.index.empty c.loop-left.index.by_bucket.next c.loop-left-test.true (omega arith) (omega arith) none so_far.empties));
    }
