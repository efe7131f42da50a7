use Rattle.std.proofs.Common.{◌≡◌, ◌+◌, ◌-◌, ◌||◌, ◌&&◌, ◌==◌, not, false, ◌∷◌, [], length, length-append, refl, sym, ◌∙◌, ap, subst, arith}
use Rattle.reclaim.proofs.Common.{length-set, slice_index, slice_set, World, has_number, is_gone, kept_ahead, left_at, IsCounting, graph_of}
use Rattle.disk_laws.proofs.ReclaimLaws.{doomed_is_live}
use Rattle.reclaim.proofs.HidingLaws.{tables_with, graph_with, raw_twice, popped_unhidden, hidden_one, hides_as, none_waits}
use Rattle.reclaim.proofs.TallyLaws.{counting_begun, counting_opened, counting_ended, number_fits, ahead_fits, deleting_counted, popped_gone, done_same, fresh_one}
use Rattle.reclaim.proofs.tally.Tally.lower.Goals as goal

pub lower_one-requires-clause-within : goal.lower_one-requires-clause-within
lower_one-requires-clause-within c =
    let s = c.args.self.now in let d = c.requires.deleted in
    let at = deleting_counted d.0 d.1 c.args.target (kept_ahead s.counts.items s.gone s.doomed s.pairs) d.2 in
    omega (arith, at.0, d.2.ahead.counts_each)

pub lower_one-requires-clause-gone : goal.lower_one-requires-clause-gone
lower_one-requires-clause-gone c = let d = c.requires.deleted in d.2.ahead.marks_each ∙ sym d.2.ahead.counts_each

pub lower_one-requires-clause-room : goal.lower_one-requires-clause-room
lower_one-requires-clause-room c = let d = c.requires.deleted in c.requires.room ∙ (ap (λ (x : World). x.geometry.blocks) d.3 ∙ sym d.2.ahead.counts_each)

pub lower_one-requires-clause-some : goal.lower_one-requires-clause-some
lower_one-requires-clause-some c =
    let s = c.args.self.now in let d = c.requires.deleted in
    (deleting_counted d.0 d.1 c.args.target (kept_ahead s.counts.items s.gone s.doomed s.pairs) d.2).1

pub lower_one-requires-clause-fresh : goal.lower_one-requires-clause-fresh
lower_one-requires-clause-fresh c = c.requires.deleted.2.target

pub lower_one-requires-clause-fits : goal.lower_one-requires-clause-fits
lower_one-requires-clause-fits c =
    let s = c.args.self.now in let d = c.requires.deleted in
    let fits = ahead_fits d.0 (kept_ahead s.counts.items s.gone s.doomed s.pairs) d.2.raw.laid_out d.2.ahead in
    omega (arith, fits, d.2.raw.lawful.blocks.1)

pub loop-block-init : goal.loop-block-init
loop-block-init c =
    let w = graph_of c.args.pointers.now c.args.live.now in let s = c.args.self.now in let n = c.lower_one.new.self in let one = c.lower_one.ensures in
    let d = c.requires.deleted in record {
      counts = ap length one.counts ∙ length-set s.counts.items c.args.target (slice_index s.counts.items c.args.target - 1);
      gone = one.long;
      room = one.room;
      counting = subst (λ k. IsCounting w n.counts.items n.gone n.waiting.blocks n.doomed k (left_at n.gone n.waiting.blocks w.geometry.blocks 0)) (sym one.pairs)
          (counting_begun w d.0 d.1 c.args.target s.counts.items n.counts.items s.gone n.gone n.waiting.blocks s.doomed n.doomed s.pairs c.requires.tables.raw d.2 d.3
          (record { counts = one.counts; gone = one.gone; waiting = λ b. one.waiting b ∙ ap (λ xs. has_number xs b || ((b == c.args.target) && (slice_index s.counts.items c.args.target == 1))) c.requires.none; number = one.doomed }));
      hidden = hides_as c.args.live.now (is_gone s.gone) (λ b. is_gone n.gone b && not (has_number n.waiting.blocks b))
          (λ b. ap (λ g. g && not (has_number n.waiting.blocks b)) (one.gone b) ∙ (ap (λ v. (is_gone s.gone b || ((b == c.args.target) && (slice_index s.counts.items c.args.target == 1))) && not v) (one.waiting b)
          ∙ (done_same (is_gone s.gone b) (has_number s.waiting.blocks b) ((b == c.args.target) && (slice_index s.counts.items c.args.target == 1))
          (λ h. fresh_one s.gone c.args.target b (slice_index s.counts.items c.args.target == 1) h d.2.target)
          ∙ none_waits s.gone s.waiting.blocks b c.requires.none)))
          c.requires.hidden;
      raw = refl;
      more = let e = one.doomed in omega (arith, e);
    }

pub hide-requires : goal.hide-requires
hide-requires c =
    let w = graph_of c.args.pointers.now c.loop-block.live in let s = c.loop-block.self in let inv = c.loop-block.invariant in
    let tables = tables_with c.args.pointers.now c.args.live.now c.loop-block.live c.loop-block.live.unhidden inv.raw c.requires.tables in
    popped_unhidden c.args.pointers.now c.loop-block.live s.gone s.waiting.blocks c.pop.new.self.blocks c.in-Some.block tables
    (doomed_is_live w tables.raw.laid_out.each_block c.in-Some.block (inv.counting.marking.sound c.in-Some.block (popped_gone s.gone s.waiting.blocks c.pop.new.self.blocks c.in-Some.block c.in-Some.ensures.some.last inv.counting.waits)))
    inv.hidden c.in-Some.ensures.some.last

pub lower_targets-requires-clause-tables : goal.lower_targets-requires-clause-tables
lower_targets-requires-clause-tables c = tables_with c.args.pointers.now c.loop-block.live c.hide.new.self (slice_set c.loop-block.live.unhidden c.in-Some.block false) c.hide.ensures
    (tables_with c.args.pointers.now c.args.live.now c.loop-block.live c.loop-block.live.unhidden c.loop-block.invariant.raw c.requires.tables)

pub lower_targets-requires-clause-marked : goal.lower_targets-requires-clause-marked
lower_targets-requires-clause-marked c = popped_gone c.loop-block.self.gone c.loop-block.self.waiting.blocks c.pop.new.self.blocks c.in-Some.block c.in-Some.ensures.some.last c.loop-block.invariant.counting.waits

pub lower_targets-requires-clause-counting : goal.lower_targets-requires-clause-counting
lower_targets-requires-clause-counting c =
    let w = graph_of c.args.pointers.now c.loop-block.live in let s = c.loop-block.self in
    let tables = tables_with c.args.pointers.now c.args.live.now c.loop-block.live c.loop-block.live.unhidden c.loop-block.invariant.raw c.requires.tables in
    subst (λ (v : World). IsCounting v s.counts.items s.gone c.pop.new.self.blocks s.doomed s.pairs (left_at s.gone c.pop.new.self.blocks c.in-Some.block 0))
    (sym (graph_with c.args.pointers.now c.loop-block.live c.hide.new.self (slice_set c.loop-block.live.unhidden c.in-Some.block false) c.hide.ensures))
    (counting_opened w s.counts.items s.gone s.waiting.blocks c.pop.new.self.blocks s.doomed s.pairs c.in-Some.block tables.raw c.in-Some.ensures.some.last c.loop-block.invariant.counting)

pub loop-block-smaller : goal.loop-block-smaller
loop-block-smaller c =
    let w = graph_of c.args.pointers.now c.hide.new.self in let n = c.lower_targets.new.self in
    let fewer : length c.loop-block.self.waiting.blocks ≡ length c.pop.new.self.blocks + 1 = ap length c.in-Some.ensures.some.last ∙ length-append c.pop.new.self.blocks (c.in-Some.block ∷ []) in
    let balance = c.lower_targets.ensures.balance in
    let fits = number_fits w n.counts.items n.gone n.waiting.blocks n.doomed n.pairs (left_at n.gone n.waiting.blocks w.geometry.blocks 0) c.lower_targets.ensures.counting in
    omega (arith, balance, fewer, fits.0)

pub loop-block-preserved : goal.loop-block-preserved
loop-block-preserved c =
    let s = c.loop-block.self in let n = c.lower_targets.new.self in let inv = c.loop-block.invariant in let all = c.lower_targets.ensures in
    let marked = popped_gone s.gone s.waiting.blocks c.pop.new.self.blocks c.in-Some.block c.in-Some.ensures.some.last inv.counting.waits in record {
      counts = all.counts ∙ inv.counts;
      gone = all.gone ∙ inv.gone;
      room = all.room ∙ (c.in-Some.ensures.some.room ∙ inv.room);
      counting = all.counting;
      hidden = hides_as c.hide.new.self (λ b. is_gone s.gone b && not (has_number c.pop.new.self.blocks b)) (λ b. is_gone n.gone b && not (has_number n.waiting.blocks b)) all.done
          (hidden_one c.loop-block.live c.hide.new.self s.gone s.waiting.blocks c.pop.new.self.blocks c.in-Some.block marked c.in-Some.ensures.some.once inv.hidden c.in-Some.ensures.some.last c.hide.ensures);
      raw = raw_twice c.args.live.now c.loop-block.live c.hide.new.self (slice_set c.loop-block.live.unhidden c.in-Some.block false) inv.raw c.hide.ensures;
      more = let e = all.more in let f = inv.more in omega (arith, e, f);
    }

pub returns-clause-ahead : goal.returns-clause-ahead
returns-clause-ahead c =
    let w = graph_of c.args.pointers.now c.loop-block.live in let s = c.loop-block.self in let inv = c.loop-block.invariant in
    let tables = tables_with c.args.pointers.now c.args.live.now c.loop-block.live c.loop-block.live.unhidden inv.raw c.requires.tables in
    let d = c.requires.deleted in
    let size = ap (λ (x : World). x.geometry.blocks) d.3 in
    counting_ended w s.counts.items s.gone s.waiting.blocks s.doomed s.pairs tables.raw
    (inv.counts ∙ (d.2.ahead.counts_each ∙ sym size)) (inv.gone ∙ (d.2.ahead.marks_each ∙ sym size))
    (c.in_default.ensures.none.0 refl) inv.counting

pub returns-clause-hidden : goal.returns-clause-hidden
returns-clause-hidden c =
    let s = c.loop-block.self in
    hides_as c.loop-block.live (λ b. is_gone s.gone b && not (has_number s.waiting.blocks b)) (is_gone s.gone)
    (λ b. sym (none_waits s.gone s.waiting.blocks b (c.in_default.ensures.none.0 refl))) c.loop-block.invariant.hidden
