use Rattle.std.proofs.Common.{◌+◌, ◌-◌, ◌&&◌, ◌||◌, ◌==◌, not, length, sym, ◌∙◌, ap, subst, arith}
use Rattle.reclaim.proofs.Common.{or_left, or_from, length-set, slice_index, has_number, is_gone, left_at, IsCounting, graph_of}
use Rattle.reclaim.proofs.TallyLaws.{target_fresh, target_counted, target_off, open_other, counting_closed, number_fits, done_same, fresh_one}
use Rattle.reclaim.proofs.tally.Tally.lower_targets.Goals as goal

pub lower_one-requires-clause-some : goal.lower_one-requires-clause-some
lower_one-requires-clause-some c =
    let w = graph_of c.args.pointers.now c.args.live.now in let s = c.loop-target.self in
    omega (arith, target_counted w c.requires.tables.raw s.counts.items s.gone s.waiting.blocks s.doomed s.pairs c.args.block c.loop-target.from c.in-Some.target c.in-Some.ensures.there c.in-Some.ensures.from c.loop-target.invariant.counting)

pub lower_one-requires-clause-fits : goal.lower_one-requires-clause-fits
lower_one-requires-clause-fits c =
    let w = graph_of c.args.pointers.now c.args.live.now in let s = c.loop-target.self in
    let fits = number_fits w s.counts.items s.gone s.waiting.blocks s.doomed s.pairs (left_at s.gone s.waiting.blocks c.args.block c.loop-target.from) c.loop-target.invariant.counting in
    omega (arith, fits.0, c.requires.tables.raw.lawful.blocks.1)

pub overflow_add-self : goal.overflow_add-self
overflow_add-self c =
    let w = graph_of c.args.pointers.now c.args.live.now in let s = c.loop-target.self in let n = c.lower_one.new.self in let one = c.lower_one.ensures in let inv = c.loop-target.invariant in
    let next = target_off w c.requires.tables.raw s.counts.items n.counts.items s.gone n.gone s.waiting.blocks n.waiting.blocks s.doomed n.doomed s.pairs c.args.block c.loop-target.from c.in-Some.target
    (record { counts = one.counts; gone = one.gone; waiting = one.waiting; number = one.doomed }) (inv.counts ∙ c.requires.counts) inv.marked inv.out c.in-Some.ensures.there c.in-Some.ensures.from c.in-Some.ensures.least inv.counting in
    let fits = number_fits w n.counts.items n.gone n.waiting.blocks n.doomed (s.pairs + 1) (left_at n.gone n.waiting.blocks c.args.block (c.in-Some.target + 1)) next in
    omega (arith, fits.1, one.pairs, c.requires.tables.raw.room, c.requires.tables.raw.lawful.slots.1)

pub loop-target-preserved : goal.loop-target-preserved
loop-target-preserved c =
    let w = graph_of c.args.pointers.now c.args.live.now in let s = c.loop-target.self in let n = c.lower_one.new.self in let one = c.lower_one.ensures in let inv = c.loop-target.invariant in
    let next = target_off w c.requires.tables.raw s.counts.items n.counts.items s.gone n.gone s.waiting.blocks n.waiting.blocks s.doomed n.doomed s.pairs c.args.block c.loop-target.from c.in-Some.target
    (record { counts = one.counts; gone = one.gone; waiting = one.waiting; number = one.doomed }) (inv.counts ∙ c.requires.counts) inv.marked inv.out c.in-Some.ensures.there c.in-Some.ensures.from c.in-Some.ensures.least inv.counting in
    let same = open_other w c.requires.tables.raw s.counts.items n.counts.items s.gone n.gone s.waiting.blocks n.waiting.blocks s.doomed n.doomed s.pairs c.args.block c.loop-target.from c.in-Some.target
    (record { counts = one.counts; gone = one.gone; waiting = one.waiting; number = one.doomed }) (inv.counts ∙ c.requires.counts) inv.marked inv.out c.in-Some.ensures.there c.in-Some.ensures.from c.in-Some.ensures.least inv.counting in
    let one_more = (c.args.block == c.in-Some.target) && (slice_index s.counts.items c.in-Some.target == 1) in record {
      counts = ap length one.counts ∙ (length-set s.counts.items c.in-Some.target (slice_index s.counts.items c.in-Some.target - 1) ∙ inv.counts);
      gone = one.long ∙ inv.gone;
      room = one.room ∙ inv.room;
      marked = one.gone c.args.block ∙ or_left (is_gone s.gone c.args.block) one_more inv.marked;
      out = one.waiting c.args.block ∙ or_from (has_number s.waiting.blocks c.args.block) one_more inv.out same;
      counting = subst (λ k. IsCounting w n.counts.items n.gone n.waiting.blocks n.doomed (k + 1) (left_at n.gone n.waiting.blocks c.args.block (c.in-Some.target + 1))) (sym one.pairs) next;
      balance = let e = one.balance in let f = inv.balance in omega (arith, e, f);
      more = let e = one.doomed in let f = inv.more in omega (arith, e, f);
      done = λ b. ap (λ g. g && not (has_number n.waiting.blocks b)) (one.gone b) ∙ (ap (λ v. (is_gone s.gone b || ((b == c.in-Some.target) && (slice_index s.counts.items c.in-Some.target == 1))) && not v) (one.waiting b)
          ∙ (done_same (is_gone s.gone b) (has_number s.waiting.blocks b) ((b == c.in-Some.target) && (slice_index s.counts.items c.in-Some.target == 1))
          (λ h. fresh_one s.gone c.in-Some.target b (slice_index s.counts.items c.in-Some.target == 1) h (target_fresh w c.requires.tables.raw s.counts.items s.gone s.waiting.blocks s.doomed s.pairs c.args.block c.loop-target.from c.in-Some.target c.in-Some.ensures.there c.in-Some.ensures.from inv.counting))
          ∙ inv.done b));
    }

pub returns-clause-counting : goal.returns-clause-counting
returns-clause-counting c =
    let w = graph_of c.args.pointers.now c.args.live.now in let s = c.loop-target.self in
    counting_closed w s.counts.items s.gone s.waiting.blocks s.doomed s.pairs c.args.block c.loop-target.from c.requires.tables.raw c.in_default.ensures c.loop-target.invariant.counting

pub lower_one-requires-clause-fresh : goal.lower_one-requires-clause-fresh
lower_one-requires-clause-fresh c =
    let w = graph_of c.args.pointers.now c.args.live.now in let s = c.loop-target.self in
    target_fresh w c.requires.tables.raw s.counts.items s.gone s.waiting.blocks s.doomed s.pairs c.args.block c.loop-target.from c.in-Some.target c.in-Some.ensures.there c.in-Some.ensures.from c.loop-target.invariant.counting
