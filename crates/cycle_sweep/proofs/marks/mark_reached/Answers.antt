use Rattle.std.proofs.Common.{◌≡◌, ◌+◌, ◌∷◌, [], length, length-append, refl, ◌∙◌, ap, arith}
use Rattle.reclaim.specs.Tables.{graph_of}
use Rattle.cycle_sweep.proofs.MarkLaws.{marked_primary, all_marked, count_within}
use Rattle.cycle_sweep.proofs.marks.mark_reached.Goals as goal

pub loop-block-preserved : goal.loop-block-preserved
loop-block-preserved c =
    let inv = c.loop-block.invariant in
    let one = c.mark_one.ensures in record {
      size = one.size ∙ inv.size;
      room = one.room ∙ inv.room;
      marks = marked_primary (graph_of c.args.pointers.now c.args.live.now) c.loop-block.marked c.mark_one.new.marked c.loop-block.waiting.blocks c.mark_one.new.waiting.blocks
          c.loop-block.block c.requires.tables.raw (let below = c.loop-block-test.true in let same = c.requires.primaries in omega (arith, below, same)) one.marked one.waiting inv.marks;
    }

pub loop-block-2-smaller : goal.loop-block-2-smaller
loop-block-2-smaller c =
    let balance = c.mark_targets.ensures.balance in
    let size = c.mark_targets.ensures.size in
    let fewer : length c.loop-block-2.waiting.blocks ≡ length c.pop.new.self.blocks + 1 = ap length c.in-Some.ensures.some.last ∙ length-append c.pop.new.self.blocks (c.in-Some.block ∷ []) in
    let within = count_within c.loop-block-2.marked in
    let after = count_within c.mark_targets.new.marked in
    omega (arith, balance, size, fewer, within, after)

pub returns-clause-reached : goal.returns-clause-reached
returns-clause-reached c = all_marked (graph_of c.args.pointers.now c.args.live.now) c.loop-block-2.marked c.loop-block-2.waiting.blocks c.requires.tables.raw (c.in_default.ensures.none.0 refl) c.loop-block-2.invariant.marks
