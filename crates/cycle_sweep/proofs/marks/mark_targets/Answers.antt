use Rattle.std.proofs.Common.{◌==◌, ◌∙◌, arith}
use Rattle.std.proofs.lemmas.Bool.{or_left}
use Rattle.cycle_sweep.specs.Marked.{is_marked}
use Rattle.reclaim.specs.Tables.{graph_of}
use Rattle.cycle_sweep.proofs.MarkLaws.{marked_target}
use Rattle.cycle_sweep.proofs.marks.mark_targets.Goals as goal

pub loop-target-preserved : goal.loop-target-preserved
loop-target-preserved c =
    let inv = c.loop-target.invariant in
    let one = c.mark_one.ensures in record {
      size = one.size ∙ inv.size;
      room = one.room ∙ inv.room;
      marked = one.marked c.args.block ∙ or_left (is_marked c.loop-target.marked c.args.block) (c.args.block == c.in-Some.target) inv.marked;
      marks = marked_target (graph_of c.args.pointers.now c.args.live.now) c.loop-target.marked c.mark_one.new.marked c.loop-target.waiting.blocks c.mark_one.new.waiting.blocks
          c.args.pointers.now.geometry.primaries c.args.block c.loop-target.from c.in-Some.target c.requires.tables.raw inv.marked c.in-Some.ensures.there c.in-Some.ensures.least one.marked one.waiting inv.marks;
      balance = let e = one.balance in let f = inv.balance in omega (arith, e, f);
    }
