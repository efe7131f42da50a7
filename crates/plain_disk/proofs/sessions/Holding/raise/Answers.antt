use Rattle.std.proofs.Common.{arith, length-append}
use Rattle.tsd_model.specs.Attained.{attained_from}
use Rattle.tsd_model.proofs.LevelLaws.{raised_held_more}
use Rattle.plain_disk.proofs.sessions.Holding.raise.Goals as goal

pub loop-origin-preserved : goal.loop-origin-preserved
loop-origin-preserved c = record {
  count = rw c.in_ok-push.ensures.items (omega (arith, length-append c.loop-origin.tables.items, c.loop-origin.invariant.count));
  raised =
      let need = c.args.need.now in
      let more = raised_held_more need.block (attained_from c.args.world.now c.args.before.now c.args.session need.block need.shown) c.as_slice-held.result.now c.loop-origin.origin c.index-held-origin.result c.loop-origin-test.true in
      cc (c.in_ok-push.ensures.items, c.in_ok-raise.ensures, c.attained_from-attained.ensures, c.index-held-origin.is, c.loop-origin.invariant.raised, more);
}
