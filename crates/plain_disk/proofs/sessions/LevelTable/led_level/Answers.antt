use Rattle.std.proofs.Common.{sym}
use Rattle.tsd_model.proofs.LevelLaws.{led_level_more}
use Rattle.plain_disk.proofs.sessions.LevelTable.led_level.Goals as goal

pub loop-pair-preserved : goal.loop-pair-preserved
loop-pair-preserved c = rw (c.greater-best.ensures, c.level_if.ensures, c.level.ensures, c.loop-pair.invariant) (sym (led_level_more c.args.self.now c.args.block c.args.pairs.now c.loop-pair.pair-index (0, 0) c.loop-pair-test.true))
