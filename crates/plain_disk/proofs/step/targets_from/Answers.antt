use Rattle.std.proofs.Common.{sym}
use Rattle.plain_disk.proofs.StepLaws.{targets_from_more}
use Rattle.plain_disk.proofs.step.targets_from.Goals as goal

pub loop-pair-preserved : goal.loop-pair-preserved
loop-pair-preserved c = rw (c.push_wanted.ensures, c.is_target.ensures, c.loop-pair.invariant) (sym (targets_from_more c.args.pairs.now c.loop-pair.pair-index c.args.source c.args.start (0, 0) c.loop-pair-test.true))
