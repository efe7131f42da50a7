use Rattle.std.proofs.Common.{◌≡◌, take}
use Rattle.tsd_model.specs.Step.{targets_from}
use Rattle.plain_disk.proofs.step.targets_from.Given as goal

abbrev pub invariant-loop-pair : goal.invariant-loop-pair
invariant-loop-pair l = l.targets ≡ targets_from (take l.pair-index l.pairs) l.source l.start
