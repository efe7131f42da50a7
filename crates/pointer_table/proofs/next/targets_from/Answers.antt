use Rattle.std.proofs.Common.{◌∙◌, arith}
use Rattle.pointer_table.proofs.Common.{take-take, pairs_in}
use Rattle.pointer_table.proofs.NextLaws.{all_targets}
use Rattle.pointer_table.proofs.next.targets_from.Goals as goal

pub returns : goal.returns
returns c =
    c.least_targets.ensures
    ∙ take-take 64 64 (all_targets (pairs_in c.args.slots.now) c.args.source c.args.start) (omega arith)
