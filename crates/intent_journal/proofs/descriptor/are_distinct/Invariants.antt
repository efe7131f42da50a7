use Rattle.std.proofs.Common.{◌≡◌, drop}
use Rattle.intent_journal.proofs.Common.{are_apart}
use Rattle.intent_journal.proofs.descriptor.are_distinct.Given as goal

abbrev pub invariant-loop-index : goal.invariant-loop-index
invariant-loop-index l = are_apart l.homes ≡ are_apart (drop l.index l.homes)
