use Rattle.std.proofs.Common.{◌≡◌, map}
use Rattle.intent_journal.proofs.Common.{range_with_len, home_in}
use Rattle.intent_journal.proofs.descriptor.first_homes.Given as goal

abbrev pub invariant-loop-index : goal.invariant-loop-index
invariant-loop-index l = l.homes.items ≡ map (home_in l.sector) (range_with_len 0 l.index)
