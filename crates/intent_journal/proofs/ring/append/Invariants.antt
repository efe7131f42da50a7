use Rattle.std.proofs.Common.{◌≡◌, ◌++◌, take}
use Rattle.intent_journal.proofs.ring.append.Given as goal

abbrev pub invariant-loop-patch : goal.invariant-loop-patch
invariant-loop-patch l = l.patches ≡ l.initial.patches ++ take l.patch-index l.more
