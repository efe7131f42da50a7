use Rattle.std.proofs.Common.{◌≡◌, false, take}
use Rattle.intent_journal.proofs.Common.{has_home}
use Rattle.intent_journal.proofs.ring.has_home.Given as goal

abbrev pub invariant-loop-patch : goal.invariant-loop-patch
invariant-loop-patch l = has_home (take l.patch-index l.patches) l.sector ≡ false
