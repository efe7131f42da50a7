use Rattle.std.proofs.Common.{◌≡◌, false, take}
use Rattle.intent_journal.proofs.Common.{Image, has_home, overlaid, MatchOption}
use Rattle.intent_journal.proofs.ring.last_of.Given as goal

abbrev pub invariant-loop-patch : goal.invariant-loop-patch
invariant-loop-patch l =
    MatchOption l.found
    (has_home (take l.patch-index l.patches) l.sector ≡ false)
    (λ p. (x : Image) → overlaid (take l.patch-index l.patches) x l.sector ≡ p.now.bytes)
