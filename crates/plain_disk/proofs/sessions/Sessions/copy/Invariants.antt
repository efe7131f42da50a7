use Rattle.std.proofs.Common.{◌≡◌, take}
use Rattle.plain_disk.proofs.sessions.Sessions.copy.Given as goal

abbrev pub invariant-loop-holding : goal.invariant-loop-holding
invariant-loop-holding l = l.held.items ≡ take l.holding-index l.holding-items
