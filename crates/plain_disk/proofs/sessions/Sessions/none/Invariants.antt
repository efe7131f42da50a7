use Rattle.std.proofs.Common.{◌≡◌}
use Rattle.std.specs.Prelude.{replicate, None}
use Rattle.plain_disk.proofs.sessions.Sessions.none.Given as goal

abbrev pub invariant-loop-index : goal.invariant-loop-index
invariant-loop-index l = l.held.items ≡ replicate l.index None
