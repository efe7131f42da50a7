use Rattle.std.proofs.Common.{◌≡◌}
use Rattle.std.specs.Prelude.{replicate}
use Rattle.tsd_model.specs.declared.requests.Level.TheVariants as level
use Rattle.plain_disk.proofs.sessions.Holding.nothing.Given as goal

abbrev pub invariant-loop-origin : goal.invariant-loop-origin
invariant-loop-origin l = l.tables.items ≡ replicate l.origin (replicate l.blocks level.Bare)
