use Rattle.std.proofs.Common.{◌≡◌, take}
use Rattle.tsd_model.specs.Sessions.{greatest}
use Rattle.grant_table.proofs.origins.Origins.greatest.Given as goal

abbrev pub invariant-loop-level : goal.invariant-loop-level
invariant-loop-level l = l.best ≡ greatest (take l.level-index l.level-items)
