use Rattle.std.proofs.Common.{◌≡◌, take}
use Rattle.std.specs.Prelude.{map, slice_index_or}
use Rattle.tsd_model.specs.Sessions.{greatest}
use Rattle.tsd_model.specs.declared.requests.Level.TheVariants as level
use Rattle.grant_table.proofs.holding.Holding.level.Given as goal

abbrev pub invariant-loop-table : goal.invariant-loop-table
invariant-loop-table l = l.best ≡ greatest (map (λ levels. slice_index_or levels l.block level.Bare) (take l.table-index l.self))
