use Rattle.std.proofs.Common.{◌≡◌, take}
use Rattle.std.specs.Prelude.{map}
use Rattle.tsd_model.specs.Sessions.{levels_at_live}
use Rattle.plain_disk.proofs.sessions.Holding.at_live.Given as goal

abbrev pub invariant-loop-table : goal.invariant-loop-table
invariant-loop-table l = l.tables.items ≡ map (levels_at_live l.world) (take l.table-index l.self)
