use Rattle.std.proofs.Common.{◌≡◌, take}
use Rattle.std.specs.Prelude.{map, option_map}
use Rattle.tsd_model.specs.Sessions.{levels_at_live}
use Rattle.plain_disk.proofs.sessions.Sessions.at_live.Given as goal

abbrev pub invariant-loop-holding : goal.invariant-loop-holding
invariant-loop-holding l = l.held.items ≡ map (option_map (map (levels_at_live l.world))) (take l.holding-index l.holding-items)
