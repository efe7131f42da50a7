use Rattle.std.proofs.Common.{◌≡◌}
use Rattle.std.specs.Prelude.{map}
use Rattle.std.specs.List.{range_with_len}
use Rattle.tsd_model.specs.Sessions.{greatest}
use Rattle.tsd_model.specs.Attained.{attained_from}
use Rattle.plain_disk.proofs.sessions.attained.Given as goal

abbrev pub invariant-loop-origin : goal.invariant-loop-origin
invariant-loop-origin l = l.best ≡ greatest (map (attained_from l.world l.sessions l.session l.block l.shown) (range_with_len 0 l.origin))
