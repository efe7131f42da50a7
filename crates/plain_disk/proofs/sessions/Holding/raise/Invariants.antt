use Rattle.std.proofs.Common.{◌≡◌, take, length}
use Rattle.tsd_model.specs.Sessions.{raised_held}
use Rattle.tsd_model.specs.Attained.{attained_from}
use Rattle.plain_disk.proofs.sessions.Holding.raise.Given as goal

abbrev pub invariant-loop-origin : goal.invariant-loop-origin
invariant-loop-origin l = record {
  count : length l.tables.items ≡ l.origin;
  raised : l.tables.items ≡ raised_held l.need.block (attained_from l.world l.before l.session l.need.block l.need.shown) (take l.origin l.held);
}
