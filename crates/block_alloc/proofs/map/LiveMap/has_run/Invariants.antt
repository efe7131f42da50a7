use Rattle.std.proofs.Common.{◌≡◌, ◌*◌, ◌-◌, [], length}
use Rattle.block_alloc.proofs.Common.{filter, range_with_len, is_free_run}
use Rattle.block_alloc.proofs.map.LiveMap.has_run.Given as goal

-- no run begins in a group that was passed
abbrev pub invariant-loop-group : goal.invariant-loop-group
invariant-loop-group l = filter (is_free_run l.self.unhidden l.count) (range_with_len (256 * l.group) (length l.self.unhidden - 256 * l.group)) ≡ []
