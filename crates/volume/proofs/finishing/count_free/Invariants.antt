use Rattle.std.proofs.Common.{◌≡◌, ◌≤◌, take}
use Rattle.block_alloc.specs.LiveMap.{free_count}
use Rattle.volume.proofs.finishing.count_free.Given as goal

abbrev pub invariant-loop-block : goal.invariant-loop-block
invariant-loop-block l = record { counted : l.free ≡ free_count (take l.block l.live.live); few : l.free ≤ l.block }
