use Rattle.std.proofs.Common.{◌≡◌, ◌-◌, ◌+◌, ◌≤◌}
use Rattle.tsd_core.proofs.Common.{range_with_len}
use Rattle.tsd_core.proofs.grow.run_of.Given as goal

abbrev pub invariant-loop-block : goal.invariant-loop-block
invariant-loop-block l = (l.run ≡ range_with_len l.fn.first (l.block - l.fn.first)) × (l.fn.first ≤ l.block) × (l.block ≤ l.fn.first + l.fn.count)
