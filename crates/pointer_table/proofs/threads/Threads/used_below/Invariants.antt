use Rattle.std.proofs.Common.{◌≤◌, ◌+◌, ◌-◌}
use Rattle.pointer_table.proofs.threads.Threads.used_below.Given as goal

abbrev pub invariant-loop-below : goal.invariant-loop-below
invariant-loop-below l = record { down : l.below + l.looks ≤ l.of }

abbrev pub decreases-loop-below : goal.decreases-loop-below
decreases-loop-below l = 64 - l.looks
