use Rattle.std.proofs.Common.{◌≡◌, ◌≤◌, ◌-◌, ◌++◌, length, take}
use Rattle.pointer_table.proofs.Common.{pairs_in}
use Rattle.pointer_table.proofs.NextLaws.{all_targets}
use Rattle.pointer_table.proofs.next.least_targets.Given as goal

-- the targets so far and all that are still to come
abbrev pub invariant-loop-from : goal.invariant-loop-from
invariant-loop-from l =
    let es = pairs_in l.slots in
    record {
      all : take l.most (l.targets ++ all_targets es l.source l.from) ≡ take l.most (take 64 (all_targets es l.source l.start));
      within : length l.targets ≤ l.most;
    }

abbrev pub decreases-loop-from : goal.decreases-loop-from
decreases-loop-from l = l.most - length l.targets
