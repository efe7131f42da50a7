use Rattle.std.proofs.Common.{◌≤◌, ◌-◌}
use Rattle.grant_table.specs.Led.{AreFound}
use Rattle.grant_table.proofs.attained.led_by.Given as goal

abbrev pub invariant-loop-below : goal.invariant-loop-below
invariant-loop-below g l = record {
  within : l.start ≤ l.geometry.blocks;
  inside : l.below ≤ l.geometry.blocks;
  sources : AreFound l.holding (g.F.DiskFacts.world l.facts).pairs l.block l.start l.best;
  held : AreFound l.holding (g.F.DiskFacts.world l.facts).pairs l.block l.below l.best;
}

abbrev pub decreases-loop-below : goal.decreases-loop-below
decreases-loop-below g l = l.geometry.blocks - l.start
