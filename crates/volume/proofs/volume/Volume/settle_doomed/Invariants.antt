use Rattle.std.proofs.Common.{ℕ, ◌+◌, ◌≤◌}
use Rattle.volume.proofs.Common.{HasBatches, owed, IsSettling}
use Rattle.volume.proofs.volume.Volume.settle_doomed.Given as goal

abbrev pub invariant-loop : goal.invariant-loop
invariant-loop g l = record {
  settling : IsSettling g.D.Device.told l.fn.self (g.D.Device.view l.fn.dev) l.self (g.D.Device.view l.dev);
  ring : (count : ℕ) × (count + owed l.self.tables ≤ owed l.fn.self.tables) × HasBatches count 33 l.fn.self.ring l.self.ring;
}

abbrev pub decreases-loop : goal.decreases-loop
decreases-loop g l = owed l.self.tables
