use Rattle.std.proofs.Common.{◌+◌, ◌*◌, ◌≤◌}
use Rattle.volume.proofs.Common.{checkpoint_writes, doomed, graph_in, owed, HasBatches, IsSettling}
use Rattle.std.proofs.Common.{length}
use Rattle.volume.proofs.volume.Volume.settle_some.Given as goal

-- each step so far took something away, and was no dearer than 69 writes
abbrev pub invariant-loop-step : goal.invariant-loop-step
invariant-loop-step g l = record {
  settling : IsSettling g.D.Device.told l.fn.self (g.D.Device.view l.fn.dev) l.self (g.D.Device.view l.dev);
  most : owed l.fn.self.tables ≤ owed l.self.tables + l._step * 17;
  blocks : length (doomed (graph_in l.fn.self.tables)) ≤ length (doomed (graph_in l.self.tables)) + l._step;
  ring : HasBatches l._step 33 l.fn.self.ring l.self.ring;
  steps : owed l.self.tables + l._step ≤ owed l.fn.self.tables;
  used : (g.D.Device.view l.dev).writes + checkpoint_writes l.self.ring ≤ (g.D.Device.view l.fn.dev).writes + checkpoint_writes l.fn.self.ring + l._step * 69;
}
