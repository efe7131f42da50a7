use Rattle.std.proofs.Common.{◌≡◌, ◌+◌}
use Rattle.image_runs.proofs.Common.{LeavesPart, behind, world_of, load_after, IsCoreAt, IsCoreReady, state_on, told_world, Works, HasApplied, LeavesRun}
use Rattle.image_runs.proofs.load.run.Given as goal

abbrev pub invariant-loop-number : goal.invariant-loop-number
invariant-loop-number g l =
    let start = g.D.Device.view l.initial.dev in
    let now = g.D.Device.view l.dev in
    record {
      ready : IsCoreReady l.core;
      at : g.D.Device.told → IsCoreAt l.core now;
      applied : g.D.Device.told → HasApplied l.placement.kind l.load.seed (world_of start.reads) l.number (state_on l.core now.reads) l.tally.granted l.tally.refused;
      first : l.number ≡ 0 → l.dev ≡ l.initial.dev;
      one : l.tally.granted + l.tally.refused ≡ l.number;
      draws : l.draws ≡ load_after l.load.seed (told_world l.initial.core).geometry l.number;
      sent : g.D.Device.told → now.sent ≡ start.sent;
      moments : g.D.Device.told → LeavesRun l.placement.kind l.load.seed l.number start now;
      size : l.core.volume.tables.geometry ≡ l.initial.core.volume.tables.geometry;
      behind : g.D.Device.told → LeavesPart (behind l.initial.core.volume.tables.geometry) start now;
      works : Works start now;
      faults : now.faults ≡ start.faults;
    }
