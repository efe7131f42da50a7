use Rattle.std.proofs.Common.{length}
use Rattle.volume.proofs.Common.{sweep_left, AreParts, tables_in}
use Rattle.volume.proofs.SweepRun.{IsSweepRun, AreMarksOf}
use Rattle.volume.proofs.volume.Volume.make_sweep_steps.Given as goal

-- the world is as at the start, and the marks are still those of what is reached
abbrev pub invariant-loop-step : goal.invariant-loop-step
invariant-loop-step g l =
    let i = l.self-inside in
    record {
      run : IsSweepRun g.D.Device.told l.fn.self (g.D.Device.view l.fn.dev)
          (record { tables = tables_in i.header i.pointers i.counts i.live i.caps i.is_sweeping; ring = i.ring; is_ready = i.is_ready; is_spent = i.is_spent })
          (g.D.Device.view l.dev);
      parts : AreParts i.header i.pointers i.counts i.live i.caps i.is_sweeping (length i.marks) i.ahead i.is_ready;
      marks : AreMarksOf i.marks i.pointers i.live;
    }

abbrev pub decreases-loop-step : goal.decreases-loop-step
decreases-loop-step g l = let i = l.self-inside in sweep_left (tables_in i.header i.pointers i.counts i.live i.caps i.is_sweeping)
