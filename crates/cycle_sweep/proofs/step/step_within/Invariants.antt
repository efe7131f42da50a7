use Rattle.std.proofs.Common.{◌≡◌, ℕ, ◌<◌, ◌≤◌, false}
use Rattle.std.specs.Prelude.{IsTrue}
use Rattle.tsd_model.specs.World.{is_live}
use Rattle.cycle_sweep.specs.Marked.{is_marked}
use Rattle.cycle_sweep.specs.Sweep.{IsStuck}
use Rattle.reclaim.specs.Tables.{graph_of}
use Rattle.cycle_sweep.proofs.step.step_within.Given as goal

-- no step can be taken at a block that was passed
abbrev pub invariant-loop-block : goal.invariant-loop-block
invariant-loop-block l = (b : ℕ) → l.start ≤ b → b < l.block → IsTrue (is_live (graph_of l.pointers l.live) b) → is_marked l.marks b ≡ false → IsStuck (graph_of l.pointers l.live) b
