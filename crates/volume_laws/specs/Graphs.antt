-- The next step of reclamation.
use Rattle.std.specs.Prelude.{◌≡◌, ◌⊎◌, true, length}
use Rattle.reclaim.specs.declared.out_step.OutStep.{OutStep}
use Rattle.reclaim.specs.Stepping.{MayStep}
use Rattle.image_world.specs.Debt.{graph_in}
use Rattle.image_world.specs.Tables.{Tables}

-- a step that may be taken; one that doesn't free its block takes 16 pairs
pub record IsStepNext (t : Tables) (s : OutStep) : Type 0 where
  pub may : MayStep (graph_in t) s
  pub wide : (s.freed ≡ true) ⊎ (length s.targets ≡ 16)
