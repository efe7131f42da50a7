-- The step that is taken next.
use Rattle.std.specs.Prelude.{◌≡◌, ℕ, ◌<◌, ◌≤◌, length, IsTrue, ◌⊎◌}
use Rattle.tsd_model.specs.Pairs.{holds}
use Rattle.tsd_model.specs.World.{World, has_number}
use Rattle.tsd_model.specs.Doomed.{settle}
use Rattle.tsd_model.specs.Valid.{IsRaw}
use Rattle.reclaim.specs.declared.out_step.OutStep.{OutStep}
use Rattle.graph_laws.specs.Counts.{doomed_size}
use Rattle.graph_laws.specs.Graph.{HasGraphOf}
use Rattle.graph_laws.specs.Steps.{stepped, IsStep, IsLost}

-- A step that may be taken: it is at a lost block, takes at most 16 pairs, and at least one or frees the block.
pub record MayStep (w : World) (s : OutStep) : Type 0 where
  pub lost : IsLost w s.block
  pub step : IsStep w s.block s.targets s.freed
  pub few : length s.targets ≤ 16
  pub some : IsTrue s.freed ⊎ (1 ≤ length s.targets)

-- The block has no other targets.
abbrev pub TakesAll : World → OutStep → Type 0
TakesAll w s = (b : ℕ) → IsTrue (holds w.pairs s.block b) → IsTrue (has_number s.targets b)

-- the world once the step is carried out
abbrev pub after_step : World → OutStep → World
after_step w s = stepped w s.block s.targets s.freed

-- Carried out, a step leaves a raw world raw and what it settles to as it was, and less that is doomed.
pub record IsKeptBy (r : World) (s : OutStep) : Type 0 where
  pub raw : IsRaw r → IsRaw (after_step r s)
  pub settled : settle (after_step r s) ≡ settle r
  pub less : doomed_size (after_step r s) < doomed_size r

-- So it is of each world with this graph, whatever its blocks contain.
abbrev pub AreKeptBy : World → OutStep → Type 0
AreKeptBy w s = (r : World) → HasGraphOf w r → IsKeptBy r s
