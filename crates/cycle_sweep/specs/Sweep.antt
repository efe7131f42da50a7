-- Steps of a sweep.
use Rattle.std.specs.Prelude.{◌≡◌, ℕ, ◌+◌, ◌≤◌, ◌⊎◌, ◌==◌, Bool, false, cond, length, IsTrue}
use Rattle.tsd_model.specs.Pairs.{holds}
use Rattle.tsd_model.specs.World.{World, is_live, has_number, free_count}
use Rattle.tsd_model.specs.Reach.{reach}
use Rattle.tsd_model.specs.Valid.{IsRaw}
use Rattle.reclaim.specs.declared.out_step.OutStep.{OutStep}
use Rattle.graph_laws.specs.Graph.{HasGraphOf}
use Rattle.graph_laws.specs.Steps.{without_pointers, IsStep, IsAlone}
use Rattle.graph_laws.specs.Sweeping.{SweepsAs}
use Rattle.reclaim.specs.Stepping.{after_step}

-- A step that may be taken: it is at a live block that isn't reached, takes at most 16 pairs, and at least one or frees
-- the block.
pub record MaySweep (w : World) (s : OutStep) : Type 0 where
  pub live : IsTrue (is_live w s.block)
  pub unreached : has_number (reach w) s.block ≡ false
  pub step : IsStep w s.block s.targets s.freed
  pub few : length s.targets ≤ 16
  pub some : IsTrue s.freed ⊎ (1 ≤ length s.targets)

-- Once its pairs are taken, none leads from the block or to it.
abbrev pub IsAloneAfter : World → OutStep → Type 0
IsAloneAfter w s = IsAlone (without_pointers w s.block s.targets) s.block

-- Carried out, a step leaves a raw world raw, what is reached and what the world sweeps to as it was, and less pairs
-- and blocks.
pub record IsSweptBy (r : World) (s : OutStep) : Type 0 where
  pub raw : IsRaw r → IsRaw (after_step r s)
  pub same : SweepsAs (after_step r s) r
  pub pairs : length r.pairs ≡ length s.targets + length (after_step r s).pairs
  pub free : free_count (after_step r s) ≡ cond s.freed 1 0 + free_count r

-- So it is of each world with this graph, whatever its blocks contain.
abbrev pub AreSweptBy : World → OutStep → Type 0
AreSweptBy w s = (r : World) → HasGraphOf w r → IsSweptBy r s

-- Pairs lead to the block, and none leads from it.
pub record IsStuck (w : World) (b : ℕ) : Type 0 where
  pub out : (c : ℕ) → holds w.pairs b c ≡ false
  pub led : (a : ℕ) × IsTrue (holds w.pairs a b)

-- So many pairs lead to a block, perhaps one from itself, and but for that there is none.
abbrev pub is_last : ℕ → Bool → Bool
is_last into own = cond own (into == 1) (into == 0)
