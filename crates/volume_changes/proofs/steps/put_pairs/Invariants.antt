use Rattle.std.proofs.Common.{◌≡◌, take}
use Rattle.image_world.specs.Tables.{Tables}
use Rattle.volume_laws.specs.Steps.{MayTake, PairsAreTaken, with_slots_and_counts}
use Rattle.volume_changes.proofs.steps.put_pairs.Given as goal

-- the pairs to the targets so far are taken
abbrev pub invariant-loop-target : goal.invariant-loop-target
invariant-loop-target l = record {
  slots : l.pointers.geometry ≡ l.fn.pointers.geometry;
  counts : l.counts.geometry ≡ l.fn.counts.geometry;
  taken : (t : Tables) → MayTake t l.fn.pointers l.fn.counts l.source l.targets → PairsAreTaken t l.source (take l.target-index l.targets) (with_slots_and_counts t l.pointers l.counts) l.batch;
}
