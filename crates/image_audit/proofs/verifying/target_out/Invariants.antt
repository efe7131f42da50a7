use Rattle.std.proofs.Common.{◌≡◌, ◌-◌, ◌≤◌, ◌<◌, ℕ}
use Rattle.image_audit.proofs.Common.{IsTrue, holds, told_by, is_listed, IsPageOf}
use Rattle.image_audit.proofs.verifying.target_out.Given as goal

abbrev pub invariant-loop-target : goal.invariant-loop-target
invariant-loop-target l = record {
  source : l.targets.source ≡ l.source;
  page : IsPageOf (told_by l.volume).pairs l.targets;
  from : l.targets.from ≤ l.volume.tables.geometry.blocks;
  listed : (c : ℕ) → c < l.targets.from → IsTrue (holds (told_by l.volume).pairs l.source c) → IsTrue (is_listed l.entries c);
}

abbrev pub decreases-loop-target : goal.decreases-loop-target
decreases-loop-target l = l.volume.tables.geometry.blocks - l.targets.from
