use Rattle.std.proofs.Common.{◌-◌, ◌≤◌}
use Rattle.volume.proofs.Common.{told_by, NoneBetween}
use Rattle.volume.proofs.volume.Volume.next_source.Given as goal

-- none of the sources so far stays
abbrev pub invariant-loop-source : goal.invariant-loop-source
invariant-loop-source l = record {
  behind : l.start ≤ l.from;
  none : NoneBetween (told_by l.self).pairs l.target l.start l.from;
}

abbrev pub decreases-loop-source : goal.decreases-loop-source
decreases-loop-source l = l.self.tables.geometry.blocks - l.from
