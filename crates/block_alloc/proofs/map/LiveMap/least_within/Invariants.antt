use Rattle.std.proofs.Common.{◌≡◌, ◌*◌}
use Rattle.block_alloc.proofs.Common.{rank_of, IsKeptFrom}
use Rattle.block_alloc.proofs.map.LiveMap.least_within.Given as goal

-- of the regions that were passed the least are kept
abbrev pub invariant-loop-region : goal.invariant-loop-region
invariant-loop-region g l = record {
  wanted : l.least.wanted ≡ l.wanted;
  kept : IsKeptFrom (rank_of l.placement.kind l.hint) l.self.unhidden l.run l.ceiling l.wanted (65536 * l.region) l.least.kept.items;
}
