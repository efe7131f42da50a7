use Rattle.std.proofs.Common.{◌≡◌, ◌*◌, ◌+◌, ◌≤◌}
use Rattle.block_alloc.proofs.Common.{rank_of, IsKeptFrom}
use Rattle.block_alloc.proofs.map.LiveMap.offer_region.Given as goal

-- so are those of the stretches that were passed
abbrev pub invariant-loop-stretch : goal.invariant-loop-stretch
invariant-loop-stretch g l = record {
  low : l.start ≤ l.stretch;
  wanted : l.least.wanted ≡ l.fn.least.wanted;
  kept : IsKeptFrom (rank_of l.placement.kind l.hint) l.self.unhidden l.run l.ceiling l.fn.least.wanted (65536 * (l.region + 1)) l.fn.least.kept.items
      → IsKeptFrom (rank_of l.placement.kind l.hint) l.self.unhidden l.run l.ceiling l.fn.least.wanted (4096 * l.stretch) l.least.kept.items;
}
