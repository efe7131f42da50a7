use Rattle.std.proofs.Common.{◌≡◌, ◌+◌, ◌*◌, ◌≤◌}
use Rattle.block_alloc.proofs.Common.{rank_of, IsKeptFrom}
use Rattle.block_alloc.proofs.map.LiveMap.offer_group.Given as goal

-- so are those of the blocks of the group that were passed
abbrev pub invariant-loop-block : goal.invariant-loop-block
invariant-loop-block g l = record {
  low : l.first ≤ l.block;
  wanted : l.least.wanted ≡ l.fn.least.wanted;
  kept : IsKeptFrom (rank_of l.placement.kind l.hint) l.self.unhidden l.run l.ceiling l.fn.least.wanted (256 * (l.group + 1)) l.fn.least.kept.items
      → IsKeptFrom (rank_of l.placement.kind l.hint) l.self.unhidden l.run l.ceiling l.fn.least.wanted l.block l.least.kept.items;
}
