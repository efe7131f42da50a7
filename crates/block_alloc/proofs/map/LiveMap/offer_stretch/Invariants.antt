use Rattle.std.proofs.Common.{◌≡◌, ◌*◌, ◌+◌, ◌≤◌}
use Rattle.block_alloc.proofs.Common.{rank_of, IsKeptFrom}
use Rattle.block_alloc.proofs.map.LiveMap.offer_stretch.Given as goal

-- so are those of the groups that were passed
abbrev pub invariant-loop-group : goal.invariant-loop-group
invariant-loop-group g l = record {
  low : l.first ≤ l.group;
  wanted : l.least.wanted ≡ l.fn.least.wanted;
  kept : IsKeptFrom (rank_of l.placement.kind l.hint) l.self.unhidden l.run l.ceiling l.fn.least.wanted (4096 * (l.stretch + 1)) l.fn.least.kept.items
      → IsKeptFrom (rank_of l.placement.kind l.hint) l.self.unhidden l.run l.ceiling l.fn.least.wanted (256 * l.group) l.least.kept.items;
}
