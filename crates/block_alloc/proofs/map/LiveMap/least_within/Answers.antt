use Rattle.std.proofs.Common.{◌≡◌, ◌-◌, ◌≤◌, ◌+◌, ◌*◌, false, sym, ◌∙◌, subst, arith}
use Rattle.block_alloc.proofs.Common.{rank_of, is_within, IsKeptFrom}
use Rattle.block_alloc.proofs.GroupLaws.{kept_by, above_ceiling}
use Rattle.block_alloc.proofs.map.LiveMap.least_within.Goals as goal

-- each rank of the region is above the ceiling
pub loop-region-preserved : goal.loop-region-preserved
loop-region-preserved g c =
    let live = c.args.self.now.unhidden in
    let region = c.loop-region.region - 1 in
    let rank = rank_of c.args.placement.now.kind c.args.hint in
    let floor = c.floor_of.result in
    let end : c.loop-region.region ≡ region + 1 = omega (arith, c.loop-region-test.true) in
    let next : 65536 * c.loop-region.region ≡ 65536 * region + 65536 = omega (arith, end) in
    let above : is_within c.args.ceiling floor ≡ false = sym c.is_within.ensures ∙ c.if-is_within.false in
    record {
      wanted = c.loop-region.invariant.wanted;
      kept = kept_by rank live c.args.run c.args.wanted (65536 * region) c.args.ceiling 65536 c.loop-region.least.kept.items
          (λ b low high. above_ceiling rank live c.args.run c.args.ceiling floor b above (subst (λ kind. floor ≤ rank_of kind c.args.hint b) c.kind.ensures (c.floor_of.ensures b low (omega arith))))
          (subst (λ n. IsKeptFrom rank live c.args.run c.args.ceiling c.args.wanted n c.loop-region.least.kept.items) next c.loop-region.invariant.kept);
    }
