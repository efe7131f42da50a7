use Rattle.std.proofs.Common.{◌≡◌, ◌-◌, ◌≤◌, ◌+◌, ◌*◌, false, sym, ◌∙◌, subst, arith}
use Rattle.block_alloc.proofs.Common.{rank_of, is_within, IsKeptFrom}
use Rattle.block_alloc.proofs.GroupLaws.{kept_by, above_ceiling}
use Rattle.block_alloc.proofs.map.LiveMap.offer_region.Goals as goal

-- each rank of the stretch is above the ceiling
pub loop-stretch-preserved : goal.loop-stretch-preserved
loop-stretch-preserved g c =
    let live = c.args.self.now.unhidden in
    let stretch = c.loop-stretch.stretch - 1 in
    let rank = rank_of c.args.placement.now.kind c.args.hint in
    let end : c.loop-stretch.stretch ≡ stretch + 1 = omega (arith, c.loop-stretch-test.true) in
    let next : 4096 * c.loop-stretch.stretch ≡ 4096 * stretch + 4096 = omega (arith, end) in
    let floor = c.floor_of.result in
    let above : is_within c.args.ceiling floor ≡ false = sym c.is_within.ensures ∙ c.if-is_within.false in
    let wanted = c.args.least.now.wanted in
    record {
      low = omega (arith, c.loop-stretch-test.true);
      wanted = c.loop-stretch.invariant.wanted;
      kept = λ before. kept_by rank live c.args.run wanted (4096 * stretch) c.args.ceiling 4096 c.loop-stretch.least.kept.items
          (λ b low high. above_ceiling rank live c.args.run c.args.ceiling floor b above (subst (λ kind. floor ≤ rank_of kind c.args.hint b) c.kind.ensures (c.floor_of.ensures b low (omega arith))))
          (subst (λ n. IsKeptFrom rank live c.args.run c.args.ceiling wanted n c.loop-stretch.least.kept.items) next (c.loop-stretch.invariant.kept before));
    }
