use Rattle.std.proofs.Common.{◌≡◌, ◌-◌, ◌+◌, ◌*◌, false, subst, arith}
use Rattle.block_alloc.proofs.Common.{rank_of, is_run_within, IsKeptFrom}
use Rattle.block_alloc.proofs.GroupLaws.{kept_by}
use Rattle.block_alloc.proofs.map.LiveMap.offer_stretch.Goals as goal

-- no run of the group is within the ceiling
pub loop-group-preserved : goal.loop-group-preserved
loop-group-preserved g c =
    let live = c.args.self.now.unhidden in
    let group = c.loop-group.group - 1 in
    let rank = rank_of c.args.placement.now.kind c.args.hint in
    let end : c.loop-group.group ≡ group + 1 = omega (arith, c.loop-group-test.true) in
    let next : 256 * c.loop-group.group ≡ 256 * group + 256 = omega (arith, end) in
    let wanted = c.args.least.now.wanted in
    record {
      low = omega (arith, c.loop-group-test.true);
      wanted = c.loop-group.invariant.wanted;
      kept = λ before. kept_by rank live c.args.run wanted (256 * group) c.args.ceiling 256 c.loop-group.least.kept.items
          (λ b low high. subst (λ kind. is_run_within (rank_of kind c.args.hint) live c.args.run c.args.ceiling b ≡ false) c.kind.ensures (c.may_hold.ensures c.if-may_hold.false b low high))
          (subst (λ n. IsKeptFrom rank live c.args.run c.args.ceiling wanted n c.loop-group.least.kept.items) next (c.loop-group.invariant.kept before));
    }
