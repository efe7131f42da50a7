use Rattle.std.proofs.Common.{◌≤◌, length, take, ◌∙◌, ap, arith}
use Rattle.block_alloc.proofs.Common.{rank_of, sorted_by_rank, blocks_of, free_blocks}
use Rattle.block_alloc.proofs.OrderLaws.{blocks_of-ranked, length-least}
use Rattle.block_alloc.proofs.FreeLaws.{length-free_blocks}
use Rattle.block_alloc.proofs.map.LiveMap.choose.Goals as goal

pub returns-clause-chosen : goal.returns-clause-chosen
returns-clause-chosen g c =
    let rank = rank_of c.args.placement.now.kind c.args.hint in let free = free_blocks c.args.self.now.unhidden in
    c.blocks-2.ensures ∙ (ap blocks_of c.least_free.ensures ∙ blocks_of-ranked rank (take c.args.count (sorted_by_rank rank free)))

pub returns-clause-counted : goal.returns-clause-counted
returns-clause-counted g c =
    let rank = rank_of c.args.placement.now.kind c.args.hint in let free = free_blocks c.args.self.now.unhidden in
    let all = c.blocks-2.ensures ∙ (ap blocks_of c.least_free.ensures ∙ blocks_of-ranked rank (take c.args.count (sorted_by_rank rank free))) in
    let enough : c.args.count ≤ length free = omega (arith, length-free_blocks c.args.self.now.unhidden, c.free_count-free.ensures.value, c.if-free-count.false) in
    ap length all ∙ length-least rank c.args.count free enough
