use Rattle.std.proofs.Common.{refl, ◌∙◌, ap}
use Rattle.block_alloc.proofs.Common.{rank_of, first_block, blocks_of, runs}
use Rattle.block_alloc.proofs.OrderLaws.{first-least, none-least}
use Rattle.block_alloc.proofs.map.LiveMap.choose_run.Goals as goal

pub returns-in-None-clause-refused : goal.returns-in-None-clause-refused
returns-in-None-clause-refused g c =
    let rank = rank_of c.args.placement.now.kind c.args.hint in let starts = runs c.args.self.now.unhidden c.args.count in
    record {
      free_is = c.free_count-free.ensures.value;
      wanted_is = refl;
      enough = c.if-free-count.false;
      none = none-least rank starts (c.in-None.ensures ∙ (ap (λ kept. first_block (blocks_of kept)) c.least_run.ensures ∙ first-least rank starts));
    }
