use Rattle.std.proofs.Common.{◌≡◌, ◌-◌, ◌<◌, ◌+◌, ◌*◌, ◌&&◌, length, true, sym, ◌∙◌, ap, subst, arith, take}
use Rattle.block_alloc.proofs.Common.{rank_of, is_free_run, is_within, is_run_within, IsKeptFrom, inserted, ranked, Ranked}
use Rattle.block_alloc.proofs.OrderLaws.{least-from-yes}
use Rattle.block_alloc.proofs.map.LiveMap.offer_group.Goals as goal

pub loop-block-preserved-then-is_within : goal.loop-block-preserved-then-is_within
loop-block-preserved-then-is_within g c =
    let live = c.args.self.now.unhidden in
    let block = c.loop-block.block - 1 in
    let rank = rank_of c.args.placement.now.kind c.args.hint in
    let next : c.loop-block.block ≡ block + 1 = omega (arith, c.loop-block-test.true) in
    let each : length live ≡ c.geometry-blocks.result.blocks = c.geometry-blocks.ensures.table.each_unhidden ∙ ap (λ m. m.blocks) (sym c.geometry-blocks.ensures.value) in
    let within : block < length live = omega (arith, each, next, c.loop-block.auto.block, c.min-end.ensures) in
    let run : is_free_run live c.args.run block ≡ true = sym c.is_run.ensures ∙ c.if-is_run.true in
    let low : is_within c.args.ceiling (rank block) ≡ true = ap (is_within c.args.ceiling) (sym c.rank-rank.ensures.value) ∙ (sym c.is_within.ensures ∙ c.if-is_within.true) in
    let passes : is_run_within rank live c.args.run c.args.ceiling block ≡ true = (λ i. run i && low i) in
    let offered : Ranked = record { rank = c.rank-rank.result; block = block } in
    let is : offered ≡ ranked rank block = ap (λ r. let s : Ranked = record { rank = r; block = block } in s) c.rank-rank.ensures.value in
    record {
      low = omega (arith, c.loop-block-test.true);
      wanted = c.offer.ensures.wanted ∙ c.loop-block.invariant.wanted;
      kept = λ before. c.offer.ensures.kept ∙ (ap (λ w. take w (inserted offered c.loop-block.least.kept.items)) c.loop-block.invariant.wanted
          ∙ least-from-yes rank (is_run_within rank live c.args.run c.args.ceiling) c.args.least.now.wanted block c.loop-block.block (length live) c.loop-block.least.kept.items offered next within passes is (c.loop-block.invariant.kept before));
    }

pub returns-clause-kept : goal.returns-clause-kept
returns-clause-kept g c = λ before.
    let rank = rank_of c.args.placement.now.kind c.args.hint in
    let here : c.loop-block.block ≡ 256 * c.args.group = omega (arith, c.loop-block-test.false, c.loop-block.invariant.low) in
    subst (λ n. IsKeptFrom rank c.args.self.now.unhidden c.args.run c.args.ceiling c.args.least.now.wanted n c.loop-block.least.kept.items) here (c.loop-block.invariant.kept before)
