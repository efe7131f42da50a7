use Rattle.std.proofs.Common.{◌≡◌, ◌-◌, ◌+◌, length, sym, ◌∙◌, ap, arith}
use Rattle.block_alloc.proofs.Common.{list_all, range_with_len, is_free}
use Rattle.block_alloc.proofs.GroupLaws.{broken_run, past_is_not_free, live_is_not_free}
use Rattle.block_alloc.proofs.map.LiveMap.is_run.Goals as goal

pub returns-then-end-blocks : goal.returns-then-end-blocks
returns-then-end-blocks c =
    let live = c.args.self.now.unhidden in
    let each : length live ≡ c.geometry-blocks.result.blocks = c.geometry-blocks.ensures.table.each_unhidden ∙ ap (λ m. m.blocks) (sym c.geometry-blocks.ensures.value) in
    let same : c.geometry-blocks.result.blocks ≡ c.args.self.now.geometry.blocks = ap (λ m. m.blocks) c.geometry-blocks.ensures.value in
    sym (broken_run live c.args.block c.args.run (length live) (omega (arith, each, same, c.requires.block)) (omega (arith, each, c.if-end-blocks.true)) (past_is_not_free live (length live) (omega arith)))

pub returns-then-is_live : goal.returns-then-is_live
returns-then-is_live c =
    let live = c.args.self.now.unhidden in
    sym (broken_run live c.args.block c.args.run (c.loop-next.next - 1) (omega (arith, c.loop-next-test.true)) (omega (arith, c.loop-next-test.true, c.loop-next.auto.next)) (live_is_not_free live (c.loop-next.next - 1) (sym c.is_live.ensures ∙ c.if-is_live.true)))

pub returns : goal.returns
returns c =
    let live = c.args.self.now.unhidden in
    let here : c.loop-next.next ≡ c.args.block = omega (arith, c.loop-next-test.false, c.loop-next.invariant.low) in
    let count : (c.args.block + c.args.run) - c.args.block ≡ c.args.run = omega arith in
    sym (ap (λ n. list_all (is_free live) (range_with_len c.args.block n)) (sym count) ∙ (ap (λ b. list_all (is_free live) (range_with_len b ((c.args.block + c.args.run) - b))) (sym here) ∙ c.loop-next.invariant.free))
