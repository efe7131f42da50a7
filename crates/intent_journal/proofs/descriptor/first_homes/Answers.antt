use Rattle.std.proofs.Common.{◌≡◌, ◌++◌, [], ◌∷◌, length, map, sym, ◌∙◌, ap, lit<, arith}
use Rattle.intent_journal.proofs.Common.{range_with_len, length-map-range_with_len, map-range_with_len_more, home_in}
use Rattle.intent_journal.proofs.descriptor.first_homes.Goals as goal

pub push-requires : goal.push-requires
push-requires c =
    let long : length c.loop-index.homes.items ≡ c.loop-index.index = ap length c.loop-index.invariant ∙ length-map-range_with_len _ 0 c.loop-index.index in
    (lit< tt, omega (arith, long))

pub loop-index-preserved : goal.loop-index-preserved
loop-index-preserved c =
    c.push.ensures.items ∙ ap (λ l. l ++ c.number_in.result ∷ []) c.loop-index.invariant ∙ ap (λ n. map (home_in c.args.sector.now) (range_with_len 0 c.loop-index.index) ++ n ∷ []) c.number_in.ensures
    ∙ sym (map-range_with_len_more (home_in c.args.sector.now) 0 c.loop-index.index c.loop-index.index (omega arith))
