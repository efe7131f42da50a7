use Rattle.std.proofs.Common.{◌≡◌, suc, ◌+◌, ◌-◌, ◌<◌, [], ◌∷◌, ◌++◌, length, sym, ◌∙◌, ap, arith}
use Rattle.tsd_core.proofs.Common.{Ok, Err, IsOk, OnOk, range_with_len, length-range}
use Rattle.std.specs.Prelude.{Result}
use Rattle.tsd_model.proofs.RangeLaws.{range_with_len-next}
use Rattle.tsd_core.proofs.grow.run_of.Goals as goal

where_ok : {T E P : Type 0} (r : Result T E) → IsOk r → OnOk r P → P
where_ok (Ok x) is p = p
where_ok (Err e) is p = absurd (cc)

pub loop-block-preserved : goal.loop-block-preserved
loop-block-preserved c =
    let so_far = c.loop-block.invariant in
    let n = c.loop-block.block - c.args.first in
    let short : length c.loop-block.run < 64 = omega (arith, ap length so_far.0, length-range c.args.first n, so_far.2, c.requires.few) in
    let pushed : c.push.new.self ≡ c.loop-block.run ++ c.loop-block.block ∷ [] = where_ok c.push.result (c.push.ensures.variant.1 short) c.push.ensures.ok in
    let more : suc n ≡ c.loop-block.block + 1 - c.args.first = omega (arith, so_far.1) in (
      pushed
          ∙ (ap (λ bs. bs ++ c.loop-block.block ∷ []) so_far.0
          ∙ (sym (range_with_len-next c.args.first n c.loop-block.block (omega (arith, so_far.1)))
          ∙ ap (range_with_len c.args.first) more)),
      omega (arith, so_far.1),
      omega (arith, c.loop-block-test.true),
    )
