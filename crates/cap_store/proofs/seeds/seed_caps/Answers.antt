use Rattle.std.proofs.Common.{◌≡◌, length, ◌∙◌, ap, arith}
use Rattle.std.specs.Prelude.{◌≡◌, ◌++◌, [], ◌∷◌}
use Rattle.std.proofs.lemmas.List.FromFn.{length-map-range_with_len}
use Rattle.std.proofs.lemmas.Result.{IfOk-at_ok}
use Rattle.cap_store.specs.Seeds.{seed_pair}
use Rattle.cap_store.proofs.SeedLaws.{pairs_more, words_more}
use Rattle.cap_store.proofs.seeds.seed_caps.Goals as goal

pub unwrap-requires : goal.unwrap-requires
unwrap-requires c =
    let many : length c.loop-block.caps ≡ c.loop-block.block = ap length c.loop-block.invariant.pairs ∙ length-map-range_with_len (seed_pair c.args.seed.now) 0 c.loop-block.block in
    c.push.ensures.variant.1 (omega arith)

pub loop-block-preserved : goal.loop-block-preserved
loop-block-preserved c =
    let added = IfOk-at_ok (λ _. c.push.new.self ≡ c.loop-block.caps ++ record { read = c.next_cap-read.result; write = c.next_cap-write.result } ∷ []) c.unwrap.ensures c.push.ensures.ok in
    record {
      pairs = pairs_more c.args.seed.now c.loop-block.block c.loop-block.words c.next_cap-read.new.words c.next_cap-write.new.words c.loop-block.invariant.words c.next_cap-read.ensures.position
          c.loop-block.caps c.push.new.self c.next_cap-read.result c.next_cap-write.result c.loop-block.invariant.pairs c.next_cap-read.ensures.value c.next_cap-write.ensures.value added;
      words = words_more c.args.seed.now c.loop-block.block c.loop-block.words c.next_cap-read.new.words c.next_cap-write.new.words c.loop-block.invariant.words c.next_cap-read.ensures.position c.next_cap-write.ensures.position;
    }
