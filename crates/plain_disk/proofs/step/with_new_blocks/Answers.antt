use Rattle.std.proofs.Common.{ap, ◌∙◌, ◌≡◌, sym, arith, replicate, drop, ◌+◌}
use Rattle.tsd_model.specs.Geometry.{block_len}
use Rattle.tsd_model.specs.Step.{with_contents, with_pointer, with_new_blocks, zeros}
use Rattle.std.specs.Prelude.{slice_index}
use Rattle.tsd_model.proofs.SizeLaws.{length-with_pair}
use Rattle.plain_disk.proofs.StepLaws.{with_new_blocks_more}
use Rattle.plain_disk.proofs.step.with_new_blocks.Goals as goal

pub loop-block-preserved : goal.loop-block-preserved
loop-block-preserved c =
    let a = c.args.source in
    let bs = c.args.blocks.now in
    let i = c.loop-block.block-index in
    let b = slice_index bs i in
    let next = c.loop-block.next in
    let length_is = c.block_len-len.ensures.value ∙ sym (ap block_len c.loop-block.invariant.same) in
    let bytes_are = c.in_ok-zeros.ensures ∙ ap (λ n. replicate n 0) length_is in
    let made : c.add_pointer.new.self ≡ with_pointer (with_contents next b (zeros next)) a b = c.in_ok-add_pointer.ensures.ok ∙ ap (λ w. with_pointer w a b) (c.set_block.ensures ∙ ap (with_contents next b) bytes_are) in
    record {
      done = ap (λ w. with_new_blocks w a (drop (i + 1) bs)) made ∙ (with_new_blocks_more next a bs i 0 c.loop-block-test.true ∙ c.loop-block.invariant.done);
      same = ap (λ w. w.geometry) made ∙ c.loop-block.invariant.same;
      room = rw made (omega (arith, length-with_pair (a, b) next.pairs, c.loop-block.invariant.room));
    }
