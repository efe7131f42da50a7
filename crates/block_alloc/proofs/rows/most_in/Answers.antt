use Rattle.std.proofs.Common.{◌≡◌, inl, inr, ◌+◌, ◌-◌, subst, arith}
use Rattle.block_alloc.proofs.Common.{cases_eq, bits_of, IsMostAt}
use Rattle.block_alloc.proofs.BitLaws.{length-bits_of}
use Rattle.block_alloc.proofs.GroupLaws.{past_is_not_free}
use Rattle.block_alloc.proofs.RowLaws.{most-any, most-none, most-from}
use Rattle.block_alloc.proofs.rows.most_in.Goals as goal
use Rattle.block_alloc.proofs.rows.most_in.Goals.{then-block-end, else-block-end}

pub loop-block-init : goal.loop-block-init
loop-block-init c =
    let live = bits_of c.args.unhidden.now c.args.blocks in
    record {
      low = omega (arith, c.min-block.ensures, c.requires.group);
      few = omega arith;
      row = most-any live c.min-block.result 32 (omega arith);
      most = λ b from to. most-none live b (past_is_not_free live b (let size = length-bits_of c.args.unhidden.now c.args.blocks in omega (arith, size, c.min-block.ensures)));
    }

pub loop-block-preserved : goal.loop-block-preserved
loop-block-preserved c =
    let live = bits_of c.args.unhidden.now c.args.blocks in
    let block = c.loop-block.block - 1 in
    let next : c.loop-block.block ≡ block + 1 = omega (arith, c.loop-block-test.true) in
    let behind : IsMostAt live (block + 1) c.loop-block.row = subst (λ b. IsMostAt live b c.loop-block.row) next c.loop-block.invariant.row in
    let row : IsMostAt live block c.row_before-row.result = c.row_before-row.ensures.most c.args.blocks behind in
    record {
      low = omega (arith, c.loop-block-test.true);
      few = c.row_before-row.ensures.few;
      row = row;
      most = λ b from to. elim c.if-block-end.branch [
        | then-block-end w ↦ elim (cases_eq block b) [
          | inl here ↦ subst (λ k. IsMostAt live k c.if-block-end.most) here (most-from live block c.row_before-row.result c.if-block-end.most (omega (arith, w.longer-most.ensures.other, w.most-is)) row)
          | inr later ↦ most-from live b c.loop-block.most c.if-block-end.most (omega (arith, w.longer-most.ensures.one, w.most-is)) (c.loop-block.invariant.most b (omega arith) to)
        ]
        | else-block-end w ↦ absurd (omega (arith, w.if-block-end.false))
      ];
    }
