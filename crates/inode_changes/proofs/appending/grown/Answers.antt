use Rattle.std.proofs.Common.{◌≡◌, ◌+◌, ◌*◌, ◌/◌, ◌≤◌, length, sym, ◌∙◌, ap, subst, arith}
use Rattle.inode_changes.proofs.Common.{length-take-le, div-le_self, take, inode_of, block_len_of, amount_said}
use Rattle.inode_changes.proofs.GrowLaws.{full_behind}
use Rattle.inode_changes.proofs.appending.grown.Goals as goal

pub overflow_cast-full : goal.overflow_cast-full
overflow_cast-full c = omega (arith, c.amount.type_inv)

pub nonzero_div-full : goal.nonzero_div-full
nonzero_div-full c = omega (arith, c.block_len-block_len.ensures.whole)

pub overflow_cast-result : goal.overflow_cast-result
overflow_cast-result c = omega (arith, c.len.ensures.fits)

pub overflow_add-result : goal.overflow_add-result
overflow_add-result c = omega (arith, c.requires.small, c.amount-2.ensures, c.len.ensures.value)

pub overflow_mul-result : goal.overflow_mul-result
overflow_mul-result c = let less = div-le_self c.amount.result c.block_len-block_len.result in omega (arith, less, c.amount.type_inv)

pub slice_bounds-result-end : goal.slice_bounds-result-end
slice_bounds-result-end c =
    let i = c.args.inode.now in
    let whole = subst (λ n. 16 ≤ n) c.block_len-block_len.ensures.value c.block_len-block_len.ensures.whole in
    let fits = full_behind i c.requires.is_file whole in
    let same : c.amount.result / c.block_len-block_len.result ≡ amount_said (inode_of i) / block_len_of i = ap (λ n. n / c.block_len-block_len.result) c.amount.ensures ∙ ap (λ n. amount_said (inode_of i) / n) c.block_len-block_len.ensures.value in
    let long = ap length c.body.ensures.value in
    sym (length-take-le (4 * (c.amount.result / c.block_len-block_len.result)) c.body.result.now (omega (arith, fits, same, long)))

pub returns : goal.returns
returns c =
    let i = c.args.inode.now in
    let same : c.amount.result / c.block_len-block_len.result ≡ amount_said (inode_of i) / block_len_of i = ap (λ n. n / c.block_len-block_len.result) c.amount.ensures ∙ ap (λ n. amount_said (inode_of i) / n) c.block_len-block_len.ensures.value in
    record {
      len = c.block_len-block_len.ensures.value;
      size = ap (λ n. n + c.len.result) c.amount-2.ensures ∙ ap (λ n. amount_said (inode_of i) + n) c.len.ensures.value;
      shared = ap (λ n. take (4 * n) c.body.result.now) same ∙ ap (take (4 * (amount_said (inode_of i) / block_len_of i))) c.body.ensures.value;
      before = c.as_slice.ensures.value;
      added = c.as_slice-2.ensures.value;
    }
