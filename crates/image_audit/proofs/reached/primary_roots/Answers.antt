use Rattle.std.proofs.Common.{◌≡◌, ◌<◌, ◌≤◌, ◌+◌, ◌∷◌, ◌++◌, [], ℕ, List, length, take, true, ◌&&◌, nat_le, nat_lt, sym, ◌∙◌, ap, subst, arith}
use Rattle.image_audit.proofs.Common.{and_parts, ltb-true, take_all, length_push, range_with_len, slice_index_or, Geometry, has_number, length-range, has_number-range, told_by}
use Rattle.tsd_model.proofs.RangeLaws.{range_next}
use Rattle.image_audit.proofs.LevelLaws.{has_at}
use Rattle.image_audit.proofs.reached.primary_roots.Goals as goal

-- one primary block more
pushed : (roots new : List ℕ) (b : ℕ) → b < 16 → roots ≡ range_with_len 0 b → new ≡ take 64 (roots ++ b ∷ []) → new ≡ range_with_len 0 (b + 1)
pushed roots new b few are is =
    let long : length roots ≡ b = ap length are ∙ length-range 0 b in
    let more = length_push roots b in
    is ∙ (take_all 64 (roots ++ b ∷ []) (omega (arith, few, long, more)) ∙ (ap (λ xs. xs ++ b ∷ []) are ∙ sym (range_next b)))

-- each number of a range is below its end
below_end : (n k d : ℕ) → k < length (range_with_len 0 n) → slice_index_or (range_with_len 0 n) k d < n
below_end n k d h = at (sym (has_number-range 0 n (slice_index_or (range_with_len 0 n) k d)) ∙ has_at (range_with_len 0 n) k d h)
  where
    at : (nat_le 0 (slice_index_or (range_with_len 0 n) k d) && nat_lt (slice_index_or (range_with_len 0 n) k d) (0 + n)) ≡ true → slice_index_or (range_with_len 0 n) k d < n
    at g = let last = ltb-true (slice_index_or (range_with_len 0 n) k d) (0 + n) (and_parts (nat_le 0 (slice_index_or (range_with_len 0 n) k d)) (nat_lt (slice_index_or (range_with_len 0 n) k d) (0 + n)) g).1 in omega (arith, last)

pub loop-block-preserved : goal.loop-block-preserved
loop-block-preserved c =
    let size = c.geometry-block-end.ensures in
    let most : (told_by c.args.volume.now).geometry.primaries ≤ 16 = size.sized.lawful.primaries.1 in
    let told : (told_by c.args.volume.now).geometry.primaries ≡ c.args.volume.now.tables.geometry.primaries = ap (λ (g : Geometry). g.primaries) size.told in
    let value : c.geometry-block-end.result.primaries ≡ c.args.volume.now.tables.geometry.primaries = ap (λ (g : Geometry). g.primaries) size.value in
    let below : c.loop-block.block < c.geometry-block-end.result.primaries = c.loop-block-test.true in
    pushed c.loop-block.roots c.push_wanted.new.self c.loop-block.block (omega (arith, most, told, value, below)) c.loop-block.invariant c.push_wanted.ensures

pub returns-clause-inside : goal.returns-clause-inside
returns-clause-inside c k d inside =
    let size = c.geometry-block-end.ensures in
    let fewer : (told_by c.args.volume.now).geometry.primaries < (told_by c.args.volume.now).geometry.blocks = size.sized.lawful.primaries.2 in
    let primaries : (told_by c.args.volume.now).geometry.primaries ≡ c.args.volume.now.tables.geometry.primaries = ap (λ (g : Geometry). g.primaries) size.told in
    let blocks : (told_by c.args.volume.now).geometry.blocks ≡ c.args.volume.now.tables.geometry.blocks = ap (λ (g : Geometry). g.blocks) size.told in
    let value : c.geometry-block-end.result.primaries ≡ c.args.volume.now.tables.geometry.primaries = ap (λ (g : Geometry). g.primaries) size.value in
    let end : c.loop-block.block ≤ c.geometry-block-end.result.primaries = c.loop-block.auto.block-end in
    let low : slice_index_or c.loop-block.roots k d < c.loop-block.block =
    subst (λ xs. slice_index_or xs k d < c.loop-block.block) (sym c.loop-block.invariant) (below_end c.loop-block.block k d (subst (λ (xs : List ℕ). k < length xs) c.loop-block.invariant inside)) in
    omega (arith, fewer, primaries, blocks, value, end, low)
