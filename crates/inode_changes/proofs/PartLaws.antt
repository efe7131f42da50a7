-- How many blocks a new file's bytes take, and each block's part of them.
use Rattle.std.proofs.Common.{◌≡◌, ℕ, zero, suc, ◌+◌, ◌-◌, ◌*◌, ◌^◌, ◌<◌, ◌≤◌, List, [], ◌∷◌, ◌++◌, length, sym, ◌∙◌, ap, subst, arith, length-append}
use Rattle.inode_changes.proofs.Common.{div_ceil_times, mul_comm, mul-le-mul_right, drop, div_ceil, Regular, length-blocks, Content, shared_of, shared_count, new_bytes, new_count, FitsInode}

-- what stands behind a place that isn't before the end of the first bytes
pub drop_behind : (n : ℕ) (xs ys : List ℕ) → length xs ≤ n → drop n (xs ++ ys) ≡ drop (n - length xs) ys
drop_behind n [] ys h = let same : n ≡ n - 0 = omega arith in ap (λ k. drop k ys) same
drop_behind zero (x ∷ xs) ys h = absurd (omega arith)
drop_behind (suc n) (x ∷ xs) ys h =
    let same : n - length xs ≡ suc n - suc (length xs) = omega arith in
    drop_behind n xs ys (omega arith) ∙ ap (λ k. drop k ys) same

pub enough_blocks : (size len n : ℕ) → 0 < len → n ≡ div_ceil size len → size ≤ len * n
enough_blocks size len n some e =
    let bound = (div_ceil_times size len some).0 in
    subst (λ k. size ≤ k) (mul_comm (div_ceil size len) len ∙ ap (λ k. len * k) (sym e)) bound

-- an inode has room for no more than 1,020 blocks
pub some_blocks : (content : Content) → FitsInode content → shared_count content + new_count content ≤ 1020
some_blocks content room = omega (arith, room.room, room.most)

-- it shares as many as it counts
pub shares_many : (content : Content) → length (shared_of content) ≡ shared_count content
shares_many content = length-blocks Regular 0 (shared_count content) content.shared.now

pub few_new : (content : Content) → FitsInode content → length (new_bytes content) < content.block_len + 4096
few_new content room = let both = length-append content.front.now content.bytes.now in omega (arith, both, room.front, room.few)

-- what so few blocks and so few bytes hold
pub small_size : (content : Content) (size : ℕ) → FitsInode content → size ≤ content.block_len * shared_count content + length (new_bytes content) → size < 2 ^ 32
small_size content size room most =
    let whole = mul-le-mul_right {m = content.block_len} {n = 4096} (shared_count content) room.most in
    let few = some_blocks content room in
    let bytes = few_new content room in
    below (content.block_len * shared_count content) (shared_count content) (length (new_bytes content)) whole most (omega (arith, few)) (omega (arith, bytes, room.most))
  where
    below : (p s b : ℕ) → p ≤ 4096 * s → size ≤ p + b → s ≤ 1020 → b < 8192 → size < 2 ^ 32
    below p s b h k few bytes = omega (arith, h, k, few, bytes)
