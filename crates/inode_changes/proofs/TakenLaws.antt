-- What is taken for a new inode and its blocks, counted.
use Rattle.std.proofs.Common.{◌≡◌, ℕ, ◌+◌, true, false, ◌||◌, List, [], ◌∷◌, ◌++◌, length, length-append, sym, ◌∙◌, ap, subst, arith, zero, suc, refl}
use Rattle.inode_changes.proofs.Common.{or_left, or_right, map, drop, is_some, div_ceil, block_len, World, is_live, has_number, numbers, need, DiskView, KeepsRoom, Client, takes_these, Content, Making, new_pairs, shared_of, shared_count, new_bytes, new_count, all_count, IsFor, RootReaches, Stage, Filled, HasNewInode}

-- the block of a new inode, and the pair to it
pub begun_takes : (c : Client) (old new : DiskView) (d i : ℕ) → HasNewInode c old new d i → KeepsRoom (need 1 1) old.world new.world
begun_takes c old new d i b = record {
  blocks = let less = b.blocks in omega (arith, less);
  pairs = let more = b.pairs in omega (arith, more);
}

length-mapped : (i : ℕ) (bs : List ℕ) → length {A = ℕ × ℕ} (map (λ c. (i, c)) bs) ≡ length bs
length-mapped i [] = refl
length-mapped i (b ∷ bs) = ap suc (length-mapped i bs)

length-numbers : (n : ℕ) (x : List ℕ) → length (numbers n x) ≡ n
length-numbers zero x = refl
length-numbers (suc n) x = ap suc (length-numbers n (drop 4 x))

-- a block for each fresh one and the inode, and a pair to each of its blocks and to it
making_takes : (root : ℕ) (first : World) (d i : ℕ) (shared fresh : List ℕ) (w : World) → Stage root first d → Making root first d i shared fresh w
    → KeepsRoom (need (length (i ∷ fresh)) (length (new_pairs d i (shared ++ fresh)))) first w
making_takes root first d i shared fresh w at m = takes_these first w at.valid m.valid m.geometry (i ∷ fresh) (new_pairs d i (shared ++ fresh)) lives (λ a b h. sym (m.pairs a b) ∙ h)
  where
    lives : (b : ℕ) → is_live w b ≡ true → (is_live first b || has_number (i ∷ fresh) b) ≡ true
    lives b h = elim (has_number (i ∷ fresh) b) as (λ t. has_number (i ∷ fresh) b ≡ t → (is_live first b || t) ≡ true) [
      | true ↦ λ e. or_right (is_live first b) true refl
      | false ↦ λ e. or_left (is_live first b) false (ap is_some (sym (m.bytes b e)) ∙ h)
    ] refl

-- a file's blocks are as many as its size takes
pub file_takes : (c : Client) (old begun new : DiskView) (d i : ℕ) → Stage c.root old.world d → Making c.root old.world d i [] [] begun.world → (content : Content) → IsFor c old content → RootReaches c.root old.world (shared_of content)
    → Filled c begun new i content.size (shared_of content) (new_bytes content) → KeepsRoom (need (1 + new_count content) (1 + all_count content)) old.world new.world
file_takes c old begun new d i at begins content suits reached filled =
    let file = filled.file old.world d at begins reached in
    let takes = making_takes c.root old.world d i (shared_of content) file.fresh new.world at file.making in
    let len : content.block_len ≡ block_len new.world.geometry = suits.len ∙ ap block_len (sym file.making.geometry) in
    let all : length (shared_of content ++ file.fresh) ≡ all_count content = file.many ∙ (ap (div_ceil content.size) (sym len) ∙ sym suits.count) in
    let parts = length-append (shared_of content) file.fresh in
    let shared : length (shared_of content) ≡ shared_count content = length-numbers (shared_count content) content.shared.now in
    let fresh : length (i ∷ file.fresh) ≡ 1 + new_count content = omega (arith, all, parts, shared) in
    let mapped = length-mapped i (shared_of content ++ file.fresh) in
    let pairs : length (new_pairs d i (shared_of content ++ file.fresh)) ≡ 1 + all_count content = omega (arith, all, mapped) in
    subst (λ n. KeepsRoom (need (1 + new_count content) n) old.world new.world) pairs (subst (λ n. KeepsRoom (need n (length (new_pairs d i (shared_of content ++ file.fresh)))) old.world new.world) fresh takes)
