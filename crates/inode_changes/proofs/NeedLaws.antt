-- How many blocks and pointers a file needs that shares some of another's blocks.
use Rattle.std.proofs.Common.{◌≡◌, ℕ, ◌+◌, ◌-◌, ◌*◌, ◌/◌, ◌%◌, ◌<◌, ◌≤◌, List, [], ◌∷◌, length, min, refl, ◌∙◌, ap, arith, inl, inr}
use Rattle.inode_changes.proofs.Common.{div-add-mod, mul-add-div, mul-add-mod_self_left, mul-le-mul_right, cases_lt, div_ceil_times, div_ceil, block_len, Geometry, Path, Tree, at, bytes_in, need, inode_need}
use Rattle.fs_trees.specs.declared.ask.ShellAsk.TheVariants as ask

-- bytes behind full blocks take blocks of their own
pub full_and_more : (len q r : ℕ) → 0 < len → div_ceil (len * q + r) len ≡ q + div_ceil r len
full_and_more len q r some =
    ap (λ k. k + min 1 ((len * q + r) % len)) (mul-add-div some q r)
    ∙ (ap (λ k. (q + r / len) + min 1 k) (mul-add-mod_self_left len q r) ∙ omega arith)

-- a file's blocks are those that are full, and those of the bytes behind them
pub full_blocks : (len size more : ℕ) → 0 < len → div_ceil (size + more) len ≡ size / len + div_ceil (size % len + more) len
full_blocks len size more some =
    let parts = div-add-mod size len in
    let all : size + more ≡ len * (size / len) + (size % len + more) = omega (arith, parts) in
    ap (λ n. div_ceil n len) all ∙ full_and_more len (size / len) (size % len + more) some

-- a new inode, and the new blocks; the pointers to the shared ones, too
pub append_need : (g : Geometry) (t : Tree) (p : Path) (x : List ℕ) (size : ℕ) → 0 < block_len g → 1 ≤ length x → length (bytes_in (at t p)) ≡ size
    → inode_need g t (ask.Append p x) ≡ need (1 + div_ceil (size % block_len g + length x) (block_len g)) (1 + (size / block_len g + div_ceil (size % block_len g + length x) (block_len g)))
append_need g t p [] size some h e = absurd (omega arith)
append_need g t p (c ∷ x) size some h e =
    let len = block_len g in
    let new = div_ceil (size % len + length (c ∷ x)) len in
    let parts = full_blocks len size (length (c ∷ x)) some in
    let all : 1 + (size / len + new) ≡ 1 + (size / len + new) = refl in
    let fewer : (1 + (size / len + new)) - size / len ≡ 1 + new = omega arith in
    ap (λ n. need ((1 + div_ceil (n + length (c ∷ x)) len) - n / len) (1 + div_ceil (n + length (c ∷ x)) len)) e
    ∙ (ap (λ n. need ((1 + n) - size / len) (1 + n)) parts ∙ ap (λ n. need n (1 + (size / len + new))) fewer)

pub copy_need : (g : Geometry) (t : Tree) (p new : Path) (size : ℕ) → length (bytes_in (at t p)) ≡ size → inode_need g t (ask.Copy p new) ≡ need 1 (1 + div_ceil size (block_len g))
copy_need g t p new size e = ap (λ n. need 1 (1 + div_ceil n (block_len g))) e

-- the full blocks are among all
pub full_among : (len size : ℕ) → 0 < len → size / len ≤ div_ceil size len
full_among len size some = omega arith

-- the last block isn't full
pub last_partial : (len size : ℕ) → 0 < len → 1 ≤ size % len → div_ceil size len ≡ size / len + 1
last_partial len size some h = let one : min 1 (size % len) ≡ 1 = omega arith in ap (λ k. size / len + k) one

-- more bytes take no fewer blocks
pub ceil_more : (len m n : ℕ) → 0 < len → m ≤ n → div_ceil m len ≤ div_ceil n len
ceil_more len m n some h = elim (cases_lt (div_ceil n len) (div_ceil m len)) [
  | inl less ↦ absurd (never (div_ceil n len) (div_ceil m len * len) (mul-le-mul_right {m = div_ceil n len + 1} {n = div_ceil m len} len (omega (arith, less))) (div_ceil_times m len some).1 (div_ceil_times n len some).0)
  | inr most ↦ most
]
  where
    never : (d p : ℕ) → (d + 1) * len ≤ p → p < m + len → n ≤ d * len → ⊥
    never d p a b e = omega (arith, a, b, e, h)
