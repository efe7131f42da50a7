-- The last block of a file, where that isn't full.
use Rattle.std.proofs.Common.{◌≡◌, ℕ, ◌+◌, ◌-◌, ◌*◌, ◌/◌, ◌%◌, ◌<◌, ◌≤◌, false, List, [], length, sym, ◌∙◌, ap, subst, arith, Some}
use Rattle.inode_changes.proofs.Common.{div-add-mod, mod-lt, mul-div_cancel_left, mul-mod_right, slice_index, contents, DiskView, IsValidNow, Client, inode_of, block_len_of, blocks_said, is_directory, amount_said, Found, StandsAsRead, part, bytes_said, file_count, block_part, part_none}
use Rattle.inode_layout.specs.declared.inode.Inode.{Inode}
use Rattle.inode_changes.proofs.NeedLaws.{last_partial}

module _ (i : Inode) (is_file : is_directory (inode_of i) ≡ false) (whole : 16 ≤ block_len_of i) (some : 1 ≤ amount_said (inode_of i) % block_len_of i) where
  pub last_is : length (blocks_said (inode_of i)) ≡ amount_said (inode_of i) / block_len_of i + 1
  last_is = file_count i is_file ∙ last_partial (block_len_of i) (amount_said (inode_of i)) (omega (arith, whole)) some

-- where all are full no bytes are behind them
pub none_partial : (xs : List ℕ) (len size : ℕ) → size % len ≡ 0 → part xs (len * (size / len)) size ≡ []
none_partial xs len size none =
    let parts = div-add-mod size len in
    let same : len * (size / len) ≡ size = omega (arith, parts, none) in
    ap (λ n. part xs n size) same ∙ part_none xs size

-- the bytes in the last block are those behind the full ones
pub last_part : (c : Client) (v : DiskView) (more : ℕ) (file : Found) → StandsAsRead c v more file → is_directory (inode_of file.inode) ≡ false → IsValidNow v → (len : ℕ) (bytes : List ℕ) → len ≡ block_len_of file.inode → 16 ≤ len
    → amount_said (inode_of file.inode) / len < length (blocks_said (inode_of file.inode))
    → contents v.world (slice_index (blocks_said (inode_of file.inode)) (amount_said (inode_of file.inode) / len)) ≡ Some bytes
    → part bytes 0 (amount_said (inode_of file.inode) % len) ≡ part (bytes_said v.world (inode_of file.inode)) (len * (amount_said (inode_of file.inode) / len)) (amount_said (inode_of file.inode))
last_part c v more file stands is_file now len bytes e whole below there =
    let size = amount_said (inode_of file.inode) in
    let blocks = blocks_said (inode_of file.inode) in
    let all = bytes_said v.world (inode_of file.inode) in
    let some : 0 < len = omega (arith, whole) in
    let lookup = len * (size / len) in
    let at : (len * (size / len)) / len ≡ size / len = mul-div_cancel_left (size / len) some in
    let first : (len * (size / len)) % len ≡ 0 = mul-mod_right len (size / len) in
    let parts = div-add-mod size len in
    let less : size % len < len = mod-lt size some in
    let end : lookup + (size % len - lookup % len) ≡ size = omega (arith, parts, first) in
    ap (λ n. part bytes n (size % len)) (sym first)
    ∙ (block_part c v more file stands is_file now len lookup (size % len) bytes e
    (subst (λ n. n < length blocks) (sym at) below)
    (ap (λ n. contents v.world (slice_index blocks n)) at ∙ there)
    (omega (arith, first)) (omega (arith, less))
    ∙ ap (part all lookup) end)
