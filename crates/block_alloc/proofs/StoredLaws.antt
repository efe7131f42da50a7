-- A patched image says what the map says.
use Rattle.std.proofs.Common.{inl, inr, ◌⊎◌, ◌≡◌, ◌≢◌, ℕ, ◌+◌, ◌*◌, ◌/◌, ◌%◌, ◌<◌, ◌≤◌, Bool, false, cond, ◌==◌, List, length, sym, ◌∙◌, ap, arith}
use Rattle.block_alloc.proofs.Common.{map, slice_index, slice_index_or, slice_set, range_with_len, bit_at, div_ceil, cases_eq, eq-eqb, ne_eqb, get_or-set_other, get_or-map-range_with_len, fill_by_all, Image, put_at, bitmap_start, slots_start, Geometry, is_live, bit_in, bits_of, bitmap_byte, bitmap_sector_bytes, IsStoredAt, IsStored, sector_of}
use Rattle.image_layout.specs.Image.{is_bit_set}
use Rattle.block_alloc.proofs.BitLaws.{get-bits_of}
use Rattle.block_alloc.proofs.ByteLaws.{bit-bitmap_byte}

-- the block's bit in an image whose sector of that bit has these bytes
pub marked_by : (x : Image) (g : Geometry) (b : ℕ) (bytes : List ℕ) → x (sector_of g b) ≡ bytes → is_bit_set x g b ≡ (bit_at (slice_index bytes (b / 8 % 512)) (b % 8) == 1)
marked_by x g b bytes e = ap (λ s. bit_at (slice_index s (b / 8 % 512)) (b % 8) == 1) e

put_here : (sector n : ℕ) (bytes : List ℕ) (x : Image) → n ≡ sector → put_at sector bytes x n ≡ bytes
put_here sector n bytes x e = ap (λ t. cond t bytes (x n)) (eq-eqb n sector e)

put_elsewhere : (sector n : ℕ) (bytes : List ℕ) (x : Image) → n ≢ sector → put_at sector bytes x n ≡ x n
put_elsewhere sector n bytes x ne = ap (λ t. cond t bytes (x n)) (ne_eqb n sector ne)

-- a bit in its sector of the bitmap
pub bit_here : (live : List Bool) (first b : ℕ) → b / 8 / 512 ≡ first → (bit_at (slice_index (bitmap_sector_bytes live first) (b / 8 % 512)) (b % 8) == 1) ≡ is_live live b
bit_here live first b e =
    let within : b / 8 % 512 < 512 = omega arith in
    let low : b % 8 < 8 = omega arith in
    let at : 512 * first + b / 8 % 512 ≡ b / 8 = omega arith in
    let whole : 8 * (b / 8) + b % 8 ≡ b = omega arith in
    ap (λ n. bit_at n (b % 8) == 1) (get_or-map-range_with_len (bitmap_byte live) (512 * first) 512 (b / 8 % 512) (b / 8) 0 within at)
    ∙ (bit-bitmap_byte live (b / 8) (b % 8) low ∙ ap (λ k. slice_index_or live k false) whole)

-- a sector of the bitmap has the bits of its blocks, whatever else the image has
pub stored_here : (live : List Bool) (g : Geometry) (x : Image) (sector first b : ℕ) → sector ≡ bitmap_start g + first → sector_of g b ≡ sector
    → IsStoredAt live g (put_at sector (bitmap_sector_bytes live first) x) b
stored_here live g x sector first b place here =
    let part : b / 8 / 512 ≡ first = omega arith in
    marked_by (put_at sector (bitmap_sector_bytes live first) x) g b (bitmap_sector_bytes live first) (put_here sector (sector_of g b) (bitmap_sector_bytes live first) x here)
    ∙ bit_here live first b part

-- and with those of all other blocks it has all
pub stored_all : (live : List Bool) (g : Geometry) (x : Image) (sector first : ℕ) → sector ≡ bitmap_start g + first
    → ((b : ℕ) → b < g.blocks → sector_of g b ≢ sector → IsStoredAt live g x b) → IsStored live g (put_at sector (bitmap_sector_bytes live first) x)
stored_all live g x sector first place others = λ b h. elim (cases_eq (sector_of g b) sector) [
  | inl e ↦ stored_here live g x sector first b place e
  | inr ne ↦ marked_by (put_at sector (bitmap_sector_bytes live first) x) g b (x (sector_of g b)) (put_elsewhere sector (sector_of g b) (bitmap_sector_bytes live first) x ne) ∙ others b h ne
]

-- what was read is stored
pub read_is_stored : (bytes read : List ℕ) (g : Geometry) (x : Image) (count : ℕ) → count ≡ div_ceil g.blocks 4096
    → ((i : ℕ) → i < 512 * count → slice_index read i ≡ slice_index (x (bitmap_start g + i / 512)) (i % 512))
    → ((b : ℕ) → b < g.blocks → bit_in bytes b ≡ bit_in read b) → IsStored (bits_of bytes g.blocks) g x
read_is_stored bytes read g x count all same cut = λ b h.
    let within : b / 8 < 512 * count = omega arith in
    ap (λ n. bit_at n (b % 8) == 1) (sym (same (b / 8) within)) ∙ (sym (cut b h) ∙ sym (get-bits_of bytes g.blocks b h))

-- ---- changes
-- a block that changes, and its sector patched
pub change_is_stored : (live : List Bool) (g : Geometry) (x : Image) (b : ℕ) (bit : Bool) → IsStored live g x
    → IsStored (slice_set live b bit) g (put_at (sector_of g b) (bitmap_sector_bytes (slice_set live b bit) (b / 4096)) x)
change_is_stored live g x b bit stored =
    let place : sector_of g b ≡ bitmap_start g + b / 4096 = omega arith in
    stored_all (slice_set live b bit) g x (sector_of g b) (b / 4096) place (λ k h ne.
    let apart : k ≢ b = λ e. ne (ap (sector_of g) e) in
    stored k h ∙ sym (get_or-set_other live b k bit false apart))

-- many that change, and the sectors patched that have their bits
pub batch_is_stored : (live now : List Bool) (g : Geometry) (x y : Image) → IsStored live g x
    → ((b : ℕ) → b < g.blocks → (y (sector_of g b) ≡ bitmap_sector_bytes now (b / 4096)) ⊎ ((y (sector_of g b) ≡ x (sector_of g b)) × (is_live now b ≡ is_live live b)))
    → IsStored now g y
batch_is_stored live now g x y stored patched = λ b h. elim (patched b h) [
  | inl e ↦ marked_by y g b (bitmap_sector_bytes now (b / 4096)) e ∙ bit_here now (b / 4096) b (omega arith)
  | inr as_before ↦ marked_by y g b (x (sector_of g b)) as_before.0 ∙ (stored b h ∙ sym as_before.1)
]

-- ---- the sectors of an image's bitmap decide what it says
-- an image has the bits of one map alone
pub one_map : (live : List Bool) (g : Geometry) (x : Image) → length live ≡ g.blocks → IsStored live g x → live ≡ map (is_bit_set x g) (range_with_len 0 g.blocks)
one_map live g x each stored = fill_by_all (is_bit_set x g) live g.blocks false each (λ b h. sym (stored b h))

-- and another one with the same sectors has them too
pub same_sectors : (live : List Bool) (g : Geometry) (x y : Image) → ((n : ℕ) → bitmap_start g ≤ n → n < slots_start g → y n ≡ x n) → IsStored live g x → IsStored live g y
same_sectors live g x y same stored = λ b h.
    let from : bitmap_start g ≤ sector_of g b = omega arith in
    let to : sector_of g b < slots_start g = omega arith in
    marked_by y g b (x (sector_of g b)) (same (sector_of g b) from to) ∙ stored b h
