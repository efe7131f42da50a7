-- A byte is the number that its bits make.
use Rattle.std.proofs.Common.{inl, inr, ◌≡◌, ℕ, zero, suc, ◌+◌, ◌-◌, ◌≤◌, ◌*◌, ◌/◌, ◌%◌, ◌^◌, ◌<◌, Bool, true, false, cond, ◌==◌, List, [], ◌∷◌, ◌++◌, length, take, drop, replicate, min, refl, sym, ◌∙◌, ap, arith}
use Rattle.block_alloc.proofs.Common.{slice_index, slice_index_or, bit_at, cases_lt, nat_tests, get_or-take, get_or-drop, get_or_append_left, get_or-append_right, get_or-replicate, get_or_past, length-take, length-take-le, length-drop, ext_get_or, length-map-range_with_len, get_or-map-range_with_len, bit_at_lowest, bit_at-suc, bit_at-zero, bit_at-lt, same_from_bits_below, bit_in, bits_of, number_of, bitmap_byte, bitmap_sector_bytes}
use Rattle.std.proofs.lemmas.Nat.{pow_pos}
use Rattle.block_alloc.proofs.BitLaws.{each-bits_of}

lowest : (bit : Bool) (n : ℕ) → ((cond bit 1 0 + 2 * n) % 2 == 1) ≡ bit
lowest true n = let e : (1 + 2 * n) % 2 ≡ 1 = omega arith in ap (λ m. m == 1) e
lowest false n = let e : (0 + 2 * n) % 2 ≡ 0 = omega arith in ap (λ m. m == 1) e

half : (bit : Bool) (n : ℕ) → (cond bit 1 0 + 2 * n) / 2 ≡ n
half true n = omega arith
half false n = omega arith

-- the bits of the number are those that it was made of
pub bit-number_of : (bits : List Bool) (k : ℕ) → (bit_at (number_of bits) k == 1) ≡ slice_index_or bits k false
bit-number_of [] k = ap (λ m. m == 1) (bit_at-zero k)
bit-number_of (bit ∷ bits) zero = ap (λ m. m == 1) (bit_at_lowest (number_of (bit ∷ bits))) ∙ lowest bit (number_of bits)
bit-number_of (bit ∷ bits) (suc k) =
    ap (λ m. m == 1) (bit_at-suc (number_of (bit ∷ bits)) k ∙ ap (λ m. bit_at m k) (half bit (number_of bits))) ∙ bit-number_of bits k

-- so many bits make a number below that power
number_of-lt : (bits : List Bool) (n : ℕ) → length bits ≤ n → number_of bits < 2 ^ n
number_of-lt [] n h = pow_pos n
number_of-lt (bit ∷ bits) zero h = absurd (omega arith)
number_of-lt (bit ∷ bits) (suc n) h = let rest = number_of-lt bits n (omega arith) in step bit (number_of bits) rest
  where
    step : (bit : Bool) (m : ℕ) → m < 2 ^ n → cond bit 1 0 + 2 * m < 2 ^ suc n
    step true m g = grind arith
    step false m g = grind arith

-- numbers of a bit that pass one test are equal
same_bit : (a b : ℕ) → a < 2 → b < 2 → (a == 1) ≡ (b == 1) → a ≡ b
same_bit a b g h e = grind (arith, nat_tests)

-- a byte of the bitmap, bit by bit
pub bit-bitmap_byte : (live : List Bool) (i k : ℕ) → k < 8 → (bit_at (bitmap_byte live i) k == 1) ≡ slice_index_or live (8 * i + k) false
bit-bitmap_byte live i k h =
    bit-number_of (take 8 (drop (8 * i) live)) k ∙ (get_or-take 8 (drop (8 * i) live) k false h ∙ get_or-drop (8 * i) live k false)

byte-lt : (live : List Bool) (i : ℕ) → bitmap_byte live i < 2 ^ 8
byte-lt live i = number_of-lt (take 8 (drop (8 * i) live)) 8 (let e = length-take 8 (drop (8 * i) live) in omega (arith, e))

-- a byte with these bits is that of the bitmap
byte_by_bits : (live : List Bool) (byte i : ℕ) → byte < 256 → ((k : ℕ) → k < 8 → (bit_at byte k == 1) ≡ slice_index_or live (8 * i + k) false) → byte ≡ bitmap_byte live i
byte_by_bits live byte i fits bits =
    same_from_bits_below 8 byte (bitmap_byte live i) fits (byte-lt live i)
    (λ k h. same_bit (bit_at byte k) (bit_at (bitmap_byte live i) k) (bit_at-lt byte k) (bit_at-lt (bitmap_byte live i) k) (bits k h ∙ sym (bit-bitmap_byte live i k h)))

-- a bit by its byte and its place in it
bit_in_byte : (bytes : List ℕ) (i k : ℕ) → k < 8 → (bit_at (slice_index bytes i) k == 1) ≡ bit_in bytes (8 * i + k)
bit_in_byte bytes i k h =
    let at : i ≡ (8 * i + k) / 8 = omega arith in
    let bit : k ≡ (8 * i + k) % 8 = omega arith in
    ap (λ j. bit_at (slice_index bytes j) k == 1) at ∙ ap (λ j. bit_at (slice_index bytes ((8 * i + k) / 8)) j == 1) bit

-- a sector with these bits is that of the bitmap
pub sector_by_bits : (live : List Bool) (sector : List ℕ) (part : ℕ) → length sector ≡ 512 → ((i : ℕ) → slice_index sector i < 256)
    → ((b : ℕ) → b < 4096 → bit_in sector b ≡ slice_index_or live (4096 * part + b) false) → sector ≡ bitmap_sector_bytes live part
sector_by_bits live sector part size fits bits =
    ext_get_or 0 sector (bitmap_sector_bytes live part) (size ∙ sym (length-map-range_with_len (bitmap_byte live) (512 * part) 512))
    (λ i h. let g : i < 512 = omega arith in
    byte_by_bits live (slice_index sector i) (512 * part + i) (fits i)
    (λ k f. let at : 4096 * part + (8 * i + k) ≡ 8 * (512 * part + i) + k = omega arith in
    bit_in_byte sector i k f ∙ (bits (8 * i + k) (omega arith) ∙ ap (λ b. slice_index_or live b false) at))
    ∙ sym (get_or-map-range_with_len (bitmap_byte live) (512 * part) 512 i (512 * part + i) 0 g refl))

-- so a byte that is kept is that of the bits that are kept
pub byte_is : (bytes : List ℕ) (len i : ℕ) → slice_index bytes i < 256 → ((b : ℕ) → len ≤ b → bit_in bytes b ≡ false) → slice_index bytes i ≡ bitmap_byte (bits_of bytes len) i
byte_is bytes len i fits ends =
    byte_by_bits (bits_of bytes len) (slice_index bytes i) i fits (λ k h. bit_in_byte bytes i k h ∙ sym (each-bits_of bytes len (8 * i + k) ends))

-- and a sector of bytes that are kept is the bitmap's
pub sector_is : (bytes sector : List ℕ) (len first : ℕ) → length sector ≡ 512 → ((i : ℕ) → i < 512 → slice_index sector i ≡ slice_index bytes (512 * first + i))
    → ((i : ℕ) → slice_index bytes i < 256) → ((b : ℕ) → len ≤ b → bit_in bytes b ≡ false) → sector ≡ bitmap_sector_bytes (bits_of bytes len) first
sector_is bytes sector len first size read fits ends =
    ext_get_or 0 sector (bitmap_sector_bytes live first) (size ∙ sym (length-map-range_with_len (bitmap_byte live) (512 * first) 512))
    (λ i h. let g : i < 512 = omega arith in
    read i g ∙ (byte_is bytes len (512 * first + i) (fits (512 * first + i)) ends ∙ sym (get_or-map-range_with_len (bitmap_byte live) (512 * first) 512 i (512 * first + i) 0 g refl)))
  where
    live : List Bool
    live = bits_of bytes len

-- what was copied to the front of a sector of zeros
pub copied : (bytes part : List ℕ) (first len i : ℕ) → first ≤ length bytes → len ≡ min (length bytes - first) 512 → part ≡ take len (drop first bytes) → i < 512
    → slice_index (part ++ drop len (replicate 512 0)) i ≡ slice_index bytes (first + i)
copied bytes part first len i low most is h =
    let size : length part ≡ len = ap length is ∙ length-take-le len (drop first bytes) (let e = length-drop first bytes in omega (arith, e)) in
    elim (cases_lt i len) [
      | inl g ↦
          get_or_append_left part (drop len (replicate 512 0)) 0 i (omega arith)
          ∙ (ap (λ p. slice_index p i) is ∙ (get_or-take len (drop first bytes) i 0 g ∙ get_or-drop first bytes i 0))
      | inr g ↦
          let past : length bytes ≤ first + i = omega arith in
          let within : len + (i - len) < 512 = omega arith in
          get_or-append_right part (drop len (replicate 512 0)) len i 0 size g
          ∙ (get_or-drop len (replicate 512 0) (i - len) 0 ∙ (get_or-replicate 512 (len + (i - len)) 0 0 within ∙ sym (get_or_past bytes (first + i) 0 past)))
    ]
