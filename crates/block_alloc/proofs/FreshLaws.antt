-- The bitmap of a fresh disk, and sectors that are written as those of a map.
use Rattle.std.proofs.Common.{◌≡◌, ◌≢◌, ℕ, ◌+◌, ◌-◌, ◌*◌, ◌/◌, ◌%◌, ◌<◌, nat_lt, inl, inr, Bool, true, false, not, ◌==◌, List, length, length-append, replicate, sym, ◌∙◌, ap, arith}
use Rattle.block_alloc.proofs.Common.{slice_index, bit_at, div_ceil, cases_lt, cases_eq, eq-eqb, ne_eqb, lt-ltb, le-ltb, div_ceil_times, length-replicate, get_or_append_left, get_or-append_right, get_or-replicate, get_or_past, sum_by-append, bit_at-zero, Image, bitmap_start, slots_start, IsLawful, Geometry, bit_in, bitmap_sector_bytes, IsTable, is_live, free_count, AreWritten, IsStored, sector_of}
use Rattle.std.specs.Prelude.{cond}
use Rattle.std.proofs.lemmas.List.Folds.{sum_by-replicate}
use Rattle.block_alloc.specs.Fresh.{fresh_live}
use Rattle.block_alloc.proofs.ByteLaws.{sector_by_bits}
use Rattle.block_alloc.proofs.StoredLaws.{marked_by, bit_here}

-- ---- the map of a fresh disk
dead : (n b : ℕ) → is_live (replicate n false) b ≡ false
dead n b = elim (cases_lt b n) [
  | inl h ↦ get_or-replicate n b false false h
  | inr h ↦ get_or_past (replicate n false) b false (let len = length-replicate n false in omega (arith, len))
]

pub fresh_at : (g : Geometry) (b : ℕ) → is_live (fresh_live g) b ≡ nat_lt b g.primaries
fresh_at g b =
    let ones = length-replicate g.primaries true in
    elim (cases_lt b g.primaries) [
      | inl low ↦
          get_or_append_left (replicate g.primaries true) (replicate (g.blocks - g.primaries) false) false b (omega (arith, ones))
          ∙ (get_or-replicate g.primaries b true false low ∙ sym (lt-ltb b g.primaries low))
      | inr high ↦
          get_or-append_right (replicate g.primaries true) (replicate (g.blocks - g.primaries) false) g.primaries b false ones high
          ∙ (dead (g.blocks - g.primaries) (b - g.primaries) ∙ sym (le-ltb b g.primaries high))
    ]

pub fresh_table : (g : Geometry) → IsLawful g → IsTable (record { geometry = g; live = fresh_live g; unhidden = fresh_live g })
fresh_table g lawful = record {
  lawful = lawful;
  each_block = each;
  each_unhidden = each;
  are_live = λ b live. live;
}
  where
    each : length (fresh_live g) ≡ g.blocks
    each = length-append (replicate g.primaries true) (replicate (g.blocks - g.primaries) false)
        ∙ (let ones = length-replicate g.primaries true in let rest = length-replicate (g.blocks - g.primaries) false in let fewer = lawful.primaries.2 in omega (arith, ones, rest, fewer))

pub fresh_free : (g : Geometry) → free_count (fresh_live g) ≡ g.blocks - g.primaries
fresh_free g =
    let both = sum_by-append weight (replicate g.primaries true) (replicate (g.blocks - g.primaries) false) in
    let none = sum_by-replicate weight g.primaries true in
    let all = sum_by-replicate weight (g.blocks - g.primaries) false in
    omega (arith, both, none, all)
  where
    weight : Bool → ℕ
    weight x = cond (not x) 1 0

-- ---- its sectors
-- zeros have no bit
zero_byte : (i : ℕ) → slice_index (replicate 512 0) i ≡ 0
zero_byte i = elim (cases_lt i 512) [
  | inl h ↦ get_or-replicate 512 i 0 0 h
  | inr h ↦ get_or_past (replicate 512 0) i 0 h
]

pub zeros_fit : (i : ℕ) → slice_index (replicate 512 0) i < 256
zeros_fit i = let byte = zero_byte i in omega (arith, byte)

pub no_bits : (b : ℕ) → bit_in (replicate 512 0) b ≡ nat_lt b 0
no_bits b = ap (λ n. bit_at n (b % 8) == 1) (zero_byte (b / 8)) ∙ (ap (λ n. n == 1) (bit_at-zero (b % 8)) ∙ sym (le-ltb b 0 (omega arith)))

-- one bit more
pub one_bit_more : (old new : List ℕ) (bit : ℕ) → ((b : ℕ) → bit_in old b ≡ nat_lt b bit) → bit_in new bit ≡ true → ((b : ℕ) → b ≢ bit → bit_in new b ≡ bit_in old b) → (b : ℕ) → bit_in new b ≡ nat_lt b (bit + 1)
one_bit_more old new bit so_far same others b = elim (cases_eq b bit) [
  | inl here ↦ ap (bit_in new) here ∙ (same ∙ sym (lt-ltb b (bit + 1) (omega arith)))
  | inr apart ↦ others b apart ∙ (so_far b ∙ elim (cases_lt b bit) [
    | inl low ↦ lt-ltb b bit low ∙ sym (lt-ltb b (bit + 1) (omega arith))
    | inr high ↦ le-ltb b bit high ∙ sym (le-ltb b (bit + 1) (omega (arith, apart)))
  ])
]

pub fresh_bytes : (g : Geometry) (part count : ℕ) (sector : List ℕ) → IsLawful g → count ≡ cond (part == 0) g.primaries 0 → length sector ≡ 512
    → ((i : ℕ) → slice_index sector i < 256) → ((b : ℕ) → bit_in sector b ≡ nat_lt b count) → sector ≡ bitmap_sector_bytes (fresh_live g) part
fresh_bytes g part count sector lawful first size fits bits =
    sector_by_bits (fresh_live g) sector part size fits (λ b h. bits b ∙ (here b h ∙ sym (fresh_at g (4096 * part + b))))
  where
    here : (b : ℕ) → b < 4096 → nat_lt b count ≡ nat_lt (4096 * part + b) g.primaries
    here b h = elim (cases_eq part 0) [
      | inl zero_now ↦
          let all : count ≡ g.primaries = first ∙ ap (λ t. cond t g.primaries 0) (eq-eqb part 0 zero_now) in
          (λ i. nat_lt b (all i)) ∙ ap (λ n. nat_lt n g.primaries) (let e : b ≡ 4096 * part + b = omega arith in e)
      | inr later ↦
          let none : count ≡ 0 = first ∙ ap (λ t. cond t g.primaries 0) (ne_eqb part 0 later) in
          let most = lawful.primaries.1 in
          (λ i. nat_lt b (none i)) ∙ (le-ltb b 0 (omega arith) ∙ sym (le-ltb (4096 * part + b) g.primaries (omega (arith, most))))
    ]

-- ---- sectors that are written as those of a map
pub written_stored : (live : List Bool) (g : Geometry) (x : Image) → AreWritten live g x → IsStored live g x
written_stored live g x written = λ b h.
    let bounds = div_ceil_times g.blocks 4096 (omega arith) in
    let area : slots_start g ≡ bitmap_start g + div_ceil g.blocks 4096 = omega arith in
    let place : sector_of g b ≡ bitmap_start g + b / 4096 = omega arith in
    marked_by x g b (bitmap_sector_bytes live (b / 4096)) (ap x place ∙ written (b / 4096) (omega arith)) ∙ bit_here live (b / 4096) b (omega arith)
