-- The bits of bytes as a list.
use Rattle.std.proofs.Common.{inl, inr, w8, bit_and, bit_or, ◌≡◌, ◌≢◌, ℕ, ◌+◌, ◌-◌, ◌^◌, ◌*◌, ◌%◌, ◌<◌, ◌≤◌, Bool, true, false, not, cond, List, length, refl, sym, ◌∙◌, ap, subst, arith}
use Rattle.block_alloc.proofs.Common.{slice_index_or, slice_set, bit_at, bit_not, cases_eq, cases_lt, false≢true, get_or_past, get_or-set_same, get_or-set_other, length-set, length-map-range_with_len, get_or-map-range_with_len, fill_by_all, sum_by-map-range_with_len_more, sum_by-set, count_by-le-length, bit_at_and, bit_at_or, bit_at_not, bit_at-lt, bit_at-pow_same, bit_at-pow_other, bit_at_ones, bit_at_ones_above, one_shifted, IsLawful, Geometry, is_live, free_count, IsTable, bit_in, bits_of, AreBits, IsBitPut, IsMapKept, AreMost}

pub length-bits_of : (bytes : List ℕ) (len : ℕ) → length (bits_of bytes len) ≡ len
length-bits_of bytes len = length-map-range_with_len (bit_in bytes) 0 len

pub get-bits_of : (bytes : List ℕ) (len b : ℕ) → b < len → slice_index_or (bits_of bytes len) b false ≡ bit_in bytes b
get-bits_of bytes len b h = get_or-map-range_with_len (bit_in bytes) 0 len b b false h (omega arith)

pub past-bits_of : (bytes : List ℕ) (len b : ℕ) → len ≤ b → slice_index_or (bits_of bytes len) b false ≡ false
past-bits_of bytes len b h = get_or_past (bits_of bytes len) b false (let e = length-bits_of bytes len in omega (arith, e))

-- no bit past the last one, so each place of the list is a bit of the bytes
pub each-bits_of : (bytes : List ℕ) (len b : ℕ) → ((k : ℕ) → len ≤ k → bit_in bytes k ≡ false) → slice_index_or (bits_of bytes len) b false ≡ bit_in bytes b
each-bits_of bytes len b ends = elim (cases_lt b len) [
  | inl h ↦ get-bits_of bytes len b h
  | inr h ↦ past-bits_of bytes len b h ∙ sym (ends b h)
]

-- ---- one bit was changed
pub bits-changed : (old new : List ℕ) (len b : ℕ) (bit : Bool) → b < len → bit_in new b ≡ bit → ((k : ℕ) → k ≢ b → bit_in new k ≡ bit_in old k)
    → bits_of new len ≡ slice_set (bits_of old len) b bit
bits-changed old new len b bit h same others =
    sym (fill_by_all (bit_in new) (slice_set (bits_of old len) b bit) len false (length-set (bits_of old len) b bit ∙ length-bits_of old len) each)
  where
    each : (k : ℕ) → k < len → slice_index_or (slice_set (bits_of old len) b bit) k false ≡ bit_in new k
    each k g = elim (cases_eq k b) [
      | inl e ↦ subst (λ j. slice_index_or (slice_set (bits_of old len) b bit) j false ≡ bit_in new j) (sym e)
          (get_or-set_same (bits_of old len) b bit false (let l = length-bits_of old len in omega (arith, l)) ∙ sym same)
      | inr ne ↦ get_or-set_other (bits_of old len) b k bit false ne ∙ (get-bits_of old len k g ∙ sym (others k ne))
    ]

-- the bits are kept as before
pub bits-put : (len : ℕ) (old new : List ℕ) (b : ℕ) (bit : Bool) → AreBits len old → b < len → IsBitPut old new b bit → AreBits len new
bits-put len old new b bit kept h put = record {
  whole = put.whole ∙ kept.whole;
  ends = λ k g. put.others k (λ e. omega arith) ∙ kept.ends k g;
}

-- and with them a map
pub kept-put : (blocks : ℕ) (bytes unhidden bytes' unhidden' : List ℕ) (b free free' : ℕ) (most most' : List ℕ) (bit rest : Bool) → IsMapKept blocks bytes unhidden free most → b < blocks
    → (rest ≡ true → bit ≡ true) → IsBitPut bytes bytes' b bit → IsBitPut unhidden unhidden' b rest → free' ≡ free_count (bits_of unhidden' blocks)
    → AreMost (bits_of unhidden' blocks) most' → IsMapKept blocks bytes' unhidden' free' most'
kept-put blocks bytes unhidden bytes' unhidden' b free free' most most' bit rest kept h within raw seen counted rows = record {
  bitmap = bits-put blocks bytes bytes' b bit kept.bitmap h raw;
  rest = bits-put blocks unhidden unhidden' b rest kept.rest h seen;
  are_live = λ k live. elim (cases_eq k b) [
    | inl e ↦ ap (bit_in bytes') e ∙ (raw.same ∙ within (sym seen.same ∙ (ap (bit_in unhidden') (sym e) ∙ live)))
    | inr ne ↦ raw.others k ne ∙ kept.are_live k (sym (seen.others k ne) ∙ live)
  ];
  counted = counted;
  rows = rows;
}

-- and where a block alone is hidden
pub kept-seen : (blocks : ℕ) (bytes unhidden unhidden' : List ℕ) (b free free' : ℕ) (most most' : List ℕ) → IsMapKept blocks bytes unhidden free most → b < blocks
    → IsBitPut unhidden unhidden' b false → free' ≡ free_count (bits_of unhidden' blocks) → AreMost (bits_of unhidden' blocks) most'
    → IsMapKept blocks bytes unhidden' free' most'
kept-seen blocks bytes unhidden unhidden' b free free' most most' kept h seen counted rows = record {
  bitmap = kept.bitmap;
  rest = bits-put blocks unhidden unhidden' b false kept.rest h seen;
  are_live = λ k live. elim (cases_eq k b) [
    | inl e ↦ absurd (false≢true (sym seen.same ∙ (ap (bit_in unhidden') (sym e) ∙ live)))
    | inr ne ↦ kept.are_live k (sym (seen.others k ne) ∙ live)
  ];
  counted = counted;
  rows = rows;
}

-- ---- how many are free
weight : Bool → ℕ
weight x = cond (not x) 1 0

-- one block changes
pub free_count-set : (live : List Bool) (b : ℕ) (was bit : Bool) → b < length live → is_live live b ≡ was
    → free_count (slice_set live b bit) + cond (not was) 1 0 ≡ free_count live + cond (not bit) 1 0
unfolding weight
free_count-set live b was bit h is =
    let e = sum_by-set weight live b bit false h in
    let w : weight (is_live live b) ≡ weight was = ap weight is in
    omega (arith, e, w)

pub free_count-le : (live : List Bool) → free_count live ≤ length live
free_count-le live = count_by-le-length not live

-- one bit more
pub free_count_more : (bytes : List ℕ) (len : ℕ) → free_count (bits_of bytes (len + 1)) ≡ free_count (bits_of bytes len) + cond (not (bit_in bytes len)) 1 0
free_count_more bytes len = sum_by-map-range_with_len_more (λ x. cond (not x) 1 0) (bit_in bytes) 0 len len (omega arith)

-- ---- a byte and a mask of one bit
pub set-same : (x m k : ℕ) → m ≡ 2 ^ k → bit_at (bit_or x m) k ≡ 1
set-same x m k e =
    let one : bit_at m k ≡ 1 = ap (λ n. bit_at n k) e ∙ bit_at-pow_same k in
    let few = bit_at-lt x k in
    bit_at_or x m k ∙ omega (arith, one, few)

pub set-other : (x m k i : ℕ) → m ≡ 2 ^ k → i ≢ k → bit_at (bit_or x m) i ≡ bit_at x i
set-other x m k i e ne =
    let none : bit_at m i ≡ 0 = ap (λ n. bit_at n i) e ∙ bit_at-pow_other k i ne in
    bit_at_or x m i ∙ omega (arith, none)

pub clear-same : (x m k : ℕ) → m ≡ 2 ^ k → m < 2 ^ 8 → k < 8 → bit_at (bit_and x (bit_not w8 m)) k ≡ 0
clear-same x m k e fits within =
    let one : bit_at m k ≡ 1 = ap (λ n. bit_at n k) e ∙ bit_at-pow_same k in
    let turned = bit_at_not w8 m k fits within in
    bit_at_and x (bit_not w8 m) k ∙ omega (arith, one, turned)

pub clear-other : (x m k i : ℕ) → m ≡ 2 ^ k → m < 2 ^ 8 → i < 8 → i ≢ k → bit_at (bit_and x (bit_not w8 m)) i ≡ bit_at x i
clear-other x m k i e fits within ne =
    let none : bit_at m i ≡ 0 = ap (λ n. bit_at n i) e ∙ bit_at-pow_other k i ne in
    let turned = bit_at_not w8 m i fits within in
    let few = bit_at-lt x i in
    bit_at_and x (bit_not w8 m) i ∙ omega (arith, none, turned, few)

-- ---- a mask of the lowest bits
pub shifted : (k : ℕ) → k < 8 → 1 * 2 ^ k % 256 ≡ 2 ^ k
shifted k h = (one_shifted k 255 refl h).0

pub low-same : (x m k i : ℕ) → m ≡ 2 ^ k - 1 → i < k → bit_at (bit_and x m) i ≡ bit_at x i
low-same x m k i e h =
    let one : bit_at m i ≡ 1 = ap (λ n. bit_at n i) e ∙ bit_at_ones k i h in
    let few = bit_at-lt x i in
    bit_at_and x m i ∙ omega (arith, one, few)

pub low-none : (x m k i : ℕ) → m ≡ 2 ^ k - 1 → k ≤ i → bit_at (bit_and x m) i ≡ 0
low-none x m k i e h =
    let none : bit_at m i ≡ 0 = ap (λ n. bit_at n i) e ∙ bit_at_ones_above k i h in
    bit_at_and x m i ∙ omega (arith, none)

-- ---- one bit was given a value
pub count-put : (len : ℕ) (old new : List ℕ) (b : ℕ) (was bit now : Bool) → b < len → bit_in old b ≡ was → IsBitPut old new b bit → bit ≡ now
    → free_count (bits_of new len) + cond (not was) 1 0 ≡ free_count (bits_of old len) + cond (not now) 1 0
count-put len old new b was bit now h is put becomes =
    let size = length-bits_of old len in
    ap (λ bits. free_count bits + cond (not was) 1 0) (bits-changed old new len b now h (put.same ∙ becomes) put.others)
    ∙ free_count-set (bits_of old len) b was now (omega (arith, size)) (get-bits_of old len b h ∙ is)

-- and so many of so many bits are 0 at most
pub count-most : (len : ℕ) (bytes : List ℕ) → free_count (bits_of bytes len) ≤ len
count-most len bytes = let most = free_count-le (bits_of bytes len) in let size = length-bits_of bytes len in omega (arith, most, size)

-- ---- a map that is so kept is a table
pub kept-table : (g : Geometry) (bytes unhidden : List ℕ) (free : ℕ) (most : List ℕ) → IsLawful g → IsMapKept g.blocks bytes unhidden free most
    → IsTable (record { geometry = g; live = bits_of bytes g.blocks; unhidden = bits_of unhidden g.blocks })
kept-table g bytes unhidden free most lawful kept = record {
  lawful = lawful;
  each_block = length-bits_of bytes g.blocks;
  each_unhidden = length-bits_of unhidden g.blocks;
  are_live = λ b live.
      each-bits_of bytes g.blocks b kept.bitmap.ends ∙ kept.are_live b (sym (each-bits_of unhidden g.blocks b kept.rest.ends) ∙ live);
}

-- a live block is one of the list's
pub live-inside : (live : List Bool) (b : ℕ) → is_live live b ≡ true → b < length live
live-inside live b is = elim (cases_lt b (length live)) [
  | inl h ↦ h
  | inr h ↦ let past = get_or_past live b false h in absurd (false≢true (sym past ∙ is))
]
