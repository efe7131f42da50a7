-- Words of bits.
use Rattle.std.proofs.Common.{inl, inr, ◌≡◌, ◌≢◌, ℕ, zero, suc, [], ◌∷◌, ◌++◌, ◌*◌, ◌/◌, ◌%◌, ◌<◌, ◌≤◌, Bool, true, false, cond, ◌==◌, List, length, replicate, refl, sym, ◌∙◌, ap, subst, arith}
use Rattle.std.specs.Prelude.{slice_index_or, slice_set}
use Rattle.std.specs.Int.{bit_at}
use Rattle.std.proofs.lemmas.Bool.{cases_eq, cases_lt}
use Rattle.std.proofs.lemmas.List.{get_or_past, set-get_or, get_or-set_same, get_or-set_other, length-set, length-replicate, get_or-replicate}
use Rattle.std.proofs.lemmas.List.FromFn.{length-map-range_with_len, get_or-map-range_with_len, fill_by_all}
use Rattle.std.proofs.lemmas.Nat.Bits.{bit_at-zero}
use Rattle.bit_array.specs.Bits.{bit_in, bits_of}

pub length-bits_of : (words : List ℕ) (len : ℕ) → length (bits_of words len) ≡ len
length-bits_of words len = length-map-range_with_len (bit_in words) 0 len

pub get-bits_of : (words : List ℕ) (len i : ℕ) → i < len → slice_index_or (bits_of words len) i false ≡ bit_in words i
get-bits_of words len i h = get_or-map-range_with_len (bit_in words) 0 len i i false h (omega arith)

pub past-bits_of : (words : List ℕ) (len i : ℕ) → len ≤ i → slice_index_or (bits_of words len) i false ≡ false
past-bits_of words len i h = get_or_past (bits_of words len) i false (let e = length-bits_of words len in omega (arith, e))

-- no bit of a word that is zero
pub unset-bits_of : (words : List ℕ) (len i : ℕ) → slice_index_or words (i / 64) 0 ≡ 0 → slice_index_or (bits_of words len) i false ≡ false
unset-bits_of words len i none = elim (cases_lt i len) [
  | inl h ↦ get-bits_of words len i h ∙ (ap (λ w. bit_at w (i % 64) == 1) none ∙ ap (λ n. n == 1) (bit_at-zero (i % 64)))
  | inr h ↦ past-bits_of words len i h
]

as_number : (bit : Bool) → (cond bit 1 0 == 1) ≡ bit
as_number true = refl
as_number false = refl

-- a bit of the words, one of which was changed at one place
bit-changed : (words : List ℕ) (len i x : ℕ) (bit : Bool) → i / 64 < length words → i < len →
    bit_at x (i % 64) ≡ cond bit 1 0 → ((k : ℕ) → k < 64 → k ≢ i % 64 → bit_at x k ≡ bit_at (slice_index_or words (i / 64) 0) k) →
    (k : ℕ) → k < len → slice_index_or (slice_set (bits_of words len) i bit) k false ≡ bit_in (slice_set words (i / 64) x) k
bit-changed words len i x bit room h same others k g = elim (cases_eq k i) [
  | inl e ↦ subst (λ j. slice_index_or (slice_set (bits_of words len) i bit) j false ≡ bit_in (slice_set words (i / 64) x) j) (sym e)
      (get_or-set_same (bits_of words len) i bit false (let l = length-bits_of words len in omega (arith, l))
      ∙ sym (ap (λ w. bit_at w (i % 64) == 1) (get_or-set_same words (i / 64) x 0 (omega arith)) ∙ (ap (λ n. n == 1) same ∙ as_number bit)))
  | inr ne ↦ get_or-set_other (bits_of words len) i k bit false ne ∙ (get-bits_of words len k g ∙ elim (cases_eq (k / 64) (i / 64)) [
    | inl e ↦
        let apart : k % 64 ≢ i % 64 = λ q. ne (omega arith) in
        let old : bit_at (slice_index_or words (k / 64) 0) (k % 64) ≡ bit_at x (k % 64) = ap (λ p. bit_at (slice_index_or words p 0) (k % 64)) e ∙ sym (others (k % 64) (omega arith) apart) in
        let new : slice_index_or (slice_set words (i / 64) x) (k / 64) 0 ≡ x = ap (λ p. slice_index_or (slice_set words (i / 64) x) p 0) e ∙ get_or-set_same words (i / 64) x 0 (omega arith) in
        ap (λ n. n == 1) (old ∙ sym (ap (λ w. bit_at w (k % 64)) new))
    | inr far ↦ ap (λ w. bit_at w (k % 64) == 1) (sym (get_or-set_other words (i / 64) (k / 64) x 0 far))
  ])
]

pub bits-changed : (words : List ℕ) (len i x : ℕ) (bit : Bool) → i / 64 < length words → i < len →
    bit_at x (i % 64) ≡ cond bit 1 0 → ((k : ℕ) → k < 64 → k ≢ i % 64 → bit_at x k ≡ bit_at (slice_index_or words (i / 64) 0) k) →
    bits_of (slice_set words (i / 64) x) len ≡ slice_set (bits_of words len) i bit
bits-changed words len i x bit room h same others =
    sym (fill_by_all (bit_in (slice_set words (i / 64) x)) (slice_set (bits_of words len) i bit) len false
    (length-set (bits_of words len) i bit ∙ length-bits_of words len)
    (bit-changed words len i x bit room h same others))

-- a word without a bit behind the last one
pub zero-behind : (words : List ℕ) (k : ℕ) → slice_index_or (words ++ 0 ∷ []) k 0 ≡ slice_index_or words k 0
zero-behind [] zero = refl
zero-behind [] (suc k) = refl
zero-behind (w ∷ words) zero = refl
zero-behind (w ∷ words) (suc k) = zero-behind words k

-- words that read alike have the same bits
pub same-bits : (old new : List ℕ) (len : ℕ) → ((k : ℕ) → slice_index_or new k 0 ≡ slice_index_or old k 0) → bits_of new len ≡ bits_of old len
same-bits old new len same =
    sym (fill_by_all (bit_in new) (bits_of old len) len false (length-bits_of old len)
    (λ k h. get-bits_of old len k h ∙ sym (ap (λ w. bit_at w (k % 64) == 1) (same (k / 64)))))

pub set-again : (bits : List Bool) (i : ℕ) (bit : Bool) → slice_index_or bits i false ≡ bit → bits ≡ slice_set bits i bit
set-again bits i bit is = sym (ap (slice_set bits i) (sym is) ∙ set-get_or bits i false)

-- no word has a bit
pub no-bits : (count len : ℕ) → ◌≡◌ {A = List Bool} (bits_of (replicate count 0) len) (replicate len false)
no-bits count len =
    sym (fill_by_all (bit_in (replicate count 0)) (replicate len false) len false (length-replicate len false) (λ k h. get_or-replicate len k false false h ∙ sym (none k)))
  where
    zero_word : (p : ℕ) → ◌≡◌ {A = ℕ} (slice_index_or (replicate {A = ℕ} count 0) p 0) 0
    zero_word p = elim (cases_lt p count) [
      | inl h ↦ get_or-replicate count p 0 0 h
      | inr h ↦ get_or_past (replicate count 0) p 0 (let e : length (replicate {A = ℕ} count 0) ≡ count = length-replicate {A = ℕ} count 0 in omega (arith, e))
    ]

    none : (k : ℕ) → ◌≡◌ {A = Bool} (bit_in (replicate {A = ℕ} count 0) k) false
    none k = ap (λ w. bit_at w (k % 64) == 1) (zero_word (k / 64)) ∙ ap (λ n. n == 1) (bit_at-zero (k % 64))
