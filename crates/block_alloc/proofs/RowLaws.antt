-- How many free blocks stand in a row at most.
use Rattle.std.proofs.Common.{inl, inr, ◌≡◌, ◌≢◌, ℕ, zero, suc, ◌+◌, ◌<◌, ◌≤◌, Bool, true, false, not, ◌&&◌, nat_lt, List, length, refl, sym, ◌∙◌, ap, arith}
use Rattle.block_alloc.proofs.Common.{cases_lt, is_live, is_free, is_free_run, bit_in, bits_of, IsBitPut, IsMostAt, IsMostIn, IsApart}
use Rattle.block_alloc.proofs.BitLaws.{length-bits_of, get-bits_of, past-bits_of}
use Rattle.block_alloc.proofs.GroupLaws.{broken_run, live_is_not_free, past_is_not_free}
use Rattle.tsd_model.proofs.ValueLaws.{and_false}

pub most-any : (live : List Bool) (b most : ℕ) → 32 ≤ most → IsMostAt live b most
most-any live b most all = λ count over few. absurd (omega arith)

pub most-none : (live : List Bool) (b : ℕ) → is_free live b ≡ false → IsMostAt live b 0
most-none live b no_ = λ count some few. broken_run live b count b (omega arith) (omega arith) no_

-- one block more in front
pub most-more : (live : List Bool) (b behind : ℕ) → IsMostAt live (b + 1) behind → IsMostAt live b (behind + 1)
most-more live b behind is zero over few = absurd (omega arith)
most-more live b behind is (suc count) over few = ap (λ t. is_free live b && t) (is count (omega arith) (omega arith)) ∙ and_false (is_free live b)

pub most-from : (live : List Bool) (b less more : ℕ) → less ≤ more → IsMostAt live b less → IsMostAt live b more
most-from live b less more h is = λ count over few. is count (omega arith) few

-- a bit of a live block
pub live-bit : (bytes : List ℕ) (len b : ℕ) → bit_in bytes b ≡ true → is_free (bits_of bytes len) b ≡ false
live-bit bytes len b bit = elim (cases_lt b len) [
  | inl within ↦ live_is_not_free (bits_of bytes len) b (get-bits_of bytes len b within ∙ bit)
  | inr past ↦ past_is_not_free (bits_of bytes len) b (let e = length-bits_of bytes len in omega (arith, e, past))
]

-- ---- one bit was given a value
free-same : (old new : List ℕ) (len b k : ℕ) (bit : Bool) → IsBitPut old new b bit → k ≢ b → is_free (bits_of new len) k ≡ is_free (bits_of old len) k
free-same old new len b k bit put ne =
    let size : length (bits_of new len) ≡ length (bits_of old len) = length-bits_of new len ∙ sym (length-bits_of old len) in
    let same : is_live (bits_of new len) k ≡ is_live (bits_of old len) k = elim (cases_lt k len) [
      | inl h ↦ get-bits_of new len k h ∙ (put.others k ne ∙ sym (get-bits_of old len k h))
      | inr h ↦ past-bits_of new len k h ∙ sym (past-bits_of old len k h)
    ] in
    λ i. nat_lt k (size i) && not (same i)

run-same : (old new : List Bool) (count b : ℕ) → ((k : ℕ) → b ≤ k → k < b + count → is_free new k ≡ is_free old k) → is_free_run new count b ≡ is_free_run old count b
run-same old new zero b same = refl
run-same old new (suc count) b same =
    let here : is_free new b ≡ is_free old b = same b (omega arith) (omega arith) in
    let rest : is_free_run new count (b + 1) ≡ is_free_run old count (b + 1) = run-same old new count (b + 1) (λ k low high. same k (omega arith) (omega arith)) in
    λ i. here i && rest i

-- groups in which no row with the block begins keep theirs
pub most-apart : (old new : List ℕ) (len b group most : ℕ) (bit : Bool) → IsBitPut old new b bit → IsApart group b
    → IsMostIn (bits_of old len) group most → IsMostIn (bits_of new len) group most
most-apart old new len b group most bit put apart is = λ k low high count over few.
    run-same (bits_of old len) (bits_of new len) count k (λ j from to. free-same old new len b j bit put (λ e. absurd (let far = apart (omega arith) in omega arith)))
    ∙ is k low high count over few

-- a block became live: what was said of a group is right still
pub most-live : (old new : List ℕ) (len b group most : ℕ) → IsBitPut old new b true
    → IsMostIn (bits_of old len) group most → IsMostIn (bits_of new len) group most
most-live old new len b group most put is = λ k low high count over few. elim (cases_lt b k) [
  | inl before ↦ run-same (bits_of old len) (bits_of new len) count k (λ j from to. free-same old new len b j true put (λ e. absurd (omega arith)))
      ∙ is k low high count over few
  | inr from ↦ elim (cases_lt b (k + count)) [
    | inl inside ↦ broken_run (bits_of new len) k count b from inside (live-bit new len b put.same)
    | inr behind ↦ run-same (bits_of old len) (bits_of new len) count k (λ j low_ to. free-same old new len b j true put (λ e. absurd (omega arith)))
        ∙ is k low high count over few
  ]
]
