-- The capabilities of a seed, four words at a time.
use Rattle.std.proofs.Common.{◌≡◌, ℕ, ◌+◌, ◌*◌, ◌%◌, ◌^◌, ◌<◌, List, [], ◌∷◌, ◌++◌, refl, sym, ◌∙◌, ap, arith}
use Rattle.std.specs.Prelude.{map}
use Rattle.std.specs.List.{range_with_len}
use Rattle.std.proofs.lemmas.List.FromFn.{map-range_with_len_more}
use Rattle.rand_core.specs.Steps.{word_bytes as drawn, fill_via_u32}
use Rattle.rand_chacha.specs.ChaCha.{ChaCha, key_of, next_word}
use Rattle.tsd_model.specs.declared.caps.Cap.{Cap}
use Rattle.tsd_model.specs.declared.caps.CapPair.{CapPair}
use Rattle.cap_store.specs.Seeds.{cap_at, seed_pair, word_bytes}

-- a place below the stream's end
mod_below : (n m : ℕ) → n ≡ m → m < 2 ^ 68 → n % 2 ^ 68 ≡ m
mod_below n m is less = let same : m % 2 ^ 68 ≡ m = omega arith in ap (λ k. k % 2 ^ 68) is ∙ same

-- sixteen bytes are four words, each with its lowest byte first
pub filled : (g : ChaCha) (bytes : List ℕ) (left : ChaCha) → g.word_pos + 4 < 2 ^ 68
    → ◌≡◌ {A = List ℕ × ChaCha} (bytes, left) (fill_via_u32 (next_word 10) 16 g)
    → (bytes ≡ (cap_at g.key g.stream g.word_pos).bytes) × (left ≡ record g { word_pos = g.word_pos + 4 })
unfolding drawn
filled g bytes left few is =
    let p : ℕ = g.word_pos in
    let one : (p + 1) % 2 ^ 68 ≡ p + 1 = mod_below (p + 1) (p + 1) refl (omega arith) in
    let two : ((p + 1) % 2 ^ 68 + 1) % 2 ^ 68 ≡ p + 2 = mod_below ((p + 1) % 2 ^ 68 + 1) (p + 2) (omega (arith, one)) (omega arith) in
    let three : (((p + 1) % 2 ^ 68 + 1) % 2 ^ 68 + 1) % 2 ^ 68 ≡ p + 3 = mod_below (((p + 1) % 2 ^ 68 + 1) % 2 ^ 68 + 1) (p + 3) (omega (arith, two)) (omega arith) in
    let four : ((((p + 1) % 2 ^ 68 + 1) % 2 ^ 68 + 1) % 2 ^ 68 + 1) % 2 ^ 68 ≡ p + 4 = mod_below ((((p + 1) % 2 ^ 68 + 1) % 2 ^ 68 + 1) % 2 ^ 68 + 1) (p + 4) (omega (arith, three)) (omega arith) in (
      ap (λ (r : List ℕ × ChaCha). r.0) is ∙ (λ i. word_bytes g.key g.stream p ++ word_bytes g.key g.stream (one i) ++ word_bytes g.key g.stream (two i) ++ word_bytes g.key g.stream (three i)),
      ap (λ (r : List ℕ × ChaCha). r.1) is ∙ (λ i. record g { word_pos = four i }),
    )

module _ (seed : List ℕ) (block : ℕ) (words mid left : ChaCha) (start : words ≡ record { key = key_of seed; stream = 0; word_pos = 8 * block }) (between : mid ≡ record words { word_pos = words.word_pos + 4 }) where
  middle : mid ≡ record { key = key_of seed; stream = 0; word_pos = 8 * block + 4 }
  middle = between ∙ ap (λ (w : ChaCha). record w { word_pos = w.word_pos + 4 }) start

  -- the pair of one block more
  pub pairs_more : (pairs new : List CapPair) (read write : Cap) → pairs ≡ map (seed_pair seed) (range_with_len 0 block)
      → read ≡ cap_at words.key words.stream words.word_pos → write ≡ cap_at mid.key mid.stream mid.word_pos
      → new ≡ pairs ++ record { read = read; write = write } ∷ [] → new ≡ map (seed_pair seed) (range_with_len 0 (block + 1))
  pairs_more pairs new read write so_far is_read is_write added =
      let first : read ≡ cap_at (key_of seed) 0 (8 * block) = is_read ∙ ap (λ (w : ChaCha). cap_at w.key w.stream w.word_pos) start in
      let second : write ≡ cap_at (key_of seed) 0 (8 * block + 4) = is_write ∙ ap (λ (w : ChaCha). cap_at w.key w.stream w.word_pos) middle in
      let at : 0 + block ≡ block = omega arith in
      added ∙ (λ i. so_far i ++ record { read = first i; write = second i } ∷ []) ∙ sym (map-range_with_len_more (seed_pair seed) 0 block block at)

  -- eight words more are taken
  pub words_more : left ≡ record mid { word_pos = mid.word_pos + 4 } → left ≡ record { key = key_of seed; stream = 0; word_pos = 8 * (block + 1) }
  words_more is =
      let eight : 8 * block + 4 + 4 ≡ 8 * (block + 1) = omega arith in
      is ∙ ap (λ (w : ChaCha). record w { word_pos = w.word_pos + 4 }) middle ∙ (λ i. record { key = key_of seed; stream = 0; word_pos = eight i })
