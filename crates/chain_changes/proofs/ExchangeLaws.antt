-- Chains of which one file is exchanged for others, or for none: what isn't named any more, and which pairs still are.
use Rattle.std.proofs.Common.{◌≡◌, ℕ, zero, suc, ◌+◌, ◌≤◌, true, false, ◌==◌, List, [], ◌∷◌, ◌++◌, sym, ◌∙◌, ap, arith, inl, inr, ◌⊎◌, refl, append-nil}
use Rattle.chain_changes.proofs.Common.{or_cases, or_left, or_right, and_parts, has_number, holds, is_pair, blocks_of, links, ChainFile, Chains, chain_blocks, chain_pairs, held_left, held_right, held_append, times, times-append, times_none, none_times, file_blocks, file_pairs, times_three, held_three, first_held, last_held}
use Rattle.tsd_model.proofs.ValueLaws.{clash}

-- what stands in a list stands there at least once
pub in_times : (b : ℕ) (xs : List ℕ) → has_number xs b ≡ true → 1 ≤ times b xs
in_times b xs h = elim (by_count (times b xs) refl) [
  | inl none ↦ absurd (clash (has_number xs b) h (none_times b xs none))
  | inr some ↦ some
]
  where
    by_count : (n : ℕ) → times b xs ≡ n → (times b xs ≡ 0) ⊎ (1 ≤ times b xs)
    by_count n e = at_least (times b xs)
      where
        at_least : (n : ℕ) → (n ≡ 0) ⊎ (1 ≤ n)
        at_least zero = inl refl
        at_least (suc n) = inr (omega arith)

-- a link comes from one of the blocks
pub link_from : (bs : List ℕ) (a b : ℕ) → holds (links bs) a b ≡ true → has_number bs a ≡ true
link_from [] a b h = absurd (cc)
link_from (c ∷ []) a b h = absurd (cc)
link_from (c ∷ d ∷ bs) a b h = elim (or_cases (is_pair a b (c, d)) (holds (links (d ∷ bs)) a b) h) [
  | inl here ↦ or_left (c == a) _ (and_parts (c == a) (d == b) here).0
  | inr later ↦ or_right (c == a) _ (link_from (d ∷ bs) a b later)
]

-- the first link of a chain, or one behind it
pub first_or_behind : (from : ℕ) (bs : List ℕ) (a b : ℕ) → holds (links (from ∷ bs)) a b ≡ true → ((d : ℕ) × (rest : List ℕ) × (bs ≡ d ∷ rest) × (is_pair a b (from, d) ≡ true)) ⊎ (holds (links bs) a b ≡ true)
first_or_behind from [] a b h = absurd (cc)
first_or_behind from (d ∷ bs) a b h = elim (or_cases (is_pair a b (from, d)) (holds (links (d ∷ bs)) a b) h) [
  | inl here ↦ inl (d, bs, refl, here)
  | inr later ↦ inr later
]

module _ (c next : Chains) (before : List ChainFile) (old : ChainFile) (behind news : List ChainFile) (files : c.files ≡ before ++ (old ∷ behind)) (now : next.files ≡ before ++ (news ++ behind)) (same : blocks_of next.directory ≡ blocks_of c.directory)
    (once : (b : ℕ) → times b (chain_blocks c) + times b (file_blocks news) ≤ 1) where
  counts_old : (b : ℕ) → times b (chain_blocks c) ≡ times b (blocks_of c.directory) + (times b (file_blocks before) + (times b (blocks_of old.chain) + times b (file_blocks behind)))
  counts_old b =
      let one = times-append b (blocks_of c.directory) (file_blocks c.files) in
      let two = ap (λ fs. times b (file_blocks fs)) files ∙ times_three b before (old ∷ []) behind in
      let three = ap (times b) (append-nil (blocks_of old.chain)) in
      omega (arith, one, two, three)

  counts_new : (b : ℕ) → times b (chain_blocks next) ≡ times b (blocks_of c.directory) + (times b (file_blocks before) + (times b (file_blocks news) + times b (file_blocks behind)))
  counts_new b =
      let one = times-append b (blocks_of next.directory) (file_blocks next.files) in
      let two = ap (λ fs. times b (file_blocks fs)) now ∙ times_three b before news behind in
      let three = ap (times b) same in
      omega (arith, one, two, three)

  -- the blocks of the old file
  pub old_gone : (b : ℕ) → has_number (blocks_of old.chain) b ≡ true → has_number (chain_blocks next) b ≡ false
  old_gone b h = none_times b (chain_blocks next) (
      let some = in_times b (blocks_of old.chain) h in
      let one = once b in
      omega (arith, some, one, counts_old b, counts_new b))

  -- what is named was named, or is new
  pub named_before : (b : ℕ) → has_number (chain_blocks next) b ≡ true → (has_number (chain_blocks c) b ≡ true) ⊎ (has_number (file_blocks news) b ≡ true)
  named_before b h = elim (number_or (chain_blocks c) b) [
    | inl was ↦ inl was
    | inr not_was ↦ elim (number_or (file_blocks news) b) [
      | inl new ↦ inr new
      | inr not_new ↦ absurd (
          let some = in_times b (chain_blocks next) h in
          let none = times_none b (chain_blocks c) not_was in
          let no_new = times_none b (file_blocks news) not_new in
          omega (arith, some, none, no_new, counts_old b, counts_new b))
    ]
  ]
    where
      number_or : (xs : List ℕ) (b : ℕ) → (has_number xs b ≡ true) ⊎ (has_number xs b ≡ false)
      number_or xs b = elim (has_number xs b) as (λ t. (t ≡ true) ⊎ (t ≡ false)) [ true ↦ inl refl | false ↦ inr refl ]

  -- a pair from what is named is named still, unless it leads to the old file
  pub still_named : (a b : ℕ) → has_number (chain_blocks next) a ≡ true → holds (chain_pairs c) a b ≡ true
      → (holds (chain_pairs next) a b ≡ true) ⊎ ((d : ℕ) × (rest : List ℕ) × (blocks_of old.chain ≡ d ∷ rest) × (is_pair a b (old.from, d) ≡ true))
  still_named a b from h = elim (held_append (links (blocks_of c.directory)) (file_pairs c.files) a b h) [
    | inl link ↦ inl (held_left (links (blocks_of next.directory)) (file_pairs next.files) a b (ap (λ xs. holds (links xs) a b) same ∙ link))
    | inr file ↦ elim (held_three before (old ∷ []) behind a b (ap (λ fs. holds (file_pairs fs) a b) (sym files) ∙ file)) [
      | inl first ↦ inl (of_files (first_held before news behind a b first))
      | inr more ↦ elim more [
        | inr last ↦ inl (of_files (last_held before news behind a b last))
        | inl own ↦ elim (first_or_behind old.from (blocks_of old.chain) a b (ap (λ es. holds es a b) (sym (append-nil (links (old.from ∷ blocks_of old.chain)))) ∙ own)) [
          | inl here ↦ inr here
          | inr inner ↦ absurd (clash (has_number (chain_blocks next) a) from (old_gone a (link_from (blocks_of old.chain) a b inner)))
        ]
      ]
    ]
  ]
    where
      of_files : holds (file_pairs (before ++ (news ++ behind))) a b ≡ true → holds (chain_pairs next) a b ≡ true
      of_files k = held_right (links (blocks_of next.directory)) (file_pairs next.files) a b (ap (λ fs. holds (file_pairs fs) a b) now ∙ k)
