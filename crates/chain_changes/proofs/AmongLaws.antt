-- One file among others of the chains under a root: its blocks and its pairs.
use Rattle.std.proofs.Common.{◌≡◌, ℕ, true, ◌==◌, List, [], ◌∷◌, ◌++◌, refl, sym, ◌∙◌, ap, inl, inr, ◌⊎◌}
use Rattle.chain_changes.proofs.Common.{and_from, or_cases, or_left, or_right, eq-eqb, has_number, holds, is_pair, Link, blocks_of, links, ChainFile, Chains, chain_blocks, chain_pairs, number_left, number_right, in_append, held_left, held_right, held_append, file_blocks, file_pairs, file_blocks-append, file_pairs-append}

module _ (ds : List Link) (fs : List ChainFile) (f : ChainFile) (gs : List ChainFile) where
  abbrev whole : Chains
  whole = record { directory = ds; files = fs ++ (f ∷ gs) }

  pub among_named : (b : ℕ) → has_number (blocks_of f.chain) b ≡ true → has_number (chain_blocks (record { directory = ds; files = fs ++ (f ∷ gs) })) b ≡ true
  among_named b h = number_right (blocks_of ds) (file_blocks (fs ++ (f ∷ gs))) b (ap (λ xs. has_number xs b) (file_blocks-append fs (f ∷ gs)) ∙ number_right (file_blocks fs) (file_blocks (f ∷ gs)) b (number_left (blocks_of f.chain) (file_blocks gs) b h))

  pub among_held : (a b : ℕ) → holds (links (f.from ∷ blocks_of f.chain)) a b ≡ true → holds (chain_pairs (record { directory = ds; files = fs ++ (f ∷ gs) })) a b ≡ true
  among_held a b h = held_right (links (blocks_of ds)) (file_pairs (fs ++ (f ∷ gs))) a b
      (ap (λ es. holds es a b) (file_pairs-append fs (f ∷ gs)) ∙ held_right (file_pairs fs) (file_pairs (f ∷ gs)) a b (held_left (links (f.from ∷ blocks_of f.chain)) (file_pairs gs) a b h))

  -- what is named is of the directory, of the file, or of the others
  pub among_parts : (b : ℕ) → has_number (chain_blocks (record { directory = ds; files = fs ++ (f ∷ gs) })) b ≡ true
      → (has_number (blocks_of ds) b ≡ true) ⊎ ((has_number (blocks_of f.chain) b ≡ true) ⊎ (has_number (file_blocks (fs ++ gs)) b ≡ true))
  among_parts b h = elim (in_append (blocks_of ds) (file_blocks (fs ++ (f ∷ gs))) b h) [
    | inl first ↦ inl first
    | inr files ↦ elim (in_append (file_blocks fs) (file_blocks (f ∷ gs)) b (ap (λ xs. has_number xs b) (sym (file_blocks-append fs (f ∷ gs))) ∙ files)) [
      | inl early ↦ inr (inr (ap (λ xs. has_number xs b) (file_blocks-append fs gs) ∙ number_left (file_blocks fs) (file_blocks gs) b early))
      | inr later ↦ elim (in_append (blocks_of f.chain) (file_blocks gs) b later) [
        | inl own ↦ inr (inl own)
        | inr late ↦ inr (inr (ap (λ xs. has_number xs b) (file_blocks-append fs gs) ∙ number_right (file_blocks fs) (file_blocks gs) b late))
      ]
    ]
  ]

  -- the pairs of the others are still there
  pub others_held : (a b : ℕ) → holds (file_pairs (fs ++ gs)) a b ≡ true → holds (file_pairs (fs ++ (f ∷ gs))) a b ≡ true
  others_held a b h = ap (λ es. holds es a b) (file_pairs-append fs (f ∷ gs)) ∙ elim (held_append (file_pairs fs) (file_pairs gs) a b (ap (λ es. holds es a b) (sym (file_pairs-append fs gs)) ∙ h)) [
    | inl early ↦ held_left (file_pairs fs) (file_pairs (f ∷ gs)) a b early
    | inr late ↦ held_right (file_pairs fs) (file_pairs (f ∷ gs)) a b (held_right (links (f.from ∷ blocks_of f.chain)) (file_pairs gs) a b late)
  ]

-- ---- a chain of blocks that goes on

pub links_left : (xs ys : List ℕ) (a b : ℕ) → holds (links xs) a b ≡ true → holds (links (xs ++ ys)) a b ≡ true
links_left [] ys a b h = absurd (cc)
links_left (x ∷ []) ys a b h = absurd (cc)
links_left (x ∷ y ∷ xs) ys a b h = elim (or_cases (is_pair a b (x, y)) (holds (links (y ∷ xs)) a b) h) [
  | inl here ↦ or_left (is_pair a b (x, y)) _ here
  | inr later ↦ or_right (is_pair a b (x, y)) _ (links_left (y ∷ xs) ys a b later)
]

pub links_seam : (xs : List ℕ) (d m : ℕ) → holds (links (xs ++ d ∷ m ∷ [])) d m ≡ true
links_seam [] d m = or_left (is_pair d m (d, m)) _ (and_from (d == d) (m == m) (eq-eqb d d refl) (eq-eqb m m refl))
links_seam (x ∷ []) d m = or_right (is_pair d m (x, d)) _ (or_left (is_pair d m (d, m)) _ (and_from (d == d) (m == m) (eq-eqb d d refl) (eq-eqb m m refl)))
links_seam (x ∷ y ∷ xs) d m = or_right (is_pair d m (x, y)) _ (links_seam (y ∷ xs) d m)
