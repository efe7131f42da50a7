-- A file with further clusters: its links, its filling, and its place among the others.
use Rattle.std.proofs.Common.{◌≡◌, ℕ, ◌+◌, ◌≤◌, Bool, true, false, ◌&&◌, ◌==◌, nat_lt, List, [], ◌∷◌, ◌++◌, refl, sym, ◌∙◌, ap, arith, inl, inr, ◌⊎◌, append-nil}
use Rattle.chain_changes.proofs.Common.{or_cases, or_left, or_right, and_parts, and_from, ltb-true, lt-ltb, flat_map-append, has_number, are_apart, holds, is_pair, Cluster, Link, blocks_of, links, is_filled, ChainFile, Chains, chain_blocks, chain_pairs, held_left, held_right, held_append, number_left, number_right, times, times-append, times_none, times_apart, file_blocks, file_pairs, relinked, grown, blocks-append, file_pairs-append, times_three, held_three, first_held, last_held}
use Rattle.chain_changes.proofs.ExchangeLaws.{in_times}

-- ---- links

-- those up to a block are links of a longer chain, and so are those from it on
pub links_up_to : (xs : List ℕ) (d : ℕ) (more : List ℕ) (a b : ℕ) → holds (links (xs ++ d ∷ [])) a b ≡ true → holds (links (xs ++ d ∷ more)) a b ≡ true
links_up_to [] d more a b h = absurd (cc)
links_up_to (x ∷ []) d more a b h = elim (or_cases (is_pair a b (x, d)) false h) [
  | inl here ↦ or_left (is_pair a b (x, d)) _ here
  | inr never ↦ absurd (cc)
]
links_up_to (x ∷ y ∷ ys) d more a b h = elim (or_cases (is_pair a b (x, y)) (holds (links (y ∷ (ys ++ d ∷ []))) a b) h) [
  | inl here ↦ or_left (is_pair a b (x, y)) _ here
  | inr later ↦ or_right (is_pair a b (x, y)) _ (links_up_to (y ∷ ys) d more a b later)
]

pub links_on_from : (xs : List ℕ) (d : ℕ) (more : List ℕ) (a b : ℕ) → holds (links (d ∷ more)) a b ≡ true → holds (links (xs ++ d ∷ more)) a b ≡ true
links_on_from [] d more a b h = h
links_on_from (x ∷ []) d more a b h = or_right (is_pair a b (x, d)) _ h
links_on_from (x ∷ y ∷ ys) d more a b h = or_right (is_pair a b (x, y)) _ (links_on_from (y ∷ ys) d more a b h)

-- ---- how full it is

-- the last cluster gets more, and where others follow it is full
pub grown_filled : (room : ℕ) (ks : List Link) (k : Link) (cl : Cluster) (more : List Link) → is_filled room (ks ++ k ∷ []) ≡ true → k.cluster.used ≤ cl.used → is_filled room (relinked k cl ∷ more) ≡ true → is_filled room (ks ++ relinked k cl ∷ more) ≡ true
grown_filled room [] k cl more old up now = now
grown_filled room (a ∷ []) k cl more old up now =
    let outer = and_parts ((a.cluster.used == room) && nat_lt 0 k.cluster.used) (is_filled room (k ∷ [])) old in
    let inner = and_parts (a.cluster.used == room) (nat_lt 0 k.cluster.used) outer.0 in
    let some = ltb-true 0 k.cluster.used inner.1 in
    and_from ((a.cluster.used == room) && nat_lt 0 cl.used) (is_filled room (relinked k cl ∷ more)) (and_from (a.cluster.used == room) (nat_lt 0 cl.used) inner.0 (lt-ltb 0 cl.used (omega (arith, some, up)))) now
grown_filled room (a ∷ b ∷ ks) k cl more old up now =
    let outer = and_parts ((a.cluster.used == room) && nat_lt 0 b.cluster.used) (is_filled room (b ∷ (ks ++ k ∷ []))) old in
    and_from ((a.cluster.used == room) && nat_lt 0 b.cluster.used) (is_filled room (b ∷ (ks ++ relinked k cl ∷ more))) outer.0 (grown_filled room (b ∷ ks) k cl more outer.1 up now)

-- ---- blocks that stand once

pub apart_both : (xs ys : List ℕ) → ((b : ℕ) → times b xs ≤ 1) → ((b : ℕ) → times b ys ≤ 1) → ((b : ℕ) → has_number ys b ≡ true → has_number xs b ≡ false) → are_apart (xs ++ ys) ≡ true
apart_both xs ys one two apart = times_apart (xs ++ ys) (λ b. by_test b (has_number ys b) refl)
  where
    by_test : (b : ℕ) (t : Bool) → has_number ys b ≡ t → times b (xs ++ ys) ≤ 1
    by_test b true h = let both = times-append b xs ys in let none = times_none b xs (apart b h) in let most = two b in omega (arith, both, none, most)
    by_test b false h = let both = times-append b xs ys in let none = times_none b ys h in let most = one b in omega (arith, both, none, most)

-- ---- among the others

module _ (c : Chains) (fs : List ChainFile) (f : ChainFile) (hs : List ChainFile) (position : c.files ≡ fs ++ (f ∷ hs)) (ks : List Link) (k : Link) (ends : f.chain ≡ ks ++ k ∷ []) (cl : Cluster) (more : List Link) where
  abbrev longer : Chains
  longer = record { directory = c.directory; files = fs ++ (grown f ks k cl more ∷ hs) }

  old_blocks : blocks_of f.chain ≡ blocks_of ks ++ k.block ∷ []
  old_blocks = ap blocks_of ends ∙ blocks-append ks (k ∷ [])

  new_blocks : blocks_of (ks ++ relinked k cl ∷ more) ≡ blocks_of ks ++ (k.block ∷ blocks_of more)
  new_blocks = blocks-append ks (relinked k cl ∷ more)

  -- its blocks are those of before and the further ones
  pub longer_times : (b : ℕ) → times b (chain_blocks longer) ≡ times b (chain_blocks c) + times b (blocks_of more)
  longer_times b =
      let one = times-append b (blocks_of c.directory) (file_blocks c.files) in
      let two = times-append b (blocks_of c.directory) (file_blocks longer.files) in
      let was = ap (λ xs. times b (file_blocks xs)) position ∙ times_three b fs (f ∷ []) hs in
      let is = times_three b fs (grown f ks k cl more ∷ []) hs in
      let own = ap (times b) (append-nil (blocks_of f.chain) ∙ old_blocks) ∙ times-append b (blocks_of ks) (k.block ∷ []) in
      let now = ap (times b) (append-nil (blocks_of (ks ++ relinked k cl ∷ more)) ∙ new_blocks) ∙ times-append b (blocks_of ks) (k.block ∷ blocks_of more) in
      omega (arith, one, two, was, is, own, now)

  pub longer_has : (b : ℕ) → has_number (chain_blocks longer) b ≡ true → (has_number (chain_blocks c) b ≡ true) ⊎ (has_number (blocks_of more) b ≡ true)
  longer_has b h = by_tests (has_number (chain_blocks c) b) (has_number (blocks_of more) b) refl refl
    where
      by_tests : (s t : Bool) → has_number (chain_blocks c) b ≡ s → has_number (blocks_of more) b ≡ t → (s ≡ true) ⊎ (t ≡ true)
      by_tests true t p q = inl refl
      by_tests false true p q = inr refl
      by_tests false false p q = absurd (
          let some = in_times b (chain_blocks longer) h in
          let all = longer_times b in
          let none = times_none b (chain_blocks c) p in
          let no_more = times_none b (blocks_of more) q in
          omega (arith, some, all, none, no_more))

  pub more_in : (b : ℕ) → has_number (blocks_of more) b ≡ true → has_number (chain_blocks longer) b ≡ true
  more_in b h = number_right (blocks_of c.directory) (file_blocks longer.files) b (ap (λ xs. has_number xs b) (flat_map-append (λ g. blocks_of g.chain) fs (grown f ks k cl more ∷ hs))
      ∙ number_right (file_blocks fs) _ b (number_left (blocks_of (ks ++ relinked k cl ∷ more)) (file_blocks hs) b (ap (λ xs. has_number xs b) new_blocks ∙ number_right (blocks_of ks) _ b (or_right (k.block == b) _ h))))

  -- so are its pairs
  own_pairs : (a b : ℕ) → holds (links (f.from ∷ blocks_of (ks ++ relinked k cl ∷ more))) a b ≡ true → holds (chain_pairs longer) a b ≡ true
  own_pairs a b h = held_right (links (blocks_of c.directory)) (file_pairs longer.files) a b (ap (λ es. holds es a b) (file_pairs-append fs (grown f ks k cl more ∷ hs))
      ∙ held_right (file_pairs fs) (file_pairs (grown f ks k cl more ∷ hs)) a b (held_left (links (f.from ∷ blocks_of (ks ++ relinked k cl ∷ more))) (file_pairs hs) a b h))

  pub more_pairs : (a b : ℕ) → holds (links (k.block ∷ blocks_of more)) a b ≡ true → holds (chain_pairs longer) a b ≡ true
  more_pairs a b h = own_pairs a b (ap (λ xs. holds (links (f.from ∷ xs)) a b) new_blocks ∙ links_on_from (f.from ∷ blocks_of ks) k.block (blocks_of more) a b h)

  pub old_pairs : (a b : ℕ) → holds (chain_pairs c) a b ≡ true → holds (chain_pairs longer) a b ≡ true
  old_pairs a b h = elim (held_append (links (blocks_of c.directory)) (file_pairs c.files) a b h) [
    | inl link ↦ held_left (links (blocks_of c.directory)) (file_pairs longer.files) a b link
    | inr file ↦ elim (held_three fs (f ∷ []) hs a b (ap (λ xs. holds (file_pairs xs) a b) (sym position) ∙ file)) [
      | inl first ↦ held_right (links (blocks_of c.directory)) (file_pairs longer.files) a b (first_held fs (grown f ks k cl more ∷ []) hs a b first)
      | inr rest ↦ elim rest [
        | inr last ↦ held_right (links (blocks_of c.directory)) (file_pairs longer.files) a b (last_held fs (grown f ks k cl more ∷ []) hs a b last)
        | inl own ↦ own_pairs a b (ap (λ xs. holds (links (f.from ∷ xs)) a b) new_blocks
            ∙ links_up_to (f.from ∷ blocks_of ks) k.block (blocks_of more) a b (ap (λ xs. holds (links (f.from ∷ xs)) a b) (sym old_blocks) ∙ (ap (λ es. holds es a b) (sym (append-nil (links (f.from ∷ blocks_of f.chain)))) ∙ own)))
      ]
    ]
  ]
