-- An entry of a directory in a tree is put in another's place: which blocks and pairs the tree names then.
use Rattle.std.proofs.Common.{◌≡◌, ℕ, zero, suc, ◌+◌, ◌≤◌, Bool, true, false, not, cond, ◌==◌, List, [], ◌∷◌, ◌++◌, refl, sym, ◌∙◌, ap, arith, inl, inr, ◌⊎◌}
use Rattle.inode_changes.proofs.Common.{and_parts, or_cases, or_left, or_right, eqb-true, not-true, map, list_all, has_number, are_apart, holds, is_pair, Name, Path, none, file, dir, nothing, a_file, a_dir, entry, at, is_there, with_entry, with_child, with_at, InodeNode, InodeEntries, inode_blocks, data_blocks, named_pairs, number_left, number_right, held_append, in_append, node_blocks, from_inode, with_last, times, times_none, none_times, times-with_entry, times-with_at, node_data, data-with_entry, data-with_at, node_pairs, namer, pair_times, pair_times_none, none_pair_times, pairs-with_entry, pairs-with_at}
use Rattle.tsd_model.proofs.ValueLaws.{clash}

pub some_times : (b : ℕ) (ys : List ℕ) → has_number ys b ≡ true → 1 ≤ times b ys
some_times b ys m = at_least (times b ys) (λ e. clash (has_number ys b) m (none_times b ys e))
  where
    at_least : (k : ℕ) → (k ≡ 0 → ⊥) → 1 ≤ k
    at_least zero h = absurd (h refl)
    at_least (suc k) h = omega arith

some_pair_times : (a b : ℕ) (es : List (ℕ × ℕ)) → holds es a b ≡ true → 1 ≤ pair_times a b es
some_pair_times a b es m = at_least (pair_times a b es) (λ e. clash (holds es a b) m (none_pair_times a b es e))
  where
    at_least : (k : ℕ) → (k ≡ 0 → ⊥) → 1 ≤ k
    at_least zero h = absurd (h refl)
    at_least (suc k) h = omega arith

-- it is there, or it isn't
pub is_in : (xs : List ℕ) (b : ℕ) → (has_number xs b ≡ true) ⊎ (has_number xs b ≡ false)
is_in xs b = either (has_number xs b)
  where
    either : (t : Bool) → (t ≡ true) ⊎ (t ≡ false)
    either true = inl refl
    either false = inr refl

is_held : (es : List (ℕ × ℕ)) (a b : ℕ) → (holds es a b ≡ true) ⊎ (holds es a b ≡ false)
is_held es a b = either (holds es a b)
  where
    either : (t : Bool) → (t ≡ true) ⊎ (t ≡ false)
    either true = inl refl
    either false = inr refl

-- what isn't there at all is in neither part
none_here : (b : ℕ) (xs : List ℕ) → times b xs ≡ 0 → has_number xs b ≡ false
none_here b xs e = none_times b xs e

pub all_off : (bs xs : List ℕ) (b : ℕ) → list_all (λ c. not (has_number bs c)) xs ≡ true → has_number xs b ≡ true → has_number bs b ≡ false
all_off bs [] b h m = absurd (cc)
all_off bs (x ∷ xs) b h m = let parts = and_parts (not (has_number bs x)) (list_all (λ c. not (has_number bs c)) xs) h in
    elim (or_cases (x == b) (has_number xs b) m) [
      | inl here ↦ ap (has_number bs) (sym (eqb-true x b here)) ∙ not-true (has_number bs x) parts.0
      | inr later ↦ all_off bs xs b parts.1 later
    ]

-- ---- what pairs lead to

fan_target : (d : ℕ) (cs : List ℕ) (a b : ℕ) → holds (map (λ c. (d, c)) cs) a b ≡ true → has_number cs b ≡ true
fan_target d [] a b h = absurd (cc)
fan_target d (c ∷ cs) a b h = elim (or_cases (is_pair a b (d, c)) (holds (map (λ k. (d, k)) cs) a b) h) [
  | inl here ↦ or_left (c == b) _ (and_parts (d == a) (c == b) here).1
  | inr later ↦ or_right (c == b) _ (fan_target d cs a b later)
]

-- a named pair leads to an inode or to a block of bytes
pub named_target : (d : ℕ) (es : InodeEntries) (a b : ℕ) → holds (named_pairs d es) a b ≡ true → (has_number (inode_blocks es) b ≡ true) ⊎ (has_number (data_blocks es) b ≡ true)
named_target d none a b h = absurd (cc)
named_target d (file n f rest) a b h = elim (or_cases (is_pair a b (d, f.block)) _ h) [
  | inl here ↦ inl (or_left (f.block == b) _ (and_parts (d == a) (f.block == b) here).1)
  | inr more ↦ elim (held_append (map (λ c. (f.block, c)) f.blocks) (named_pairs d rest) a b more) [
    | inl own ↦ inr (number_left f.blocks (data_blocks rest) b (fan_target f.block f.blocks a b own))
    | inr later ↦ elim (named_target d rest a b later) [
      | inl inode ↦ inl (or_right (f.block == b) _ inode)
      | inr bytes ↦ inr (number_right f.blocks (data_blocks rest) b bytes)
    ]
  ]
]
named_target d (dir n c inside rest) a b h = elim (or_cases (is_pair a b (d, c)) _ h) [
  | inl here ↦ inl (or_left (c == b) _ (and_parts (d == a) (c == b) here).1)
  | inr more ↦ elim (held_append (named_pairs c inside) (named_pairs d rest) a b more) [
    | inl own ↦ elim (named_target c inside a b own) [
      | inl inode ↦ inl (or_right (c == b) _ (number_left (inode_blocks inside) (inode_blocks rest) b inode))
      | inr bytes ↦ inr (number_left (data_blocks inside) (data_blocks rest) b bytes)
    ]
    | inr later ↦ elim (named_target d rest a b later) [
      | inl inode ↦ inl (or_right (c == b) _ (number_right (inode_blocks inside) (inode_blocks rest) b inode))
      | inr bytes ↦ inr (number_right (data_blocks inside) (data_blocks rest) b bytes)
    ]
  ]
]

fan_from : (d : ℕ) (cs : List ℕ) (a b : ℕ) → holds (map (λ c. (d, c)) cs) a b ≡ true → (d == a) ≡ true
fan_from d [] a b h = absurd (cc)
fan_from d (c ∷ cs) a b h = elim (or_cases (is_pair a b (d, c)) (holds (map (λ e. (d, e)) cs) a b) h) [
  | inl here ↦ (and_parts (d == a) (c == b) here).0
  | inr later ↦ fan_from d cs a b later
]

-- a node's pair is the one to its block, or comes from one of its inodes
abbrev pub block_is_at : ℕ → ℕ → ℕ → InodeNode → Type 0
block_is_at d a b nothing = ⊥
block_is_at d a b (a_file f) = (d ≡ a) × (f.block ≡ b)
block_is_at d a b (a_dir c es) = (d ≡ a) × (c ≡ b)

node_source : (d : ℕ) (z : InodeNode) (a b : ℕ) → holds (node_pairs d z) a b ≡ true → block_is_at d a b z ⊎ (has_number (node_blocks z) a ≡ true)
node_source d nothing a b h = absurd (cc)
node_source d (a_file f) a b h = elim (or_cases (is_pair a b (d, f.block)) _ h) [
  | inl here ↦ let parts = and_parts (d == a) (f.block == b) here in inl (eqb-true d a parts.0, eqb-true f.block b parts.1)
  | inr own ↦ inr (or_left (f.block == a) _ (fan_from f.block f.blocks a b own))
]
node_source d (a_dir c es) a b h = elim (or_cases (is_pair a b (d, c)) _ h) [
  | inl here ↦ let parts = and_parts (d == a) (c == b) here in inl (eqb-true d a parts.0, eqb-true c b parts.1)
  | inr own ↦ inr (from_inode c es a b own)
]

-- the root stays a directory
pub dir_stays_with : (p : Path) (n : Name) (y : InodeNode) (b : ℕ) (es : InodeEntries) → (new : InodeEntries) × (with_at (p ++ n ∷ []) y (a_dir b es) ≡ a_dir b new)
dir_stays_with [] n y b es = (with_entry n y es, refl)
dir_stays_with (m ∷ ms) n y b es = (with_entry m (with_at (ms ++ n ∷ []) y (entry m es)) es, refl)

pub dir_stays : (p : Path) (n : Name) (b : ℕ) (es : InodeEntries) → (new : InodeEntries) × (with_at (p ++ n ∷ []) nothing (a_dir b es) ≡ a_dir b new)
dir_stays [] n b es = (with_entry n nothing es, refl)
dir_stays (m ∷ ms) n b es = (with_entry m (with_at (ms ++ n ∷ []) nothing (entry m es)) es, refl)

-- ---- the exchange

-- of the tree with these entries of its root, the entry n of the directory in block d at a path is exchanged for y
pub record Exchange (root d : ℕ) (p : Path) (n : Name) (xs old new : InodeEntries) (y : InodeNode) : Type 0 where
  pub stands : at (a_dir root old) p ≡ a_dir d xs
  pub is : with_at (p ++ n ∷ []) y (a_dir root old) ≡ a_dir root new
  pub once : are_apart (root ∷ inode_blocks old) ≡ true
  pub off : list_all (λ b. not (has_number (root ∷ inode_blocks old) b)) (data_blocks old) ≡ true
  -- the new node's inodes are no inodes of the tree, and each is one once; blocks of bytes are no inodes
  pub fresh : (b : ℕ) → times b (root ∷ inode_blocks old) + times b (node_blocks y) ≤ 1
  pub own : (b : ℕ) → has_number (node_data y) b ≡ true → has_number (root ∷ inode_blocks old) b ≡ false
  pub others : (b : ℕ) → has_number (data_blocks old) b ≡ true → has_number (node_blocks y) b ≡ false

module _ (root d : ℕ) (p : Path) (n : Name) (xs old new : InodeEntries) (y : InodeNode) (x : Exchange root d p n xs old new y) where
  as_put : a_dir root new ≡ with_at p (a_dir d (with_entry n y xs)) (a_dir root old)
  as_put = sym x.is ∙ (with_last p n y (a_dir root old) ∙ ap (λ v. with_at p (with_child n y v) (a_dir root old)) x.stands)

  pub inodes_are : (b : ℕ) → times b (inode_blocks new) + times b (node_blocks (entry n xs)) ≡ times b (inode_blocks old) + times b (node_blocks y)
  inodes_are b =
      let law = times-with_at b p (a_dir d (with_entry n y xs)) (a_dir root old) (ap is_there x.stands) in
      let one = times-with_entry b n y xs in
      let here : times b (node_blocks (at (a_dir root old) p)) ≡ cond (d == b) 1 0 + times b (inode_blocks xs) = ap (λ v. times b (node_blocks v)) x.stands in
      let there : cond (root == b) 1 0 + times b (inode_blocks new) ≡ times b (node_blocks (with_at p (a_dir d (with_entry n y xs)) (a_dir root old))) = ap (λ v. times b (node_blocks v)) as_put in
      omega (arith, law, one, here, there)

  data_are : (b : ℕ) → times b (data_blocks new) + times b (node_data (entry n xs)) ≡ times b (data_blocks old) + times b (node_data y)
  data_are b =
      let law = data-with_at b p (a_dir d (with_entry n y xs)) (a_dir root old) (ap is_there x.stands) in
      let one = data-with_entry b n y xs in
      let here : times b (node_data (at (a_dir root old) p)) ≡ times b (data_blocks xs) = ap (λ v. times b (node_data v)) x.stands in
      let there : times b (data_blocks new) ≡ times b (node_data (with_at p (a_dir d (with_entry n y xs)) (a_dir root old))) = ap (λ v. times b (node_data v)) as_put in
      omega (arith, law, one, here, there)

  pairs_are : (a b : ℕ) → pair_times a b (named_pairs root new) + pair_times a b (node_pairs d (entry n xs)) ≡ pair_times a b (named_pairs root old) + pair_times a b (node_pairs d y)
  pairs_are a b =
      let law = pairs-with_at a b 0 p (a_dir d (with_entry n y xs)) (a_dir root old) (ap is_there x.stands) in
      let one = pairs-with_entry a b d n y xs in
      let here : pair_times a b (node_pairs (namer 0 (a_dir root old) p) (at (a_dir root old) p)) ≡ pair_times a b (node_pairs (namer 0 (a_dir root old) p) (a_dir d xs)) = ap (λ v. pair_times a b (node_pairs (namer 0 (a_dir root old) p) v)) x.stands in
      let there : pair_times a b (node_pairs 0 (a_dir root new)) ≡ pair_times a b (node_pairs 0 (with_at p (a_dir d (with_entry n y xs)) (a_dir root old))) = ap (λ v. pair_times a b (node_pairs 0 v)) as_put in
      omega (arith, law, one, here, there)

  -- the inodes of what the entry was are inodes of the old tree
  were_inodes : (b : ℕ) → times b (node_blocks (entry n xs)) ≤ times b (inode_blocks old)
  were_inodes b =
      let without = dir_stays p n root old in
      let law = times-with_at b p (a_dir d (with_entry n nothing xs)) (a_dir root old) (ap is_there x.stands) in
      let one = times-with_entry b n nothing xs in
      let here : times b (node_blocks (at (a_dir root old) p)) ≡ cond (d == b) 1 0 + times b (inode_blocks xs) = ap (λ v. times b (node_blocks v)) x.stands in
      let as_gone : a_dir root without.0 ≡ with_at p (a_dir d (with_entry n nothing xs)) (a_dir root old) = sym without.1 ∙ (with_last p n nothing (a_dir root old) ∙ ap (λ v. with_at p (with_child n nothing v) (a_dir root old)) x.stands) in
      let there : cond (root == b) 1 0 + times b (inode_blocks without.0) ≡ times b (node_blocks (with_at p (a_dir d (with_entry n nothing xs)) (a_dir root old))) = ap (λ v. times b (node_blocks v)) as_gone in
      omega (arith, law, one, here, there)

  -- they are named no more
  gone_inode : (b : ℕ) → has_number (node_blocks (entry n xs)) b ≡ true → has_number (root ∷ inode_blocks new) b ≡ false
  gone_inode b m =
      let some = some_times b (node_blocks (entry n xs)) m in
      let were = were_inodes b in
      let once = x.fresh b in
      let are = inodes_are b in
      none_times b (root ∷ inode_blocks new) (omega (arith, some, were, once, are))

  was_inode : (b : ℕ) → has_number (node_blocks (entry n xs)) b ≡ true → has_number (root ∷ inode_blocks old) b ≡ true
  was_inode b m = elim (is_in (root ∷ inode_blocks old) b) [
    | inl there ↦ there
    | inr off ↦
        let some = some_times b (node_blocks (entry n xs)) m in
        let were = were_inodes b in
        let none = times_none b (root ∷ inode_blocks old) off in
        absurd (never (times b (node_blocks (entry n xs))) (times b (inode_blocks old)) (cond (root == b) 1 0) some were none)
  ]
    where
      never : (s o r : ℕ) → 1 ≤ s → s ≤ o → r + o ≡ 0 → ⊥
      never s o r h k e = omega arith

  gone_bytes : (b : ℕ) → has_number (node_blocks (entry n xs)) b ≡ true → has_number (data_blocks new) b ≡ false
  gone_bytes b m = elim (is_in (data_blocks new) b) [
    | inr off ↦ off
    | inl there ↦
        let some = some_times b (data_blocks new) there in
        let are = data_are b in
        elim (is_in (data_blocks old) b) [
          | inl was ↦ absurd (clash (has_number (root ∷ inode_blocks old) b) (was_inode b m) (all_off (root ∷ inode_blocks old) (data_blocks old) b x.off was))
          | inr not ↦ elim (is_in (node_data y) b) [
            | inl mine ↦ absurd (clash (has_number (root ∷ inode_blocks old) b) (was_inode b m) (x.own b mine))
            | inr absent ↦
                let o = times_none b (data_blocks old) not in
                let k = times_none b (node_data y) absent in
                absurd (never (times b (data_blocks new)) (times b (node_data (entry n xs))) (times b (data_blocks old)) (times b (node_data y)) some are o k)
          ]
        ]
  ]
    where
      never : (s z o k : ℕ) → 1 ≤ s → s + z ≡ o + k → o ≡ 0 → k ≡ 0 → ⊥
      never s z o k h e f g = omega arith

  -- so no named pair leads there
  pub spared : (a c : ℕ) → has_number (node_blocks (entry n xs)) c ≡ true → holds (named_pairs root new) a c ≡ false
  spared a c m = elim (is_held (named_pairs root new) a c) [
    | inr off ↦ off
    | inl there ↦ elim (named_target root new a c there) [
      | inl inode ↦ absurd (clash (has_number (root ∷ inode_blocks new) c) (or_right (root == c) _ inode) (gone_inode c m))
      | inr bytes ↦ absurd (clash (has_number (data_blocks new) c) bytes (gone_bytes c m))
    ]
  ]

  -- the named pairs are those of the old tree and of the new node, but for those out of what the entry was, and the one to it
  pub old_or_own : (a b : ℕ) → holds (named_pairs root new) a b ≡ true → (holds (named_pairs root old) a b ≡ true) ⊎ (holds (node_pairs d y) a b ≡ true)
  old_or_own a b h = elim (is_held (named_pairs root old) a b) [
    | inl was ↦ inl was
    | inr not ↦ elim (is_held (node_pairs d y) a b) [
      | inl own ↦ inr own
      | inr absent ↦
          let some = some_pair_times a b (named_pairs root new) h in
          let are = pairs_are a b in
          let o = pair_times_none a b (named_pairs root old) not in
          let k = pair_times_none a b (node_pairs d y) absent in
          absurd (never (pair_times a b (named_pairs root new)) (pair_times a b (node_pairs d (entry n xs))) (pair_times a b (named_pairs root old)) (pair_times a b (node_pairs d y)) some are o k)
    ]
  ]
    where
      never : (s z o k : ℕ) → 1 ≤ s → s + z ≡ o + k → o ≡ 0 → k ≡ 0 → ⊥
      never s z o k h e f g = omega arith

  pub still_named : (a b : ℕ) → has_number (root ∷ (inode_blocks new ++ data_blocks new)) a ≡ true → (holds (named_pairs root old) a b ≡ true) ⊎ (holds (node_pairs d y) a b ≡ true) → (block_is_at d a b (entry n xs) → ⊥) → holds (named_pairs root new) a b ≡ true
  still_named a b from either other = elim (is_held (named_pairs root new) a b) [
    | inl there ↦ there
    | inr not ↦
        let n0 = pair_times_none a b (named_pairs root new) not in
        let are = pairs_are a b in
        let some = counted either in
        elim (is_held (node_pairs d (entry n xs)) a b) [
          | inr off ↦
              let z0 = pair_times_none a b (node_pairs d (entry n xs)) off in
              absurd (never (pair_times a b (named_pairs root new)) (pair_times a b (node_pairs d (entry n xs))) (pair_times a b (named_pairs root old)) (pair_times a b (node_pairs d y)) some are n0 z0)
          | inl own ↦ elim (node_source d (entry n xs) a b own) [
            | inl here ↦ absurd (other here)
            | inr inode ↦ absurd (nowhere inode)
          ]
        ]
  ]
    where
      counted : (holds (named_pairs root old) a b ≡ true) ⊎ (holds (node_pairs d y) a b ≡ true) → 1 ≤ pair_times a b (named_pairs root old) + pair_times a b (node_pairs d y)
      counted (inl was) = let s = some_pair_times a b (named_pairs root old) was in omega (arith, s)
      counted (inr own) = let s = some_pair_times a b (node_pairs d y) own in omega (arith, s)

      never : (s z o k : ℕ) → 1 ≤ o + k → s + z ≡ o + k → s ≡ 0 → z ≡ 0 → ⊥
      never s z o k h e f g = omega arith

      nowhere : has_number (node_blocks (entry n xs)) a ≡ true → ⊥
      nowhere inode = elim (or_cases (root == a) (has_number (inode_blocks new ++ data_blocks new) a) from) [
        | inl is_root ↦ clash (has_number (root ∷ inode_blocks new) a) (or_left (root == a) _ is_root) (gone_inode a inode)
        | inr below ↦ elim (in_append (inode_blocks new) (data_blocks new) a below) [
          | inl i ↦ clash (has_number (root ∷ inode_blocks new) a) (or_right (root == a) _ i) (gone_inode a inode)
          | inr b ↦ clash (has_number (data_blocks new) a) b (gone_bytes a inode)
        ]
      ]

  -- a block named now was named before, or is the new node's
  pub named_before : (b : ℕ) → has_number (root ∷ (inode_blocks new ++ data_blocks new)) b ≡ true → (has_number (root ∷ (inode_blocks old ++ data_blocks old)) b ≡ true) ⊎ ((has_number (node_blocks y) b ≡ true) ⊎ (has_number (node_data y) b ≡ true))
  named_before b h = elim (or_cases (root == b) (has_number (inode_blocks new ++ data_blocks new) b) h) [
    | inl is_root ↦ inl (or_left (root == b) _ is_root)
    | inr below ↦ elim (in_append (inode_blocks new) (data_blocks new) b below) [
      | inl inode ↦ of_inodes inode (is_in (inode_blocks old) b) (is_in (node_blocks y) b)
      | inr bytes ↦ of_data bytes (is_in (data_blocks old) b) (is_in (node_data y) b)
    ]
  ]
    where
      never : (s z o k : ℕ) → 1 ≤ s → s + z ≡ o + k → o ≡ 0 → k ≡ 0 → ⊥
      never s z o k h e f g = omega arith

      of_inodes : has_number (inode_blocks new) b ≡ true → (has_number (inode_blocks old) b ≡ true) ⊎ (has_number (inode_blocks old) b ≡ false) → (has_number (node_blocks y) b ≡ true) ⊎ (has_number (node_blocks y) b ≡ false)
          → (has_number (root ∷ (inode_blocks old ++ data_blocks old)) b ≡ true) ⊎ ((has_number (node_blocks y) b ≡ true) ⊎ (has_number (node_data y) b ≡ true))
      of_inodes h (inl was) k = inl (or_right (root == b) _ (number_left (inode_blocks old) (data_blocks old) b was))
      of_inodes h (inr off) (inl mine) = inr (inl mine)
      of_inodes h (inr off) (inr absent) = absurd (never (times b (inode_blocks new)) (times b (node_blocks (entry n xs))) (times b (inode_blocks old)) (times b (node_blocks y)) (some_times b (inode_blocks new) h) (inodes_are b) (times_none b (inode_blocks old) off) (times_none b (node_blocks y) absent))

      of_data : has_number (data_blocks new) b ≡ true → (has_number (data_blocks old) b ≡ true) ⊎ (has_number (data_blocks old) b ≡ false) → (has_number (node_data y) b ≡ true) ⊎ (has_number (node_data y) b ≡ false)
          → (has_number (root ∷ (inode_blocks old ++ data_blocks old)) b ≡ true) ⊎ ((has_number (node_blocks y) b ≡ true) ⊎ (has_number (node_data y) b ≡ true))
      of_data h (inl was) k = inl (or_right (root == b) _ (number_right (inode_blocks old) (data_blocks old) b was))
      of_data h (inr off) (inl mine) = inr (inr mine)
      of_data h (inr off) (inr absent) = absurd (never (times b (data_blocks new)) (times b (node_data (entry n xs))) (times b (data_blocks old)) (times b (node_data y)) (some_times b (data_blocks new) h) (data_are b) (times_none b (data_blocks old) off) (times_none b (node_data y) absent))
