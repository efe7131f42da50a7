-- The pairs that a tree names are those from its inodes to what their blocks say.
use Rattle.std.proofs.Common.{◌≡◌, ℕ, zero, suc, true, false, ◌||◌, ◌==◌, List, [], ◌∷◌, ◌++◌, refl, sym, ◌∙◌, ap, subst, inl, inr, Option, Some, None}
use Rattle.inode_fs.proofs.Common.{and_parts, or_cases, or_left, or_right, eq-eqb, eqb-true, map, is_some, World, has_number, holds, is_pair, Name, none, file, dir, nothing, a_file, a_dir, is_there, Entry, Inode, directory, regular, InodeNode, InodeEntries, inode_at, with_first, entries_by, as_dir, node_by, node_at, inode_blocks, data_blocks, named_pairs, blocks_said, node_pairs, block_is, node_block, node_blocks, number_left, number_right, held_left, held_right, held_append, in_append, blocks_in, names_at}
use Rattle.inode_fs.proofs.ComeLaws.{node_data}
use Rattle.inode_fs.proofs.WrongLaws.{are_listed, fan_held, dir_of}

pub record Says (w : World) (ps : List (ℕ × ℕ)) (bs ds : List ℕ) : Type 0 where
  -- what is named is said
  pub says : (a c : ℕ) → holds ps a c ≡ true → has_number (names_at w a) c ≡ true
  -- what is said is named
  pub told : (a c : ℕ) → has_number bs a ≡ true → has_number (names_at w a) c ≡ true → holds ps a c ≡ true
  pub inode : (a : ℕ) → has_number bs a ≡ true → is_some (inode_at w a) ≡ true
  -- what a pair leads to is an inode or a block of bytes
  pub target : (a c : ℕ) → holds ps a c ≡ true → (has_number bs c || has_number ds c) ≡ true

-- Of the entries of directory d: the pairs to them aren't told of d's own block.
pub record EntriesSay (w : World) (d : ℕ) (xs : InodeEntries) : Type 0 where
  pub says : (a c : ℕ) → holds (named_pairs d xs) a c ≡ true → has_number (names_at w a) c ≡ true
  pub told : (a c : ℕ) → has_number (inode_blocks xs) a ≡ true → has_number (names_at w a) c ≡ true → holds (named_pairs d xs) a c ≡ true
  pub inode : (a : ℕ) → has_number (inode_blocks xs) a ≡ true → is_some (inode_at w a) ≡ true
  pub target : (a c : ℕ) → holds (named_pairs d xs) a c ≡ true → (has_number (inode_blocks xs) c || has_number (data_blocks xs) c) ≡ true

-- one entry more
module _ (w : World) (d k : ℕ) (own : has_number (names_at w d) k ≡ true) (ps qs : List (ℕ × ℕ)) (bs cs ds es : List ℕ) (first : Says w ps bs ds)
    (says : (a c : ℕ) → holds qs a c ≡ true → has_number (names_at w a) c ≡ true)
    (told : (a c : ℕ) → has_number cs a ≡ true → has_number (names_at w a) c ≡ true → holds qs a c ≡ true)
    (inode : (a : ℕ) → has_number cs a ≡ true → is_some (inode_at w a) ≡ true)
    (target : (a c : ℕ) → holds qs a c ≡ true → (has_number cs c || has_number es c) ≡ true)
    (here : has_number bs k ≡ true) where
  says_both : (a c : ℕ) → holds ((d, k) ∷ (ps ++ qs)) a c ≡ true → has_number (names_at w a) c ≡ true
  says_both a c m = elim (or_cases (is_pair a c (d, k)) (holds (ps ++ qs) a c) m) [
    | inl e ↦ let parts = and_parts (d == a) (k == c) e in
        subst (λ x. has_number (names_at w x) c ≡ true) (eqb-true d a parts.0) (subst (λ x. has_number (names_at w d) x ≡ true) (eqb-true k c parts.1) own)
    | inr more ↦ elim (held_append ps qs a c more) [ inl one ↦ first.says a c one | inr two ↦ says a c two ]
  ]

  told_both : (a c : ℕ) → has_number (bs ++ cs) a ≡ true → has_number (names_at w a) c ≡ true → holds ((d, k) ∷ (ps ++ qs)) a c ≡ true
  told_both a c m n = or_right (is_pair a c (d, k)) _ (elim (in_append bs cs a m) [
    | inl one ↦ held_left ps qs a c (first.told a c one n)
    | inr two ↦ held_right ps qs a c (told a c two n)
  ])

  inode_both : (a : ℕ) → has_number (bs ++ cs) a ≡ true → is_some (inode_at w a) ≡ true
  inode_both a m = elim (in_append bs cs a m) [ inl one ↦ first.inode a one | inr two ↦ inode a two ]

  -- in the first, or in the others
  spread_left : (c : ℕ) → (has_number bs c || has_number ds c) ≡ true → (has_number (bs ++ cs) c || has_number (ds ++ es) c) ≡ true
  spread_left c m = elim (or_cases (has_number bs c) (has_number ds c) m) [
    | inl one ↦ or_left (has_number (bs ++ cs) c) _ (number_left bs cs c one)
    | inr two ↦ or_right (has_number (bs ++ cs) c) _ (number_left ds es c two)
  ]

  spread_right : (c : ℕ) → (has_number cs c || has_number es c) ≡ true → (has_number (bs ++ cs) c || has_number (ds ++ es) c) ≡ true
  spread_right c m = elim (or_cases (has_number cs c) (has_number es c) m) [
    | inl one ↦ or_left (has_number (bs ++ cs) c) _ (number_right bs cs c one)
    | inr two ↦ or_right (has_number (bs ++ cs) c) _ (number_right ds es c two)
  ]

  target_both : (a c : ℕ) → holds ((d, k) ∷ (ps ++ qs)) a c ≡ true → (has_number (bs ++ cs) c || has_number (ds ++ es) c) ≡ true
  target_both a c m = elim (or_cases (is_pair a c (d, k)) (holds (ps ++ qs) a c) m) [
    | inl e ↦ subst (λ x. (has_number (bs ++ cs) x || has_number (ds ++ es) x) ≡ true) (eqb-true k c (and_parts (d == a) (k == c) e).1) (or_left (has_number (bs ++ cs) k) _ (number_left bs cs k here))
    | inr more ↦ elim (held_append ps qs a c more) [ inl one ↦ spread_left c (first.target a c one) | inr two ↦ spread_right c (target a c two) ]
  ]

first_says : (w : World) (d k : ℕ) (n : Name) (x : InodeNode) (o : Option InodeEntries) (xs : InodeEntries) → has_number (names_at w d) k ≡ true → block_is x k → with_first n x o ≡ Some xs
    → Says w (node_pairs x) (node_blocks x) (node_data x) → ((zs : InodeEntries) → o ≡ Some zs → EntriesSay w d zs) → EntriesSay w d xs
first_says w d k n nothing o xs own e is first rest = absurd e
first_says w d k n (a_file f) None xs own e is first rest = absurd (cc)
first_says w d k n (a_dir b es) None xs own e is first rest = absurd (cc)
first_says w d k n (a_file f) (Some zs) xs own e is first rest = subst (EntriesSay w d) same (let r = rest zs refl in record {
  says = says_both w d f.block mine (map (λ c. (f.block, c)) f.blocks) (named_pairs d zs) (f.block ∷ []) (inode_blocks zs) f.blocks (data_blocks zs) first r.says r.told r.inode r.target here;
  told = told_both w d f.block mine (map (λ c. (f.block, c)) f.blocks) (named_pairs d zs) (f.block ∷ []) (inode_blocks zs) f.blocks (data_blocks zs) first r.says r.told r.inode r.target here;
  inode = inode_both w d f.block mine (map (λ c. (f.block, c)) f.blocks) (named_pairs d zs) (f.block ∷ []) (inode_blocks zs) f.blocks (data_blocks zs) first r.says r.told r.inode r.target here;
  target = target_both w d f.block mine (map (λ c. (f.block, c)) f.blocks) (named_pairs d zs) (f.block ∷ []) (inode_blocks zs) f.blocks (data_blocks zs) first r.says r.told r.inode r.target here;
})
  where
    same : file n f zs ≡ xs
    same = cc

    mine : has_number (names_at w d) f.block ≡ true
    mine = ap (has_number (names_at w d)) e ∙ own

    here : has_number (f.block ∷ []) f.block ≡ true
    here = or_left (f.block == f.block) _ (eq-eqb f.block f.block refl)
first_says w d k n (a_dir b es) (Some zs) xs own e is first rest = subst (EntriesSay w d) same (let r = rest zs refl in record {
  says = says_both w d b mine (named_pairs b es) (named_pairs d zs) (b ∷ inode_blocks es) (inode_blocks zs) (data_blocks es) (data_blocks zs) first r.says r.told r.inode r.target here;
  told = told_both w d b mine (named_pairs b es) (named_pairs d zs) (b ∷ inode_blocks es) (inode_blocks zs) (data_blocks es) (data_blocks zs) first r.says r.told r.inode r.target here;
  inode = inode_both w d b mine (named_pairs b es) (named_pairs d zs) (b ∷ inode_blocks es) (inode_blocks zs) (data_blocks es) (data_blocks zs) first r.says r.told r.inode r.target here;
  target = target_both w d b mine (named_pairs b es) (named_pairs d zs) (b ∷ inode_blocks es) (inode_blocks zs) (data_blocks es) (data_blocks zs) first r.says r.told r.inode r.target here;
})
  where
    same : dir n b es zs ≡ xs
    same = cc

    mine : has_number (names_at w d) b ≡ true
    mine = ap (has_number (names_at w d)) e ∙ own

    here : has_number (b ∷ inode_blocks es) b ≡ true
    here = or_left (b == b) _ (eq-eqb b b refl)

there_first : (n : Name) (x : InodeNode) (o : Option InodeEntries) (xs : InodeEntries) → with_first n x o ≡ Some xs → is_there x ≡ true
there_first n nothing None xs e = absurd (cc)
there_first n nothing (Some zs) xs e = absurd (cc)
there_first n (a_file f) o xs e = refl
there_first n (a_dir b es) o xs e = refl

module _ (w : World) (read : ℕ → InodeNode) (block : (c : ℕ) → is_there (read c) ≡ true → block_is (read c) c) (each : (c : ℕ) → is_there (read c) ≡ true → Says w (node_pairs (read c)) (node_blocks (read c)) (node_data (read c))) where
  pub entries_say : (d : ℕ) (es : List Entry) (xs : InodeEntries) → entries_by read es ≡ Some xs → ((c : ℕ) → has_number (map (λ e. e.block) es) c ≡ true → has_number (names_at w d) c ≡ true) → EntriesSay w d xs
  entries_say d [] xs h own = subst (EntriesSay w d) same (record { says = λ a c m. absurd (cc); told = λ a c m. absurd (cc); inode = λ a m. absurd (cc); target = λ a c m. absurd (cc) })
    where
      same : none ≡ xs
      same = cc
  entries_say d (e ∷ es) xs h own =
      let there = there_first e.name (read e.block) (entries_by read es) xs h in
      first_says w d e.block e.name (read e.block) (entries_by read es) xs (own e.block (or_left (e.block == e.block) _ (eq-eqb e.block e.block refl))) (block e.block there) h (each e.block there)
      (λ zs k. entries_say d es zs k (λ c m. own c (or_right (e.block == c) _ m)))

fan_says : (w : World) (b : ℕ) (bs : List ℕ) (a c : ℕ) → ((c : ℕ) → has_number bs c ≡ true → has_number (names_at w b) c ≡ true) → holds (map (λ k. (b, k)) bs) a c ≡ true → (has_number (names_at w a) c ≡ true) × (has_number bs c ≡ true)
fan_says w b [] a c own m = absurd (cc)
fan_says w b (k ∷ ks) a c own m = elim (or_cases (is_pair a c (b, k)) (holds (map (λ j. (b, j)) ks) a c) m) [
  | inl e ↦
      let parts = and_parts (b == a) (k == c) e in
      let in_it : has_number (k ∷ ks) c ≡ true = or_left (k == c) _ parts.1 in
      (subst (λ x. has_number (names_at w x) c ≡ true) (eqb-true b a parts.0) (own c in_it), in_it)
  | inr more ↦ let rest = fan_says w b ks a c (λ j n. own j (or_right (k == j) _ n)) more in (rest.0, or_right (k == c) _ rest.1)
]

module _ (w : World) (levels : ℕ) (ih : (c : ℕ) → is_there (node_at w levels c) ≡ true → Says w (node_pairs (node_at w levels c)) (node_blocks (node_at w levels c)) (node_data (node_at w levels c))) (b : ℕ) where
  -- what its block says
  own_names : (i : Inode) → inode_at w b ≡ Some i → names_at w b ≡ blocks_said i
  own_names i is = ap blocks_in is

  by_kind : (i : Inode) → inode_at w b ≡ Some i → is_there (node_by (node_at w levels) b (Some i)) ≡ true → Says w (node_pairs (node_by (node_at w levels) b (Some i))) (node_blocks (node_by (node_at w levels) b (Some i))) (node_data (node_by (node_at w levels) b (Some i)))
  by_kind (regular size blocks) is there =
      let own : (c : ℕ) → has_number blocks c ≡ true → has_number (names_at w b) c ≡ true = λ c m. ap (λ xs. has_number xs c) (own_names (regular size blocks) is) ∙ m in
      record {
        says = λ a c m. (fan_says w b blocks a c own m).0;
        told = λ a c m n. elim (or_cases (b == a) false m) [
          | inl e ↦ subst (λ x. holds (map (λ k. (b, k)) blocks) x c ≡ true) (eqb-true b a e)
              (fan_held b blocks c (ap (λ xs. has_number xs c) (sym (own_names (regular size blocks) is)) ∙ (ap (λ x. has_number (names_at w x) c) (eqb-true b a e) ∙ n)))
          | inr never ↦ absurd (cc)
        ];
        inode = λ a m. elim (or_cases (b == a) false m) [ inl e ↦ subst (λ x. is_some (inode_at w x) ≡ true) (eqb-true b a e) (ap is_some is) | inr never ↦ absurd (cc) ];
        target = λ a c m. or_right (has_number (b ∷ []) c) _ (fan_says w b blocks a c own m).1;
      }
  by_kind (directory es) is there =
      let d = dir_of b (entries_by (node_at w levels) es) there in
      let own : (c : ℕ) → has_number (map (λ e. e.block) es) c ≡ true → has_number (names_at w b) c ≡ true = λ c m. ap (λ xs. has_number xs c) (own_names (directory es) is) ∙ m in
      let all = entries_say w (node_at w levels) (λ c h. node_block w levels c h) ih b es d.0 d.1 own in
      let listed = are_listed (node_at w levels) (λ c h. node_block w levels c h) b es d.0 d.1 in
      subst (λ x. Says w (node_pairs x) (node_blocks x) (node_data x)) (sym (ap (as_dir b) d.1)) (record {
        says = all.says;
        told = λ a c m n. elim (or_cases (b == a) (has_number (inode_blocks d.0) a) m) [
          | inl e ↦ subst (λ x. holds (named_pairs b d.0) x c ≡ true) (eqb-true b a e)
              (listed.1 c (ap (λ xs. has_number xs c) (sym (own_names (directory es) is)) ∙ (ap (λ x. has_number (names_at w x) c) (eqb-true b a e) ∙ n))).1
          | inr more ↦ all.told a c more n
        ];
        inode = λ a m. elim (or_cases (b == a) (has_number (inode_blocks d.0) a) m) [ inl e ↦ subst (λ x. is_some (inode_at w x) ≡ true) (eqb-true b a e) (ap is_some is) | inr more ↦ all.inode a more ];
        target = λ a c m. elim (or_cases (has_number (inode_blocks d.0) c) (has_number (data_blocks d.0) c) (all.target a c m)) [
          | inl one ↦ or_left (has_number (b ∷ inode_blocks d.0) c) _ (or_right (b == c) _ one)
          | inr two ↦ or_right (has_number (b ∷ inode_blocks d.0) c) _ two
        ];
      })

  by_inode : (o : Option Inode) → inode_at w b ≡ o → is_there (node_by (node_at w levels) b o) ≡ true → Says w (node_pairs (node_by (node_at w levels) b o)) (node_blocks (node_by (node_at w levels) b o)) (node_data (node_by (node_at w levels) b o))
  by_inode None is there = absurd (cc)
  by_inode (Some i) is there = by_kind i is there

pub node_says : (w : World) (levels b : ℕ) → is_there (node_at w levels b) ≡ true → Says w (node_pairs (node_at w levels b)) (node_blocks (node_at w levels b)) (node_data (node_at w levels b))
node_says w zero b there = absurd (cc)
node_says w (suc levels) b there = by_inode w levels (λ c h. node_says w levels c h) b (inode_at w b) refl there
