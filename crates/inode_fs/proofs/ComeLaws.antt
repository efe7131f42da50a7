-- A look comes to what the tree names, where all is right, and to nothing else.
use Rattle.std.proofs.Common.{◌≡◌, ℕ, zero, suc, Bool, true, false, cond, ◌||◌, ◌==◌, List, [], ◌∷◌, ◌++◌, refl, sym, ◌∙◌, ap, subst, inl, inr, Option, Some, None}
use Rattle.inode_fs.proofs.Common.{and_parts, or_cases, or_left, or_right, eq-eqb, eqb-true, map, list_all, option_and_then, block_len, World, contents, has_number, are_apart, holds, is_pair, Name, none, file, dir, nothing, a_file, a_dir, is_there, Entry, only_if, Inode, directory, regular, inode_in, InodeNode, InodeEntries, inode_at, with_first, entries_by, as_dir, node_by, node_at, inode_blocks, data_blocks, named_pairs, said_in, in_order, is_in_order, blocks_said, in_two_steps, node_pairs, block_is, node_blocks, held_append, clash, are_held, Come, is_come, with_inode, with_data, come_data, come_each, come_on, come_by, come_from, if_held, held_at}
use Rattle.inode_fs.proofs.FitLaws.{Fits, Adds, fits_none, adds_none, fits_one, adds_one, fits_both, adds_both}

abbrev pub node_data : InodeNode → List ℕ
node_data nothing = []
node_data (a_file f) = f.blocks
node_data (a_dir b es) = data_blocks es

-- ---- an inode's own names

-- a file's blocks are apart
pub file_apart : (w : World) (b size : ℕ) (blocks : List ℕ) → inode_at w b ≡ Some (regular size blocks) → are_apart blocks ≡ true
file_apart w b size blocks h = by_bytes (contents w b) h
  where
    passed : (i : Inode) (t : Bool) → is_in_order i ≡ t → only_if t (λ _. Some i) ≡ Some (regular size blocks) → are_apart blocks ≡ true
    passed i true e k = let same : i ≡ regular size blocks = cc in ap is_in_order (sym same) ∙ e
    passed i false e k = absurd (cc)

    by_said : (o : Option Inode) → option_and_then in_order o ≡ Some (regular size blocks) → are_apart blocks ≡ true
    by_said None k = absurd (cc)
    by_said (Some i) k = passed i (is_in_order i) refl k

    by_bytes : (o : Option (List ℕ)) → option_and_then (inode_in (block_len w.geometry)) o ≡ Some (regular size blocks) → are_apart blocks ≡ true
    by_bytes None k = absurd (cc)
    by_bytes (Some x) k = by_said (said_in (block_len w.geometry) x) (sym (in_two_steps (block_len w.geometry) x) ∙ k)

-- what is held is an inode whose names are held
pub held_is : (w : World) (b : ℕ) (i : Inode) → held_at w b ≡ Some i → (inode_at w b ≡ Some i) × (are_held w b (blocks_said i) ≡ true)
held_is w b i h = by_inode (inode_at w b) h
  where
    passed : (j : Inode) (t : Bool) → are_held w b (blocks_said j) ≡ t → only_if t (λ _. Some j) ≡ Some i → (Some j ≡ Some i) × (are_held w b (blocks_said i) ≡ true)
    passed j true e k = let same : j ≡ i = cc in (k, ap (λ x. are_held w b (blocks_said x)) (sym same) ∙ e)
    passed j false e k = absurd (cc)

    by_inode : (o : Option Inode) → option_and_then (if_held w b) o ≡ Some i → (o ≡ Some i) × (are_held w b (blocks_said i) ≡ true)
    by_inode None k = absurd (cc)
    by_inode (Some j) k = passed j (are_held w b (blocks_said j)) refl k

pub is_held : (w : World) (b : ℕ) (i : Inode) → inode_at w b ≡ Some i → are_held w b (blocks_said i) ≡ true → held_at w b ≡ Some i
is_held w b i e h = ap (option_and_then (if_held w b)) e ∙ ap (λ t. only_if t (λ _. Some i)) h

-- ---- a file's blocks

pub data_right : (bs : List ℕ) (s t : Come) → come_data bs s ≡ Some t → Fits s [] bs × Adds s t [] bs
data_right [] s t h = let same : s ≡ t = cc in (fits_none s, subst (λ u. Adds s u [] []) same (adds_none s))
data_right (b ∷ bs) s t h = by_test (λ k. data_right bs (with_data s b) t k) (has_number s.inodes b) refl h
  where
    four : (p q r : Bool) → (q || (p || r)) ≡ ((p || q) || r)
    four true true r = refl
    four true false r = refl
    four false q r = refl

    by_test : (come_data bs (with_data s b) ≡ Some t → Fits (with_data s b) [] bs × Adds (with_data s b) t [] bs) → (u : Bool) → has_number s.inodes b ≡ u → cond u None (come_data bs (with_data s b)) ≡ Some t → Fits s [] (b ∷ bs) × Adds s t [] (b ∷ bs)
    by_test ih true e k = absurd (cc)
    by_test ih false e k =
        let rest = ih k in (
          record {
            apart = refl;
            new = λ c m. absurd (cc);
            other = λ c m. elim (or_cases (b == c) (has_number bs c) m) [
              | inl here ↦ (ap (has_number s.inodes) (sym (eqb-true b c here)) ∙ e, refl)
              | inr later ↦ rest.0.other c later
            ];
          },
          record {
            inodes = rest.1.inodes;
            bytes = λ c. rest.1.bytes c ∙ four (b == c) (has_number bs c) (has_number s.bytes c);
          },
        )

pub data_wrong : (bs : List ℕ) (s : Come) → ◌≡◌ {A = Option Come} (come_data bs s) None → Fits s [] bs → ⊥
data_wrong [] s h fits = cc
data_wrong (b ∷ bs) s h fits = by_test (λ k f. data_wrong bs (with_data s b) k f) (has_number s.inodes b) refl h
  where
    by_test : (◌≡◌ {A = Option Come} (come_data bs (with_data s b)) None → Fits (with_data s b) [] bs → ⊥) → (u : Bool) → has_number s.inodes b ≡ u → ◌≡◌ {A = Option Come} (cond u None (come_data bs (with_data s b))) None → ⊥
    by_test ih true e k = clash (has_number s.inodes b) e (fits.other b (or_left (b == b) _ (eq-eqb b b refl))).0
    by_test ih false e k = ih k (record { apart = refl; new = λ c m. absurd (cc); other = λ c m. fits.other c (or_right (b == c) _ m) })

-- ---- a node

pub AllHeld : World → List (ℕ × ℕ) → Type 0
AllHeld w es = (a b : ℕ) → holds es a b ≡ true → holds w.pairs a b ≡ true

pub record NodeRight (w : World) (s t : Come) (b : ℕ) (x : InodeNode) : Type 0 where
  pub there : is_there x ≡ true
  pub block : block_is x b
  pub held : (a c : ℕ) → holds (node_pairs x) a c ≡ true → holds w.pairs a c ≡ true
  pub fits : Fits s (node_blocks x) (node_data x)
  pub adds : Adds s t (node_blocks x) (node_data x)

pub record EntriesRight (w : World) (s t : Come) (d : ℕ) (xs : InodeEntries) : Type 0 where
  pub held : (a c : ℕ) → holds (named_pairs d xs) a c ≡ true → holds w.pairs a c ≡ true
  pub fits : Fits s (inode_blocks xs) (data_blocks xs)
  pub adds : Adds s t (inode_blocks xs) (data_blocks xs)

-- the pairs of an entry and those of the others
pair_before : (w : World) (d k : ℕ) (ps qs : List (ℕ × ℕ)) → holds w.pairs d k ≡ true → ((a c : ℕ) → holds ps a c ≡ true → holds w.pairs a c ≡ true) → ((a c : ℕ) → holds qs a c ≡ true → holds w.pairs a c ≡ true)
    → (a c : ℕ) → holds ((d, k) ∷ (ps ++ qs)) a c ≡ true → holds w.pairs a c ≡ true
pair_before w d k ps qs here own later a c h = elim (or_cases (is_pair a c (d, k)) (holds (ps ++ qs) a c) h) [
  | inl e ↦ let parts = and_parts (d == a) (k == c) e in ap (λ x. holds w.pairs x c) (sym (eqb-true d a parts.0)) ∙ (ap (holds w.pairs d) (sym (eqb-true k c parts.1)) ∙ here)
  | inr more ↦ elim (held_append ps qs a c more) [ inl one ↦ own a c one | inr two ↦ later a c two ]
]

-- a directory's first entry, and the others
first_right : (w : World) (s u t : Come) (d : ℕ) (n : Name) (k : ℕ) (x : InodeNode) (xs : InodeEntries) → holds w.pairs d k ≡ true → NodeRight w s u k x → EntriesRight w u t d xs
    → (ys : InodeEntries) × (with_first n x (Some xs) ≡ Some ys) × EntriesRight w s t d ys
first_right w s u t d n k nothing xs here one more = absurd (let no = one.there in cc)
first_right w s u t d n k (a_file f) xs here one more = (
  file n f xs,
  refl,
  record {
    held = pair_before w d f.block (map (λ c. (f.block, c)) f.blocks) (named_pairs d xs) (ap (holds w.pairs d) one.block ∙ here) one.held more.held;
    fits = fits_both s u (f.block ∷ []) f.blocks (inode_blocks xs) (data_blocks xs) one.fits one.adds more.fits;
    adds = adds_both s u (f.block ∷ []) f.blocks (inode_blocks xs) (data_blocks xs) t one.adds more.adds;
  },
)
first_right w s u t d n k (a_dir b es) xs here one more = (
  dir n b es xs,
  refl,
  record {
    held = pair_before w d b (named_pairs b es) (named_pairs d xs) (ap (holds w.pairs d) one.block ∙ here) one.held more.held;
    fits = fits_both s u (b ∷ inode_blocks es) (data_blocks es) (inode_blocks xs) (data_blocks xs) one.fits one.adds more.fits;
    adds = adds_both s u (b ∷ inode_blocks es) (data_blocks es) (inode_blocks xs) (data_blocks xs) t one.adds more.adds;
  },
)

module _ (w : World) (visit : ℕ → Come → Option Come) (read : ℕ → InodeNode) (right : (b : ℕ) (s t : Come) → visit b s ≡ Some t → NodeRight w s t b (read b)) where
  pub each_right : (d : ℕ) (es : List Entry) (s t : Come) → list_all (holds w.pairs d) (map (λ e. e.block) es) ≡ true → come_each visit (map (λ e. e.block) es) s ≡ Some t
      → (xs : InodeEntries) × (entries_by read es ≡ Some xs) × EntriesRight w s t d xs
  each_right d [] s t held h = let same : s ≡ t = cc in
      (none, refl, record { held = λ a c m. absurd (cc); fits = fits_none s; adds = subst (λ u. Adds s u [] []) same (adds_none s) })
  each_right d (e ∷ es) s t held h = by_first (λ u k. each_right d es u t (and_parts (holds w.pairs d e.block) (list_all (holds w.pairs d) (map (λ f. f.block) es)) held).1 k) (visit e.block s) refl h
    where
      by_first : ((u : Come) → come_each visit (map (λ f. f.block) es) u ≡ Some t → (xs : InodeEntries) × (entries_by read es ≡ Some xs) × EntriesRight w u t d xs) → (o : Option Come) → visit e.block s ≡ o → option_and_then (come_each visit (map (λ f. f.block) es)) o ≡ Some t → (xs : InodeEntries) × (entries_by read (e ∷ es) ≡ Some xs) × EntriesRight w s t d xs
      by_first ih None v k = absurd (cc)
      by_first ih (Some u) v k =
          let parts = and_parts (holds w.pairs d e.block) (list_all (holds w.pairs d) (map (λ f. f.block) es)) held in
          let rest = ih u k in
          let all = first_right w s u t d e.name e.block (read e.block) rest.0 parts.0 (right e.block s u v) rest.2 in
          (all.0, ap (with_first e.name (read e.block)) rest.1 ∙ all.1, all.2)

fan_held_all : (w : World) (b : ℕ) (bs : List ℕ) → list_all (holds w.pairs b) bs ≡ true → (a c : ℕ) → holds (map (λ k. (b, k)) bs) a c ≡ true → holds w.pairs a c ≡ true
fan_held_all w b [] h a c m = absurd (cc)
fan_held_all w b (k ∷ ks) h a c m =
    let parts = and_parts (holds w.pairs b k) (list_all (holds w.pairs b) ks) h in
    pair_before w b k [] (map (λ j. (b, j)) ks) parts.0 (λ x y n. absurd (cc)) (fan_held_all w b ks parts.1) a c m

module _ (w : World) (levels : ℕ) (ih : (c : ℕ) (u v : Come) → come_from w levels c u ≡ Some v → NodeRight w u v c (node_at w levels c)) (b : ℕ) (s t : Come) where
  by_kind : (i : Inode) → is_come s b ≡ false → inode_at w b ≡ Some i → are_held w b (blocks_said i) ≡ true → come_on (come_from w levels) i (with_inode s b) ≡ Some t → NodeRight w s t b (node_at w (suc levels) b)
  by_kind (regular size blocks) new is held k =
      let own = data_right blocks (with_inode s b) t k in
      subst (NodeRight w s t b) (sym (ap (node_by (node_at w levels) b) is)) (record {
        there = refl;
        block = refl;
        held = fan_held_all w b blocks (and_parts (are_apart blocks) _ held).1;
        fits = fits_both s (with_inode s b) (b ∷ []) [] [] blocks (fits_one s b new) (adds_one s b) own.0;
        adds = adds_both s (with_inode s b) (b ∷ []) [] [] blocks t (adds_one s b) own.1;
      })
  by_kind (directory es) new is held k =
      let all = each_right w (come_from w levels) (node_at w levels) ih b es (with_inode s b) t (and_parts (are_apart (map (λ e. e.block) es)) _ held).1 k in
      subst (NodeRight w s t b) (sym (ap (node_by (node_at w levels) b) is ∙ ap (as_dir b) all.1)) (record {
        there = refl;
        block = refl;
        held = all.2.held;
        fits = fits_both s (with_inode s b) (b ∷ []) [] (inode_blocks all.0) (data_blocks all.0) (fits_one s b new) (adds_one s b) all.2.fits;
        adds = adds_both s (with_inode s b) (b ∷ []) [] (inode_blocks all.0) (data_blocks all.0) t (adds_one s b) all.2.adds;
      })

  by_inode : (o : Option Inode) → is_come s b ≡ false → held_at w b ≡ o → come_by (come_from w levels) b o s ≡ Some t → NodeRight w s t b (node_at w (suc levels) b)
  by_inode None new e k = absurd (cc)
  by_inode (Some i) new e k = let held = held_is w b i e in by_kind i new held.0 held.1 k

  by_come : (u : Bool) → is_come s b ≡ u → cond u None (come_by (come_from w levels) b (held_at w b) s) ≡ Some t → NodeRight w s t b (node_at w (suc levels) b)
  by_come true e k = absurd (cc)
  by_come false e k = by_inode (held_at w b) e refl k

pub node_right : (w : World) (levels b : ℕ) (s t : Come) → come_from w levels b s ≡ Some t → NodeRight w s t b (node_at w levels b)
node_right w zero b s t h = absurd (cc)
node_right w (suc levels) b s t h = by_come w levels (λ c u v k. node_right w levels c u v k) b s t (is_come s b) refl h
