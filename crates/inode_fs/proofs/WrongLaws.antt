-- Where a look comes to nothing, there is no tree.
use Rattle.std.proofs.Common.{◌≡◌, ℕ, zero, suc, Bool, true, false, cond, ◌==◌, List, [], ◌∷◌, ◌++◌, refl, sym, ◌∙◌, ap, subst, inl, inr, Option, Some, None}
use Rattle.inode_fs.proofs.Common.{and_from, or_cases, or_left, or_right, eq-eqb, eqb-true, map, option_and_then, World, has_number, are_apart, holds, is_pair, Name, file, dir, nothing, a_file, a_dir, is_there, Entry, Inode, directory, regular, InodeNode, InodeEntries, inode_at, with_first, entries_by, as_dir, node_by, node_at, inode_blocks, data_blocks, named_pairs, blocks_said, node_pairs, block_is, node_block, node_blocks, number_right, held_left, held_right, clash, is_false, apart_first, apart_with, each_in, are_held, Come, is_come, with_inode, come_each, come_on, come_by, come_from, held_at}
use Rattle.inode_fs.proofs.FitLaws.{apart_right, Fits, Adds, adds_one, first_fits, second_fits}
use Rattle.inode_fs.proofs.ComeLaws.{node_data, file_apart, held_is, is_held, data_wrong, NodeRight, node_right}

-- a node that would be right
pub record NodeGood (w : World) (s : Come) (x : InodeNode) : Type 0 where
  pub there : is_there x ≡ true
  pub held : (a c : ℕ) → holds (node_pairs x) a c ≡ true → holds w.pairs a c ≡ true
  pub fits : Fits s (node_blocks x) (node_data x)

pub record EntriesGood (w : World) (s : Come) (d : ℕ) (xs : InodeEntries) : Type 0 where
  pub held : (a c : ℕ) → holds (named_pairs d xs) a c ≡ true → holds w.pairs a c ≡ true
  pub fits : Fits s (inode_blocks xs) (data_blocks xs)

pair_first : (d k : ℕ) (ps : List (ℕ × ℕ)) → holds ((d, k) ∷ ps) d k ≡ true
pair_first d k ps = or_left (is_pair d k (d, k)) _ (and_from (d == d) (k == k) (eq-eqb d d refl) (eq-eqb k k refl))

-- ---- what the names of a directory are

-- the first entry of a directory that is there, and the others
abbrev FirstParts : World → Come → ℕ → InodeNode → Option InodeEntries → Type 0
FirstParts w s d x o = NodeGood w s x × ((zs : InodeEntries) × (o ≡ Some zs) × ((u : Come) → Adds s u (node_blocks x) (node_data x) → EntriesGood w u d zs))

first_parts : (w : World) (s : Come) (d : ℕ) (n : Name) (x : InodeNode) (o : Option InodeEntries) (xs : InodeEntries) → with_first n x o ≡ Some xs → EntriesGood w s d xs → FirstParts w s d x o
first_parts w s d n nothing None xs e good = absurd (cc)
first_parts w s d n nothing (Some zs) xs e good = absurd (cc)
first_parts w s d n (a_file f) None xs e good = absurd (cc)
first_parts w s d n (a_file f) (Some zs) xs e good = by_same (subst (EntriesGood w s d) (sym same) good)
  where
    same : file n f zs ≡ xs
    same = cc

    own : List (ℕ × ℕ)
    own = map (λ c. (f.block, c)) f.blocks

    by_same : EntriesGood w s d (file n f zs) → FirstParts w s d (a_file f) (Some zs)
    by_same g = (
      record {
        there = refl;
        held = λ a c m. g.held a c (or_right (is_pair a c (d, f.block)) _ (held_left (map (λ k. (f.block, k)) f.blocks) (named_pairs d zs) a c m));
        fits = first_fits s s (f.block ∷ []) f.blocks (inode_blocks zs) (data_blocks zs) g.fits;
      },
      (
        zs,
        refl,
        λ u adds. record {
          held = λ a c m. g.held a c (or_right (is_pair a c (d, f.block)) _ (held_right (map (λ k. (f.block, k)) f.blocks) (named_pairs d zs) a c m));
          fits = second_fits s u (f.block ∷ []) f.blocks (inode_blocks zs) (data_blocks zs) g.fits adds;
        },
      ),
    )
first_parts w s d n (a_dir b es) None xs e good = absurd (cc)
first_parts w s d n (a_dir b es) (Some zs) xs e good = by_same (subst (EntriesGood w s d) (sym same) good)
  where
    same : dir n b es zs ≡ xs
    same = cc

    by_same : EntriesGood w s d (dir n b es zs) → FirstParts w s d (a_dir b es) (Some zs)
    by_same g = (
      record {
        there = refl;
        held = λ a c m. g.held a c (or_right (is_pair a c (d, b)) _ (held_left (named_pairs b es) (named_pairs d zs) a c m));
        fits = first_fits s s (b ∷ inode_blocks es) (data_blocks es) (inode_blocks zs) (data_blocks zs) g.fits;
      },
      (
        zs,
        refl,
        λ u adds. record {
          held = λ a c m. g.held a c (or_right (is_pair a c (d, b)) _ (held_right (named_pairs b es) (named_pairs d zs) a c m));
          fits = second_fits s u (b ∷ inode_blocks es) (data_blocks es) (inode_blocks zs) (data_blocks zs) g.fits adds;
        },
      ),
    )

-- what an entry names is an inode among those below, and a pair leads to it
abbrev Listed : ℕ → List ℕ → InodeEntries → Type 0
Listed d bs xs = (are_apart (inode_blocks xs) ≡ true → are_apart bs ≡ true) × ((c : ℕ) → has_number bs c ≡ true → (has_number (inode_blocks xs) c ≡ true) × (holds (named_pairs d xs) d c ≡ true))

listed_first : (d k : ℕ) (n : Name) (x : InodeNode) (bs : List ℕ) (o : Option InodeEntries) (xs : InodeEntries) → block_is x k → with_first n x o ≡ Some xs → ((zs : InodeEntries) → o ≡ Some zs → Listed d bs zs) → Listed d (k ∷ bs) xs
listed_first d k n nothing bs None xs own e rest = absurd own
listed_first d k n nothing bs (Some zs) xs own e rest = absurd own
listed_first d k n (a_file f) bs None xs own e rest = absurd (cc)
listed_first d k n (a_dir b es) bs None xs own e rest = absurd (cc)
listed_first d k n (a_file f) bs (Some zs) xs own e rest = subst (Listed d (k ∷ bs)) same (subst (λ j. Listed d (j ∷ bs) (file n f zs)) own here)
  where
    same : file n f zs ≡ xs
    same = cc

    here : Listed d (f.block ∷ bs) (file n f zs)
    here = (
      λ h. let parts = apart_first f.block (inode_blocks zs) h in
          apart_with f.block bs (is_false (has_number bs f.block) (λ m. clash (has_number (inode_blocks zs) f.block) ((rest zs refl).1 f.block m).0 parts.0)) ((rest zs refl).0 parts.1),
      λ c m. elim (or_cases (f.block == c) (has_number bs c) m) [
        | inl q ↦ (or_left (f.block == c) _ q, subst (λ j. holds (named_pairs d (file n f zs)) d j ≡ true) (eqb-true f.block c q) (pair_first d f.block _))
        | inr more ↦ let r = (rest zs refl).1 c more in (or_right (f.block == c) _ r.0, or_right (is_pair d c (d, f.block)) _ (held_right (map (λ j. (f.block, j)) f.blocks) (named_pairs d zs) d c r.1))
      ],
    )
listed_first d k n (a_dir b es) bs (Some zs) xs own e rest = subst (Listed d (k ∷ bs)) same (subst (λ j. Listed d (j ∷ bs) (dir n b es zs)) own here)
  where
    same : dir n b es zs ≡ xs
    same = cc

    here : Listed d (b ∷ bs) (dir n b es zs)
    here = (
      λ h. let parts = apart_first b (inode_blocks es ++ inode_blocks zs) h in
          apart_with b bs (is_false (has_number bs b) (λ m. clash (has_number (inode_blocks es ++ inode_blocks zs) b) (number_right (inode_blocks es) (inode_blocks zs) b ((rest zs refl).1 b m).0) parts.0)) ((rest zs refl).0 (apart_right (inode_blocks es) (inode_blocks zs) parts.1)),
      λ c m. elim (or_cases (b == c) (has_number bs c) m) [
        | inl q ↦ (or_left (b == c) _ q, subst (λ j. holds (named_pairs d (dir n b es zs)) d j ≡ true) (eqb-true b c q) (pair_first d b _))
        | inr more ↦ let r = (rest zs refl).1 c more in (or_right (b == c) _ (number_right (inode_blocks es) (inode_blocks zs) c r.0), or_right (is_pair d c (d, b)) _ (held_right (named_pairs b es) (named_pairs d zs) d c r.1))
      ],
    )

there_first : (n : Name) (x : InodeNode) (o : Option InodeEntries) (xs : InodeEntries) → with_first n x o ≡ Some xs → is_there x ≡ true
there_first n nothing None xs e = absurd (cc)
there_first n nothing (Some zs) xs e = absurd (cc)
there_first n (a_file f) o xs e = refl
there_first n (a_dir b es) o xs e = refl

pub are_listed : (read : ℕ → InodeNode) → ((c : ℕ) → is_there (read c) ≡ true → block_is (read c) c) → (d : ℕ) (es : List Entry) (xs : InodeEntries) → entries_by read es ≡ Some xs → Listed d (map (λ e. e.block) es) xs
are_listed read block d [] xs h = (λ k. refl, λ c m. absurd (cc))
are_listed read block d (e ∷ es) xs h = listed_first d e.block e.name (read e.block) (map (λ f. f.block) es) (entries_by read es) xs (block e.block (there_first e.name (read e.block) (entries_by read es) xs h)) h (λ zs k. are_listed read block d es zs k)

-- ---- a directory

module _ (w : World) (visit : ℕ → Come → Option Come) (read : ℕ → InodeNode) (right : (b : ℕ) (s t : Come) → visit b s ≡ Some t → NodeRight w s t b (read b)) (wrong : (b : ℕ) (s : Come) → ◌≡◌ {A = Option Come} (visit b s) None → NodeGood w s (read b) → ⊥) where
  by_first : (d k : ℕ) (n : Name) (bs : List ℕ) (s : Come) (o : Option InodeEntries) → ((u : Come) (zs : InodeEntries) → o ≡ Some zs → ◌≡◌ {A = Option Come} (come_each visit bs u) None → EntriesGood w u d zs → ⊥)
      → (v : Option Come) → visit k s ≡ v → ◌≡◌ {A = Option Come} (option_and_then (come_each visit bs) v) None → (xs : InodeEntries) → with_first n (read k) o ≡ Some xs → EntriesGood w s d xs → ⊥
  by_first d k n bs s o ih None e h xs is good = wrong k s e (first_parts w s d n (read k) o xs is good).0
  by_first d k n bs s o ih (Some u) e h xs is good =
      let parts = first_parts w s d n (read k) o xs is good in
      ih u parts.1.0 parts.1.1 h (parts.1.2 u (right k s u e).adds)

  pub each_wrong : (d : ℕ) (es : List Entry) (s : Come) → ◌≡◌ {A = Option Come} (come_each visit (map (λ e. e.block) es) s) None → (xs : InodeEntries) → entries_by read es ≡ Some xs → EntriesGood w s d xs → ⊥
  each_wrong d [] s h xs is good = cc
  each_wrong d (e ∷ es) s h xs is good = by_first d e.block e.name (map (λ f. f.block) es) s (entries_by read es) (λ u zs k m g. each_wrong d es u m zs k g) (visit e.block s) refl h xs is good

-- ---- a node

pub fan_held : (b : ℕ) (bs : List ℕ) (c : ℕ) → has_number bs c ≡ true → holds (map (λ k. (b, k)) bs) b c ≡ true
fan_held b [] c m = absurd (cc)
fan_held b (k ∷ ks) c m = elim (or_cases (k == c) (has_number ks c) m) [
  | inl e ↦ or_left (is_pair b c (b, k)) _ (and_from (b == b) (k == c) (eq-eqb b b refl) e)
  | inr more ↦ or_right (is_pair b c (b, k)) _ (fan_held b ks c more)
]

none_held : (w : World) (b : ℕ) (i : Inode) → ◌≡◌ {A = Option Inode} (held_at w b) None → inode_at w b ≡ Some i → are_held w b (blocks_said i) ≡ true → ⊥
none_held w b i gone is held = clash (held_at w b) gone (is_held w b i is held)
  where
    clash : (o : Option Inode) → ◌≡◌ {A = Option Inode} o None → o ≡ Some i → ⊥
    clash o p q = cc

pub dir_of : (b : ℕ) (o : Option InodeEntries) → is_there (as_dir b o) ≡ true → (xs : InodeEntries) × (o ≡ Some xs)
dir_of b None h = absurd (cc)
dir_of b (Some xs) h = (xs, refl)

module _ (w : World) (levels : ℕ) (ih : (c : ℕ) (u : Come) → ◌≡◌ {A = Option Come} (come_from w levels c u) None → NodeGood w u (node_at w levels c) → ⊥) (b : ℕ) (s : Come) where
  entries_of : (es : List Entry) → inode_at w b ≡ Some (directory es) → NodeGood w s (node_at w (suc levels) b) → (xs : InodeEntries) × (entries_by (node_at w levels) es ≡ Some xs) × NodeGood w s (a_dir b xs)
  entries_of es is good =
      let here : node_at w (suc levels) b ≡ as_dir b (entries_by (node_at w levels) es) = ap (node_by (node_at w levels) b) is in
      let d = dir_of b (entries_by (node_at w levels) es) (ap is_there (sym here) ∙ good.there) in
      (d.0, d.1, subst (NodeGood w s) (here ∙ ap (as_dir b) d.1) good)

  -- its own names are held
  own_held : (i : Inode) → inode_at w b ≡ Some i → NodeGood w s (node_at w (suc levels) b) → are_held w b (blocks_said i) ≡ true
  own_held (regular size blocks) is good =
      let g = subst (NodeGood w s) (ap (node_by (node_at w levels) b) is) good in
      and_from (are_apart blocks) _ (file_apart w b size blocks is) (each_in (holds w.pairs b) blocks (λ c m. g.held b c (fan_held b blocks c m)))
  own_held (directory es) is good =
      let g = entries_of es is good in
      let listed = are_listed (node_at w levels) (λ c there. node_block w levels c there) b es g.0 g.1 in
      and_from (are_apart (map (λ e. e.block) es)) _ (listed.0 (apart_first b (inode_blocks g.0) g.2.fits.apart).1) (each_in (holds w.pairs b) (map (λ e. e.block) es) (λ c m. g.2.held b c (listed.1 c m).1))

  by_kind : (i : Inode) → is_come s b ≡ false → inode_at w b ≡ Some i → ◌≡◌ {A = Option Come} (come_on (come_from w levels) i (with_inode s b)) None → NodeGood w s (node_at w (suc levels) b) → ⊥
  by_kind (regular size blocks) new is h good =
      let g = subst (NodeGood w s) (ap (node_by (node_at w levels) b) is) good in
      data_wrong blocks (with_inode s b) h (second_fits s (with_inode s b) (b ∷ []) [] [] blocks g.fits (adds_one s b))
  by_kind (directory es) new is h good =
      let g = entries_of es is good in
      each_wrong w (come_from w levels) (node_at w levels) (λ c u v k. node_right w levels c u v k) ih b es (with_inode s b) h g.0 g.1
      (record { held = g.2.held; fits = second_fits s (with_inode s b) (b ∷ []) [] (inode_blocks g.0) (data_blocks g.0) g.2.fits (adds_one s b) })

  inode_there : (o : Option Inode) → inode_at w b ≡ o → NodeGood w s (node_at w (suc levels) b) → (i : Inode) × (inode_at w b ≡ Some i)
  inode_there None e good = let no = subst (NodeGood w s) (ap (node_by (node_at w levels) b) e) good in absurd (let there = no.there in cc)
  inode_there (Some i) e good = (i, e)

  by_held : (o : Option Inode) → is_come s b ≡ false → held_at w b ≡ o → ◌≡◌ {A = Option Come} (come_by (come_from w levels) b o s) None → NodeGood w s (node_at w (suc levels) b) → ⊥
  by_held None new e h good = let i = inode_there (inode_at w b) refl good in none_held w b i.0 e i.1 (own_held i.0 i.1 good)
  by_held (Some i) new e h good = by_kind i new (held_is w b i e).0 h good

  own_block : (x : InodeNode) → block_is x b → has_number (node_blocks x) b ≡ true
  own_block nothing e = absurd e
  own_block (a_file f) e = or_left (f.block == b) _ (eq-eqb f.block b e)
  own_block (a_dir c es) e = or_left (c == b) _ (eq-eqb c b e)

  by_come : (u : Bool) → is_come s b ≡ u → ◌≡◌ {A = Option Come} (cond u None (come_by (come_from w levels) b (held_at w b) s)) None → NodeGood w s (node_at w (suc levels) b) → ⊥
  by_come true e h good = clash (is_come s b) e (good.fits.new b (own_block (node_at w (suc levels) b) (node_block w (suc levels) b good.there)))
  by_come false e h good = by_held (held_at w b) e refl h good

pub node_wrong : (w : World) (levels b : ℕ) (s : Come) → ◌≡◌ {A = Option Come} (come_from w levels b s) None → NodeGood w s (node_at w levels b) → ⊥
node_wrong w zero b s h good = let there = good.there in cc
node_wrong w (suc levels) b s h good = by_come w levels (λ c u k g. node_wrong w levels c u k g) b s (is_come s b) refl h good
