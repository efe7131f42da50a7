-- What stands under a root, and one name further.
use Rattle.std.proofs.Common.{◌≡◌, ℕ, zero, suc, true, false, cond, ◌==◌, List, [], ◌∷◌, ◌++◌, refl, sym, ◌∙◌, ap, subst, Option, Some, None}
use Rattle.inode_walks.proofs.Common.{and_parts, and_from, or_left, or_right, eq-eqb, map, ⊤, World, are_apart, holds, is_pair, Name, Path, path_max, name_lt, Entries, none, file, dir, nothing, a_file, a_dir, entry, child, is_there, Entry, Inode, directory, regular, block_named, InodeNode, InodeEntries, FileInode, inode_at, with_first, entries_by, as_dir, node_by, node_at, inode_blocks, named_pairs, inodes_under, tree_of, inode_tree, FsRefusal, read_named, entry_is_read, tree-at, node_pairs, not_found}
use Rattle.std.specs.List.{list_all}
use Rattle.tsd_model.proofs.PairLaws.{all_of_held}
use Rattle.fs_trees.specs.declared.refusal.FsRefusal.TheVariants as no
use Rattle.fs_laws.proofs.InodeLaws.{found, under_is}
use Rattle.fs_laws.proofs.ListLaws.{held_left, held_right}

-- ---- what is named in a directory is pointed to

-- the pairs below an entry are among those of the directory
pub entry_pairs : (d : ℕ) (n : Name) (es : InodeEntries) (a b : ℕ) → holds (node_pairs (entry n es)) a b ≡ true → holds (named_pairs d es) a b ≡ true
entry_pairs d n none a b h = absurd (cc)
entry_pairs d n (file m f rest) a b h =
    let own : List (ℕ × ℕ) = map (λ c. (f.block, c)) f.blocks in
    elim (name_lt n m) as (λ t. holds (node_pairs (cond t nothing (cond (name_lt m n) (entry n rest) (a_file f)))) a b ≡ true → holds ((d, f.block) ∷ (own ++ named_pairs d rest)) a b ≡ true) [
      | true ↦ λ g. absurd (cc)
      | false ↦ elim (name_lt m n) as (λ t. holds (node_pairs (cond t (entry n rest) (a_file f))) a b ≡ true → holds ((d, f.block) ∷ (own ++ named_pairs d rest)) a b ≡ true) [
        | true ↦ λ g. or_right (is_pair a b (d, f.block)) _ (held_right own (named_pairs d rest) a b (entry_pairs d n rest a b g))
        | false ↦ λ g. or_right (is_pair a b (d, f.block)) _ (held_left own (named_pairs d rest) a b g)
      ]
    ] h
entry_pairs d n (dir m c inside rest) a b h =
    elim (name_lt n m) as (λ t. holds (node_pairs (cond t nothing (cond (name_lt m n) (entry n rest) (a_dir c inside)))) a b ≡ true → holds ((d, c) ∷ (named_pairs c inside ++ named_pairs d rest)) a b ≡ true) [
      | true ↦ λ g. absurd (cc)
      | false ↦ elim (name_lt m n) as (λ t. holds (node_pairs (cond t (entry n rest) (a_dir c inside))) a b ≡ true → holds ((d, c) ∷ (named_pairs c inside ++ named_pairs d rest)) a b ≡ true) [
        | true ↦ λ g. or_right (is_pair a b (d, c)) _ (held_right (named_pairs c inside) (named_pairs d rest) a b (entry_pairs d n rest a b g))
        | false ↦ λ g. or_right (is_pair a b (d, c)) _ (held_left (named_pairs c inside) (named_pairs d rest) a b g)
      ]
    ] h

-- the block of a node
abbrev pub block_is : InodeNode → ℕ → Type 0
block_is nothing c = ⊥
block_is (a_file f) c = f.block ≡ c
block_is (a_dir b es) c = b ≡ c

pair_here : (d c b : ℕ) (es : List (ℕ × ℕ)) → b ≡ c → holds ((d, b) ∷ es) d c ≡ true
pair_here d c b es e = or_left (is_pair d c (d, b)) _ (and_from (d == d) (b == c) (eq-eqb d d refl) (eq-eqb b c e))

-- the pair to an entry
pub entry_pair : (d : ℕ) (n : Name) (es : InodeEntries) (c : ℕ) → block_is (entry n es) c → holds (named_pairs d es) d c ≡ true
entry_pair d n none c h = absurd h
entry_pair d n (file m f rest) c h =
    let own : List (ℕ × ℕ) = map (λ k. (f.block, k)) f.blocks in
    elim (name_lt n m) as (λ t. block_is (cond t nothing (cond (name_lt m n) (entry n rest) (a_file f))) c → holds ((d, f.block) ∷ (own ++ named_pairs d rest)) d c ≡ true) [
      | true ↦ λ g. absurd g
      | false ↦ elim (name_lt m n) as (λ t. block_is (cond t (entry n rest) (a_file f)) c → holds ((d, f.block) ∷ (own ++ named_pairs d rest)) d c ≡ true) [
        | true ↦ λ g. or_right (is_pair d c (d, f.block)) _ (held_right own (named_pairs d rest) d c (entry_pair d n rest c g))
        | false ↦ λ g. pair_here d c f.block (own ++ named_pairs d rest) g
      ]
    ] h
entry_pair d n (dir m k inside rest) c h =
    elim (name_lt n m) as (λ t. block_is (cond t nothing (cond (name_lt m n) (entry n rest) (a_dir k inside))) c → holds ((d, k) ∷ (named_pairs k inside ++ named_pairs d rest)) d c ≡ true) [
      | true ↦ λ g. absurd g
      | false ↦ elim (name_lt m n) as (λ t. block_is (cond t (entry n rest) (a_dir k inside)) c → holds ((d, k) ∷ (named_pairs k inside ++ named_pairs d rest)) d c ≡ true) [
        | true ↦ λ g. or_right (is_pair d c (d, k)) _ (held_right (named_pairs k inside) (named_pairs d rest) d c (entry_pair d n rest c g))
        | false ↦ λ g. pair_here d c k (named_pairs k inside ++ named_pairs d rest) g
      ]
    ] h

-- ---- a node, by what its block says

dir_there : (read : ℕ → InodeNode) (b : ℕ) (es : List Entry) (o : Option InodeEntries) → entries_by read es ≡ o → is_there (as_dir b o) ≡ true → (xs : InodeEntries) × (entries_by read es ≡ Some xs) × (as_dir b o ≡ a_dir b xs)
dir_there read b es None e h = absurd (cc)
dir_there read b es (Some xs) e h = (xs, e, refl)

own_block : (read : ℕ → InodeNode) (b : ℕ) (o : Option Inode) → is_there (node_by read b o) ≡ true → block_is (node_by read b o) b
own_block read b None h = absurd (cc)
own_block read b (Some (regular size blocks)) h = refl
own_block read b (Some (directory es)) h = let d = dir_there read b es (entries_by read es) refl h in subst (λ x. block_is x b) (sym d.2) refl

-- a node's block is that from which it is read
pub node_block : (w : World) (more b : ℕ) → is_there (node_at w more b) ≡ true → block_is (node_at w more b) b
node_block w zero b h = absurd (cc)
node_block w (suc more) b h = own_block (λ c. node_at w more c) b (inode_at w b) h

module _ (w : World) (more b : ℕ) (there : is_there (node_at w (suc more) b) ≡ true) where
  pub file_node : (size : ℕ) (blocks : List ℕ) → inode_at w b ≡ Some (regular size blocks) → node_at w (suc more) b ≡ a_file (record { block = b; size = size; blocks = blocks })
  file_node size blocks e = ap (node_by (λ c. node_at w more c) b) e

  pub dir_node : (es : List Entry) → inode_at w b ≡ Some (directory es) → (xs : InodeEntries) × (entries_by (λ c. node_at w more c) es ≡ Some xs) × (node_at w (suc more) b ≡ a_dir b xs)
  dir_node es e =
      let read : ℕ → InodeNode = λ c. node_at w more c in
      let is : node_at w (suc more) b ≡ as_dir b (entries_by read es) = ap (node_by read b) e in
      let d = dir_there read b es (entries_by read es) refl (ap is_there (sym is) ∙ there) in
      (d.0, d.1, is ∙ d.2)

  -- what a name of it is
  pub child_node : (n : Name) (es : List Entry) → inode_at w b ≡ Some (directory es) → child n (node_at w (suc more) b) ≡ read_named (λ c. node_at w more c) (block_named n es)
  child_node n es e =
      let d = dir_node es e in
      ap (child n) d.2 ∙ entry_is_read (λ c. node_at w more c) n es d.0 d.1

  -- and the pair to it is among its own
  pub child_pair : (n : Name) (es : List Entry) (c : ℕ) → inode_at w b ≡ Some (directory es) → block_is (child n (node_at w (suc more) b)) c → holds (node_pairs (node_at w (suc more) b)) b c ≡ true
  child_pair n es c e h =
      let d = dir_node es e in
      ap (λ x. holds (node_pairs x) b c) d.2 ∙ entry_pair b n d.0 c (subst (λ x. block_is (child n x) c) d.2 h)

  pub child_pairs : (n : Name) (es : List Entry) (x y : ℕ) → inode_at w b ≡ Some (directory es) → holds (node_pairs (child n (node_at w (suc more) b))) x y ≡ true → holds (node_pairs (node_at w (suc more) b)) x y ≡ true
  child_pairs n es x y e h =
      let d = dir_node es e in
      ap (λ z. holds (node_pairs z) x y) d.2 ∙ entry_pairs b n d.0 x y (ap (λ z. holds (node_pairs (child n z)) x y) (sym d.2) ∙ h)

-- an entry of a directory that is read is there
first_there : (n : Name) (x : InodeNode) (o : Option InodeEntries) (xs : InodeEntries) → with_first n x o ≡ Some xs → (is_there x ≡ true) × (zs : InodeEntries) × (o ≡ Some zs)
first_there n nothing None xs e = absurd (cc)
first_there n nothing (Some zs) xs e = absurd (cc)
first_there n (a_file f) None xs e = absurd (cc)
first_there n (a_file f) (Some zs) xs e = (refl, zs, refl)
first_there n (a_dir b inside) None xs e = absurd (cc)
first_there n (a_dir b inside) (Some zs) xs e = (refl, zs, refl)

pub named_is_there : (read : ℕ → InodeNode) (n : Name) (c : ℕ) (es : List Entry) (xs : InodeEntries) → entries_by read es ≡ Some xs → block_named n es ≡ Some c → is_there (read c) ≡ true
named_is_there read n c [] xs e k = absurd (cc)
named_is_there read n c (f ∷ fs) xs e k =
    let parts = first_there f.name (read f.block) (entries_by read fs) xs e in
    elim (name_lt n f.name) as (λ t. cond t None (cond (name_lt f.name n) (block_named n fs) (Some f.block)) ≡ Some c → is_there (read c) ≡ true) [
      | true ↦ λ g. absurd (cc)
      | false ↦ elim (name_lt f.name n) as (λ t. cond t (block_named n fs) (Some f.block) ≡ Some c → is_there (read c) ≡ true) [
        | true ↦ λ g. named_is_there read n c fs parts.1 parts.2 g
        | false ↦ λ g. let same : f.block ≡ c = cc in ap (λ k. is_there (read k)) (sym same) ∙ parts.0
      ]
    ] k

-- ---- the root

-- the root stands where there is a tree, and what is named under it is pointed to
pub root_stands : (w : World) (root : ℕ) → is_there (inode_tree w root) ≡ true
    → (inodes_under w root ≡ node_at w (suc path_max) root) × (is_there (node_at w (suc path_max) root) ≡ true) × ((a b : ℕ) → holds (node_pairs (node_at w (suc path_max) root)) a b ≡ true → holds w.pairs a b ≡ true)
root_stands w root there =
    let r = found w root there in
    let es = r.0 in
    let h = r.1 in
    let held = (and_parts (list_all (λ e. holds w.pairs e.0 e.1) (named_pairs root es)) (are_apart (root ∷ inode_blocks es)) (and_parts _ _ h.right).0).0 in (
      under_is w root es h ∙ sym h.node,
      ap is_there h.node,
      λ a b k. all_of_held (λ e. holds w.pairs e.0 e.1) (named_pairs root es) a b held (ap (λ x. holds (node_pairs x) a b) (sym h.node) ∙ k),
    )

-- ---- what isn't found

-- one name further
pub not_found_further : (n : Name) (ns : Path) (d : ⊤) (es : Entries ⊤ (List ℕ)) → not_found (a_dir d es) (n ∷ ns) ≡ not_found (child n (a_dir d es)) ns
not_found_further n ns d es = refl

pub tree_child : (w : World) (n : Name) (x : InodeNode) → tree_of w (child n x) ≡ child n (tree_of w x)
tree_child w n x = tree-at w (n ∷ []) x

pub in_a_dir : (w : World) (n : Name) (ns : Path) (x : InodeNode) (b : ℕ) (es : InodeEntries) → x ≡ a_dir b es → not_found (tree_of w x) (n ∷ ns) ≡ not_found (tree_of w (child n x)) ns
in_a_dir w n ns x b es e =
    ap (λ y. not_found (tree_of w y) (n ∷ ns)) e ∙ (ap (λ t. not_found t ns) (sym (tree_child w n (a_dir b es))) ∙ ap (λ y. not_found (tree_of w (child n y)) ns) (sym e))

pub in_a_file : (w : World) (n : Name) (ns : Path) (x : InodeNode) (f : FileInode) → x ≡ a_file f → not_found (tree_of w x) (n ∷ ns) ≡ Some no.NotDir
in_a_file w n ns x f e = ap (λ y. not_found (tree_of w y) (n ∷ ns)) e

pub nothing_there : (w : World) (ns : Path) (x : InodeNode) → x ≡ nothing → not_found (tree_of w x) ns ≡ Some no.NoEntry
nothing_there w ns x e = ap (λ y. not_found (tree_of w y) ns) e ∙ none_found ns
  where
    none_found : (ns : Path) → not_found nothing ns ≡ Some no.NoEntry
    none_found [] = refl
    none_found (n ∷ ns) = refl

pub is_found : (w : World) (x : InodeNode) → is_there x ≡ true → ◌≡◌ {A = Option FsRefusal} (not_found (tree_of w x) []) None
is_found w nothing h = absurd (cc)
is_found w (a_file f) h = refl
is_found w (a_dir b es) h = refl
