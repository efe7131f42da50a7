-- How deep a tree is, and how many entries it has.
use Rattle.std.proofs.Common.{◌≡◌, ℕ, zero, suc, ◌+◌, ◌<◌, ◌≤◌, Bool, true, false, cond, not, ◌&&◌, ◌||◌, ◌==◌, List, [], ◌∷◌, ◌++◌, length, refl, sym, ◌∙◌, ap, subst, inl, inr, arith, length-append, Option, Some, None}
use Rattle.fs_laws.proofs.Common.{and_parts, and_from, eq-eqb, eqb-true, or_left, or_right, nat_tests, ⊤, list_all, holds, World, is_live, has_number, are_apart, IsValid, live_below, ChainFile, chain_bytes, chain_pairs, chain_blocks, names_max, as_tree, tree_of_files, chain_tree, chains_right, Entry, Inode, directory, regular, block_named, FileInode, InodeNode, InodeEntries, inode_at, entries_by, as_dir, node_by, node_at, as_root, inode_blocks, data_blocks, named_pairs, tree_entries, tree_of, inode_tree, inodes_right, tree_at, named_at, by_inodes, Name, Path, path_max, name_lt, are_distinct, Entries, none, file, dir, Node, nothing, a_file, a_dir, entry, child, at, is_there, names, before, with_entry, ShellKind, ByInodes, ByChains, entry_count, total_entries, IsUnder}
use Rattle.std.specs.Prelude.{map, nat_le}
use Rattle.fs_laws.proofs.ChainLaws.{found as chains_found}
use Rattle.fs_laws.proofs.CountLaws.{times, apart_times}
use Rattle.fs_laws.proofs.DirectoryLaws.{entry_is_read, read_named}
use Rattle.fs_laws.proofs.InodeLaws.{HasRoot, under_is, inodes_under_root}
use Rattle.fs_laws.proofs.InodeLaws.{found as inodes_found}
use Rattle.fs_laws.proofs.NamedLaws.{each_named}

-- ---- how many blocks there are

abbrev total : ℕ → List ℕ → ℕ
total zero xs = 0
total (suc n) xs = times n xs + total n xs

-- none twice, and each below a number: there are no more than that
fits_below : (xs : List ℕ) (n : ℕ) → ((b : ℕ) → times b xs ≤ 1) → ((b : ℕ) → has_number xs b ≡ true → b < n) → length xs ≤ n
fits_below xs n once below = let most = at_most n in let all = counts xs below in omega (arith, most, all)
  where
    at_most : (n : ℕ) → total n xs ≤ n
    at_most zero = omega arith
    at_most (suc n) = omega (arith, once n, at_most n)

    none_of : (n : ℕ) → total n [] ≡ 0
    none_of zero = refl
    none_of (suc n) = omega (arith, none_of n)

    skips : (k x : ℕ) (ys : List ℕ) → k ≤ x → total k (x ∷ ys) ≡ total k ys
    skips zero x ys h = refl
    skips (suc k) x ys h =
        let other : (x == k) ≡ false = grind (arith, nat_tests) in
        let none : ◌≡◌ {A = ℕ} (cond (x == k) 1 0) 0 = ap (λ t. cond t 1 0) other in
        omega (arith, none, skips k x ys (omega arith))

    counts_one : (k x : ℕ) (ys : List ℕ) → x < k → total k (x ∷ ys) ≡ 1 + total k ys
    counts_one zero x ys h = absurd (omega arith)
    counts_one (suc k) x ys h = elim (x == k) as (λ t. (x == k) ≡ t → total (suc k) (x ∷ ys) ≡ 1 + total (suc k) ys) [
      | true ↦ λ e.
          let one : ◌≡◌ {A = ℕ} (cond (x == k) 1 0) 1 = ap (λ t. cond t 1 0) e in
          let same : x ≡ k = eqb-true x k e in
          omega (arith, one, skips k x ys (omega (arith, same)))
      | false ↦ λ e.
          let none : ◌≡◌ {A = ℕ} (cond (x == k) 1 0) 0 = ap (λ t. cond t 1 0) e in
          let less : x < k = grind (arith, nat_tests) in
          omega (arith, none, counts_one k x ys less)
    ] refl

    counts : (ys : List ℕ) → ((b : ℕ) → has_number ys b ≡ true → b < n) → total n ys ≡ length ys
    counts [] below = none_of n
    counts (y ∷ ys) below = omega (arith, counts_one n y ys (below y (or_left (y == y) _ (eq-eqb y y refl))), counts ys (λ b m. below b (or_right (y == b) _ m)))

in_front : (xs ys : List ℕ) (b : ℕ) → has_number xs b ≡ true → has_number (xs ++ ys) b ≡ true
in_front [] ys b h = absurd (cc)
in_front (x ∷ xs) ys b h = elim (x == b) as (λ t. (t || has_number xs b) ≡ true → (t || has_number (xs ++ ys) b) ≡ true) [
  | true ↦ λ g. refl
  | false ↦ λ g. in_front xs ys b g
] h

-- ---- nothing is there

nothing_there : (D F : Type 0) (p : Path) → is_there {D = D} {F = F} (at nothing p) ≡ true → ⊥
nothing_there D F [] h = absurd (cc)
nothing_there D F (n ∷ ns) h = nothing_there D F ns h

below_file : (D F : Type 0) (f : F) (p : Path) → is_there {D = D} {F = F} (at (a_file f) p) ≡ true → p ≡ []
below_file D F f [] h = refl
below_file D F f (n ∷ ns) h = absurd (nothing_there D F ns h)

-- ---- inodes

counted_tree : (w : World) (es : InodeEntries) → entry_count (tree_entries w es) ≡ length (inode_blocks es)
counted_tree w none = refl
counted_tree w (file n f rest) = ap suc (counted_tree w rest)
counted_tree w (dir n b inside rest) =
    omega (arith, counted_tree w inside, counted_tree w rest, length-append (inode_blocks inside) (inode_blocks rest))

module _ (w : World) where
  by_read : (read : ℕ → InodeNode) (k : ℕ) → ((b : ℕ) (p : Path) → is_there (at (read b) p) ≡ true → length p < k) → (b : ℕ) (o : Option Inode) (p : Path) → is_there (at (node_by read b o) p) ≡ true → length p < suc k
  by_read read k h b None p there = absurd (nothing_there ℕ FileInode p there)
  by_read read k h b (Some (regular size blocks)) p there = let none_left : length p ≡ 0 = ap length (below_file ℕ FileInode (record { block = b; size = size; blocks = blocks }) p there) in omega (arith, none_left)
  by_read read k h b (Some (directory es)) p there = by_entries (entries_by read es) refl p there
    where
      by_name : (xs : InodeEntries) → entries_by read es ≡ Some xs → (n : Name) (ns : Path) → is_there (at (entry n xs) ns) ≡ true → length ns < k
      by_name xs e n ns g = by_block (block_named n es) (ap (λ (x : InodeNode). is_there (at x ns)) (sym (entry_is_read read n es xs e)) ∙ g)
        where
          by_block : (o : Option ℕ) → is_there (at (read_named read o) ns) ≡ true → length ns < k
          by_block None g = absurd (nothing_there ℕ FileInode ns g)
          by_block (Some c) g = h c ns g

      by_entries : (o : Option InodeEntries) → entries_by read es ≡ o → (p : Path) → is_there (at (as_dir b o) p) ≡ true → length p < suc k
      by_entries None e p g = absurd (nothing_there ℕ FileInode p g)
      by_entries (Some xs) e [] g = omega arith
      by_entries (Some xs) e (n ∷ ns) g = let less = by_name xs e n ns g in omega (arith, less)

  node_depth : (k b : ℕ) (p : Path) → is_there (at (node_at w k b) p) ≡ true → length p < k
  node_depth zero b p h = absurd (nothing_there ℕ FileInode p h)
  node_depth (suc k) b p h = by_read (λ c. node_at w k c) k (λ c q g. node_depth k c q g) b (inode_at w b) p h

  root_there : (x : InodeNode) (p : Path) → is_there (at (as_root w x) p) ≡ true → is_there (at x p) ≡ true
  root_there nothing p h = h
  root_there (a_file f) p h = absurd (nothing_there ℕ FileInode p h)
  root_there (a_dir root es) p h = elim (inodes_right w root es) as (λ t. is_there {D = ℕ} {F = FileInode} (at (cond t (a_dir root es) nothing) p) ≡ true → is_there {D = ℕ} {F = FileInode} (at (a_dir root es) p) ≡ true) [
    | true ↦ λ g. g
    | false ↦ λ g. absurd (nothing_there ℕ FileInode p g)
  ] h

  entry_tree : (n : Name) (es : InodeEntries) → entry n (tree_entries w es) ≡ tree_of w (entry n es)
  entry_tree n none = refl
  entry_tree n (file m f rest) = elim (name_lt n m) as (λ t. cond t nothing (cond (name_lt m n) (entry n (tree_entries w rest)) (tree_of w (a_file f))) ≡ tree_of w (cond t nothing (cond (name_lt m n) (entry n rest) (a_file f)))) [
    | true ↦ refl
    | false ↦ elim (name_lt m n) as (λ t. cond t (entry n (tree_entries w rest)) (tree_of w (a_file f)) ≡ tree_of w (cond t (entry n rest) (a_file f))) [
      | true ↦ entry_tree n rest
      | false ↦ refl
    ]
  ]
  entry_tree n (dir m b inside rest) = elim (name_lt n m) as (λ t. cond t nothing (cond (name_lt m n) (entry n (tree_entries w rest)) (tree_of w (a_dir b inside))) ≡ tree_of w (cond t nothing (cond (name_lt m n) (entry n rest) (a_dir b inside)))) [
    | true ↦ refl
    | false ↦ elim (name_lt m n) as (λ t. cond t (entry n (tree_entries w rest)) (tree_of w (a_dir b inside)) ≡ tree_of w (cond t (entry n rest) (a_dir b inside))) [
      | true ↦ entry_tree n rest
      | false ↦ refl
    ]
  ]

  tree_there : (x : InodeNode) (p : Path) → is_there (at (tree_of w x) p) ≡ true → is_there (at x p) ≡ true
  tree_there nothing p h = absurd (nothing_there ⊤ (List ℕ) p h)
  tree_there (a_file f) [] h = refl
  tree_there (a_file f) (n ∷ ns) h = absurd (nothing_there ⊤ (List ℕ) ns h)
  tree_there (a_dir b es) [] h = refl
  tree_there (a_dir b es) (n ∷ ns) h = tree_there (entry n es) ns (ap (λ x. is_there (at x ns)) (sym (entry_tree n es)) ∙ h)

  inode_depth : (root : ℕ) (p : Path) → is_there (at (inode_tree w root) p) ≡ true → length p ≤ path_max
  inode_depth root p h =
      let less = node_depth (suc path_max) root p (root_there (node_at w (suc path_max) root) p (tree_there (as_root w (node_at w (suc path_max) root)) p h)) in
      omega (arith, less)

  module _ (valid : IsValid w) (root : ℕ) (primary : root < w.geometry.primaries) where
    named_live : (there : is_there (inode_tree w root) ≡ true) (b : ℕ) → has_number (named_at ByInodes w root).blocks b ≡ true → is_live w b ≡ true
    named_live there = let under = inodes_under_root w root primary there in
        each_named (λ b. is_live w b ≡ true) root (named_at ByInodes w root).pairs (named_at ByInodes w root).blocks under.order (valid.raw.primaries root primary)
        (λ a b h _. valid.raw.targets a b (under.held a b h))

    few_blocks : (es : InodeEntries) → HasRoot w root es → is_there (inode_tree w root) ≡ true → length (inode_blocks es) ≤ w.geometry.blocks
    few_blocks es has there =
        let right = has.right in
        let outer = and_parts (list_all (λ e. holds w.pairs e.0 e.1) (named_pairs root es) && are_apart (root ∷ inode_blocks es)) (list_all (λ b. not (has_number (root ∷ inode_blocks es) b)) (data_blocks es)) right in
        let apart = (and_parts (list_all (λ e. holds w.pairs e.0 e.1) (named_pairs root es)) (are_apart (root ∷ inode_blocks es)) outer.0).1 in
        let own = (and_parts (not (has_number (inode_blocks es) root)) (are_apart (inode_blocks es)) apart).1 in
        let fits = fits_below (inode_blocks es) (length w.blocks) (apart_times (inode_blocks es) own)
        (λ b m. live_below w.blocks b (named_live there b (ap (λ (x : InodeNode). has_number (by_inodes x).blocks b) (under_is w root es has) ∙ or_right (root == b) _ (in_front (inode_blocks es) (data_blocks es) b m)))) in
        omega (arith, fits, valid.raw.sized.each_block)

    inodes_few : total_entries (inode_tree w root) ≤ w.geometry.blocks
    inodes_few = by_there (is_there (inode_tree w root)) refl
      where
        not_there : (t : Node ⊤ (List ℕ)) → is_there t ≡ false → total_entries t ≡ 0
        not_there nothing h = refl
        not_there (a_file x) h = absurd (cc)
        not_there (a_dir d es) h = absurd (cc)

        by_there : (t : Bool) → is_there (inode_tree w root) ≡ t → total_entries (inode_tree w root) ≤ w.geometry.blocks
        by_there false e = omega (arith, not_there (inode_tree w root) e)
        by_there true e =
            let f = inodes_found w root e in
            let same : total_entries (inode_tree w root) ≡ length (inode_blocks f.0) = ap (λ (x : InodeNode). total_entries (tree_of w x)) (under_is w root f.0 f.1) ∙ counted_tree w f.0 in
            omega (arith, same, few_blocks f.0 f.1 e)

-- ---- chains

-- all of them are files
abbrev AllFiles : Entries ⊤ (List ℕ) → Type 0
AllFiles none = ⊤
AllFiles (file n x rest) = AllFiles rest
AllFiles (dir n d inside rest) = ⊥

files_with : (n : Name) (x : List ℕ) (es : Entries ⊤ (List ℕ)) → AllFiles es → AllFiles (with_entry n (a_file x) es) × (entry_count (with_entry n (a_file x) es) ≤ suc (entry_count es))
files_with n x none h = (tt, omega arith)
files_with n x (dir m d inside rest) h = absurd h
files_with n x (file m f rest) h = elim (name_lt n m) as (λ t. AllFiles (cond t (before n (a_file x) (file m f rest)) (cond (name_lt m n) (file m f (with_entry n (a_file x) rest)) (before n (a_file x) rest))) × (entry_count (cond t (before n (a_file x) (file m f rest)) (cond (name_lt m n) (file m f (with_entry n (a_file x) rest)) (before n (a_file x) rest))) ≤ suc (entry_count (file m f rest)))) [
  | true ↦ (h, omega arith)
  | false ↦ elim (name_lt m n) as (λ t. AllFiles (cond t (file m f (with_entry n (a_file x) rest)) (before n (a_file x) rest)) × (entry_count (cond t (file m f (with_entry n (a_file x) rest)) (before n (a_file x) rest)) ≤ suc (entry_count (file m f rest)))) [
    | true ↦ let later = files_with n x rest h in (later.0, omega (arith, later.1))
    | false ↦ (h, omega arith)
  ]
]

all_files : (fs : List ChainFile) → AllFiles (tree_of_files fs) × (entry_count (tree_of_files fs) ≤ length fs)
all_files [] = (tt, omega arith)
all_files (f ∷ fs) = let later = all_files fs in let now = files_with f.name (chain_bytes f.chain) (tree_of_files fs) later.0 in (now.0, omega (arith, now.1, later.1))

below_files : (n m : Name) (ns : Path) (es : Entries ⊤ (List ℕ)) → AllFiles es → is_there (at (entry n es) (m ∷ ns)) ≡ true → ⊥
below_files n m ns none h there = nothing_there ⊤ (List ℕ) ns there
below_files n m ns (dir k d inside rest) h there = absurd h
below_files n m ns (file k f rest) h there = elim (name_lt n k) as (λ t. is_there {D = ⊤} {F = List ℕ} (at (cond t nothing (cond (name_lt k n) (entry n rest) (a_file f))) (m ∷ ns)) ≡ true → ⊥) [
  | true ↦ λ g. nothing_there ⊤ (List ℕ) ns g
  | false ↦ elim (name_lt k n) as (λ t. is_there {D = ⊤} {F = List ℕ} (at (cond t (entry n rest) (a_file f)) (m ∷ ns)) ≡ true → ⊥) [
    | true ↦ λ g. below_files n m ns rest h g
    | false ↦ λ g. nothing_there ⊤ (List ℕ) ns g
  ]
] there

chain_depth : (w : World) (root : ℕ) (p : Path) → is_there (at (chain_tree w root) p) ≡ true → length p ≤ path_max
chain_depth w root [] h = omega arith
chain_depth w root (n ∷ []) h = omega arith
chain_depth w root (n ∷ m ∷ ns) h =
    let there : is_there (chain_tree w root) ≡ true = by_tree (chain_tree w root) h in
    let f = chains_found w root there in
    absurd (below_files n m ns (tree_of_files f.chains.files) (all_files f.chains.files).0 (ap (λ o. is_there (at (as_tree o) (n ∷ m ∷ ns))) (sym f.under) ∙ h))
  where
    by_tree : (t : Node ⊤ (List ℕ)) → is_there (at t (n ∷ m ∷ ns)) ≡ true → is_there t ≡ true
    by_tree nothing g = absurd (nothing_there ⊤ (List ℕ) ns g)
    by_tree (a_file x) g = refl
    by_tree (a_dir d es) g = refl

chains_few : (w : World) (root : ℕ) → total_entries (chain_tree w root) ≤ names_max
chains_few w root = by_there (is_there (chain_tree w root)) refl
  where
    not_there : (t : Node ⊤ (List ℕ)) → is_there t ≡ false → total_entries t ≡ 0
    not_there nothing h = refl
    not_there (a_file x) h = absurd (cc)
    not_there (a_dir d es) h = absurd (cc)

    le_true : (a b : ℕ) → nat_le a b ≡ true → a ≤ b
    le_true a b h = grind (arith, nat_tests)

    by_there : (t : Bool) → is_there (chain_tree w root) ≡ t → total_entries (chain_tree w root) ≤ names_max
    by_there false e = omega (arith, not_there (chain_tree w root) e)
    by_there true e =
        let f = chains_found w root e in
        let c = f.chains in
        let few : length c.files ≤ names_max = le_true (length c.files) names_max (and_parts (list_all (λ k. holds w.pairs k.0 k.1) (chain_pairs c) && are_apart (chain_blocks c) && are_distinct (map (λ g. g.name) c.files)) (nat_le (length c.files) names_max) f.right).1 in
        let same : total_entries (chain_tree w root) ≡ entry_count (tree_of_files c.files) = ap (λ o. total_entries (as_tree o)) f.under in
        omega (arith, same, (all_files c.files).1, few)

-- ---- both

pub tree_depth : (kind : ShellKind) (w : World) (root : ℕ) (p : Path) → is_there (at (tree_at kind w root) p) ≡ true → length p ≤ path_max
tree_depth ByInodes w root p h = inode_depth w root p h
tree_depth ByChains w root p h = chain_depth w root p h

pub tree_few : (kind : ShellKind) (w : World) (root : ℕ) → IsValid w → root < w.geometry.primaries → total_entries (tree_at kind w root) ≤ w.geometry.blocks + names_max
tree_few ByInodes w root valid primary = let few = inodes_few w valid root primary in omega (arith, few)
tree_few ByChains w root valid primary = let few = chains_few w root in omega (arith, few)
