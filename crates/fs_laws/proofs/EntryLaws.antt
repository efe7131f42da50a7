-- After a directory's block was written with one entry set or taken out, the tree is the one with that change.
use Rattle.std.proofs.Common.{◌≡◌, ℕ, zero, suc, ◌+◌, ◌<◌, ◌≤◌, true, false, not, cond, ◌&&◌, ◌==◌, List, [], ◌∷◌, ◌++◌, length, refl, sym, ◌∙◌, ap, arith, inl, inr, ◌⊎◌, Some}
use Rattle.fs_laws.proofs.Common.{and_parts, and_from, or_cases, eq-eqb, eqb-true, not-true, or_left, or_right, list_all, option_and_then, block_len, World, contents, has_number, are_apart, holds, with_contents, all_of_held, contents-other, contents-same, Name, Path, path_max, nothing, a_dir, at, entry, is_there, with_entry, with_child, with_at, Entry, Inode, directory, inode_in, with_listed, without_listed, InodeNode, InodeEntries, inode_at, entries_by, node_at, inode_blocks, data_blocks, named_pairs, are_right, tree_of, inode_tree}
use Rattle.fs_laws.proofs.ListLaws.{all_held}
use Rattle.fs_laws.proofs.InodeLaws.{node_blocks, HasRoot, under_is, tree_same}
use Rattle.fs_laws.proofs.DirectoryLaws.{deeper, block_at, node_away, entry_is_put, entry_is_dropped, with_last}
use Rattle.fs_laws.proofs.CountLaws.{times, times_none, none_times, apart_times, times_apart, times-with_entry, times-with_at}
use Rattle.fs_laws.proofs.SumLaws.{node_data, data-with_entry, data-with_at, node_pairs, namer, pair_times, pair_times_none, none_pair_times, pairs-with_entry, pairs-with_at}
use Rattle.fs_laws.proofs.MapLaws.{tree-with_at}
use Rattle.tsd_model.proofs.ValueLaws.{clash}

-- ---- what is right, by counting

all_apart : (bs xs : List ℕ) → ((b : ℕ) → has_number xs b ≡ true → has_number bs b ≡ false) → list_all (λ b. not (has_number bs b)) xs ≡ true
all_apart bs [] h = refl
all_apart bs (x ∷ xs) h = and_from (not (has_number bs x)) _ (ap not (h x (or_left (x == x) _ (eq-eqb x x refl)))) (all_apart bs xs (λ b m. h b (or_right (x == b) _ m)))

apart_all : (bs xs : List ℕ) (b : ℕ) → list_all (λ c. not (has_number bs c)) xs ≡ true → has_number xs b ≡ true → has_number bs b ≡ false
apart_all bs [] b h m = absurd (cc)
apart_all bs (x ∷ xs) b h m = let parts = and_parts (not (has_number bs x)) (list_all (λ c. not (has_number bs c)) xs) h in
    elim (or_cases (x == b) (has_number xs b) m) [
      | inl here ↦ ap (has_number bs) (sym (eqb-true x b here)) ∙ not-true (has_number bs x) parts.0
      | inr later ↦ apart_all bs xs b parts.1 later
    ]

-- at most as often there, so there only if it was
there_before : (xs ys : List ℕ) (b : ℕ) → times b xs ≤ times b ys → has_number xs b ≡ true → has_number ys b ≡ true
there_before xs ys b le m = elim (has_number ys b) as (λ t. has_number ys b ≡ t → t ≡ true) [
  | true ↦ λ e. refl
  | false ↦ λ e. let gone : times b ys ≡ 0 = times_none b ys e in absurd (clash (has_number xs b) m (none_times b xs (omega arith)))
] refl

held_before : (xs ys : List (ℕ × ℕ)) (a b : ℕ) → pair_times a b xs ≤ pair_times a b ys → holds xs a b ≡ true → holds ys a b ≡ true
held_before xs ys a b le m = elim (holds ys a b) as (λ t. holds ys a b ≡ t → t ≡ true) [
  | true ↦ λ e. refl
  | false ↦ λ e. let gone : pair_times a b ys ≡ 0 = pair_times_none a b ys e in absurd (clash (holds xs a b) m (none_pair_times a b xs (omega arith)))
] refl

-- at most as often there as in two lists, so there only if it is in one of them
in_either : (xs ys zs : List ℕ) (b : ℕ) → times b xs ≤ times b ys + times b zs → has_number xs b ≡ true → (has_number ys b ≡ true) ⊎ (has_number zs b ≡ true)
in_either xs ys zs b le m = elim (has_number ys b) as (λ t. has_number ys b ≡ t → (t ≡ true) ⊎ (has_number zs b ≡ true)) [
  | true ↦ λ e. inl refl
  | false ↦ λ e. let gone : times b ys ≡ 0 = times_none b ys e in inr (there_before xs zs b (omega arith) m)
] refl

held_either : (xs ys zs : List (ℕ × ℕ)) (a b : ℕ) → pair_times a b xs ≤ pair_times a b ys + pair_times a b zs → holds xs a b ≡ true → (holds ys a b ≡ true) ⊎ (holds zs a b ≡ true)
held_either xs ys zs a b le m = elim (holds ys a b) as (λ t. holds ys a b ≡ t → (t ≡ true) ⊎ (holds zs a b ≡ true)) [
  | true ↦ λ e. inl refl
  | false ↦ λ e. let gone : pair_times a b ys ≡ 0 = pair_times_none a b ys e in inr (held_before xs zs a b (omega arith) m)
] refl

-- ---- a node that may be named by block d of the tree with these entries

pub record FitsIn (w : World) (root d : ℕ) (old : InodeEntries) (y : InodeNode) : Type 0 where
  -- its inodes are no inodes of the tree, and each is one once
  pub inodes : (b : ℕ) → times b (root ∷ inode_blocks old) + times b (node_blocks y) ≤ 1
  -- it and what it names are pointed to by their namers
  pub held : (a b : ℕ) → holds (node_pairs d y) a b ≡ true → holds w.pairs a b ≡ true
  -- blocks of bytes, its own and those of the tree, are no inodes
  pub own : (b : ℕ) → has_number (node_data y) b ≡ true → (has_number (root ∷ inode_blocks old) b ≡ false) × (has_number (node_blocks y) b ≡ false)
  pub others : (b : ℕ) → has_number (data_blocks old) b ≡ true → has_number (node_blocks y) b ≡ false

-- what is right stays right
right_with : (w next : World) (root d : ℕ) (old new : InodeEntries) (y : InodeNode) → next.pairs ≡ w.pairs → are_right w root old ≡ true → FitsIn w root d old y
    → ((b : ℕ) → times b (inode_blocks new) ≤ times b (inode_blocks old) + times b (node_blocks y)) → ((b : ℕ) → times b (data_blocks new) ≤ times b (data_blocks old) + times b (node_data y))
    → ((a b : ℕ) → pair_times a b (named_pairs root new) ≤ pair_times a b (named_pairs root old) + pair_times a b (node_pairs d y)) → are_right next root new ≡ true
right_with w next root d old new y same right fits inodes bytes pairs =
    let A = list_all (λ e. holds w.pairs e.0 e.1) (named_pairs root old) in
    let B = are_apart (root ∷ inode_blocks old) in
    let outer = and_parts (A && B) (list_all (λ b. not (has_number (root ∷ inode_blocks old) b)) (data_blocks old)) right in
    let inner = and_parts A B outer.0 in
    let off : (b : ℕ) → has_number (root ∷ inode_blocks old) b ≡ false → has_number (node_blocks y) b ≡ false → has_number (root ∷ inode_blocks new) b ≡ false =
    λ b p q. let none_old : times b (root ∷ inode_blocks old) ≡ 0 = times_none b (root ∷ inode_blocks old) p in let none_y : times b (node_blocks y) ≡ 0 = times_none b (node_blocks y) q in
    none_times b (root ∷ inode_blocks new) (omega (arith, none_old, none_y, inodes b)) in
    and_from (list_all (λ e. holds next.pairs e.0 e.1) (named_pairs root new) && are_apart (root ∷ inode_blocks new)) _
    (and_from (list_all (λ e. holds next.pairs e.0 e.1) (named_pairs root new)) (are_apart (root ∷ inode_blocks new))
    (all_held (named_pairs root new) next.pairs (λ a b h. ap (λ es. holds es a b) same ∙ elim (held_either (named_pairs root new) (named_pairs root old) (node_pairs d y) a b (pairs a b) h) [
      | inl was ↦ all_of_held (λ e. holds w.pairs e.0 e.1) (named_pairs root old) a b inner.0 was
      | inr more ↦ fits.held a b more
    ]))
    (times_apart (root ∷ inode_blocks new) (λ b. omega (arith, inodes b, fits.inodes b))))
    (all_apart (root ∷ inode_blocks new) (data_blocks new) (λ b m. elim (in_either (data_blocks new) (data_blocks old) (node_data y) b (bytes b) m) [
      | inl was ↦ off b (apart_all (root ∷ inode_blocks old) (data_blocks old) b outer.1 was) (fits.others b was)
      | inr more ↦ off b (fits.own b more).0 (fits.own b more).1
    ]))

-- ---- the root stays a directory

dir_stays : (p : Path) (n : Name) (y : InodeNode) (b : ℕ) (es : InodeEntries) → (new : InodeEntries) × (with_at (p ++ n ∷ []) y (a_dir b es) ≡ a_dir b new)
dir_stays [] n y b es = (with_entry n y es, refl)
dir_stays (m ∷ ms) n y b es = (with_entry m (with_at (ms ++ n ∷ []) y (entry m es)) es, refl)

-- ---- the directory at a path

module _ (w : World) (root d : ℕ) (p : Path) (more : ℕ) (xs old : InodeEntries) (has : HasRoot w root old) (levels : deeper p (suc more) ≡ suc path_max) (stands : at (a_dir root old) p ≡ a_dir d xs) where
  pub whole : node_at w (deeper p (suc more)) root ≡ a_dir root old
  whole = ap (λ k. node_at w k root) levels ∙ has.node

  pub at_path : at (node_at w (deeper p (suc more)) root) p ≡ a_dir d xs
  at_path = ap (λ x. at x p) whole ∙ stands

  once : are_apart (root ∷ inode_blocks old) ≡ true
  once = (and_parts (list_all (λ e. holds w.pairs e.0 e.1) (named_pairs root old)) (are_apart (root ∷ inode_blocks old))
      (and_parts (list_all (λ e. holds w.pairs e.0 e.1) (named_pairs root old) && are_apart (root ∷ inode_blocks old)) _ has.right).0).1

  pub once_whole : are_apart (node_blocks (node_at w (deeper p (suc more)) root)) ≡ true
  once_whole = ap (λ x. are_apart (node_blocks x)) whole ∙ once

  -- the directory's own block isn't below it
  pub away : has_number (inode_blocks xs) d ≡ false
  away =
      let law = times-with_at d p nothing (a_dir root old) (ap is_there stands) in
      let here : times d (node_blocks (at (a_dir root old) p)) ≡ cond (d == d) 1 0 + times d (inode_blocks xs) = ap (λ x. times d (node_blocks x)) stands in
      let one : cond (d == d) 1 0 ≡ 1 = ap (λ t. cond t 1 0) (eq-eqb d d refl) in
      none_times d (inode_blocks xs) (gone (times d (node_blocks (with_at p nothing (a_dir root old)))) (times d (node_blocks (at (a_dir root old) p))) (times d (root ∷ inode_blocks old)) (cond (d == d) 1 0) (times d (inode_blocks xs)) law here one (apart_times (root ∷ inode_blocks old) once d))
    where
      gone : (a b c e f : ℕ) → a + b ≡ c + 0 → b ≡ e + f → e ≡ 1 → c ≤ 1 → f ≡ 0
      gone a b c e f law here one le = omega arith

  -- what follows where the directory has a node in an entry, and nothing else is different
  module _ (bytes : List ℕ) (n : Name) (y : InodeNode) (fits : FitsIn w root d old y)
      (changed : node_at (with_contents w d bytes) (deeper p (suc more)) root ≡ with_at p (a_dir d (with_entry n y xs)) (node_at w (deeper p (suc more)) root)) where
    abbrev next : World
    next = with_contents w d bytes

    as_put : with_at (p ++ n ∷ []) y (a_dir root old) ≡ with_at p (a_dir d (with_entry n y xs)) (a_dir root old)
    as_put = with_last p n y (a_dir root old) ∙ ap (λ x. with_at p (with_child n y x) (a_dir root old)) stands

    module _ (new : InodeEntries) (is : with_at (p ++ n ∷ []) y (a_dir root old) ≡ a_dir root new) where
      put_is : a_dir root new ≡ with_at p (a_dir d (with_entry n y xs)) (a_dir root old)
      put_is = sym is ∙ as_put

      inodes_more : (b : ℕ) → times b (inode_blocks new) ≤ times b (inode_blocks old) + times b (node_blocks y)
      inodes_more b =
          let law = times-with_at b p (a_dir d (with_entry n y xs)) (a_dir root old) (ap is_there stands) in
          let one = times-with_entry b n y xs in
          let here : times b (node_blocks (at (a_dir root old) p)) ≡ cond (d == b) 1 0 + times b (inode_blocks xs) = ap (λ x. times b (node_blocks x)) stands in
          let there : cond (root == b) 1 0 + times b (inode_blocks new) ≡ times b (node_blocks (with_at p (a_dir d (with_entry n y xs)) (a_dir root old))) = ap (λ x. times b (node_blocks x)) put_is in
          omega (arith, law, one, here, there)

      data_more : (b : ℕ) → times b (data_blocks new) ≤ times b (data_blocks old) + times b (node_data y)
      data_more b =
          let law = data-with_at b p (a_dir d (with_entry n y xs)) (a_dir root old) (ap is_there stands) in
          let one = data-with_entry b n y xs in
          let here : times b (node_data (at (a_dir root old) p)) ≡ times b (data_blocks xs) = ap (λ x. times b (node_data x)) stands in
          let there : times b (data_blocks new) ≡ times b (node_data (with_at p (a_dir d (with_entry n y xs)) (a_dir root old))) = ap (λ x. times b (node_data x)) put_is in
          omega (arith, law, one, here, there)

      pairs_more : (a b : ℕ) → pair_times a b (named_pairs root new) ≤ pair_times a b (named_pairs root old) + pair_times a b (node_pairs d y)
      pairs_more a b =
          let law = pairs-with_at a b 0 p (a_dir d (with_entry n y xs)) (a_dir root old) (ap is_there stands) in
          let one = pairs-with_entry a b d n y xs in
          let here : pair_times a b (node_pairs (namer 0 (a_dir root old) p) (at (a_dir root old) p)) ≡ pair_times a b (node_pairs (namer 0 (a_dir root old) p) (a_dir d xs)) = ap (λ x. pair_times a b (node_pairs (namer 0 (a_dir root old) p) x)) stands in
          let there : pair_times a b (node_pairs 0 (a_dir root new)) ≡ pair_times a b (node_pairs 0 (with_at p (a_dir d (with_entry n y xs)) (a_dir root old))) = ap (λ x. pair_times a b (node_pairs 0 x)) put_is in
          omega (arith, law, one, here, there)

      new_root : HasRoot next root new
      new_root = record {
        node = ap (λ k. node_at next k root) (sym levels) ∙ (changed ∙ (ap (with_at p (a_dir d (with_entry n y xs))) whole ∙ (sym as_put ∙ is)));
        right = right_with w next root d old new y refl has.right fits inodes_more data_more pairs_more;
      }

      -- no file's bytes stand in the directory's block
      bytes_stay : (b : ℕ) → has_number (data_blocks new) b ≡ true → contents next b ≡ contents w b
      bytes_stay b m =
          let right = (and_parts (list_all (λ e. holds w.pairs e.0 e.1) (named_pairs root old) && are_apart (root ∷ inode_blocks old)) (list_all (λ c. not (has_number (root ∷ inode_blocks old) c)) (data_blocks old)) has.right).1 in
          let off : has_number (root ∷ inode_blocks old) b ≡ false = elim (in_either (data_blocks new) (data_blocks old) (node_data y) b (data_more b) m) [
            | inl was ↦ apart_all (root ∷ inode_blocks old) (data_blocks old) b right was
            | inr more ↦ (fits.own b more).0
          ] in
          contents-other w d b bytes (λ e. clash (has_number (root ∷ inode_blocks old) b) (ap (has_number (root ∷ inode_blocks old)) e ∙ block_at p (a_dir root old) d xs stands) off)

      the_tree : inode_tree next root ≡ with_at (p ++ n ∷ []) (tree_of w y) (inode_tree w root)
      the_tree =
          ap (tree_of next) (under_is next root new new_root)
          ∙ (ap (a_dir tt) (tree_same w next new bytes_stay)
          ∙ (ap (tree_of w) (sym is) ∙ (tree-with_at w (p ++ n ∷ []) y (a_dir root old)
          ∙ ap (λ x. with_at (p ++ n ∷ []) (tree_of w y) (tree_of w x)) (sym (under_is w root old has)))))

    pub tree_with_entry : inode_tree next root ≡ with_at (p ++ n ∷ []) (tree_of w y) (inode_tree w root)
    tree_with_entry = let (new, is) = dir_stays p n y root old in the_tree new is

  -- ---- the two deciding writes

  -- the directory's list, its block, and what is written there
  module _ (es : List Entry) (listed : entries_by (λ c. node_at w more c) es ≡ Some xs) (within : d < length w.blocks) (bytes : List ℕ) where
    elsewhere : (b : ℕ) → (b == d) ≡ false → contents (with_contents w d bytes) b ≡ contents w b
    elsewhere b off = contents-other w d b bytes (λ e. clash (b == d) (eq-eqb b d e) off)

    written : (i : Inode) → inode_in (block_len w.geometry) bytes ≡ Some i → inode_at (with_contents w d bytes) d ≡ Some i
    written i e = ap (option_and_then (inode_in (block_len w.geometry))) (contents-same w d bytes within) ∙ e

    nothing_fits : FitsIn w root d old nothing
    nothing_fits = record {
      inodes = λ b. omega (arith, apart_times (root ∷ inode_blocks old) once b);
      held = λ a b h. absurd (cc);
      own = λ b h. absurd (cc);
      others = λ b h. refl;
    }

    -- an entry is taken out
    pub entry_is_removed : (n : Name) → inode_in (block_len w.geometry) bytes ≡ Some (directory (without_listed n es)) → inode_tree (with_contents w d bytes) root ≡ with_at (p ++ n ∷ []) nothing (inode_tree w root)
    entry_is_removed n e = tree_with_entry bytes n nothing nothing_fits
        (entry_is_dropped w (with_contents w d bytes) refl d elsewhere p more root es xs n at_path once_whole listed away (written (directory (without_listed n es)) e))

    -- an entry is put in, or in the place of an old one: the node that it names fits, and isn't in the directory's block
    pub entry_is_set : (e : Entry) (y : InodeNode) → node_at w more e.block ≡ y → is_there y ≡ true → FitsIn w root d old y
        → inode_in (block_len w.geometry) bytes ≡ Some (directory (with_listed e es)) → inode_tree (with_contents w d bytes) root ≡ with_at (p ++ e.name ∷ []) (tree_of w y) (inode_tree w root)
    entry_is_set e y stands_at there fits i =
        let inside : has_number (root ∷ inode_blocks old) d ≡ true = block_at p (a_dir root old) d xs stands in
        let apart : has_number (node_blocks y) d ≡ false = elim (has_number (node_blocks y) d) as (λ t. has_number (node_blocks y) d ≡ t → t ≡ false) [
          | true ↦ λ k. absurd (twice (times d (root ∷ inode_blocks old)) (times d (node_blocks y)) (some_times d (root ∷ inode_blocks old) inside) (some_times d (node_blocks y) k) (fits.inodes d))
          | false ↦ λ k. refl
        ] refl in
        tree_with_entry bytes e.name y fits
        (entry_is_put w (with_contents w d bytes) refl d elsewhere p more root es xs e y at_path once_whole listed away (written (directory (with_listed e es)) i)
        (node_away w (with_contents w d bytes) refl d elsewhere more e.block (ap is_there stands_at ∙ there) (ap (λ x. has_number (node_blocks x) d) stands_at ∙ apart) ∙ stands_at) there)
      where
        twice : (a b : ℕ) → 1 ≤ a → 1 ≤ b → a + b ≤ 1 → ⊥
        twice a b p q r = omega arith

        some_times : (b : ℕ) (ys : List ℕ) → has_number ys b ≡ true → 1 ≤ times b ys
        some_times b ys m = at_least (times b ys) (λ e. clash (has_number ys b) m (none_times b ys e))
          where
            at_least : (k : ℕ) → (k ≡ 0 → ⊥) → 1 ≤ k
            at_least zero h = absurd (h refl)
            at_least (suc k) h = omega arith
