-- A directory's entry is taken out, and what it named let go of.
use Rattle.std.proofs.Common.{◌≡◌, ℕ, suc, ◌<◌, true, false, not, ◌&&◌, ◌==◌, List, [], ◌∷◌, ◌++◌, refl, sym, ◌∙◌, ap, subst, arith, inl, inr, ◌⊎◌, Some}
use Rattle.inode_changes.proofs.Common.{and_parts, and_from, or_left, eq-eqb, list_all, option_and_then, block_len, World, contents, is_live, is_free, has_number, are_apart, holds, is_pair, IsValid, filled, written, Name, Path, path_max, Tree, nothing, a_file, a_dir, entry, is_there, with_entry, with_child, with_at, Entry, directory, block_named, inode_in, inode_bytes, without_listed, InodeNode, InodeEntries, tree_of, inode_at, node_at, inode_blocks, data_blocks, named_pairs, inode_tree, named_at, IsTidy, is_under, Keeps, SameTree, read_from_named, number_left, node_blocks, HasRoot, found, under_is, read_named, entry_is_read, entry_is_dropped, with_last, block_at, apart_times, each_under, root_under, target_under, dropped, fewer_pairs, fewer_live, other_pair, written_elsewhere, written_here, written_free, block_is, node_block, named_is_there, entry_pair}
use Rattle.fs_trees.specs.declared.ask.ShellKind.TheVariants as kind
use Rattle.fs_laws.proofs.EntryLaws as deciding
use Rattle.inode_changes.proofs.ExchangeLaws.{Exchange, block_is_at, dir_stays, spared, still_named, named_before}
use Rattle.inode_changes.proofs.TidyLaws.{named_of, named_under, tidy_by_pairs}
use Rattle.inode_changes.proofs.ListingLaws.{ascending_without, named_without, small_without, length_without}
use Rattle.inode_changes.proofs.SpotLaws.{Spot, live, within, order, small, reads_as, child_held}
use Rattle.tsd_model.proofs.ValueLaws.{clash}

-- the root stays
pub there_with : (p : Path) (n : Name) (y t : Tree) → is_there t ≡ true → is_there (with_at (p ++ n ∷ []) y t) ≡ true
there_with [] n y nothing h = absurd (cc)
there_with [] n y (a_file x) h = refl
there_with [] n y (a_dir d es) h = refl
there_with (m ∷ ms) n y nothing h = absurd (cc)
there_with (m ∷ ms) n y (a_file x) h = refl
there_with (m ∷ ms) n y (a_dir d es) h = refl

pub own_pair : (d a b c : ℕ) (z : InodeNode) → block_is_at d a b z → block_is z c → (d ≡ a) × (c ≡ b)
own_pair d a b c nothing h k = absurd h
own_pair d a b c (a_file f) h k = (h.0, sym k ∙ h.1)
own_pair d a b c (a_dir e es) h k = (h.0, sym k ∙ h.1)

pub own_inode : (z : InodeNode) (c : ℕ) → block_is z c → has_number (node_blocks z) c ≡ true
own_inode nothing c k = absurd k
own_inode (a_file f) c k = or_left (f.block == c) _ (eq-eqb f.block c k)
own_inode (a_dir b es) c k = or_left (b == c) _ (eq-eqb b c k)

module _ (w : World) (root : ℕ) (p : Path) (d : ℕ) (es : List Entry) (s : Spot w root p d es) (valid : IsValid w) (primary : root < w.geometry.primaries) (n : Name) where
  abbrev bytes : List ℕ
  bytes = inode_bytes (directory (without_listed n es))

  -- the world after the deciding write
  abbrev pub next : World
  next = written w d (inode_bytes (directory (without_listed n es)))

  reads : inode_in (block_len w.geometry) (filled (block_len w.geometry) bytes) ≡ Some (directory (without_listed n es))
  reads =
      let less = length_without n es in
      let o = order w root p d es s valid in
      reads_as w root p d es s valid (without_listed n es) (omega (arith, less, s.room)) (named_without n es o.0) (ascending_without n es o.1) (small_without n es (small w root p d es s valid))

  -- ---- the tree

  pub tree_next : inode_tree next root ≡ with_at (p ++ n ∷ []) nothing (inode_tree w root)
  tree_next = deciding.entry_is_removed w root d p s.more s.xs s.old s.has s.levels s.stands es s.listed (within w root p d es s valid) (filled (block_len w.geometry) bytes) n reads

  pub there_now : is_there (inode_tree w root) ≡ true
  there_now = ap (λ x. is_there (tree_of w x)) (under_is w root s.old s.has)

  pub there_next : is_there (inode_tree next root) ≡ true
  there_next = ap is_there tree_next ∙ there_with p n nothing (inode_tree w root) there_now

  abbrev new : InodeEntries
  new = (dir_stays p n root s.old).0

  elsewhere : (b : ℕ) → (b == d) ≡ false → contents next b ≡ contents w b
  elsewhere = written_elsewhere w d bytes

  put_back : inode_at next d ≡ Some (directory (without_listed n es))
  put_back = ap (option_and_then (inode_in (block_len w.geometry))) (written_here w d bytes (live w root p d es s valid)) ∙ reads

  node_next : node_at next (suc path_max) root ≡ a_dir root new
  node_next =
      let at_path = deciding.at_path w root d p s.more s.xs s.old s.has s.levels s.stands in
      let whole = deciding.whole w root d p s.more s.xs s.old s.has s.levels s.stands in
      let changed = entry_is_dropped w next refl d elsewhere p s.more root es s.xs n at_path (deciding.once_whole w root d p s.more s.xs s.old s.has s.levels s.stands) s.listed (deciding.away w root d p s.more s.xs s.old s.has s.levels s.stands) put_back in
      ap (λ k. node_at next k root) (sym s.levels)
      ∙ (changed ∙ (ap (with_at p (a_dir d (with_entry n nothing s.xs))) whole
      ∙ (sym (with_last p n nothing (a_dir root s.old) ∙ ap (λ v. with_at p (with_child n nothing v) (a_dir root s.old)) s.stands) ∙ (dir_stays p n root s.old).1)))

  has_next : HasRoot next root new
  has_next =
      let f = found next root there_next in
      let both : a_dir root f.0 ≡ a_dir root new = sym f.1.node ∙ node_next in
      let same : f.0 ≡ new = cc in
      subst (HasRoot next root) same f.1

  parts : ((list_all (λ e. holds w.pairs e.0 e.1) (named_pairs root s.old) && are_apart (root ∷ inode_blocks s.old)) ≡ true) × (list_all (λ b. not (has_number (root ∷ inode_blocks s.old) b)) (data_blocks s.old) ≡ true)
  parts = and_parts (list_all (λ e. holds w.pairs e.0 e.1) (named_pairs root s.old) && are_apart (root ∷ inode_blocks s.old)) _ s.has.right

  once : are_apart (root ∷ inode_blocks s.old) ≡ true
  once = (and_parts (list_all (λ e. holds w.pairs e.0 e.1) (named_pairs root s.old)) _ parts.0).1

  pub exchange : Exchange root d p n s.xs s.old new nothing
  exchange = record {
    stands = s.stands;
    is = (dir_stays p n root s.old).1;
    once = once;
    off = parts.1;
    fresh = λ b. let few = apart_times (root ∷ inode_blocks s.old) once b in omega (arith, few);
    own = λ b h. absurd (cc);
    others = λ b h. refl;
  }

  pub named_next : named_at kind.Inode next root ≡ record { blocks = root ∷ (inode_blocks new ++ data_blocks new); pairs = named_pairs root new }
  named_next = named_of next root new has_next

  -- ---- under the root

  pub dir_under : is_under w root d ≡ true
  dir_under = named_under w root valid primary there_now d
      (ap (λ m. has_number m.blocks d) (named_of w root s.old s.has) ∙ number_left (root ∷ inode_blocks s.old) (data_blocks s.old) d (block_at p (a_dir root s.old) d s.xs s.stands))

  module _ (valid_next : IsValid next) where
    pub dir_under_next : is_under next root d ≡ true
    dir_under_next = each_under w root (λ b. is_under next root b ≡ true) (root_under next valid_next.raw root primary) (λ a b h k. target_under next valid_next.raw root primary a b h k) d dir_under

    -- ---- what it named is let go of

    module _ (c : ℕ) (k : block_named n es ≡ Some c) where
      old_is : entry n s.xs ≡ node_at w s.more c
      old_is = entry_is_read (λ b. node_at w s.more b) n es s.xs s.listed ∙ ap (read_named (λ b. node_at w s.more b)) k

      old_there : is_there (node_at w s.more c) ≡ true
      old_there = named_is_there (λ b. node_at w s.more b) n c es s.xs s.listed k

      old_block : block_is (entry n s.xs) c
      old_block = subst (λ x. block_is x c) (sym old_is) (node_block w s.more c old_there)

      pub old_held : holds w.pairs d c ≡ true
      old_held = child_held w root p d es s valid d c (entry_pair d n s.xs c old_block)

      pub old_under : is_under next root c ≡ true
      old_under = target_under next valid_next.raw root primary d c old_held dir_under_next

      pub old_spared : holds (named_at kind.Inode next root).pairs d c ≡ false
      old_spared = ap (λ m. holds m.pairs d c) named_next ∙ spared root d p n s.xs s.old new nothing exchange d c (own_inode (entry n s.xs) c old_block)

      abbrev pub last : World
      last = dropped next d c

      module _ (keeps : Keeps next last (named_at kind.Inode next root)) (valid_last : IsValid last) where
        pub same_last : SameTree kind.Inode root next last
        same_last = read_from_named kind.Inode next last root there_next keeps

        was_held : (a b : ℕ) → holds last.pairs a b ≡ true → (holds w.pairs a b ≡ true) × (is_pair d c (a, b) ≡ false)
        was_held a b h = (fewer_pairs next d c a b h, other_pair next d c a b h)

        pub tidy_last : IsTidy kind.Inode w root → IsTidy kind.Inode last root
        tidy_last tidy = tidy_by_pairs last root valid_last primary new (same_last.named ∙ named_next) (ap is_there same_last.tree ∙ there_next) (λ a b from h.
            let was = was_held a b h in
            let before = of_old a (named_before root d p n s.xs s.old new nothing exchange a from) in
            let named : holds (named_pairs root s.old) a b ≡ true =
            ap (λ m. holds m.pairs a b) (sym (named_of w root s.old s.has)) ∙ (sym (tidy.pairs a b (ap (λ m. has_number m.blocks a) (named_of w root s.old s.has) ∙ before)) ∙ was.0) in
            still_named root d p n s.xs s.old new nothing exchange a b from (inl named) (λ own.
            let same = own_pair d a b c (entry n s.xs) own old_block in
            clash (is_pair d c (a, b)) (and_from (a == d) (b == c) (eq-eqb a d (sym same.0)) (eq-eqb b c (sym same.1))) was.1))
          where
            of_old : (a : ℕ) → (has_number (root ∷ (inode_blocks s.old ++ data_blocks s.old)) a ≡ true) ⊎ ((false ≡ true) ⊎ (false ≡ true)) → has_number (root ∷ (inode_blocks s.old ++ data_blocks s.old)) a ≡ true
            of_old a (inl was) = was
            of_old a (inr (inl never)) = absurd (cc)
            of_old a (inr (inr never)) = absurd (cc)

        -- nothing is taken
        pub none_taken : (b : ℕ) → is_free w b ≡ true → is_live last b ≡ true → ⊥
        none_taken b free lives = written_free w d bytes (live w root p d es s valid) b free (fewer_live next d c b lives)
