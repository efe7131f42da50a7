-- What was made is entered in its directory, in a new entry or in the place of an old one.
use Rattle.std.proofs.Common.{◌≡◌, ℕ, suc, ◌+◌, ◌^◌, ◌<◌, ◌≤◌, Bool, true, false, not, cond, ◌&&◌, ◌||◌, ◌==◌, nat_lt, List, [], ◌∷◌, ◌++◌, length, refl, sym, ◌∙◌, ap, subst, arith, inl, inr, ◌⊎◌, Some, None}
use Rattle.inode_changes.proofs.Common.{and_parts, and_from, or_cases, or_left, or_right, eq-eqb, eqb-true, not-true, false_from_ne_true, is_some, map, list_all, option_and_then, block_len, World, contents, is_live, is_free, has_number, are_apart, holds, is_pair, IsValid, filled, written, contents-same, Name, Path, path_max, is_name, nothing, a_file, a_dir, entry, at, is_there, with_entry, with_child, with_at, Entry, Inode, directory, regular, entries_room, block_named, inode_in, inode_bytes, with_listed, InodeNode, InodeEntries, tree_of, inode_at, entries_by, node_by, as_dir, node_at, inode_blocks, data_blocks, named_pairs, inode_tree, named_at, IsTidy, is_under, OthersStay, is_inside, Keeps, SameTree, read_from_named, outside_twice, number_left, number_right, in_append, node_blocks, node_same, HasRoot, found, under_is, inodes_under_root, read_named, entry_is_read, entry_is_put, node_away, with_last, block_at, nowhere, entry_blocks_in, times, times_none, apart_times, times-with_at, node_data, node_pairs, each_under, root_under, target_under, Client, write_by, unlink_by, Leads, dropped, clash_free_live, block_is, node_block, named_is_there, entry_pair, dir_node, fewer_pairs, fewer_live, other_pair, written_elsewhere, blocks_said, entries_said, node_of, new_pairs, Making}
use Rattle.fs_trees.specs.declared.ask.ShellKind.TheVariants as kind
use Rattle.fs_laws.proofs.EntryLaws.{FitsIn}
use Rattle.fs_laws.proofs.EntryLaws as deciding
use Rattle.inode_changes.proofs.ExchangeLaws.{Exchange, block_is_at, dir_stays_with, spared, still_named, named_before, named_target, all_off, some_times}
use Rattle.inode_changes.proofs.TidyLaws.{named_of, named_under, tidy_by_pairs}
use Rattle.inode_changes.proofs.ListingLaws.{ascending_with, named_with, small_with}
use Rattle.inode_changes.proofs.SpotLaws.{Spot, live, within, order, small, small_block, reads_as, child_held}
use Rattle.inode_changes.proofs.RemovalLaws.{there_with, own_pair, own_inode}
use Rattle.inode_changes.proofs.MakingLaws.{fan_has, tree_same, new_unnamed, primary_now, dir_now}
use Rattle.tsd_model.proofs.ValueLaws.{clash}

has_times : (b : ℕ) (xs : List ℕ) → 1 ≤ times b xs → has_number xs b ≡ true
has_times b xs h = elim (has_number xs b) as (λ t. has_number xs b ≡ t → t ≡ true) [
  | true ↦ λ e. refl
  | false ↦ λ e. absurd (never (times b xs) h (times_none b xs e))
] refl
  where
    never : (t : ℕ) → 1 ≤ t → t ≡ 0 → ⊥
    never t h e = omega arith

-- inodes at a path are among those of the root
below_blocks : (p : Path) (x : InodeNode) (d : ℕ) (xs : InodeEntries) → at x p ≡ a_dir d xs → (b : ℕ) → has_number (d ∷ inode_blocks xs) b ≡ true → has_number (node_blocks x) b ≡ true
below_blocks [] x d xs e b h = ap (λ y. has_number (node_blocks y) b) e ∙ h
below_blocks (n ∷ ns) nothing d xs e b h = absurd (nowhere ns d xs e)
below_blocks (n ∷ ns) (a_file f) d xs e b h = absurd (nowhere ns d xs e)
below_blocks (n ∷ ns) (a_dir c es) d xs e b h = or_right (c == b) _ (entry_blocks_in n es b (below_blocks ns (entry n es) d xs e b h))

block_in : (d a b : ℕ) (z : InodeNode) → block_is_at d a b z → has_number (node_blocks z) b ≡ true
block_in d a b nothing h = absurd h
block_in d a b (a_file f) h = or_left (f.block == b) _ (eq-eqb f.block b h.1)
block_in d a b (a_dir e es) h = or_left (e == b) _ (eq-eqb e b h.1)

-- ---- the node of what was made

bare_node : (read : ℕ → InodeNode) (i : ℕ) (inode : Inode) → entries_said inode ≡ [] → node_by read i (Some inode) ≡ node_of i inode
bare_node read i (regular size blocks) e = refl
bare_node read i (directory es) e = ap (λ fs. as_dir i (entries_by read fs)) e

bare_there : (i : ℕ) (inode : Inode) → is_there (node_of i inode) ≡ true
bare_there i (regular size blocks) = refl
bare_there i (directory es) = refl

one_block : (i : ℕ) (inode : Inode) → node_blocks (node_of i inode) ≡ i ∷ []
one_block i (regular size blocks) = refl
one_block i (directory es) = refl

bare_data : (i : ℕ) (inode : Inode) → entries_said inode ≡ [] → node_data (node_of i inode) ≡ blocks_said inode
bare_data i (regular size blocks) e = refl
bare_data i (directory es) e = sym (ap (λ (fs : List Entry). map (λ (f : Entry). f.block) fs) e)

bare_pairs : (d i : ℕ) (inode : Inode) → entries_said inode ≡ [] → node_pairs d (node_of i inode) ≡ new_pairs d i (blocks_said inode)
bare_pairs d i (regular size blocks) e = refl
bare_pairs d i (directory es) e = sym (ap (λ (fs : List Entry). new_pairs d i (map (λ (f : Entry). f.block) fs)) e)

module _ (first : World) (root : ℕ) (p : Path) (d : ℕ) (es : List Entry) (s : Spot first root p d es) (valid : IsValid first) (primary : root < first.geometry.primaries)
    (n : Name) (is_named : is_name n ≡ true) (less : ℕ) (deep : s.more ≡ suc less)
    (i : ℕ) (shared fresh : List ℕ) (w : World) (m : Making root first d i shared fresh w) (inode : Inode) (says_so : inode_at w i ≡ Some inode) (names : blocks_said inode ≡ shared ++ fresh) (bare : entries_said inode ≡ [])
    (of_files : (b : ℕ) → has_number shared b ≡ true → has_number (data_blocks s.old) b ≡ true)
    (fits_in : length (with_listed (record { name = n; block = i }) es) ≤ entries_room (block_len first.geometry)) where
  abbrev entered : Entry
  entered = record { name = n; block = i }

  abbrev y : InodeNode
  y = node_of i inode

  abbrev bytes : List ℕ
  bytes = inode_bytes (directory (with_listed (record { name = n; block = i }) es))

  -- the world after the deciding write
  abbrev pub next : World
  next = written w d (inode_bytes (directory (with_listed (record { name = n; block = i }) es)))

  there : is_there (inode_tree first root) ≡ true
  there = ap (λ x. is_there (tree_of first x)) (under_is first root s.old s.has)

  named_first : named_at kind.Inode first root ≡ record { blocks = root ∷ (inode_blocks s.old ++ data_blocks s.old); pairs = named_pairs root s.old }
  named_first = named_of first root s.old s.has

  dir_named : has_number (named_at kind.Inode first root).blocks d ≡ true
  dir_named = ap (λ k. has_number k.blocks d) named_first ∙ number_left (root ∷ inode_blocks s.old) (data_blocks s.old) d (block_at p (a_dir root s.old) d s.xs s.stands)

  pub dir_under : is_under first root d ≡ true
  dir_under = named_under first root valid primary there d dir_named

  dir_live : is_live first d ≡ true
  dir_live = live first root p d es s valid

  inode_named : (b : ℕ) → has_number (root ∷ inode_blocks s.old) b ≡ true → has_number (named_at kind.Inode first root).blocks b ≡ true
  inode_named b h = ap (λ k. has_number k.blocks b) named_first ∙ number_left (root ∷ inode_blocks s.old) (data_blocks s.old) b h

  data_named : (b : ℕ) → has_number (data_blocks s.old) b ≡ true → has_number (named_at kind.Inode first root).blocks b ≡ true
  data_named b h = ap (λ k. has_number k.blocks b) named_first ∙ number_right (root ∷ inode_blocks s.old) (data_blocks s.old) b h

  -- a new block isn't named
  unnamed : (b : ℕ) → has_number (i ∷ fresh) b ≡ true → has_number (named_at kind.Inode first root).blocks b ≡ true → ⊥
  unnamed b h k = clash (has_number (named_at kind.Inode first root).blocks b) k (new_unnamed root first valid primary there d dir_under i shared fresh w m b h)

  new_inode : has_number (i ∷ fresh) i ≡ true
  new_inode = or_left (i == i) _ (eq-eqb i i refl)

  new_part : (b : ℕ) → has_number fresh b ≡ true → has_number (i ∷ fresh) b ≡ true
  new_part b h = or_right (i == b) _ h

  -- ---- the world in which it is entered

  same_bytes : (b : ℕ) → has_number (named_at kind.Inode first root).blocks b ≡ true → contents w b ≡ contents first b
  same_bytes b h = m.keeps.bytes b h

  root_now : node_at w (suc path_max) root ≡ a_dir root s.old
  root_now = node_same first w m.geometry (suc path_max) root (ap is_there s.has.node) (λ b h. same_bytes b (inode_named b (ap (λ x. has_number (node_blocks x) b) (sym s.has.node) ∙ h))) ∙ s.has.node

  there_w : is_there (inode_tree w root) ≡ true
  there_w = ap is_there (tree_same root first valid primary there d dir_under i shared fresh w m) ∙ there

  has_w : HasRoot w root s.old
  has_w =
      let f = found w root there_w in
      let both : a_dir root f.0 ≡ a_dir root s.old = sym f.1.node ∙ root_now in
      let same : f.0 ≡ s.old = cc in
      subst (HasRoot w root) same f.1

  says_w : inode_at w d ≡ Some (directory es)
  says_w = ap (λ g. option_and_then (inode_in (block_len g)) (contents w d)) m.geometry ∙ (ap (option_and_then (inode_in (block_len first.geometry))) (same_bytes d dir_named) ∙ s.says)

  dir_first : node_at first (suc s.more) d ≡ a_dir d s.xs
  dir_first = ap (node_by (λ b. node_at first s.more b) d) s.says ∙ ap (as_dir d) s.listed

  dir_w : node_at w (suc s.more) d ≡ a_dir d s.xs
  dir_w = node_same first w m.geometry (suc s.more) d (ap is_there dir_first)
      (λ b h. same_bytes b (inode_named b (below_blocks p (a_dir root s.old) d s.xs s.stands b (ap (λ x. has_number (node_blocks x) b) (sym dir_first) ∙ h)))) ∙ dir_first

  listed_w : entries_by (λ b. node_at w s.more b) es ≡ Some s.xs
  listed_w =
      let f = dir_node w s.more d (ap is_there dir_w) es says_w in
      let both : a_dir d f.0 ≡ a_dir d s.xs = sym f.2 ∙ dir_w in
      let same : f.0 ≡ s.xs = cc in
      f.1 ∙ ap (λ x. Some x) same

  pub spot_w : Spot w root p d es
  spot_w = record { more = s.more; xs = s.xs; old = s.old; has = has_w; levels = s.levels; stands = s.stands; listed = listed_w; says = says_w; room = subst (λ g. length es ≤ entries_room (block_len g)) (sym m.geometry) s.room }

  made_node : node_at w s.more i ≡ y
  made_node = ap (λ k. node_at w k i) deep ∙ (ap (node_by (λ b. node_at w less b) i) says_so ∙ bare_node (λ b. node_at w less b) i inode bare)

  blocks_are : node_blocks y ≡ i ∷ []
  blocks_are = one_block i inode

  data_is : node_data y ≡ shared ++ fresh
  data_is = bare_data i inode bare ∙ names

  pairs_are : node_pairs d y ≡ new_pairs d i (shared ++ fresh)
  pairs_are = bare_pairs d i inode bare ∙ ap (new_pairs d i) names

  off_inode : (b : ℕ) → has_number (root ∷ inode_blocks s.old) b ≡ true → (i == b) ≡ false
  off_inode b h = false_from_ne_true (i == b) (λ e. unnamed i new_inode (subst (λ k. has_number (named_at kind.Inode first root).blocks k ≡ true) (sym (eqb-true i b e)) (inode_named b h)))

  off_data : (b : ℕ) → has_number (data_blocks s.old) b ≡ true → has_number (i ∷ []) b ≡ false
  off_data b h = ap (λ t. t || false) (false_from_ne_true (i == b) (λ e. unnamed i new_inode (subst (λ k. has_number (named_at kind.Inode first root).blocks k ≡ true) (sym (eqb-true i b e)) (data_named b h))))

  parts : ((list_all (λ e. holds first.pairs e.0 e.1) (named_pairs root s.old) && are_apart (root ∷ inode_blocks s.old)) ≡ true) × (list_all (λ b. not (has_number (root ∷ inode_blocks s.old) b)) (data_blocks s.old) ≡ true)
  parts = and_parts (list_all (λ e. holds first.pairs e.0 e.1) (named_pairs root s.old) && are_apart (root ∷ inode_blocks s.old)) _ s.has.right

  once : are_apart (root ∷ inode_blocks s.old) ≡ true
  once = (and_parts (list_all (λ e. holds first.pairs e.0 e.1) (named_pairs root s.old)) _ parts.0).1

  apart_inode : (b : ℕ) → times b (root ∷ inode_blocks s.old) + times b (i ∷ []) ≤ 1
  apart_inode b = elim (has_number (root ∷ inode_blocks s.old) b) as (λ t. has_number (root ∷ inode_blocks s.old) b ≡ t → times b (root ∷ inode_blocks s.old) + times b (i ∷ []) ≤ 1) [
    | true ↦ λ e.
        let few = apart_times (root ∷ inode_blocks s.old) once b in
        let off : ◌≡◌ {A = ℕ} (cond (i == b) 1 0) 0 = ap (λ t. cond {A = ℕ} t 1 0) (off_inode b e) in
        omega (arith, few, off)
    | false ↦ λ e.
        let absent = times_none b (root ∷ inode_blocks s.old) e in
        let most = one_or_none (i == b) in
        omega (arith, absent, most)
  ] refl
    where
      one_or_none : (t : Bool) → cond {A = ℕ} t 1 0 ≤ 1
      one_or_none true = omega arith
      one_or_none false = omega arith

  -- blocks of bytes are no inodes
  own_data : (b : ℕ) → has_number (shared ++ fresh) b ≡ true → has_number (root ∷ inode_blocks s.old) b ≡ false
  own_data b h = elim (in_append shared fresh b h) [
    | inl old ↦ all_off (root ∷ inode_blocks s.old) (data_blocks s.old) b parts.1 (of_files b old)
    | inr part ↦ false_from_ne_true (has_number (root ∷ inode_blocks s.old) b) (λ k. unnamed b (new_part b part) (inode_named b k))
  ]

  not_itself : (b : ℕ) → has_number (shared ++ fresh) b ≡ true → has_number (i ∷ []) b ≡ false
  not_itself b h = elim (in_append shared fresh b h) [
    | inl old ↦ off_data b (of_files b old)
    | inr part ↦ ap (λ t. t || false) (false_from_ne_true (i == b) (λ e. clash (has_number fresh i) (subst (λ k. has_number fresh k ≡ true) (sym (eqb-true i b e)) part)
        (not-true (has_number fresh i) (and_parts (not (has_number fresh i)) (are_apart fresh) m.once).0)))
  ]

  node_held : (a b : ℕ) → holds (new_pairs d i (shared ++ fresh)) a b ≡ true → holds w.pairs a b ≡ true
  node_held a b h = m.pairs a b ∙ or_right (holds first.pairs a b) _ h

  apart_y : (b : ℕ) → times b (root ∷ inode_blocks s.old) + times b (node_blocks y) ≤ 1
  apart_y b = subst (λ bs. times b (root ∷ inode_blocks s.old) + times b bs ≤ 1) (sym blocks_are) (apart_inode b)

  own_y : (b : ℕ) → has_number (node_data y) b ≡ true → has_number (root ∷ inode_blocks s.old) b ≡ false
  own_y b h = own_data b (ap (λ bs. has_number bs b) (sym data_is) ∙ h)

  others_y : (b : ℕ) → has_number (data_blocks s.old) b ≡ true → has_number (node_blocks y) b ≡ false
  others_y b h = ap (λ bs. has_number bs b) blocks_are ∙ off_data b h

  fits : FitsIn w root d s.old y
  fits = record {
    inodes = apart_y;
    held = λ a b h. node_held a b (ap (λ es. holds es a b) (sym pairs_are) ∙ h);
    own = λ b h. (own_y b h, ap (λ bs. has_number bs b) blocks_are ∙ not_itself b (ap (λ bs. has_number bs b) (sym data_is) ∙ h));
    others = others_y;
  }

  -- ---- the deciding write

  reads : inode_in (block_len w.geometry) (filled (block_len w.geometry) bytes) ≡ Some (directory (with_listed (record { name = n; block = i }) es))
  reads =
      let o = order w root p d es spot_w m.valid in
      let below : nat_lt i (2 ^ 32) ≡ true = small_block w root p d es spot_w m.valid i (m.lives i new_inode) in
      reads_as w root p d es spot_w m.valid (with_listed (record { name = n; block = i }) es) (subst (λ g. length (with_listed (record { name = n; block = i }) es) ≤ entries_room (block_len g)) (sym m.geometry) fits_in)
      (named_with entered es is_named o.0) (ascending_with entered es o.1) (small_with entered es below (small w root p d es spot_w m.valid))

  within_w : d < length w.blocks
  within_w = within w root p d es spot_w m.valid

  pub tree_next : inode_tree next root ≡ with_at (p ++ n ∷ []) (tree_of w (node_of i inode)) (inode_tree first root)
  tree_next = deciding.entry_is_set w root d p s.more s.xs s.old has_w s.levels s.stands es listed_w within_w (filled (block_len w.geometry) bytes)
      (record { name = n; block = i }) y made_node (bare_there i inode) fits reads
      ∙ ap (with_at (p ++ n ∷ []) (tree_of w y)) (tree_same root first valid primary there d dir_under i shared fresh w m)

  pub there_next : is_there (inode_tree next root) ≡ true
  there_next = ap is_there tree_next ∙ there_with p n (tree_of w y) (inode_tree first root) there

  abbrev new : InodeEntries
  new = (dir_stays_with p n y root s.old).0

  elsewhere : (b : ℕ) → (b == d) ≡ false → contents next b ≡ contents w b
  elsewhere = written_elsewhere w d bytes

  put_back : inode_at next d ≡ Some (directory (with_listed (record { name = n; block = i }) es))
  put_back = ap (option_and_then (inode_in (block_len w.geometry))) (contents-same w d (filled (block_len w.geometry) bytes) within_w) ∙ reads

  dir_is_other : (i == d) ≡ false
  dir_is_other = off_inode d (block_at p (a_dir root s.old) d s.xs s.stands)

  made_next : node_at next s.more i ≡ y
  made_next =
      let off : has_number (node_blocks y) d ≡ false = ap (λ bs. has_number bs d) blocks_are ∙ ap (λ t. t || false) dir_is_other in
      node_away w next refl d elsewhere s.more i (ap is_there made_node ∙ bare_there i inode) (ap (λ x. has_number (node_blocks x) d) made_node ∙ off) ∙ made_node

  as_put : a_dir root new ≡ with_at p (a_dir d (with_entry n y s.xs)) (a_dir root s.old)
  as_put = sym (dir_stays_with p n y root s.old).1 ∙ (with_last p n y (a_dir root s.old) ∙ ap (λ v. with_at p (with_child n y v) (a_dir root s.old)) s.stands)

  node_next : node_at next (suc path_max) root ≡ a_dir root new
  node_next =
      let at_path = deciding.at_path w root d p s.more s.xs s.old has_w s.levels s.stands in
      let whole = deciding.whole w root d p s.more s.xs s.old has_w s.levels s.stands in
      let changed = entry_is_put w next refl d elsewhere p s.more root es s.xs (record { name = n; block = i }) y at_path
      (deciding.once_whole w root d p s.more s.xs s.old has_w s.levels s.stands) listed_w (deciding.away w root d p s.more s.xs s.old has_w s.levels s.stands) put_back made_next (bare_there i inode) in
      ap (λ k. node_at next k root) (sym s.levels)
      ∙ (changed ∙ (ap (with_at p (a_dir d (with_entry n y s.xs))) whole ∙ sym as_put))

  has_next : HasRoot next root new
  has_next =
      let f = found next root there_next in
      let both : a_dir root f.0 ≡ a_dir root new = sym f.1.node ∙ node_next in
      let same : f.0 ≡ new = cc in
      subst (HasRoot next root) same f.1

  exchange : Exchange root d p n s.xs s.old new y
  exchange = record {
    stands = s.stands;
    is = (dir_stays_with p n y root s.old).1;
    once = once;
    off = parts.1;
    fresh = apart_y;
    own = own_y;
    others = others_y;
  }

  named_next : named_at kind.Inode next root ≡ record { blocks = root ∷ (inode_blocks new ++ data_blocks new); pairs = named_pairs root new }
  named_next = named_of next root new has_next

  pub write_inside : (c : Client) → is_inside w root (write_by c d (inode_bytes (directory (with_listed (record { name = n; block = i }) es)))) ≡ true
  write_inside c = and_from (is_under w root d) true (dir_now root first valid primary there d dir_under i shared fresh w m) refl

  pub others_next : (c : Client) → Leads w (write_by c d (inode_bytes (directory (with_listed (record { name = n; block = i }) es)))) (written w d (inode_bytes (directory (with_listed (record { name = n; block = i }) es)))) → OthersStay root first next
  others_next c leads = outside_twice root first w next m.others (leads.others root (primary_now root first valid primary there d dir_under i shared fresh w m) (write_inside c))

  -- ---- what is named then

  -- a held pair is an old one, or one of what was made
  held_ways : (a b : ℕ) → holds w.pairs a b ≡ true → (holds first.pairs a b ≡ true) ⊎ (holds (new_pairs d i (shared ++ fresh)) a b ≡ true)
  held_ways a b h = or_cases (holds first.pairs a b) (holds (new_pairs d i (shared ++ fresh)) a b) (sym (m.pairs a b) ∙ h)

  -- among named blocks an old pair was named, where the world was tidy
  old_pair_named : IsTidy kind.Inode first root → (a b : ℕ) → has_number (root ∷ (inode_blocks new ++ data_blocks new)) a ≡ true → holds first.pairs a b ≡ true → holds (named_pairs root s.old) a b ≡ true
  old_pair_named tidy a b from was =
      let was_live = valid.raw.sources a b was in
      let before : has_number (root ∷ (inode_blocks s.old ++ data_blocks s.old)) a ≡ true = elim (named_before root d p n s.xs s.old new y exchange a from) [
        | inl old ↦ old
        | inr own ↦ elim own [
          | inl itself ↦ absurd (clash_free_live first i (m.free i new_inode) (subst (λ k. is_live first k ≡ true) (sym (only a (ap (λ bs. has_number bs a) (sym blocks_are) ∙ itself))) was_live))
          | inr part ↦ elim (in_append shared fresh a (ap (λ bs. has_number bs a) (sym data_is) ∙ part)) [
            | inl old ↦ number_right (root ∷ inode_blocks s.old) (data_blocks s.old) a (of_files a old)
            | inr new_one ↦ absurd (clash_free_live first a (m.free a (new_part a new_one)) was_live)
          ]
        ]
      ] in
      ap (λ k. holds k.pairs a b) (sym named_first) ∙ (sym (tidy.pairs a b (ap (λ k. has_number k.blocks a) named_first ∙ before)) ∙ was)
    where
      only : (a : ℕ) → has_number (i ∷ []) a ≡ true → i ≡ a
      only a h = elim (or_cases (i == a) false h) [ inl e ↦ eqb-true i a e | inr never ↦ absurd (cc) ]

  either_way : IsTidy kind.Inode first root → (a b : ℕ) → has_number (root ∷ (inode_blocks new ++ data_blocks new)) a ≡ true → holds w.pairs a b ≡ true
      → (holds (named_pairs root s.old) a b ≡ true) ⊎ (holds (node_pairs d y) a b ≡ true)
  either_way tidy a b from h = elim (held_ways a b h) [
    | inl was ↦ inl (old_pair_named tidy a b from was)
    | inr own ↦ inr (ap (λ es. holds es a b) pairs_are ∙ own)
  ]

  -- the directory is named still
  dir_in_new : has_number (root ∷ (inode_blocks new ++ data_blocks new)) d ≡ true
  dir_in_new =
      let law = times-with_at d p (a_dir d (with_entry n y s.xs)) (a_dir root s.old) (ap is_there s.stands) in
      let here : times d (node_blocks (at (a_dir root s.old) p)) ≡ cond (d == d) 1 0 + times d (inode_blocks s.xs) = ap (λ v. times d (node_blocks v)) s.stands in
      let now : times d (root ∷ inode_blocks new) ≡ times d (node_blocks (with_at p (a_dir d (with_entry n y s.xs)) (a_dir root s.old))) = ap (λ v. times d (node_blocks v)) as_put in
      let below = times_none d (inode_blocks s.xs) (deciding.away w root d p s.more s.xs s.old has_w s.levels s.stands) in
      let one : cond {A = ℕ} (d == d) 1 0 ≡ 1 = ap (λ t. cond {A = ℕ} t 1 0) (eq-eqb d d refl) in
      let was = some_times d (root ∷ inode_blocks s.old) (block_at p (a_dir root s.old) d s.xs s.stands) in
      number_left (root ∷ inode_blocks new) (data_blocks new) d (has_times d (root ∷ inode_blocks new)
      (enough (times d (root ∷ inode_blocks new)) (times d (node_blocks (with_at p (a_dir d (with_entry n y s.xs)) (a_dir root s.old)))) (times d (node_blocks (at (a_dir root s.old) p))) (times d (root ∷ inode_blocks s.old))
      (cond {A = ℕ} (d == d) 1 0) (times d (inode_blocks s.xs)) (times d (inode_blocks (with_entry n y s.xs))) law here now below one was))
    where
      enough : (new put at old o xs ys : ℕ) → put + at ≡ old + (o + ys) → at ≡ o + xs → new ≡ put → xs ≡ 0 → o ≡ 1 → 1 ≤ old → 1 ≤ new
      enough new put at old o xs ys law here now below one was = omega arith

  no_new_entry : (a b : ℕ) → has_number (i ∷ fresh) b ≡ true → block_is_at d a b (entry n s.xs) → ⊥
  no_new_entry a b new_one h = unnamed b new_one (inode_named b (below_blocks p (a_dir root s.old) d s.xs s.stands b (or_right (d == b) _ (entry_blocks_in n s.xs b (block_in d a b (entry n s.xs) h)))))

  target_named : (a b : ℕ) → holds (named_pairs root new) a b ≡ true → has_number (root ∷ (inode_blocks new ++ data_blocks new)) b ≡ true
  target_named a b h = elim (named_target root new a b h) [
    | inl other ↦ number_left (root ∷ inode_blocks new) (data_blocks new) b (or_right (root == b) _ other)
    | inr part ↦ number_right (root ∷ inode_blocks new) (data_blocks new) b part
  ]

  inode_in_new : has_number (root ∷ (inode_blocks new ++ data_blocks new)) i ≡ true
  inode_in_new = target_named d i (still_named root d p n s.xs s.old new y exchange d i dir_in_new
      (inr (ap (λ es. holds es d i) pairs_are ∙ or_left (is_pair d i (d, i)) _ (and_from (d == d) (i == i) (eq-eqb d d refl) (eq-eqb i i refl)))) (no_new_entry d i new_inode))

  part_in_new : (b : ℕ) → has_number fresh b ≡ true → has_number (root ∷ (inode_blocks new ++ data_blocks new)) b ≡ true
  part_in_new b h = target_named i b (still_named root d p n s.xs s.old new y exchange i b inode_in_new
      (inr (ap (λ es. holds es i b) pairs_are ∙ or_right (is_pair i b (d, i)) _ (fan_has i (shared ++ fresh) b (number_right shared fresh b h)))) (no_new_entry i b (new_part b h)))

  -- what was free and isn't then is named
  named_if_taken : (b : ℕ) → is_free first b ≡ true → is_live next b ≡ true → has_number (named_at kind.Inode next root).blocks b ≡ true
  named_if_taken b was lives = ap (λ k. has_number k.blocks b) named_next ∙ elim (has_number (i ∷ fresh) b) as (λ t. has_number (i ∷ fresh) b ≡ t → has_number (root ∷ (inode_blocks new ++ data_blocks new)) b ≡ true) [
    | true ↦ λ e. elim (or_cases (i == b) (has_number fresh b) e) [
      | inl here ↦ subst (λ k. has_number (root ∷ (inode_blocks new ++ data_blocks new)) k ≡ true) (eqb-true i b here) inode_in_new
      | inr part ↦ part_in_new b part
    ]
    | false ↦ λ e. absurd (clash_free_live first b was (still_live b e lives))
  ] refl
    where
      still_live : (b : ℕ) → has_number (i ∷ fresh) b ≡ false → is_live next b ≡ true → is_live first b ≡ true
      still_live b e lives = elim (b == d) as (λ t. (b == d) ≡ t → is_live first b ≡ true) [
        | true ↦ λ f. subst (λ k. is_live first k ≡ true) (sym (eqb-true b d f)) dir_live
        | false ↦ λ f. ap is_some (sym (m.bytes b e)) ∙ (ap is_some (sym (elsewhere b f)) ∙ lives)
      ] refl

  -- ---- where nothing had the name

  module _ (valid_next : IsValid next) (k : block_named n es ≡ None) where
    no_entry : (a b : ℕ) → block_is_at d a b (entry n s.xs) → ⊥
    no_entry a b h = subst (block_is_at d a b) (entry_is_read (λ c. node_at first s.more c) n es s.xs s.listed ∙ ap (read_named (λ c. node_at first s.more c)) k) h

    pub tidy_new : IsTidy kind.Inode first root → IsTidy kind.Inode next root
    tidy_new tidy = tidy_by_pairs next root valid_next (primary_now root first valid primary there d dir_under i shared fresh w m) new named_next there_next (λ a b from h.
        still_named root d p n s.xs s.old new y exchange a b from (either_way tidy a b from h) (no_entry a b))

    pub taken_new : (b : ℕ) → is_free first b ≡ true → is_live next b ≡ true → has_number (named_at kind.Inode next root).blocks b ≡ true
    taken_new = named_if_taken

  -- ---- where an old one had it, which is let go of

  module _ (valid_next : IsValid next) (c : ℕ) (k : block_named n es ≡ Some c) where
    old_is : entry n s.xs ≡ node_at first s.more c
    old_is = entry_is_read (λ b. node_at first s.more b) n es s.xs s.listed ∙ ap (read_named (λ b. node_at first s.more b)) k

    old_there : is_there (node_at first s.more c) ≡ true
    old_there = named_is_there (λ b. node_at first s.more b) n c es s.xs s.listed k

    old_block : block_is (entry n s.xs) c
    old_block = subst (λ x. block_is x c) (sym old_is) (node_block first s.more c old_there)

    primary_next : root < next.geometry.primaries
    primary_next = primary_now root first valid primary there d dir_under i shared fresh w m

    pub old_held : holds w.pairs d c ≡ true
    old_held = m.pairs d c ∙ or_left (holds first.pairs d c) _ (child_held first root p d es s valid d c (entry_pair d n s.xs c old_block))

    dir_under_next : is_under next root d ≡ true
    dir_under_next = each_under w root (λ b. is_under next root b ≡ true) (root_under next valid_next.raw root primary_next) (λ a b h q. target_under next valid_next.raw root primary_next a b h q) d
        (dir_now root first valid primary there d dir_under i shared fresh w m)

    pub drop_inside : (me : Client) → is_inside next root (unlink_by me d c) ≡ true
    drop_inside me = and_from (is_under next root d) _ dir_under_next (and_from (is_under next root c) true (target_under next valid_next.raw root primary_next d c old_held dir_under_next) refl)

    old_spared : holds (named_at kind.Inode next root).pairs d c ≡ false
    old_spared = ap (λ q. holds q.pairs d c) named_next ∙ spared root d p n s.xs s.old new y exchange d c (own_inode (entry n s.xs) c old_block)

    module _ (me : Client) (leads : Leads next (unlink_by me d c) (dropped next d c)) where
      last_keeps : Keeps next (dropped next d c) (named_at kind.Inode next root)
      last_keeps = leads.keeps root (named_at kind.Inode next root) (inodes_under_root next root primary_next there_next) (ap not old_spared)

      same_last : SameTree kind.Inode root next (dropped next d c)
      same_last = read_from_named kind.Inode next (dropped next d c) root there_next last_keeps

      pub tree_last : inode_tree (dropped next d c) root ≡ inode_tree next root
      tree_last = same_last.tree

      was_held : (a b : ℕ) → holds (dropped next d c).pairs a b ≡ true → (holds w.pairs a b ≡ true) × (is_pair d c (a, b) ≡ false)
      was_held a b h = (fewer_pairs next d c a b h, other_pair next d c a b h)

      pub tidy_last : IsTidy kind.Inode first root → IsTidy kind.Inode (dropped next d c) root
      tidy_last tidy = tidy_by_pairs (dropped next d c) root leads.valid primary_next new (same_last.named ∙ named_next) (ap is_there same_last.tree ∙ there_next) (λ a b from h.
          let was = was_held a b h in
          still_named root d p n s.xs s.old new y exchange a b from (either_way tidy a b from was.0) (λ own.
          let same = own_pair d a b c (entry n s.xs) own old_block in
          clash (is_pair d c (a, b)) (and_from (a == d) (b == c) (eq-eqb a d (sym same.0)) (eq-eqb b c (sym same.1))) was.1))

      pub taken_last : (b : ℕ) → is_free first b ≡ true → is_live (dropped next d c) b ≡ true → has_number (named_at kind.Inode (dropped next d c) root).blocks b ≡ true
      taken_last b was lives = ap (λ q. has_number q.blocks b) same_last.named ∙ named_if_taken b was (fewer_live next d c b lives)

      pub others_last : OthersStay root first next → OthersStay root first (dropped next d c)
      others_last so_far = outside_twice root first next (dropped next d c) so_far (leads.others root primary_next (drop_inside me))
