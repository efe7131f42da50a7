-- The entry of a path in a world: its directory, as laws on deciding writes take it.
use Rattle.std.proofs.Common.{◌≡◌, ℕ, zero, suc, ◌+◌, ◌*◌, ◌-◌, ◌^◌, ◌<◌, ◌≤◌, Bool, true, false, nat_lt, List, [], ◌∷◌, length, refl, sym, ◌∙◌, ap, subst, arith, inl, inr, ◌⊎◌, Option, Some, None}
use Rattle.inode_changes.proofs.Common.{and_parts, and_from, nat_tests, is_some, map, drop, replicate, option_and_then, list_all, block_len, World, contents, is_live, are_apart, holds, IsValid, filled, all_of_held, live_below, Path, path_max, are_ascending, nothing, a_file, a_dir, entry, at, is_there, only_if, Entry, entries, entry_names, all_named, Inode, directory, entries_room, inode_in, inode_bytes, InodeNode, InodeEntries, inode_at, entries_by, node_at, inode_blocks, named_pairs, directory_of, HasRoot, found, under_is, deeper, nowhere, DiskView, Client, InodeKind, Directory, Regular, item_bytes, said, inode_of, block_len_of, body_of, said_in, is_directory, is_in_order, in_order, are_small, entries_said, reads_back, Lookup, tree_under, IsLookup, entry_pairs, node_block, dir_node, dir_said}
use Rattle.inode_layout.specs.declared.inode.Inode as layout
use Rattle.inode_layout.proofs.SaidLaws.{in_two_steps}
use Rattle.inode_walks.specs.Finding.{node_pairs}
use Rattle.inode_changes.proofs.ListingLaws.{small_listed}

-- The directory in block d stands at a path under the root, with this list.
pub record Spot (w : World) (root : ℕ) (p : Path) (d : ℕ) (es : List Entry) : Type 0 where
  -- so many names below it at most
  pub more : ℕ
  pub xs : InodeEntries
  pub old : InodeEntries
  pub has : HasRoot w root old
  pub levels : deeper p (suc more) ≡ suc path_max
  pub stands : at (a_dir root old) p ≡ a_dir d xs
  pub listed : entries_by (λ c. node_at w more c) es ≡ Some xs
  pub says : inode_at w d ≡ Some (directory es)
  pub room : length es ≤ entries_room (block_len w.geometry)

pub deeper_is : (p : Path) (k : ℕ) → deeper p k ≡ k + length p
deeper_is [] k = sym (omega arith)
deeper_is (n ∷ ns) k = let rest = deeper_is ns k in omega (arith, rest)

-- ---- what an inode in a block says is in order, and fits the block

ordered_by : (o : Option Inode) (i : Inode) → option_and_then in_order o ≡ Some i → is_in_order i ≡ true
ordered_by None i e = absurd (cc)
ordered_by (Some k) i e = passed (is_in_order k) refl e
  where
    passed : (t : Bool) → is_in_order k ≡ t → only_if t (λ _. Some k) ≡ Some i → is_in_order i ≡ true
    passed true h e = let same : k ≡ i = cc in ap is_in_order (sym same) ∙ h
    passed false h e = absurd (cc)

pub inode_in_order : (len : ℕ) (x : List ℕ) (i : Inode) → inode_in len x ≡ Some i → is_in_order i ≡ true
inode_in_order len x i e = ordered_by (said_in len x) i (sym (in_two_steps len x) ∙ e)

-- what the block of a world says is in order
pub said_in_order : (w : World) (d : ℕ) (i : Inode) → inode_at w d ≡ Some i → is_in_order i ≡ true
said_in_order w d i e = by_contents (contents w d) e
  where
    by_contents : (o : Option (List ℕ)) → option_and_then (inode_in (block_len w.geometry)) o ≡ Some i → is_in_order i ≡ true
    by_contents None h = absurd (cc)
    by_contents (Some x) h = inode_in_order (block_len w.geometry) x i h

pub said_is_live : (w : World) (d : ℕ) (i : Inode) → inode_at w d ≡ Some i → is_live w d ≡ true
said_is_live w d i e = by_contents (contents w d) e
  where
    by_contents : (o : Option (List ℕ)) → option_and_then (inode_in (block_len w.geometry)) o ≡ Some i → is_some o ≡ true
    by_contents None h = absurd (cc)
    by_contents (Some x) h = refl

entries_length : (n : ℕ) (x : List ℕ) → length (entries n x) ≡ n
entries_length zero x = refl
entries_length (suc n) x = ap suc (entries_length n (drop 32 x))

-- a directory that was read has no more entries than there is room for
pub dir_fits : (i : layout.Inode) → is_directory (inode_of i) ≡ true → length (entries_said (inode_of i)) ≤ entries_room (block_len_of i)
dir_fits i h = by_kind i.kind i.amount i.count (body_of i) (block_len_of i) i.fits h
  where
    by_kind : (k : InodeKind) (a count : ℕ) (body : List ℕ) (len : ℕ) → 16 + item_bytes k * count ≤ len → is_directory (said k a count body) ≡ true → length (entries_said (said k a count body)) ≤ entries_room len
    by_kind Directory a count body len fits h = let is = entries_length count body in omega (arith, fits, is)
    by_kind Regular a count body len fits h = absurd (cc)

-- the pairs of a directory on the way are among those of the root
below_named : (p : Path) (root : ℕ) (old : InodeEntries) (d : ℕ) (xs : InodeEntries) → at (a_dir root old) p ≡ a_dir d xs → (a b : ℕ) → holds (named_pairs d xs) a b ≡ true → holds (named_pairs root old) a b ≡ true
below_named p root old d xs e a b h = below p (a_dir root old) d xs e a b h
  where
    below : (p : Path) (x : InodeNode) (d : ℕ) (xs : InodeEntries) → at x p ≡ a_dir d xs → (a b : ℕ) → holds (named_pairs d xs) a b ≡ true → holds (node_pairs x) a b ≡ true
    below [] x d xs e a b h = ap (λ y. holds (node_pairs y) a b) e ∙ h
    below (n ∷ ns) nothing d xs e a b h = absurd (nowhere ns d xs e)
    below (n ∷ ns) (a_file f) d xs e a b h = absurd (nowhere ns d xs e)
    below (n ∷ ns) (a_dir c es) d xs e a b h = entry_pairs c n es a b (below ns (entry n es) d xs e a b h)

pub spot_of : (c : Client) (v : DiskView) (path : Path) (lookup : Lookup) → is_there (tree_under c v) ≡ true → is_directory (inode_of lookup.directory.inode) ≡ true → IsLookup c v path lookup
    → Spot v.world c.root (directory_of path) lookup.directory.block (entries_said (inode_of lookup.directory.inode))
spot_of c v path lookup there is_dir i =
    let es = entries_said (inode_of lookup.directory.inode) in
    let says : inode_at v.world lookup.directory.block ≡ Some (directory es) = i.above.stands.says ∙ ap (λ x. Some x) (dir_said (inode_of lookup.directory.inode) is_dir) in
    let dir = dir_node v.world i.above.more lookup.directory.block i.above.stands.there es says in
    let root = found v.world c.root there in
    record {
      more = i.above.more;
      xs = dir.0;
      old = root.0;
      has = root.1;
      levels = let so_many = i.above.levels in deeper_is (directory_of path) (suc i.above.more) ∙ omega (arith, so_many);
      stands = ap (λ x. at x (directory_of path)) (sym (under_is v.world c.root root.0 root.1)) ∙ (i.above.node ∙ dir.2);
      listed = dir.1;
      says = says;
      room = subst (λ n. length es ≤ entries_room n) i.above.stands.whole (dir_fits lookup.directory.inode is_dir);
    }

-- ---- what is written in its place

module _ (w : World) (root : ℕ) (p : Path) (d : ℕ) (es : List Entry) (s : Spot w root p d es) (valid : IsValid w) where
  pub live : is_live w d ≡ true
  live = said_is_live w d (directory es) s.says

  pub within : d < length w.blocks
  within = live_below w.blocks d live

  pub order : (all_named es ≡ true) × (are_ascending (entry_names es) ≡ true)
  order = and_parts (all_named es) (are_ascending (entry_names es)) (said_in_order w d (directory es) s.says)

  pub small_block : (b : ℕ) → is_live w b ≡ true → nat_lt b (2 ^ 32) ≡ true
  small_block b h = let below = live_below w.blocks b h in let many = valid.raw.sized.each_block in let most = valid.raw.sized.lawful.blocks.1 in grind (arith, nat_tests)

  -- what the directory names is pointed to
  pub child_held : (a b : ℕ) → holds (named_pairs d s.xs) a b ≡ true → holds w.pairs a b ≡ true
  child_held a b h = all_of_held (λ e. holds w.pairs e.0 e.1) (named_pairs root s.old) a b
      (and_parts (list_all (λ e. holds w.pairs e.0 e.1) (named_pairs root s.old)) (are_apart (root ∷ inode_blocks s.old)) (and_parts _ _ s.has.right).0).0
      (below_named p root s.old d s.xs s.stands a b h)

  pub small : are_small (map (λ e. e.block) es) ≡ true
  small = small_listed (λ c. node_at w s.more c) (λ c h. node_block w s.more c h) d es s.xs s.listed (λ b h. small_block b (valid.raw.targets d b (child_held d b h)))

  -- the new list is read back from the block
  pub reads_as : (fs : List Entry) → length fs ≤ entries_room (block_len w.geometry) → all_named fs ≡ true → are_ascending (entry_names fs) ≡ true → are_small (map (λ e. e.block) fs) ≡ true
      → inode_in (block_len w.geometry) (filled (block_len w.geometry) (inode_bytes (directory fs))) ≡ Some (directory fs)
  reads_as fs fits named ascending little =
      reads_back (block_len w.geometry) (directory fs) (replicate (block_len w.geometry - length (inode_bytes (directory fs))) 0)
      (fits, few (length fs) fits, little) (and_from (all_named fs) (are_ascending (entry_names fs)) named ascending)
    where
      few : (n : ℕ) → n ≤ entries_room (block_len w.geometry) → n < 2 ^ 32
      few n h = let most = long w.geometry.sectors valid.raw.sized.lawful.sectors in omega (arith, h, most)
        where
          long : (k : ℕ) → (k ≡ 1) ⊎ (k ≡ 2) ⊎ (k ≡ 4) ⊎ (k ≡ 8) → 512 * k ≤ 4096
          long k h = elim h [ inl one ↦ omega (arith, one) | inr more ↦ elim more [ inl two ↦ omega (arith, two) | inr most ↦ elim most [ inl four ↦ omega (arith, four) | inr eight ↦ omega (arith, eight) ] ] ]
