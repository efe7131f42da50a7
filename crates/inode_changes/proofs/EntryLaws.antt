-- The lookup of a path, as laws on deciding writes take it.
use Rattle.std.proofs.Common.{◌≡◌, ℕ, zero, suc, ◌+◌, ◌<◌, ◌≤◌, true, false, nat_le, List, [], ◌∷◌, ◌++◌, length, refl, sym, ◌∙◌, ap, subst, arith, Option, Some, None, cond, length-append}
use Rattle.inode_changes.proofs.Common.{and_parts, nat_tests, list_all, block_len, World, has_number, Name, Path, path_max, name_lt, is_name, none, file, dir, nothing, a_file, a_dir, entry, at, Entry, directory, entries_room, block_named, with_listed, FileInode, InodeNode, InodeEntries, inode_at, inodes_under, inode_blocks, data_blocks, directory_of, number_left, number_right, found, under_is, block_at, DiskView, Client, inode_of, block_len_of, is_directory, entries_said, Lookup, IsLookup, dir_node, dir_said, Stage, IsEntryRead, DirectoryHasRoom, Grounds, IsOfFile}
use Rattle.inode_layout.specs.declared.inode.Inode as layout
use Rattle.inode_changes.proofs.SpotLaws.{Spot, deeper_is, dir_fits}
use Rattle.inode_changes.proofs.TidyLaws.{named_of, named_under}
use Rattle.inode_changes.proofs.ListingLaws.{length_with}

-- ---- as it was found

pub entry_of : (c : Client) (v : DiskView) (path : Path) (lookup : Lookup) → is_directory (inode_of lookup.directory.inode) ≡ true → IsLookup c v path lookup → IsEntryRead c.root v.world path lookup
entry_of c v path lookup is_dir i = record {
  more = i.above.more;
  levels = i.above.levels;
  node = i.above.node;
  there = i.above.stands.there;
  says = i.above.stands.says;
  whole = i.above.stands.whole;
  dir = is_dir;
  name = i.name;
  old = i.old;
}

-- ---- the list with the entry

-- it takes no more room in place of an old one
length_with_old : (e : Entry) (b : ℕ) (es : List Entry) → block_named e.name es ≡ Some b → length (with_listed e es) ≡ length es
length_with_old e b [] k = absurd (cc)
length_with_old e b (f ∷ fs) k =
    elim (name_lt e.name f.name) as (λ t. cond t None (cond (name_lt f.name e.name) (block_named e.name fs) (Some f.block)) ≡ Some b → length (cond t (e ∷ f ∷ fs) (cond (name_lt f.name e.name) (f ∷ with_listed e fs) (e ∷ fs))) ≡ suc (length fs)) [
      | true ↦ λ g. absurd (cc)
      | false ↦ elim (name_lt f.name e.name) as (λ t. cond t (block_named e.name fs) (Some f.block) ≡ Some b → length (cond t (f ∷ with_listed e fs) (e ∷ fs)) ≡ suc (length fs)) [
        | true ↦ λ g. ap suc (length_with_old e b fs g)
        | false ↦ λ g. refl
      ]
    ] k

pub list_fits : (inode : layout.Inode) (n : Name) (i : ℕ) → is_directory (inode_of inode) ≡ true → DirectoryHasRoom inode n → length (with_listed (record { name = n; block = i }) (entries_said (inode_of inode))) ≤ entries_room (block_len_of inode)
list_fits inode n i is_dir room = by_name (block_named n (entries_said (inode_of inode))) refl
  where
    by_name : (o : Option ℕ) → block_named n (entries_said (inode_of inode)) ≡ o → length (with_listed (record { name = n; block = i }) (entries_said (inode_of inode))) ≤ entries_room (block_len_of inode)
    by_name None e = fewer (entries_room (block_len_of inode)) (room e) (length_with (record { name = n; block = i }) (entries_said (inode_of inode)))
      where
        fewer : (k : ℕ) → length (entries_said (inode_of inode)) < k → length (with_listed (record { name = n; block = i }) (entries_said (inode_of inode))) ≤ length (entries_said (inode_of inode)) + 1
            → length (with_listed (record { name = n; block = i }) (entries_said (inode_of inode))) ≤ k
        fewer k less most = omega (arith, less, most)
    by_name (Some b) e = subst (λ k. k ≤ entries_room (block_len_of inode)) (sym (length_with_old (record { name = n; block = i }) b (entries_said (inode_of inode)) e)) (dir_fits inode is_dir)

-- ---- blocks of a file are among those of the tree

abbrev data_of : InodeNode → List ℕ
data_of nothing = []
data_of (a_file f) = f.blocks
data_of (a_dir b es) = data_blocks es

data_in_entry : (n : Name) (es : InodeEntries) (b : ℕ) → has_number (data_of (entry n es)) b ≡ true → has_number (data_blocks es) b ≡ true
data_in_entry n none b h = absurd (cc)
data_in_entry n (file m f rest) b h = elim (name_lt n m) as (λ t. has_number (data_of (cond t nothing (cond (name_lt m n) (entry n rest) (a_file f)))) b ≡ true → has_number (f.blocks ++ data_blocks rest) b ≡ true) [
  | true ↦ λ g. absurd (cc)
  | false ↦ elim (name_lt m n) as (λ t. has_number (data_of (cond t (entry n rest) (a_file f))) b ≡ true → has_number (f.blocks ++ data_blocks rest) b ≡ true) [
    | true ↦ λ g. number_right f.blocks (data_blocks rest) b (data_in_entry n rest b g)
    | false ↦ λ g. number_left f.blocks (data_blocks rest) b g
  ]
] h
data_in_entry n (dir m c inside rest) b h = elim (name_lt n m) as (λ t. has_number (data_of (cond t nothing (cond (name_lt m n) (entry n rest) (a_dir c inside)))) b ≡ true → has_number (data_blocks inside ++ data_blocks rest) b ≡ true) [
  | true ↦ λ g. absurd (cc)
  | false ↦ elim (name_lt m n) as (λ t. has_number (data_of (cond t (entry n rest) (a_dir c inside))) b ≡ true → has_number (data_blocks inside ++ data_blocks rest) b ≡ true) [
    | true ↦ λ g. number_right (data_blocks inside) (data_blocks rest) b (data_in_entry n rest b g)
    | false ↦ λ g. number_left (data_blocks inside) (data_blocks rest) b g
  ]
] h

no_file : (ns : Path) (f : FileInode) → ◌≡◌ {A = InodeNode} (at {D = ℕ} {F = FileInode} nothing ns) (a_file f) → ⊥
no_file [] f e = cc
no_file (n ∷ ns) f e = no_file ns f e

data_at : (p : Path) (x : InodeNode) (f : FileInode) → at x p ≡ a_file f → (b : ℕ) → has_number f.blocks b ≡ true → has_number (data_of x) b ≡ true
data_at [] x f e b h = ap (λ y. has_number (data_of y) b) e ∙ h
data_at (n ∷ ns) nothing f e b h = absurd (no_file ns f e)
data_at (n ∷ ns) (a_file g) f e b h = absurd (no_file ns f e)
data_at (n ∷ ns) (a_dir c es) f e b h = data_in_entry n es b (data_at ns (entry n es) f e b h)

pub file_data : (root : ℕ) (w : World) (old : InodeEntries) → inodes_under w root ≡ a_dir root old → (b : ℕ) → IsOfFile root w b → has_number (data_blocks old) b ≡ true
file_data root w old under b of = ap (λ x. has_number (data_of x) b) (sym under) ∙ data_at of.0 (inodes_under w root) of.1 of.2 b of.3

-- ---- where it is entered

last_named : (ps : Path) (n : Name) → list_all is_name (ps ++ n ∷ []) ≡ true → is_name n ≡ true
last_named [] n h = (and_parts (is_name n) true h).0
last_named (m ∷ ms) n h = last_named ms n (and_parts (is_name m) (list_all is_name (ms ++ n ∷ [])) h).1

module _ (root : ℕ) (first : World) (path : Path) (lookup : Lookup) (g : Grounds root first path lookup) where
  abbrev es : List Entry
  es = entries_said (inode_of lookup.directory.inode)

  pub spot : Spot first root (directory_of path) lookup.directory.block (entries_said (inode_of lookup.directory.inode))
  spot =
      let says : inode_at first lookup.directory.block ≡ Some (directory es) = g.entry.says ∙ ap (λ x. Some x) (dir_said (inode_of lookup.directory.inode) g.entry.dir) in
      let inside = dir_node first g.entry.more lookup.directory.block g.entry.there es says in
      let all = found first root g.there in
      record {
        more = g.entry.more;
        xs = inside.0;
        old = all.0;
        has = all.1;
        levels = let so_many = g.entry.levels in deeper_is (directory_of path) (suc g.entry.more) ∙ omega (arith, so_many);
        stands = ap (λ x. at x (directory_of path)) (sym (under_is first root all.0 all.1)) ∙ (g.entry.node ∙ inside.2);
        listed = inside.1;
        says = says;
        room = subst (λ n. length es ≤ entries_room n) g.entry.whole (dir_fits lookup.directory.inode g.entry.dir);
      }

  parts : (nat_le (length path) path_max ≡ true) × (list_all is_name path ≡ true)
  parts = and_parts (nat_le (length path) path_max) (list_all is_name path) g.path_is

  pub name_is : is_name lookup.name.now ≡ true
  name_is = last_named (directory_of path) lookup.name.now (ap (list_all is_name) (sym g.entry.name) ∙ parts.1)

  -- one name more is allowed below the directory
  pub deep : (less : ℕ) × (spot.more ≡ suc less)
  unfolding spot
  deep =
      let so_many = g.entry.levels in
      let long : length path ≡ length (directory_of path) + 1 = ap length g.entry.name ∙ length-append (directory_of path) (lookup.name.now ∷ []) in
      let few : length path ≤ 16 = let t = parts.0 in grind (arith, nat_tests) in
      some_level g.entry.more (omega (arith, so_many, long, few))
    where
      some_level : (m : ℕ) → 1 ≤ m → (less : ℕ) × (m ≡ suc less)
      some_level zero h = absurd (omega arith)
      some_level (suc m) h = (m, refl)

  pub fits : (i : ℕ) → length (with_listed (record { name = lookup.name.now; block = i }) (entries_said (inode_of lookup.directory.inode))) ≤ entries_room (block_len first.geometry)
  fits i = subst (λ k. length (with_listed (record { name = lookup.name.now; block = i }) es) ≤ entries_room k) g.entry.whole (list_fits lookup.directory.inode lookup.name.now i g.entry.dir g.room)

  pub of_files : (shared : List ℕ) → ((b : ℕ) → has_number shared b ≡ true → IsOfFile root first b) → (b : ℕ) → has_number shared b ≡ true → has_number (data_blocks spot.old) b ≡ true
  unfolding spot
  of_files shared of b h = file_data root first (found first root g.there).0 (under_is first root (found first root g.there).0 (found first root g.there).1) b (of b h)

  -- the root reaches the directory
  pub stage_of : Stage root first lookup.directory.block
  stage_of =
      let named = block_at (directory_of path) (a_dir root spot.old) lookup.directory.block spot.xs spot.stands in
      record {
        valid = g.valid;
        primary = g.primary;
        there = g.there;
        dir = named_under first root g.valid g.primary g.there lookup.directory.block (ap (λ k. has_number k.blocks lookup.directory.block) (named_of first root spot.old spot.has)
            ∙ number_left (root ∷ inode_blocks spot.old) (data_blocks spot.old) lookup.directory.block named);
      }
