-- What a put answers, by the refusal that applies first, and what the file is made of.
use Rattle.std.proofs.Common.{◌≡◌, ℕ, suc, ◌+◌, ◌*◌, ◌/◌, ◌<◌, ◌≤◌, Bool, true, false, not, ◌&&◌, nat_lt, nat_le, List, [], ◌∷◌, ◌++◌, length, refl, sym, ◌∙◌, ap, subst, arith, Option, Some, None, Ok}
use Rattle.inode_changes.proofs.Common.{nat_tests, take_all, map, take, div_ceil, block_len, World, free_count, has_number, are_apart, Geometry, Path, is_path, Tree, nothing, a_file, a_dir, at, is_there, is_dir, names_in, with_at, Entry, entry_names, numbers, Inode, directory, regular, entries_room, data_room, inode_at, node_at, inodes_under, inode_tree, need, need_of, RoomNeed, when, first_of, directory_of, lost_on_the_way, no_file, dir_full, too_big, no_room, refusal, FsRefusal, DiskView, IsDiskSound, IsValidNow, Stays, KeepsRoom, need_on, Runs, Client, Looked, OnlyLooks, no_room_in, refused_on, lookup_refusal, is_mounted, inode_of, block_len_of, is_directory, entries_said, blocks_said, entry_said, Lookup, MayAsk, tree_under, mounted_by, IsLookup, dir_said, names_there, entry_by, stands_still, a_level, file_node, dir_node, Content, shared_count, shared_of, new_bytes, new_count, all_count, FitsInode, IsFor, IsAside, joined, Grounds, AreOfFiles, IsMadeInode, bytes_of, PutsFile, IsOf}
use Rattle.fs_trees.specs.InodeTree as inodes
use Rattle.fs_trees.specs.declared.ask.ShellAsk.TheVariants as ask
use Rattle.fs_trees.specs.declared.ask.ShellKind.TheVariants as kind
use Rattle.fs_trees.specs.declared.refusal.FsRefusal.TheVariants as no
use Rattle.inode_changes.proofs.PlaceLaws.{none_at, old_at, there_at, old_is_there}
use Rattle.inode_changes.specs.Entering as entering
use Rattle.inode_changes.proofs.EndLaws.{ToEnter}
use Rattle.inode_changes.proofs.EntryLaws.{entry_of}
use Rattle.inode_changes.proofs.AppendLaws.{dir_only}
use Rattle.inode_changes.proofs.GrowLaws.{root_is_dir}

-- ---- the refusals in their order

module _ (g : Geometry) (t : Tree) (free held : ℕ) (n : RoomNeed) (root : is_dir t ≡ true) (x : List ℕ) where
  -- what is left behind the way
  abbrev behind : Path → List (Option FsRefusal)
  behind p = no_file t p ∷ dir_full kind.Inode g t p ∷ too_big kind.Inode g (length x) ∷ no_room g free held n

  abbrev full : Path → Bool
  full p = not (is_there (at t p)) && nat_le (entries_room (block_len g)) (length (names_in (at t (directory_of p))))

  put_lost : (p : Path) (e : FsRefusal) → lookup_refusal t p no.IsDir ≡ Some e → refusal kind.Inode g t free held n (ask.Put p x) ≡ Some e
  put_lost [] e h =
      is_mounted t (lost_on_the_way t [] ∷ behind []) (dir_only t root)
      ∙ (ap (λ b. first_of (when b no.IsDir ∷ dir_full kind.Inode g t [] ∷ too_big kind.Inode g (length x) ∷ no_room g free held n)) root ∙ h)
  put_lost (m ∷ ms) e h = is_mounted t (lost_on_the_way t (m ∷ ms) ∷ behind (m ∷ ms)) (dir_only t root) ∙ ap (λ o. first_of (o ∷ behind (m ∷ ms))) h

  put_way : (p : Path) → ◌≡◌ {A = Option FsRefusal} (lookup_refusal t p no.IsDir) None → refusal kind.Inode g t free held n (ask.Put p x) ≡ first_of (behind p)
  put_way [] h = absurd (cc)
  put_way (m ∷ ms) h = is_mounted t (lost_on_the_way t (m ∷ ms) ∷ behind (m ∷ ms)) (dir_only t root) ∙ ap (λ o. first_of (o ∷ behind (m ∷ ms))) h

  module _ (p : Path) (h : ◌≡◌ {A = Option FsRefusal} (lookup_refusal t p no.IsDir) None) where
    put_dir : is_dir (at t p) ≡ true → refusal kind.Inode g t free held n (ask.Put p x) ≡ Some no.IsDir
    put_dir k = put_way p h ∙ ap (λ b. first_of (when b no.IsDir ∷ dir_full kind.Inode g t p ∷ too_big kind.Inode g (length x) ∷ no_room g free held n)) k

    module _ (k : is_dir (at t p) ≡ false) where
      no_dir_there : refusal kind.Inode g t free held n (ask.Put p x) ≡ first_of (when (full p) no.DirFull ∷ too_big kind.Inode g (length x) ∷ no_room g free held n)
      no_dir_there = put_way p h ∙ ap (λ b. first_of (when b no.IsDir ∷ dir_full kind.Inode g t p ∷ too_big kind.Inode g (length x) ∷ no_room g free held n)) k

      pub put_full : (not (is_there (at t p)) && nat_le (entries_room (block_len g)) (length (names_in (at t (directory_of p))))) ≡ true → refusal kind.Inode g t free held n (ask.Put p x) ≡ Some no.DirFull
      put_full f = no_dir_there ∙ ap (λ b. first_of (when b no.DirFull ∷ too_big kind.Inode g (length x) ∷ no_room g free held n)) f

      module _ (f : (not (is_there (at t p)) && nat_le (entries_room (block_len g)) (length (names_in (at t (directory_of p))))) ≡ false) where
        listed : refusal kind.Inode g t free held n (ask.Put p x) ≡ first_of (when (nat_lt (data_room (block_len g)) (div_ceil (length x) (block_len g))) no.TooBig ∷ no_room g free held n)
        listed = no_dir_there ∙ ap (λ b. first_of (when b no.DirFull ∷ too_big kind.Inode g (length x) ∷ no_room g free held n)) f

        pub put_big : nat_lt (data_room (block_len g)) (div_ceil (length x) (block_len g)) ≡ true → refusal kind.Inode g t free held n (ask.Put p x) ≡ Some no.TooBig
        put_big big = listed ∙ ap (λ b. first_of (when b no.TooBig ∷ no_room g free held n)) big

        pub put_room : nat_lt (data_room (block_len g)) (div_ceil (length x) (block_len g)) ≡ false → refusal kind.Inode g t free held n (ask.Put p x) ≡ first_of (no_room g free held n)
        put_room fits = listed ∙ ap (λ b. first_of (when b no.TooBig ∷ no_room g free held n)) fits

-- the way is missing, or a directory stands there
module _ (c : Client) (v : DiskView) (path : Path) (x : List ℕ) (there : is_there (tree_under c v) ≡ true) where
  abbrev wanted : RoomNeed
  wanted = need_of kind.Inode v.world c.root (tree_under c v) (ask.Put path x)

  pub lost_refuses : (e : FsRefusal) → lookup_refusal (tree_under c v) path no.IsDir ≡ Some e → refused_on (mounted_by c) v (ask.Put path x) ≡ Some e
  lost_refuses e h = put_lost v.world.geometry (tree_under c v) (free_count v.world) (length v.world.pairs) wanted (root_is_dir v.world c.root there) x path e h

  pub dir_refuses : ◌≡◌ {A = Option FsRefusal} (lookup_refusal (tree_under c v) path no.IsDir) None → is_dir (at (tree_under c v) path) ≡ true → refused_on (mounted_by c) v (ask.Put path x) ≡ Some no.IsDir
  dir_refuses h dir = put_dir v.world.geometry (tree_under c v) (free_count v.world) (length v.world.pairs) wanted (root_is_dir v.world c.root there) x path h dir

-- ---- at the place that was found

entry_count : (es : List Entry) → length (map (λ e. e.block) es) ≡ length (entry_names es)
entry_count [] = refl
entry_count (e ∷ es) = let rest = entry_count es in omega (arith, rest)

module _ (c : Client) (v : DiskView) (path : Path) (lookup : Lookup) (dir : is_directory (inode_of lookup.directory.inode) ≡ true) (now : IsValidNow v) (s : PutsFile c v path lookup) (x : List ℕ) where
  abbrev t : Tree
  t = tree_under c v

  abbrev g : Geometry
  g = v.world.geometry

  root : is_dir (tree_under c v) ≡ true
  root = root_is_dir v.world c.root s.there

  pub grounds : entering.DirectoryHasRoom lookup.directory.inode lookup.name.now → Grounds c.root v.world path lookup
  grounds room = record { valid = now.valid; primary = s.primary; there = s.there; path_is = s.path_is; entry = entry_of c v path lookup dir s.found; room = room }

  names_are : length (names_in (at t (directory_of path))) ≡ length (entry_names (entries_said (inode_of lookup.directory.inode)))
  names_are = ap length (names_there c v (directory_of path) lookup.directory s.found.above dir)

  blocks_are : length (blocks_said (inode_of lookup.directory.inode)) ≡ length (entry_names (entries_said (inode_of lookup.directory.inode)))
  blocks_are = ap (λ i. length (blocks_said i)) (dir_said (inode_of lookup.directory.inode) dir) ∙ entry_count (entries_said (inode_of lookup.directory.inode))

  full_is : nat_le (entries_room (block_len_of lookup.directory.inode)) (length (blocks_said (inode_of lookup.directory.inode))) ≡ nat_le (entries_room (block_len g)) (length (names_in (at t (directory_of path))))
  full_is = ap (λ k. nat_le (entries_room k) (length (blocks_said (inode_of lookup.directory.inode)))) s.found.above.stands.whole ∙ ap (nat_le (entries_room (block_len g))) (blocks_are ∙ sym names_are)

  pub full_refuses : ◌≡◌ {A = Option ℕ} (entry_said lookup.name.now (inode_of lookup.directory.inode)) None → nat_le (entries_room (block_len_of lookup.directory.inode)) (length (blocks_said (inode_of lookup.directory.inode))) ≡ true → refused_on (mounted_by c) v (ask.Put path x) ≡ Some no.DirFull
  full_refuses none full =
      let absent = none_at c v path lookup dir s.found (s.found.old ∙ (sym (entry_by lookup.name.now (inode_of lookup.directory.inode)) ∙ none)) in
      put_full g t (free_count v.world) (length v.world.pairs) (need (1 + div_ceil (length x) (block_len g)) (1 + div_ceil (length x) (block_len g))) root x path s.way s.no_dir
      (ap (λ b. not b && nat_le (entries_room (block_len g)) (length (names_in (at t (directory_of path))))) absent ∙ (sym full_is ∙ full))

  -- an entry has room there
  roomy : entering.DirectoryHasRoom lookup.directory.inode lookup.name.now → (not (is_there (at t path)) && nat_le (entries_room (block_len g)) (length (names_in (at t (directory_of path))))) ≡ false
  roomy room = by_old lookup.old refl
    where
      by_old : (o : Option ℕ) → lookup.old ≡ o → (not (is_there (at t path)) && nat_le (entries_room (block_len g)) (length (names_in (at t (directory_of path))))) ≡ false
      by_old None e =
          let absent = none_at c v path lookup dir s.found e in
          let less = room (sym s.found.old ∙ e) in
          let len = s.found.above.stands.whole in
          ap (λ b. not b && nat_le (entries_room (block_len g)) (length (names_in (at t (directory_of path))))) absent
          ∙ (ap (nat_le (entries_room (block_len g))) names_are ∙ fewer (entries_room (block_len g)) (subst (λ k. length (entries_said (inode_of lookup.directory.inode)) < entries_room k) len less))
        where
          names_count : (es : List Entry) → length (entry_names es) ≡ length es
          names_count [] = refl
          names_count (e ∷ es) = let rest = names_count es in omega (arith, rest)

          fewer : (k : ℕ) → length (entries_said (inode_of lookup.directory.inode)) < k → nat_le k (length (entry_names (entries_said (inode_of lookup.directory.inode)))) ≡ false
          fewer k h = let count = names_count (entries_said (inode_of lookup.directory.inode)) in above k (length (entries_said (inode_of lookup.directory.inode))) (length (entry_names (entries_said (inode_of lookup.directory.inode)))) h count
            where
              above : (k n m : ℕ) → n < k → m ≡ n → nat_le k m ≡ false
              above k n m h e = let less : m < k = omega (arith, h, e) in grind (arith, nat_tests)
      by_old (Some b) e = ap (λ r. not r && nat_le (entries_room (block_len g)) (length (names_in (at t (directory_of path)))))
          (there_at c v path lookup dir s.found b e)

  module _ (room : entering.DirectoryHasRoom lookup.directory.inode lookup.name.now) where
    big_is : nat_lt (data_room (block_len_of lookup.directory.inode)) (div_ceil (length x) (block_len_of lookup.directory.inode)) ≡ nat_lt (data_room (block_len g)) (div_ceil (length x) (block_len g))
    big_is = ap (λ n. nat_lt (data_room n) (div_ceil (length x) n)) s.found.above.stands.whole

    pub big_refuses : nat_lt (data_room (block_len_of lookup.directory.inode)) (div_ceil (length x) (block_len_of lookup.directory.inode)) ≡ true → refused_on (mounted_by c) v (ask.Put path x) ≡ Some no.TooBig
    big_refuses big = put_big g t (free_count v.world) (length v.world.pairs) (need (1 + div_ceil (length x) (block_len g)) (1 + div_ceil (length x) (block_len g))) root x path s.way s.no_dir (roomy room) (sym big_is ∙ big)

    pub room_refuses : nat_lt (data_room (block_len_of lookup.directory.inode)) (div_ceil (length x) (block_len_of lookup.directory.inode)) ≡ false
        → refused_on (mounted_by c) v (ask.Put path x) ≡ no_room_in v.world (1 + div_ceil (length x) (block_len_of lookup.directory.inode)) (1 + div_ceil (length x) (block_len_of lookup.directory.inode))
    room_refuses small = put_room g t (free_count v.world) (length v.world.pairs) (need (1 + div_ceil (length x) (block_len g)) (1 + div_ceil (length x) (block_len g))) root x path s.way s.no_dir (roomy room) (sym big_is ∙ small)
        ∙ ap (λ n. no_room_in v.world (1 + div_ceil (length x) n) (1 + div_ceil (length x) n)) (sym s.found.above.stands.whole)

-- ---- what the file is made of

module _ (x : List ℕ) (len : ℕ) (content : Content) (of : IsOf x len content) where
  shares_none : shared_count content ≡ 0
  shares_none = ap (λ xs. length xs / 4) of.shared

  shared_none : shared_of content ≡ []
  shared_none = ap (λ k. numbers k content.shared.now) shares_none

  bytes_new : new_bytes content ≡ x
  bytes_new = ap (λ xs. xs ++ content.bytes.now) of.front ∙ of.bytes

  pub new_is : new_count content ≡ div_ceil (length x) len
  new_is = ap (λ xs. div_ceil (length xs) content.block_len) bytes_new ∙ ap (div_ceil (length x)) of.len

  pub all_is : all_count content ≡ div_ceil (length x) len
  all_is = let none = shares_none in let new = new_is in omega (arith, none, new)

  pub has_room : 16 ≤ len → len ≤ 4096 → length x ≤ 4096 → nat_lt (data_room len) (div_ceil (length x) len) ≡ false → FitsInode content
  has_room some most few small = record {
    whole = ap length of.shared ∙ sym (ap (λ k. 4 * k) shares_none);
    front = subst (λ n. length content.front.now < n) (sym of.len) (subst (λ xs. length xs < len) (sym of.front) (omega (arith, some)));
    few = subst (λ xs. length xs ≤ 4096) (sym of.bytes) few;
    most = subst (λ n. n ≤ 4096) (sym of.len) most;
    room = subst (λ n. all_count content ≤ data_room n) (sym of.len) (subst (λ k. k ≤ data_room len) (sym all_is) (not_less (data_room len) (div_ceil (length x) len) small));
  }
    where
      not_less : (a b : ℕ) → nat_lt a b ≡ false → b ≤ a
      not_less a b h = grind (arith, nat_tests)

  pub is_for : (c : Client) (v : DiskView) → len ≡ block_len v.world.geometry → IsFor c v content
  is_for c v same = record {
    len = of.len ∙ same;
    count = all_is ∙ (ap (λ n. div_ceil n len) (sym of.size) ∙ ap (div_ceil content.size) (sym of.len));
    size = let size = of.size in let new = ap length bytes_new in more (content.block_len * shared_count content) size new;
    apart = ap are_apart shared_none;
    may = λ b h. absurd (nothing_shared b h);
  }
    where
      more : (k : ℕ) → content.size ≡ length x → length (new_bytes content) ≡ length x → content.size ≤ k + length (new_bytes content)
      more k p q = omega (arith, p, q)

      nothing_shared : (b : ℕ) → has_number (shared_of content) b ≡ true → ⊥
      nothing_shared b h = let none : has_number [] b ≡ true = ap (λ bs. has_number bs b) (sym shared_none) ∙ h in cc

  pub of_files : (root : ℕ) (w : World) → AreOfFiles root w (shared_of content)
  of_files root w b h = let none : has_number [] b ≡ true = ap (λ bs. has_number bs b) (sym shared_none) ∙ h in absurd (cc)

  pub made_bytes : (w : World) → bytes_of w content ≡ x
  made_bytes w =
      ap (λ n. take n (joined w (shared_of content) (new_bytes content))) of.size
      ∙ (ap (λ bs. take (length x) (joined w bs (new_bytes content))) shared_none
      ∙ (ap (take (length x)) bytes_new ∙ take_all (length x) x (omega arith)))

-- ---- where there is room for it

module _ {c : Client} {v : DiskView} {path : Path} {lookup : Lookup} {x : List ℕ} {content : Content} (dir : is_directory (inode_of lookup.directory.inode) ≡ true) (now : IsValidNow v) (s : PutsFile c v path lookup)
    (of : IsOf x (block_len_of lookup.directory.inode) content) where
  -- so many blocks its bytes take
  abbrev k : ℕ
  k = div_ceil (length x) (block_len_of lookup.directory.inode)

  new_k : new_count content ≡ k
  new_k = new_is x (block_len_of lookup.directory.inode) content of

  all_k : all_count content ≡ k
  all_k = all_is x (block_len_of lookup.directory.inode) content of

  pub room_is : entering.DirectoryHasRoom lookup.directory.inode lookup.name.now → nat_lt (data_room (block_len_of lookup.directory.inode)) (div_ceil (length x) (block_len_of lookup.directory.inode)) ≡ false
      → refused_on (mounted_by c) v (ask.Put path x) ≡ no_room_in v.world (1 + new_count content) (1 + all_count content)
  room_is room fits = room_refuses c v path lookup dir now s x room fits
      ∙ (ap (λ n. no_room_in v.world (1 + n) (1 + k)) (sym new_k) ∙ ap (λ n. no_room_in v.world (1 + new_count content) (1 + n)) (sym all_k))

  need_is : need (1 + new_count content) (1 + all_count content) ≡ need_on (mounted_by c) v (ask.Put path x)
  need_is = ap (λ n. need (1 + n) (1 + all_count content)) new_k ∙ (ap (λ n. need (1 + k) (1 + n)) all_k ∙ ap (λ n. need (1 + div_ceil (length x) n) (1 + div_ceil (length x) n)) s.found.above.stands.whole)

-- after the make: the file is to be entered
pub to_enter : {told : Type 0} {c : Client} {v mk : DiskView} {path : Path} {lookup : Lookup} {x : List ℕ} {content : Content} {i : ℕ} → is_directory (inode_of lookup.directory.inode) ≡ true → (told → IsValidNow v) → (told → PutsFile c v path lookup)
    → IsOf x (block_len_of lookup.directory.inode) content → entering.DirectoryHasRoom lookup.directory.inode lookup.name.now → nat_lt (data_room (block_len_of lookup.directory.inode)) (div_ceil (length x) (block_len_of lookup.directory.inode)) ≡ false
    → (told → ◌≡◌ {A = Option FsRefusal} (no_room_in v.world (1 + new_count content) (1 + all_count content)) None) → (told → KeepsRoom (need (1 + new_count content) (1 + all_count content)) v.world mk.world)
    → (told → IsMadeInode c.root v.world lookup.directory.block i (a_file (bytes_of v.world content)) mk.world) → Runs {X = ℕ} told v mk (IsAside c.root v.world) (Ok i) → ToEnter told c v mk (ask.Put path x) path lookup i (a_file (bytes_of v.world content))
to_enter {c = c} {v = v} {mk = mk} {path = path} {lookup = lookup} {x = x} {content = content} dir now s of room fits none keeps made runs = record {
  none = λ t. room_is dir (now t) (s t) of room fits ∙ none t;
  is_done = refl;
  tree = λ t. ap (λ y. with_at path (a_file y) (tree_under c v)) (sym (made_bytes x (block_len_of lookup.directory.inode) content of v.world));
  grounds = λ t. grounds c v path lookup dir (now t) (s t) x room;
  made = made;
  keeps = λ t. subst (λ n. KeepsRoom n v.world mk.world) (need_is dir (now t) (s t) of) (keeps t);
  runs = runs;
}

-- ---- what stands there already

pub nothing_no_dir : (x : Tree) → is_there x ≡ false → is_dir x ≡ false
nothing_no_dir nothing h = refl
nothing_no_dir (a_file x) h = refl
nothing_no_dir (a_dir d es) h = absurd (cc)

module _ (c : Client) (v : DiskView) (path : Path) (lookup : Lookup) (dir : is_directory (inode_of lookup.directory.inode) ≡ true) (i : IsLookup c v path lookup) (b : ℕ) (some : lookup.old ≡ Some b) where
  abbrev there : is_there (node_at v.world i.above.more b) ≡ true
  there = old_is_there c v path lookup dir i b some

  -- its inode tells whether it is a directory
  pub kind_at : (k : Inode) → inode_at v.world b ≡ Some k → is_dir (at (tree_under c v) path) ≡ is_directory k
  kind_at k is =
      let level = a_level v.world i.above.more b there in
      ap is_dir (old_at c v path lookup dir i b some ∙ ap (λ m. inodes.tree_of v.world (node_at v.world m b)) level.1)
      ∙ by_kind k (ap (λ m. is_there (node_at v.world m b)) (sym level.1) ∙ there) is
    where
      by_kind : (k : Inode) → is_there (node_at v.world (suc (a_level v.world i.above.more b there).0) b) ≡ true → inode_at v.world b ≡ Some k
          → is_dir (inodes.tree_of v.world (node_at v.world (suc (a_level v.world i.above.more b there).0) b)) ≡ is_directory k
      by_kind (directory fs) h e = ap (λ x. is_dir (inodes.tree_of v.world x)) (dir_node v.world (a_level v.world i.above.more b there).0 b h fs e).2
      by_kind (regular size blocks) h e = ap (λ x. is_dir (inodes.tree_of v.world x)) (file_node v.world (a_level v.world i.above.more b there).0 b h size blocks e)

-- what was found stands there after a look
place_still : (c : Client) (old new : DiskView) (path : Path) (lookup : Lookup) → Looked old new → Stays old new → IsValidNow old → IsLookup c old path lookup → IsLookup c new path lookup
place_still c old new path lookup seen stays now i = record {
  above = record {
    more = i.above.more;
    levels = i.above.levels;
    stands = stands_still c old new i.above.more lookup.directory seen stays now i.above.stands;
    node = subst (λ w. at (inodes_under w c.root) (directory_of path) ≡ node_at w (suc i.above.more) lookup.directory.block) (sym seen.world) i.above.node;
  };
  name = i.name;
  old = i.old;
}

-- nothing is changed yet, and no directory stands there
pub puts_so : {X : Type 0} {told : Type 0} {c : Client} {first mid now : DiskView} {path : Path} {lookup : Lookup} {y : X} → MayAsk told c first → (told → first.spent ≡ false → IsDiskSound first) → is_path path ≡ true
    → OnlyLooks told first mid (Ok lookup) → (told → IsLookup c mid path lookup) → (told → ◌≡◌ {A = Option FsRefusal} (lookup_refusal (tree_under c first) path no.IsDir) None)
    → OnlyLooks told mid now (Ok y) → (told → (p : Path) → IsLookup c mid p lookup → is_dir (at (tree_under c mid) p) ≡ false) → told → PutsFile c now path lookup
puts_so {c = c} {first = first} {mid = mid} {now = now} {path = path} {lookup = lookup} may sound path_is one_looks found way two_looks no_dir t =
    let one = (one_looks.looked t).0 in
    let two = (two_looks.looked t).0 in
    let same : now.world ≡ first.world = two.world ∙ one.world in
    record {
      primary = subst (λ w. c.root < w.geometry.primaries) (sym same) (subst (λ g. c.root < g.primaries) (sym (sound t may.ready.unspent).geometry) may.ready.primary);
      there = ap (λ w. is_there (inode_tree w c.root)) same ∙ may.tree t;
      path_is = path_is;
      found = place_still c mid now path lookup two two_looks.stays.0 one.valid (found t);
      way = ap (λ w. lookup_refusal (inode_tree w c.root) path no.IsDir) same ∙ way t;
      no_dir = ap (λ w. is_dir (at (inode_tree w c.root) path)) two.world ∙ no_dir t path (found t);
    }
