-- What an ask for a new directory answers, by the refusal that applies first.
use Rattle.std.proofs.Common.{◌≡◌, ℕ, suc, ◌<◌, true, false, not, ◌&&◌, nat_le, List, [], ◌∷◌, length, refl, sym, ◌∙◌, ap, subst, arith, Option, Some, None, Ok}
use Rattle.inode_changes.proofs.Common.{nat_tests, map, block_len, free_count, Geometry, Path, is_path, Tree, at, is_there, names_in, Entry, entry_names, entries_room, inode_tree, need, RoomNeed, when, first_of, directory_of, lost_on_the_way, name_taken, dir_full, no_room, refusal, empty_tree, FsRefusal, DiskView, IsDiskSound, IsValidNow, KeepsRoom, Runs, Client, OnlyLooks, no_room_in, refused_on, lookup_refusal, is_mounted, inode_of, block_len_of, is_directory, entries_said, blocks_said, Lookup, MayAsk, tree_under, mounted_by, IsLookup, names_there, dir_said, IsAside, DirectoryHasRoom, Grounds, IsMadeInode, IsVacant}
use Rattle.fs_trees.specs.declared.ask.ShellAsk.TheVariants as ask
use Rattle.fs_trees.specs.declared.ask.ShellKind.TheVariants as kind
use Rattle.fs_trees.specs.declared.refusal.FsRefusal.TheVariants as no
use Rattle.inode_changes.proofs.EndLaws.{ToEnter}
use Rattle.inode_changes.proofs.EntryLaws.{entry_of}
use Rattle.inode_changes.proofs.PlaceLaws.{none_at}

-- ---- mkdir

module _ (g : Geometry) (t : Tree) (free held : ℕ) (n : RoomNeed) (there : is_there t ≡ true) where
  pub dir_lost : (p : Path) (e : FsRefusal) → lookup_refusal t p no.Exists ≡ Some e → refusal kind.Inode g t free held n (ask.MakeDir p) ≡ Some e
  dir_lost [] e h =
      is_mounted t (lost_on_the_way t [] ∷ name_taken t [] ∷ dir_full kind.Inode g t [] ∷ no_room g free held n) there
      ∙ (ap (λ b. first_of (when b no.Exists ∷ dir_full kind.Inode g t [] ∷ no_room g free held n)) there ∙ h)
  dir_lost (m ∷ ms) e h =
      is_mounted t (lost_on_the_way t (m ∷ ms) ∷ name_taken t (m ∷ ms) ∷ dir_full kind.Inode g t (m ∷ ms) ∷ no_room g free held n) there
      ∙ ap (λ o. first_of (o ∷ name_taken t (m ∷ ms) ∷ dir_full kind.Inode g t (m ∷ ms) ∷ no_room g free held n)) h

  dir_way : (p : Path) → ◌≡◌ {A = Option FsRefusal} (lookup_refusal t p no.Exists) None → refusal kind.Inode g t free held n (ask.MakeDir p) ≡ first_of (name_taken t p ∷ dir_full kind.Inode g t p ∷ no_room g free held n)
  dir_way [] h = absurd (cc)
  dir_way (m ∷ ms) h =
      is_mounted t (lost_on_the_way t (m ∷ ms) ∷ name_taken t (m ∷ ms) ∷ dir_full kind.Inode g t (m ∷ ms) ∷ no_room g free held n) there
      ∙ ap (λ o. first_of (o ∷ name_taken t (m ∷ ms) ∷ dir_full kind.Inode g t (m ∷ ms) ∷ no_room g free held n)) h

  pub dir_taken : (p : Path) → ◌≡◌ {A = Option FsRefusal} (lookup_refusal t p no.Exists) None → is_there (at t p) ≡ true → refusal kind.Inode g t free held n (ask.MakeDir p) ≡ Some no.Exists
  dir_taken p h k = dir_way p h ∙ ap (λ b. first_of (when b no.Exists ∷ dir_full kind.Inode g t p ∷ no_room g free held n)) k

  module _ (p : Path) (h : ◌≡◌ {A = Option FsRefusal} (lookup_refusal t p no.Exists) None) (k : is_there (at t p) ≡ false) where
    new_entry : refusal kind.Inode g t free held n (ask.MakeDir p) ≡ first_of (when (nat_le (entries_room (block_len g)) (length (names_in (at t (directory_of p))))) no.DirFull ∷ no_room g free held n)
    new_entry = dir_way p h ∙ (ap (λ b. first_of (when b no.Exists ∷ dir_full kind.Inode g t p ∷ no_room g free held n)) k
        ∙ ap (λ b. first_of (when (not b && nat_le (entries_room (block_len g)) (length (names_in (at t (directory_of p))))) no.DirFull ∷ no_room g free held n)) k)

    pub dir_is_full : nat_le (entries_room (block_len g)) (length (names_in (at t (directory_of p)))) ≡ true → refusal kind.Inode g t free held n (ask.MakeDir p) ≡ Some no.DirFull
    dir_is_full full = new_entry ∙ ap (λ b. first_of (when b no.DirFull ∷ no_room g free held n)) full

    pub dir_room : nat_le (entries_room (block_len g)) (length (names_in (at t (directory_of p)))) ≡ false → refusal kind.Inode g t free held n (ask.MakeDir p) ≡ first_of (no_room g free held n)
    dir_room roomy = new_entry ∙ ap (λ b. first_of (when b no.DirFull ∷ no_room g free held n)) roomy

-- ---- at the place that was found

names_count : (es : List Entry) → length (entry_names es) ≡ length es
names_count [] = refl
names_count (e ∷ es) = ap suc (names_count es)

blocks_count : (es : List Entry) → length (map (λ e. e.block) es) ≡ length es
blocks_count [] = refl
blocks_count (e ∷ es) = ap suc (blocks_count es)

module _ (c : Client) (v : DiskView) (path : Path) (lookup : Lookup) (x : IsVacant c v path lookup) (dir : is_directory (inode_of lookup.directory.inode) ≡ true) where
  abbrev t : Tree
  t = tree_under c v

  abbrev g : Geometry
  g = v.world.geometry

  abbrev es : List Entry
  es = entries_said (inode_of lookup.directory.inode)

  pub grounds : IsValidNow v → DirectoryHasRoom lookup.directory.inode lookup.name.now → Grounds c.root v.world path lookup
  grounds now room = record { valid = now.valid; primary = x.primary; there = x.there; path_is = x.path_is; entry = entry_of c v path lookup dir x.found; room = room }

  absent : is_there (at (tree_under c v) path) ≡ false
  absent = none_at c v path lookup dir x.found x.vacant

  names_are : length (names_in (at (tree_under c v) (directory_of path))) ≡ length (entries_said (inode_of lookup.directory.inode))
  names_are = ap length (names_there c v (directory_of path) lookup.directory x.found.above dir) ∙ names_count es

  blocks_are : length (blocks_said (inode_of lookup.directory.inode)) ≡ length (entries_said (inode_of lookup.directory.inode))
  blocks_are = ap (λ i. length (blocks_said i)) (dir_said (inode_of lookup.directory.inode) dir) ∙ blocks_count es

  -- whatever is needed there
  module _ (n : RoomNeed) where
    pub full_asks : nat_le (entries_room (block_len_of lookup.directory.inode)) (length (blocks_said (inode_of lookup.directory.inode))) ≡ true
        → refusal kind.Inode v.world.geometry (tree_under c v) (free_count v.world) (length v.world.pairs) n (ask.MakeDir path) ≡ Some no.DirFull
    full_asks full = dir_is_full g t (free_count v.world) (length v.world.pairs) n x.there path x.way absent
        (ap (nat_le (entries_room (block_len g))) (names_are ∙ sym blocks_are) ∙ (ap (λ k. nat_le (entries_room k) (length (blocks_said (inode_of lookup.directory.inode)))) (sym x.found.above.stands.whole) ∙ full))

    pub roomy_asks : DirectoryHasRoom lookup.directory.inode lookup.name.now
        → refusal kind.Inode v.world.geometry (tree_under c v) (free_count v.world) (length v.world.pairs) n (ask.MakeDir path) ≡ first_of (no_room v.world.geometry (free_count v.world) (length v.world.pairs) n)
    roomy_asks room = dir_room g t (free_count v.world) (length v.world.pairs) n x.there path x.way absent
        (ap (nat_le (entries_room (block_len g))) names_are ∙ below (entries_room (block_len g)) (subst (λ k. length es < entries_room k) x.found.above.stands.whole (room (sym x.found.old ∙ x.vacant))))
      where
        below : (k : ℕ) → length (entries_said (inode_of lookup.directory.inode)) < k → nat_le k (length (entries_said (inode_of lookup.directory.inode))) ≡ false
        below k less = grind (arith, nat_tests)

  pub full_refuses : nat_le (entries_room (block_len_of lookup.directory.inode)) (length (blocks_said (inode_of lookup.directory.inode))) ≡ true → refused_on (mounted_by c) v (ask.MakeDir path) ≡ Some no.DirFull
  full_refuses = full_asks (need 1 1)

  pub room_refuses : DirectoryHasRoom lookup.directory.inode lookup.name.now → refused_on (mounted_by c) v (ask.MakeDir path) ≡ no_room_in v.world 1 1
  room_refuses = roomy_asks (need 1 1)

-- nothing is changed yet
pub vacant_so : {told : Type 0} {c : Client} {first mid : DiskView} {path : Path} {lookup : Lookup} → MayAsk told c first → (told → first.spent ≡ false → IsDiskSound first) → is_path path ≡ true → OnlyLooks told first mid (Ok lookup) → (told → IsLookup c mid path lookup)
    → (told → ◌≡◌ {A = Option FsRefusal} (lookup_refusal (tree_under c first) path no.Exists) None) → lookup.old ≡ None → told → IsVacant c mid path lookup
vacant_so {c = c} {path = path} may sound path_is looks found way vacant t =
    let seen = (looks.looked t).0 in
    record {
      primary = subst (λ w. c.root < w.geometry.primaries) (sym seen.world) (subst (λ g. c.root < g.primaries) (sym (sound t may.ready.unspent).geometry) may.ready.primary);
      there = ap (λ w. is_there (inode_tree w c.root)) seen.world ∙ may.tree t;
      path_is = path_is;
      found = found t;
      vacant = vacant;
      way = ap (λ w. lookup_refusal (inode_tree w c.root) path no.Exists) seen.world ∙ way t;
    }

-- after the make: the directory is to be entered
pub to_enter : {told : Type 0} {c : Client} {v mk : DiskView} {path : Path} {lookup : Lookup} {i : ℕ} → is_directory (inode_of lookup.directory.inode) ≡ true → (told → IsValidNow v) → (told → IsVacant c v path lookup) → DirectoryHasRoom lookup.directory.inode lookup.name.now
    → (told → ◌≡◌ {A = Option FsRefusal} (no_room_in v.world 1 1) None) → (told → KeepsRoom (need 1 1) v.world mk.world) → (told → IsMadeInode c.root v.world lookup.directory.block i empty_tree mk.world) → Runs {X = ℕ} told v mk (IsAside c.root v.world) (Ok i)
    → ToEnter told c v mk (ask.MakeDir path) path lookup i empty_tree
to_enter {c = c} {v = v} {path = path} {lookup = lookup} dir now x room none keeps made runs = record {
  none = λ t. room_refuses c v path lookup (x t) dir room ∙ none t;
  is_done = refl;
  tree = λ t. refl;
  grounds = λ t. grounds c v path lookup (x t) dir (now t) room;
  made = made;
  keeps = keeps;
  runs = runs;
}
