-- A file that was read at the lookup of a path.
use Rattle.std.proofs.Common.{◌≡◌, ℕ, ◌+◌, ◌<◌, true, [], List, ◌∷◌, ◌++◌, length, refl, sym, ◌∙◌, ap, subst, arith, false, Option, Some, None, Ok, length-append}
use Rattle.inode_changes.proofs.Common.{block_len, Name, Path, is_path, free_count, child, at, is_there, is_dir, need_of, block_named, inode_at, inodes_under, inode_tree, RoomNeed, directory_of, FsRefusal, HoldsWrite, DiskView, IsDiskSound, state_of, IsValidNow, Stays, Client, Looked, OnlyLooks, may_again, looks_as, then_looks, inode_of, block_len_of, is_directory, entries_said, entry_said, Found, Lookup, MayAsk, tree_under, mounted_by, StandsAtPath, IsLookup, IsFurther, lookup_refusal, refused_on, further, DirectoryHasRoom, IsEntryRead, Grows}
use Rattle.fs_trees.specs.Inode as tree
use Rattle.fs_trees.specs.declared.ask.ShellAsk.TheVariants as ask
use Rattle.fs_trees.specs.declared.ask.ShellKind.TheVariants as kind
use Rattle.fs_trees.specs.declared.refusal.FsRefusal.TheVariants as no
use Rattle.inode_changes.proofs.PlaceLaws.{said_place, may_read_old}
use Rattle.inode_layout.specs.declared.inode.Inode as layout
use Rattle.inode_changes.proofs.EntryLaws.{entry_of}
use Rattle.inode_changes.proofs.AppendLaws.{append_lost, append_missing, append_dir}
use Rattle.inode_changes.proofs.GrowLaws.{root_is_dir}
use Rattle.fs_laws.proofs.AtLaws.{at_last}

entry_is : (n : Name) (i : tree.Inode) → is_directory i ≡ true → entry_said n i ≡ block_named n (entries_said i)
entry_is n (tree.directory es) h = refl
entry_is n (tree.regular size blocks) h = absurd (cc)

-- a name that is there takes no room
pub room_for_old : (i : layout.Inode) (n : Name) (b : ℕ) → is_directory (inode_of i) ≡ true → entry_said n (inode_of i) ≡ Some b → DirectoryHasRoom i n
room_for_old i n b is_dir some none = absurd (never (block_named n (entries_said (inode_of i))) (sym (entry_is n (inode_of i) is_dir) ∙ some) none)
  where
    never : (o : Option ℕ) → o ≡ Some b → o ≡ None → ⊥
    never o p q = cc

module _ (c : Client) (mid : DiskView) (path : Path) (lookup : Lookup) (is_dir : is_directory (inode_of lookup.directory.inode) ≡ true) (i : IsLookup c mid path lookup) where
  -- what stands there is what the directory names so
  pub old_is : (o : Option ℕ) → entry_said lookup.name.now (inode_of lookup.directory.inode) ≡ o → lookup.old ≡ o
  old_is o e = i.old ∙ (sym (entry_is lookup.name.now (inode_of lookup.directory.inode) is_dir) ∙ e)

  module _ (b : ℕ) (some : lookup.old ≡ Some b) (rd : DiskView) (file : Found) (seen : Looked mid rd) (stays : Stays mid rd) (now : IsValidNow mid)
      (block : file.block ≡ b) (says : inode_at mid.world b ≡ Some (inode_of file.inode)) (whole : block_len_of file.inode ≡ block_len mid.world.geometry) (held : HoldsWrite (state_of rd) c.session b) where
    here : IsFurther c mid rd i.above.more lookup.directory lookup.name.now file
    here =
        let said = said_place c mid path lookup is_dir i b some in
        further c mid i.above.more lookup.directory i.above.stands lookup.name.now b said rd file seen block says whole held
        (may_again c mid rd b seen stays now (may_read_old c mid path lookup is_dir i b some now))

    file_at : StandsAtPath c rd path file
    file_at = record {
      more = here.less;
      levels =
          let long : length path ≡ length (directory_of path) + 1 = ap length i.name ∙ length-append (directory_of path) (lookup.name.now ∷ []) in
          let levels = i.above.levels in
          let deeper = here.deeper in
          omega (arith, long, levels, deeper);
      stands = here.stands;
      node = ap (λ w. at (inodes_under w c.root) path) seen.world
          ∙ (ap (at (inodes_under mid.world c.root)) i.name ∙ (at_last (directory_of path) lookup.name.now (inodes_under mid.world c.root) ∙ (ap (child lookup.name.now) i.above.node ∙ here.node)));
    }

    -- what is known where bytes are to be added
    grows_here : (first : DiskView) → Looked first mid → c.root < first.world.geometry.primaries → is_there (tree_under c first) ≡ true → is_path path ≡ true → ◌≡◌ {A = Option FsRefusal} (lookup_refusal (tree_under c first) path no.IsDir) None
        → DirectoryHasRoom lookup.directory.inode lookup.name.now → Grows c rd path lookup file
    grows_here first looked primary there named way room =
        let same : rd.world ≡ first.world = seen.world ∙ looked.world in
        record {
          grounds = record {
            valid = seen.valid.valid;
            primary = subst (λ w. c.root < w.geometry.primaries) (sym same) primary;
            there = subst (λ w. is_there (inode_tree w c.root) ≡ true) (sym same) there;
            path_is = named;
            entry = subst (λ w. IsEntryRead c.root w path lookup) (sym seen.world) (entry_of c mid path lookup is_dir i);
            room = room;
          };
          may = may_again c mid rd lookup.directory.block seen stays now i.above.stands.may;
          found = file_at;
          old = some ∙ ap (λ k. Some k) (sym block);
          way = subst (λ w. ◌≡◌ {A = Option FsRefusal} (lookup_refusal (inode_tree w c.root) path no.IsDir) None) (sym same) way;
        }

-- after the looks: the entry and its file were read
pub record HasReadFile (told : Type 0) (c : Client) (first rd : DiskView) (path : Path) (lookup : Lookup) (file : Found) : Type 0 where
  pub looks : OnlyLooks {X = Unit {0}} told first rd (Ok tt)
  pub grows : told → Grows c rd path lookup file

pub read_so : {told : Type 0} {c : Client} {first mid rd : DiskView} {path : Path} {lookup : Lookup} {b : ℕ} {file : Found} → MayAsk told c first → (told → first.spent ≡ false → IsDiskSound first) → is_path path ≡ true
    → OnlyLooks told first mid (Ok lookup) → is_directory (inode_of lookup.directory.inode) ≡ true → (told → IsLookup c mid path lookup) → (told → ◌≡◌ {A = Option FsRefusal} (lookup_refusal (tree_under c first) path no.IsDir) None)
    → entry_said lookup.name.now (inode_of lookup.directory.inode) ≡ Some b → OnlyLooks told mid rd (Ok file) → file.block ≡ b → (told → inode_at mid.world b ≡ Some (inode_of file.inode)) → (told → block_len_of file.inode ≡ block_len mid.world.geometry)
    → (told → HoldsWrite (state_of rd) c.session b) → HasReadFile told c first rd path lookup file
read_so {told = told} {c = c} {first = first} {mid = mid} {rd = rd} {path = path} {lookup = lookup} {b = b} {file = file} may sound named one dir found way some two block says whole held = record {
  looks = then_looks told first mid rd lookup (Ok tt) one (looks_as told mid rd file tt two);
  grows = λ t. grows_here c mid path lookup dir (found t) b (old_is c mid path lookup dir (found t) (Some b) some) rd file (two.looked t).0 two.stays.0 (one.looked t).0.valid block (says t) (whole t) (held t)
      first (one.looked t).0 (subst (λ g. c.root < g.primaries) (sym (sound t may.ready.unspent).geometry) may.ready.primary) (may.tree t) named (way t) (room_for_old lookup.directory.inode lookup.name.now b dir some);
}

-- the way or the entry is missing
module _ (c : Client) (v : DiskView) (path : Path) (y : List ℕ) (there : is_there (tree_under c v) ≡ true) where
  abbrev wanted : RoomNeed
  wanted = need_of kind.Inode v.world c.root (tree_under c v) (ask.Append path y)

  pub lost_refuses : (e : FsRefusal) → lookup_refusal (tree_under c v) path no.IsDir ≡ Some e → refused_on (mounted_by c) v (ask.Append path y) ≡ Some e
  lost_refuses e h = append_lost v.world.geometry (tree_under c v) (free_count v.world) (length v.world.pairs) wanted (root_is_dir v.world c.root there) y path e h

  module _ (way : ◌≡◌ {A = Option FsRefusal} (lookup_refusal (tree_under c v) path no.IsDir) None) where
    pub missing_refuses : is_there (at (tree_under c v) path) ≡ false → refused_on (mounted_by c) v (ask.Append path y) ≡ Some no.NoEntry
    missing_refuses none = append_missing v.world.geometry (tree_under c v) (free_count v.world) (length v.world.pairs) wanted (root_is_dir v.world c.root there) y path way none

    pub dir_refuses : is_dir (at (tree_under c v) path) ≡ true → refused_on (mounted_by c) v (ask.Append path y) ≡ Some no.IsDir
    dir_refuses dir = append_dir v.world.geometry (tree_under c v) (free_count v.world) (length v.world.pairs) wanted (root_is_dir v.world c.root there) y path way dir
