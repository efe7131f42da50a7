-- What a copy answers, by the refusal that applies first, and what the new file is made of.
use Rattle.std.proofs.Common.{◌≡◌, ℕ, suc, ◌+◌, ◌*◌, ◌/◌, ◌<◌, ◌≤◌, true, false, nat_le, List, [], ◌∷◌, ◌++◌, length, refl, sym, ◌∙◌, ap, subst, arith, Option, Some, None, Ok}
use Rattle.inode_changes.proofs.Common.{length-take-le, take_all, div_ceil_times, mul-div_cancel_left, mul_comm, take, flat_map, slice_get, div_ceil, block_len, free_count, has_number, are_apart, Geometry, Path, is_path, node_at, inodes_under, inode_tree, Tree, a_file, at, is_there, bytes_in, with_at, numbers, entries_room, data_room, need, inode_need, need_of, RoomNeed, first_of, lost_on_the_way, missing, no_file, name_taken, dir_full, no_room, refusal, change, FsRefusal, DiskView, IsDiskSound, IsValidNow, Stays, KeepsRoom, Runs, Client, Looked, OnlyLooks, no_room_in, refused_on, lookup_refusal, is_mounted, inode_of, block_len_of, body_of, is_directory, amount_said, blocks_said, Found, Lookup, tree_under, MayAsk, mounted_by, StandsAtPath, IsLookup, not_found, no_file_found, bytes_at, bytes_said, file_said, file_count, named_held, may_look, said_is_row, row_is_long, found_long, node_is, file_is, tree_there, stands_still, IsVacant, Content, shared_count, shared_of, new_bytes, new_count, all_count, FitsInode, IsFor, IsAside, Grounds, AreOfFiles, IsMadeInode, bytes_of, Copies, IsCopied}
use Rattle.tsd_model.specs.Records.{kept_of}
use Rattle.tsd_model.specs.Attained.{record_level}
use Rattle.fs_trees.specs.Inode as tree
use Rattle.fs_trees.specs.declared.ask.ShellAsk.TheVariants as ask
use Rattle.fs_trees.specs.declared.ask.ShellKind.TheVariants as kind
use Rattle.fs_trees.specs.declared.refusal.FsRefusal.TheVariants as no
use Rattle.inode_layout.specs.declared.inode.Inode as layout
use Rattle.inode_walks.proofs.RefusalLaws.{refused_by, passes_by}
use Rattle.inode_changes.proofs.EndLaws.{ToEnter}
use Rattle.inode_changes.proofs.MakeLaws as making
use Rattle.inode_changes.proofs.MakeLaws.{dir_lost, dir_taken}
use Rattle.inode_changes.proofs.SpotLaws.{said_in_order}
use Rattle.inode_changes.specs.Entering as entering
use Rattle.inode_changes.proofs.NeedLaws.{copy_need}
use Rattle.inode_changes.proofs.GrowLaws.{blocks_behind}
use Rattle.inode_changes.proofs.GrownLaws.{append_none}
use Rattle.inode_changes.proofs.SharedLaws.{first_numbers}

-- ---- the refusals in their order

first_more : (o : Option FsRefusal) (rest : List (Option FsRefusal)) (e : FsRefusal) → first_of (o ∷ []) ≡ Some e → first_of (o ∷ rest) ≡ Some e
first_more None rest e h = absurd (cc)
first_more (Some r) rest e h = h

none_first : (o : Option FsRefusal) (rest : List (Option FsRefusal)) → ◌≡◌ {A = Option FsRefusal} (first_of (o ∷ [])) None → first_of (o ∷ rest) ≡ first_of rest
none_first None rest h = refl
none_first (Some r) rest h = absurd (cc)

module _ (g : Geometry) (t : Tree) (free held : ℕ) (n : RoomNeed) (there : is_there t ≡ true) (p q : Path) where
  -- what is left behind the old file
  abbrev behind : List (Option FsRefusal)
  behind = lost_on_the_way t q ∷ name_taken t q ∷ dir_full kind.Inode g t q ∷ no_room g free held n

  pub copy_lost : (e : FsRefusal) → no_file_found t p ≡ Some e → refusal kind.Inode g t free held n (ask.Copy p q) ≡ Some e
  copy_lost e h = is_mounted t (lost_on_the_way t p ∷ missing t p ∷ no_file t p ∷ behind) there ∙ by_way (not_found t p) refl h
    where
      by_way : (o : Option FsRefusal) → not_found t p ≡ o → first_of (o ∷ no_file t p ∷ []) ≡ Some e → first_of (lost_on_the_way t p ∷ missing t p ∷ no_file t p ∷ behind) ≡ Some e
      by_way (Some r) f k = refused_by t p r (no_file t p ∷ behind) f ∙ k
      by_way None f k = passes_by t p (no_file t p ∷ behind) f ∙ first_more (no_file t p) behind e k

  -- where the old file is there, the place of the new one refuses it as it would a directory there
  pub copy_way : ◌≡◌ {A = Option FsRefusal} (no_file_found t p) None → refusal kind.Inode g t free held n (ask.Copy p q) ≡ refusal kind.Inode g t free held n (ask.MakeDir q)
  copy_way h = is_mounted t (lost_on_the_way t p ∷ missing t p ∷ no_file t p ∷ behind) there ∙ (by_way (not_found t p) refl h ∙ sym (is_mounted t behind there))
    where
      by_way : (o : Option FsRefusal) → not_found t p ≡ o → ◌≡◌ {A = Option FsRefusal} (first_of (o ∷ no_file t p ∷ [])) None → first_of (lost_on_the_way t p ∷ missing t p ∷ no_file t p ∷ behind) ≡ first_of behind
      by_way (Some r) f k = absurd (cc)
      by_way None f k = passes_by t p (no_file t p ∷ behind) f ∙ none_first (no_file t p) behind k

module _ (c : Client) (v : DiskView) (path new : Path) (there : is_there (tree_under c v) ≡ true) where
  abbrev wanted : RoomNeed
  wanted = need_of kind.Inode v.world c.root (tree_under c v) (ask.Copy path new)

  pub lost_refuses : (e : FsRefusal) → no_file_found (tree_under c v) path ≡ Some e → refused_on (mounted_by c) v (ask.Copy path new) ≡ Some e
  lost_refuses e h = copy_lost v.world.geometry (tree_under c v) (free_count v.world) (length v.world.pairs) wanted there path new e h

  module _ (way : ◌≡◌ {A = Option FsRefusal} (no_file_found (tree_under c v) path) None) where
    as_dir : refused_on (mounted_by c) v (ask.Copy path new) ≡ refusal kind.Inode v.world.geometry (tree_under c v) (free_count v.world) (length v.world.pairs) wanted (ask.MakeDir new)
    as_dir = copy_way v.world.geometry (tree_under c v) (free_count v.world) (length v.world.pairs) wanted there path new way

    pub place_refuses : (e : FsRefusal) → lookup_refusal (tree_under c v) new no.Exists ≡ Some e → refused_on (mounted_by c) v (ask.Copy path new) ≡ Some e
    place_refuses e h = as_dir ∙ dir_lost v.world.geometry (tree_under c v) (free_count v.world) (length v.world.pairs) wanted there new e h

    pub taken_refuses : ◌≡◌ {A = Option FsRefusal} (lookup_refusal (tree_under c v) new no.Exists) None → is_there (at (tree_under c v) new) ≡ true → refused_on (mounted_by c) v (ask.Copy path new) ≡ Some no.Exists
    taken_refuses h k = as_dir ∙ dir_taken v.world.geometry (tree_under c v) (free_count v.world) (length v.world.pairs) wanted there new h k

-- ---- after looks

-- the client may still ask
pub asks_still : {X : Type 0} (told : Type 0) (c : Client) (old new : DiskView) (x : X) → OnlyLooks told old new (Ok x) → MayAsk told c old → MayAsk told c new
asks_still told c old new x looks may = record {
  ready = record {
    unspent = looks.unspent.0;
    number = may.ready.number;
    begun = looks.stays.0.sessions c.session ∙ may.ready.begun;
    primary = subst (λ g. c.root < g.primaries) (sym looks.counts.geometry) may.ready.primary;
    attains = ap (λ r. record_level (slice_get r c.root) (kept_of new.version c.cap)) looks.stays.0.records ∙ (ap (λ n. record_level (slice_get old.records c.root) (kept_of n c.cap)) looks.counts.version ∙ may.ready.attains);
  };
  valid = λ t. (looks.looked t).0.valid;
  tree = λ t. ap (λ w. is_there (inode_tree w c.root)) (looks.looked t).0.world ∙ may.tree t;
}

at_still : (c : Client) (old new : DiskView) (path : Path) (file : Found) → Looked old new → Stays old new → IsValidNow old → StandsAtPath c old path file → StandsAtPath c new path file
at_still c old new path file seen stays now x = record {
  more = x.more;
  levels = x.levels;
  stands = stands_still c old new x.more file seen stays now x.stands;
  node = subst (λ w. at (inodes_under w c.root) path ≡ node_at w (suc x.more) file.block) (sym seen.world) x.node;
}

-- the file was found first, and then the place
pub copies_so : {told : Type 0} {c : Client} {first mid v : DiskView} {path : Path} {file : Found} {new : Path} {lookup : Lookup} → MayAsk told c first → (told → first.spent ≡ false → IsDiskSound first) → is_path new ≡ true
    → OnlyLooks told first mid (Ok file) → (told → StandsAtPath c mid path file) → (told → ◌≡◌ {A = Option FsRefusal} (no_file_found (tree_under c first) path) None)
    → OnlyLooks told mid v (Ok lookup) → (told → IsLookup c v new lookup) → (told → ◌≡◌ {A = Option FsRefusal} (lookup_refusal (tree_under c mid) new no.Exists) None) → lookup.old ≡ None → told → Copies c v path file new lookup
copies_so {c = c} {first = first} {mid = mid} {v = v} {path = path} {file = file} {new = new} {lookup = lookup} may sound new_is one found way two place_is new_way vacant t =
    let seen = (one.looked t).0 in
    let seen_on = (two.looked t).0 in
    let same : v.world ≡ first.world = seen_on.world ∙ seen.world in
    record {
      there = ap (λ w. is_there (inode_tree w c.root)) same ∙ may.tree t;
      primary = subst (λ w. c.root < w.geometry.primaries) (sym same) (subst (λ g. c.root < g.primaries) (sym (sound t may.ready.unspent).geometry) may.ready.primary);
      found = at_still c mid v path file seen_on two.stays.0 seen.valid (found t);
      way = ap (λ w. no_file_found (inode_tree w c.root) path) same ∙ way t;
      new_is = new_is;
      new_place = place_is t;
      vacant = vacant;
      new_way = ap (λ w. lookup_refusal (inode_tree w c.root) new no.Exists) seen_on.world ∙ new_way t;
    }

-- ---- at the place of the copy

module _ (c : Client) (v : DiskView) (path : Path) (file : Found) (new : Path) (lookup : Lookup) (x : Copies c v path file new lookup) (dir : is_directory (inode_of lookup.directory.inode) ≡ true) (now : IsValidNow v) where
  abbrev t : Tree
  t = tree_under c v

  abbrev g : Geometry
  g = v.world.geometry

  vacant : IsVacant c v new lookup
  vacant = record { primary = x.primary; there = x.there; path_is = x.new_is; found = x.new_place; vacant = x.vacant; way = x.new_way }

  pub grounds : entering.DirectoryHasRoom lookup.directory.inode lookup.name.now → Grounds c.root v.world new lookup
  grounds = making.grounds c v new lookup vacant dir now

  pub full_refuses : nat_le (entries_room (block_len_of lookup.directory.inode)) (length (blocks_said (inode_of lookup.directory.inode))) ≡ true → refused_on (mounted_by c) v (ask.Copy path new) ≡ Some no.DirFull
  full_refuses full = as_dir c v path new x.there x.way ∙ making.full_asks c v new lookup vacant dir (need_of kind.Inode v.world c.root t (ask.Copy path new)) full

  pub roomy_asks : entering.DirectoryHasRoom lookup.directory.inode lookup.name.now → refused_on (mounted_by c) v (ask.Copy path new) ≡ first_of (no_room g (free_count v.world) (length v.world.pairs) (need_of kind.Inode v.world c.root t (ask.Copy path new)))
  roomy_asks room = as_dir c v path new x.there x.way ∙ making.roomy_asks c v new lookup vacant dir (need_of kind.Inode v.world c.root t (ask.Copy path new)) room

-- ---- what the new file is made of

-- whether the disk tells or not
module _ (inode : layout.Inode) (no_dir : is_directory (inode_of inode) ≡ false) (whole : 16 ≤ block_len_of inode) (content : Content) (k : IsCopied inode content) where
  count_is : length (blocks_said (inode_of inode)) ≡ inode.count
  count_is = file_count inode no_dir ∙ sym (blocks_behind inode no_dir).each

  shared_length : length content.shared.now ≡ 4 * inode.count
  shared_length =
      let fit = (blocks_behind inode no_dir).fit in
      ap length k.shared ∙ (ap (λ n. length (take (4 * n) (body_of inode))) count_is ∙ length-take-le (4 * inode.count) (body_of inode) fit)

  pub shares : shared_count content ≡ inode.count
  shares = ap (λ n. n / 4) shared_length ∙ mul-div_cancel_left inode.count (omega arith)

  pub shared_are : shared_of content ≡ blocks_said (inode_of inode)
  shared_are =
      let b = blocks_behind inode no_dir in
      let all = count_is in
      ap (λ n. numbers n content.shared.now) shares
      ∙ (ap (numbers inode.count) (k.shared ∙ ap (λ n. take (4 * n) (body_of inode)) count_is)
      ∙ (first_numbers inode.count inode.count (body_of inode) (omega arith) b.fit
      ∙ (ap (take inode.count) (sym b.are) ∙ take_all inode.count (blocks_said (inode_of inode)) (omega (arith, all)))))

  none_new : new_bytes content ≡ []
  none_new = ap (λ xs. xs ++ content.bytes.now) k.before ∙ k.added

  pub no_new : new_count content ≡ 0
  no_new = ap (λ xs. div_ceil (length xs) content.block_len) none_new ∙ (ap (div_ceil 0) k.len ∙ no_blocks (block_len_of inode) (omega (arith, whole)))
    where
      no_blocks : (len : ℕ) → 0 < len → div_ceil 0 len ≡ 0
      no_blocks len some = omega arith

  pub all_is : all_count content ≡ inode.count
  all_is = let one = shares in let two = no_new in omega (arith, one, two)

  pub has_room : block_len_of inode ≤ 4096 → FitsInode content
  has_room most =
      let none = ap length k.before in
      let no_bytes = ap length k.added in
      record {
        whole = shared_length ∙ ap (λ n. 4 * n) (sym shares);
        front = subst (λ n. length content.front.now < n) (sym k.len) (omega (arith, none, whole));
        few = omega (arith, no_bytes);
        most = subst (λ n. n ≤ 4096) (sym k.len) most;
        room = subst (λ n. n ≤ data_room content.block_len) (sym all_is) (subst (λ n. inode.count ≤ data_room n) (sym k.len) (blocks_behind inode no_dir).room);
      }

-- where it tells
module _ (c : Client) (v : DiskView) (path : Path) (file : Found) (new : Path) (lookup : Lookup) (x : Copies c v path file new lookup) (no_dir : is_directory (inode_of file.inode) ≡ false) (dir : is_directory (inode_of lookup.directory.inode) ≡ true) (now : IsValidNow v)
    (content : Content) (k : IsCopied file.inode content) where
  abbrev blocks : List ℕ
  blocks = blocks_said (inode_of file.inode)

  abbrev size : ℕ
  size = amount_said (inode_of file.inode)

  whole : 16 ≤ block_len_of file.inode
  whole = found_long c v x.found.more file x.found.stands now

  are : shared_of content ≡ blocks_said (inode_of file.inode)
  are = shared_are file.inode no_dir whole content k

  in_file : (b : ℕ) → has_number (shared_of content) b ≡ true → has_number blocks b ≡ true
  in_file b h = ap (λ xs. has_number xs b) (sym are) ∙ h

  same_len : content.block_len ≡ block_len v.world.geometry
  same_len = k.len ∙ x.found.stands.whole

  count : all_count content ≡ div_ceil content.size content.block_len
  count = all_is file.inode no_dir whole content k ∙ ((blocks_behind file.inode no_dir).each ∙ (ap (λ n. div_ceil n (block_len_of file.inode)) (sym k.size) ∙ ap (div_ceil content.size) (sym k.len)))

  pub is_for : IsFor c v content
  is_for = record {
    len = same_len;
    count = count;
    size =
        let most = (div_ceil_times content.size content.block_len (subst (λ n. 0 < n) (sym k.len) (omega (arith, whole)))).0 in
        let all = count in
        let some = no_new file.inode no_dir whole content k in
        let each : shared_count content ≡ div_ceil content.size content.block_len = omega (arith, all, some) in
        let turned : content.block_len * shared_count content ≡ div_ceil content.size content.block_len * content.block_len = ap (λ n. content.block_len * n) each ∙ mul_comm content.block_len (div_ceil content.size content.block_len) in
        omega (arith, most, turned);
    apart = ap are_apart are ∙ said_in_order v.world file.block (tree.regular size blocks) (x.found.stands.says ∙ ap (λ i. Some i) (file_said (inode_of file.inode) no_dir));
    may = λ b h. record {
      may = may_look c v x.found.more file x.found.stands no_dir now (record { number = x.found.stands.may.number; begun = x.found.stands.may.begun }) b (in_file b h);
      apart = now.valid.raw.apart file.block b (named_held c v x.found.more file x.found.stands no_dir now b (in_file b h));
    };
  }

  pub of_files : AreOfFiles c.root v.world (shared_of content)
  of_files b h = (path, record { block = file.block; size = size; blocks = blocks }, x.found.node ∙ node_is c v x.found.more file x.found.stands no_dir now, in_file b h)

  -- ---- its bytes are those of the old file

  file_at : at (tree_under c v) path ≡ a_file (take size (bytes_said v.world (inode_of file.inode)))
  file_at = tree_there c v path file x.found ∙ file_is c v x.found.more file x.found.stands no_dir now

  pub made_bytes : bytes_of v.world content ≡ take size (bytes_said v.world (inode_of file.inode))
  made_bytes =
      ap (λ n. take n (flat_map (bytes_at v.world) (shared_of content) ++ new_bytes content)) k.size
      ∙ (ap (λ bs. take size (flat_map (bytes_at v.world) bs ++ new_bytes content)) are
      ∙ (ap (λ xs. take size (flat_map (bytes_at v.world) blocks ++ xs)) (none_new file.inode no_dir whole content k)
      ∙ ap (take size) (append_none (flat_map (bytes_at v.world) blocks) ∙ sym (said_is_row c v x.found.more file x.found.stands no_dir now))))

  pub changed : (change (tree_under c v) (free_count v.world) (ask.Copy path new)).tree ≡ with_at new (a_file (bytes_of v.world content)) (tree_under c v)
  changed = ap (λ y. with_at new y (tree_under c v)) (file_at ∙ ap (λ xs. a_file xs) (sym made_bytes))

  size_is : length (bytes_in (at (tree_under c v) path)) ≡ content.size
  size_is = ap (λ y. length (bytes_in y)) file_at ∙ (length-take-le size (bytes_said v.world (inode_of file.inode)) (row_is_long c v x.found.more file x.found.stands no_dir now whole) ∙ sym k.size)

  -- what it needs
  pub need_is : inode_need v.world.geometry (tree_under c v) (ask.Copy path new) ≡ need (1 + new_count content) (1 + all_count content)
  need_is =
      copy_need v.world.geometry (tree_under c v) path new content.size size_is
      ∙ (ap (λ n. need 1 (1 + n)) (ap (div_ceil content.size) (sym same_len) ∙ sym count) ∙ ap (λ n. need n (1 + all_count content)) one_more)
    where
      one_more : 1 ≡ 1 + new_count content
      one_more = let some = no_new file.inode no_dir whole content k in omega (arith, some)

  -- what is refused for want of room
  pub room_refuses : entering.DirectoryHasRoom lookup.directory.inode lookup.name.now → refused_on (mounted_by c) v (ask.Copy path new) ≡ no_room_in v.world (1 + new_count content) (1 + all_count content)
  room_refuses room =
      roomy_asks c v path file new lookup x dir now room
      ∙ ap (λ n. first_of (no_room v.world.geometry (free_count v.world) (length v.world.pairs) n)) need_is

-- after the make: the copy is to be entered
pub to_enter : {told : Type 0} {c : Client} {v mk : DiskView} {path : Path} {file : Found} {new : Path} {lookup : Lookup} {content : Content} {i : ℕ} → is_directory (inode_of file.inode) ≡ false → is_directory (inode_of lookup.directory.inode) ≡ true
    → (told → IsValidNow v) → (told → Copies c v path file new lookup) → IsCopied file.inode content → entering.DirectoryHasRoom lookup.directory.inode lookup.name.now
    → (told → ◌≡◌ {A = Option FsRefusal} (no_room_in v.world (1 + new_count content) (1 + all_count content)) None) → (told → KeepsRoom (need (1 + new_count content) (1 + all_count content)) v.world mk.world)
    → (told → IsMadeInode c.root v.world lookup.directory.block i (a_file (bytes_of v.world content)) mk.world) → Runs {X = ℕ} told v mk (IsAside c.root v.world) (Ok i) → ToEnter told c v mk (ask.Copy path new) new lookup i (a_file (bytes_of v.world content))
to_enter {c = c} {v = v} {mk = mk} {path = path} {file = file} {new = new} {lookup = lookup} {content = content} no_dir dir now x k room none keeps made runs = record {
  none = λ t. room_refuses c v path file new lookup (x t) no_dir dir (now t) content k room ∙ none t;
  is_done = refl;
  tree = λ t. changed c v path file new lookup (x t) no_dir dir (now t) content k;
  grounds = λ t. grounds c v path file new lookup (x t) dir (now t) room;
  made = made;
  keeps = λ t. subst (λ n. KeepsRoom n v.world mk.world) (sym (need_is c v path file new lookup (x t) no_dir dir (now t) content k)) (keeps t);
  runs = runs;
}
