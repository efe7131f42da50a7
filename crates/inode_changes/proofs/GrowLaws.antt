-- A file that bytes are added to, as it was read: what refuses that, and what the new file is made of.
use Rattle.std.proofs.Common.{◌≡◌, ℕ, ◌+◌, ◌-◌, ◌*◌, ◌/◌, ◌%◌, ◌<◌, ◌≤◌, true, false, nat_lt, List, [], ◌∷◌, ◌++◌, length, refl, sym, ◌∙◌, ap, subst, arith, Option, Some, None, length-append, Ok}
use Rattle.inode_changes.proofs.Common.{nat_tests, length-take-le, length-drop, div_ceil_times, div-add-mod, mod-lt, mul-div_cancel_left, mul-le-mul_right, take, flat_map, div_ceil, block_len, World, free_count, has_number, are_apart, Path, a_file, at, is_there, is_file, is_dir, bytes_in, numbers, data_room, inode_at, inodes_under, inode_tree, need, inode_need, need_of, when, first_of, no_room, FsRefusal, found, under_is, DiskView, IsValidNow, KeepsRoom, Runs, Client, no_room_in, refused_on, InodeKind, Directory, Regular, item_bytes, items_for, said, inode_of, block_len_of, body_of, is_directory, amount_said, blocks_said, Found, Lookup, tree_under, mounted_by, part, bytes_at, bytes_said, file_said, file_count, named_held, named_full, may_look, said_is_row, row_is_long, found_long, node_is, a_file_there, Content, shared_count, shared_of, new_bytes, new_count, all_count, FitsInode, IsFor, IsAside, joined, IsOfFile, IsMadeInode, bytes_made, Grows, IsGrownFile}
use Rattle.fs_trees.specs.Inode as tree
use Rattle.fs_trees.specs.InodeTree as inodes
use Rattle.fs_trees.specs.declared.ask.ShellAsk.TheVariants as ask
use Rattle.fs_trees.specs.declared.ask.ShellKind.TheVariants as kind
use Rattle.fs_trees.specs.declared.refusal.FsRefusal.TheVariants as no
use Rattle.inode_layout.specs.declared.inode.Inode as layout
use Rattle.inode_layout.specs.Block.{bytes_of}
use Rattle.inode_walks.proofs.TellLaws.{bytes_are}
use Rattle.inode_changes.proofs.SpotLaws.{said_in_order}
use Rattle.inode_changes.proofs.EndLaws.{ToEnter}
use Rattle.inode_changes.proofs.AppendLaws.{append_big, append_room}
use Rattle.inode_changes.proofs.NeedLaws.{append_need, full_blocks, full_among, ceil_more}
use Rattle.inode_changes.proofs.GrownLaws.{in_take, grown, behind_length}
use Rattle.inode_changes.proofs.SharedLaws.{first_numbers, apart_take}

-- the root of a tree that is there is a directory
pub root_is_dir : (w : World) (root : ℕ) → is_there (inode_tree w root) ≡ true → is_dir (inode_tree w root) ≡ true
root_is_dir w root there = let f = found w root there in ap (λ y. is_dir (inodes.tree_of w y)) (under_is w root f.0 f.1)

-- the numbers of a file's blocks stand one after the other behind its head
pub record AreBehind (i : layout.Inode) : Type 0 where
  pub are : blocks_said (inode_of i) ≡ numbers i.count (body_of i)
  pub fit : 4 * i.count ≤ length (body_of i)
  pub each : i.count ≡ div_ceil (amount_said (inode_of i)) (block_len_of i)
  pub room : i.count ≤ data_room (block_len_of i)

pub blocks_behind : (i : layout.Inode) → is_directory (inode_of i) ≡ false → AreBehind i
blocks_behind i h =
    let b = by_kind i.kind i.amount i.count (body_of i) (block_len_of i) i.fits i.counts (length-drop 16 (bytes_of i)) h in
    record { are = b.0; fit = b.1; each = b.2; room = b.3 }
  where
    by_kind : (k : InodeKind) (a count : ℕ) (body : List ℕ) (len : ℕ) → 16 + item_bytes k * count ≤ len → count ≡ items_for k a len → length body ≡ len - 16 → is_directory (said k a count body) ≡ false
        → (blocks_said (said k a count body) ≡ numbers count body) × (4 * count ≤ length body) × (count ≡ div_ceil (amount_said (said k a count body)) len) × (count ≤ data_room len)
    by_kind Directory a count body len fits counts long h = absurd (cc)
    by_kind Regular a count body len fits counts long h = (refl, omega (arith, fits, long), counts, omega (arith, fits))

-- the numbers of the full blocks are among those
pub full_behind : (i : layout.Inode) → is_directory (inode_of i) ≡ false → 16 ≤ block_len_of i → 4 * (amount_said (inode_of i) / block_len_of i) ≤ length (body_of i)
full_behind i no_dir whole =
    let b = blocks_behind i no_dir in
    let fit = b.fit in
    let each = b.each in
    let among = full_among (block_len_of i) (amount_said (inode_of i)) (omega (arith, whole)) in
    omega (arith, fit, each, among)

-- a size of which an inode can name all blocks has four bytes
pub size_is_small : (size len : ℕ) → 16 ≤ len → len ≤ 4096 → nat_lt (data_room len) (div_ceil size len) ≡ false → size < 4294967296
size_is_small size len whole most fits =
    let least = (div_ceil_times size len (omega (arith, whole))).0 in
    let few : div_ceil size len ≤ 1020 = not_more (data_room len) (div_ceil size len) fits (omega (arith, most)) in
    let bound = mul-le-mul_right {m = div_ceil size len} {n = 1020} len few in
    omega (arith, least, bound, most)
  where
    not_more : (room n : ℕ) → nat_lt room n ≡ false → room ≤ 1020 → n ≤ 1020
    not_more room n h k = grind (arith, nat_tests)

-- What the new file is made of, whether the disk tells or not.
module _ (inode : layout.Inode) (no_dir : is_directory (inode_of inode) ≡ false) (whole : 16 ≤ block_len_of inode) (front y : List ℕ) (content : Content) (g : IsGrownFile inode front y content) where
  abbrev k : ℕ
  k = amount_said (inode_of inode) / block_len_of inode

  few_full : k ≤ inode.count
  few_full =
      let each = (blocks_behind inode no_dir).each in
      let among = full_among (block_len_of inode) (amount_said (inode_of inode)) (omega (arith, whole)) in
      omega (arith, each, among)

  shared_length : length content.shared.now ≡ 4 * k
  shared_length = ap length g.shared ∙ length-take-le (4 * k) (body_of inode) (let fit = (blocks_behind inode no_dir).fit in let few = few_full in omega (arith, fit, few))

  pub count_is : shared_count content ≡ amount_said (inode_of inode) / block_len_of inode
  count_is = ap (λ n. n / 4) shared_length ∙ mul-div_cancel_left k (omega arith)

  pub shared_are : shared_of content ≡ take (amount_said (inode_of inode) / block_len_of inode) (blocks_said (inode_of inode))
  shared_are =
      let b = blocks_behind inode no_dir in
      ap (λ n. numbers n content.shared.now) count_is
      ∙ (ap (numbers k) g.shared ∙ (first_numbers k inode.count (body_of inode) few_full b.fit ∙ ap (take k) (sym b.are)))

  pub has_room : length front ≤ amount_said (inode_of inode) % block_len_of inode → block_len_of inode ≤ 4096 → length y ≤ 4096 → nat_lt (data_room (block_len_of inode)) (div_ceil (amount_said (inode_of inode) + length y) (block_len_of inode)) ≡ false → FitsInode content
  has_room less_in_front most short fits =
      let len = block_len_of inode in
      let size = amount_said (inode_of inode) in
      let some : 0 < len = omega (arith, whole) in
      let less : size % len < len = mod-lt size some in
      let before = ap length g.before in
      let bytes = ap length g.added in
      let both = length-append content.front.now content.bytes.now in
      let more = ceil_more len (length (content.front.now ++ content.bytes.now)) (size % len + length y) some (omega (arith, both, bytes, before, less_in_front)) in
      let parts = full_blocks len size (length y) some in
      let room : div_ceil (size + length y) len ≤ data_room len = not_less (data_room len) (div_ceil (size + length y) len) fits in
      let count = count_is in
      record {
        whole = shared_length ∙ ap (λ n. 4 * n) (sym count_is);
        front = subst (λ n. length content.front.now < n) (sym g.len) (omega (arith, before, less_in_front, less));
        few = omega (arith, bytes, short);
        most = subst (λ n. n ≤ 4096) (sym g.len) most;
        room = subst (λ n. shared_count content + div_ceil (length (content.front.now ++ content.bytes.now)) n ≤ data_room n) (sym g.len) (sum_fits (shared_count content) k (div_ceil (length (content.front.now ++ content.bytes.now)) len) (div_ceil (size % len + length y) len) (div_ceil (size + length y) len) (data_room len) count more parts room);
      }
    where
      not_less : (a b : ℕ) → nat_lt a b ≡ false → b ≤ a
      not_less a b h = grind (arith, nat_tests)

      sum_fits : (s k n m all room : ℕ) → s ≡ k → n ≤ m → all ≡ k + m → all ≤ room → s + n ≤ room
      sum_fits s k n m all room e h f r = omega (arith, e, h, f, r)

module _ (c : Client) (v : DiskView) (path : Path) (lookup : Lookup) (file : Found) (x : Grows c v path lookup file) (no_dir : is_directory (inode_of file.inode) ≡ false) (now : IsValidNow v) where
  abbrev size : ℕ
  size = amount_said (inode_of file.inode)

  abbrev len : ℕ
  len = block_len_of file.inode

  abbrev blocks : List ℕ
  blocks = blocks_said (inode_of file.inode)

  abbrev all : List ℕ
  all = bytes_said v.world (inode_of file.inode)

  abbrev full : ℕ
  full = amount_said (inode_of file.inode) / block_len_of file.inode

  whole : 16 ≤ block_len_of file.inode
  whole = found_long c v x.found.more file x.found.stands now

  some : 0 < block_len_of file.inode
  some = omega (arith, whole)

  same_len : block_len_of file.inode ≡ block_len v.world.geometry
  same_len = x.found.stands.whole

  -- ---- what stands there

  pub bytes_is : bytes_in (at (tree_under c v) path) ≡ take size all
  bytes_is = bytes_are c v v path file x.found refl no_dir now whole

  enough : size ≤ length all
  enough = row_is_long c v x.found.more file x.found.stands no_dir now whole

  pub size_is : length (bytes_in (at (tree_under c v) path)) ≡ amount_said (inode_of file.inode)
  size_is = ap length bytes_is ∙ length-take-le size all enough

  pub file_there : is_file (at (tree_under c v) path) ≡ true
  file_there = (a_file_there c v path file x.found no_dir).1

  root_dir : is_dir (tree_under c v) ≡ true
  root_dir = root_is_dir v.world c.root x.grounds.there

  -- ---- what refuses it

  big_is : (y : List ℕ) → nat_lt (data_room len) (div_ceil (size + length y) len) ≡ nat_lt (data_room (block_len v.world.geometry)) (div_ceil (length (bytes_in (at (tree_under c v) path)) + length y) (block_len v.world.geometry))
  big_is y = ap (λ n. nat_lt (data_room n) (div_ceil (size + length y) n)) same_len ∙ ap (λ n. nat_lt (data_room (block_len v.world.geometry)) (div_ceil (n + length y) (block_len v.world.geometry))) (sym size_is)

  pub big_refuses : (y : List ℕ) → nat_lt (data_room (block_len_of file.inode)) (div_ceil (amount_said (inode_of file.inode) + length y) (block_len_of file.inode)) ≡ true → refused_on (mounted_by c) v (ask.Append path y) ≡ Some no.TooBig
  big_refuses y h = append_big v.world.geometry (tree_under c v) (free_count v.world) (length v.world.pairs) (need_of kind.Inode v.world c.root (tree_under c v) (ask.Append path y)) root_dir y path x.way file_there (sym (big_is y) ∙ h)

  pub room_refuses : (y : List ℕ) → 1 ≤ length y → nat_lt (data_room (block_len_of file.inode)) (div_ceil (amount_said (inode_of file.inode) + length y) (block_len_of file.inode)) ≡ false
      → refused_on (mounted_by c) v (ask.Append path y) ≡ no_room_in v.world (1 + div_ceil (amount_said (inode_of file.inode) % block_len_of file.inode + length y) (block_len_of file.inode))
      (1 + (amount_said (inode_of file.inode) / block_len_of file.inode + div_ceil (amount_said (inode_of file.inode) % block_len_of file.inode + length y) (block_len_of file.inode)))
  room_refuses y least h =
      let g = v.world.geometry in
      append_room g (tree_under c v) (free_count v.world) (length v.world.pairs) (need_of kind.Inode v.world c.root (tree_under c v) (ask.Append path y)) root_dir y path x.way file_there (sym (big_is y) ∙ h)
      ∙ (ap (λ n. first_of (no_room g (free_count v.world) (length v.world.pairs) n)) (append_need g (tree_under c v) path y size (subst (λ n. 0 < n) same_len some) least size_is)
      ∙ ap (λ n. no_room_in v.world (1 + div_ceil (size % n + length y) n) (1 + (size / n + div_ceil (size % n + length y) n))) (sym same_len))

  -- nothing needs no room
  pub nothing_refuses : ◌≡◌ {A = Option FsRefusal} (refused_on (mounted_by c) v (ask.Append path [])) None
  nothing_refuses =
      let geo = v.world.geometry in
      let b = blocks_behind file.inode no_dir in
      append_room geo (tree_under c v) (free_count v.world) (length v.world.pairs) (need_of kind.Inode v.world c.root (tree_under c v) (ask.Append path [])) root_dir [] path x.way file_there
      (sym (big_is []) ∙ fits (data_room len) (div_ceil (size + 0) len) file.inode.count b.room (ap (λ n. div_ceil n len) plus_none ∙ sym b.each))
      ∙ none_wanted (free_count v.world) (length v.world.pairs) now.valid.raw.sized.room
    where
      plus_none : size + 0 ≡ size
      plus_none = omega arith

      fits : (room n m : ℕ) → m ≤ room → n ≡ m → nat_lt room n ≡ false
      fits room n m h e = let le : n ≤ room = omega (arith, h, e) in grind (arith, nat_tests)

      none_wanted : (free held : ℕ) → held ≤ v.world.geometry.slots → ◌≡◌ {A = Option FsRefusal} (first_of (no_room v.world.geometry free held (need 0 0))) None
      none_wanted free held h =
          let enough : nat_lt free 0 ≡ false = grind (arith, nat_tests) in
          let roomy : nat_lt v.world.geometry.slots (held + 0) ≡ false = grind (arith, nat_tests) in
          ap (λ t. first_of (when t (no.Full free 0) ∷ when (nat_lt v.world.geometry.slots (held + 0)) (no.PointersFull held v.world.geometry.slots) ∷ [])) enough
          ∙ ap (λ t. first_of (when t (no.PointersFull held v.world.geometry.slots) ∷ [])) roomy

  -- ---- what the new file is made of

  few : size / len ≤ length blocks
  few = let count = file_count file.inode no_dir in let among = full_among len size some in omega (arith, count, among)

  within : len * (size / len) ≤ size
  within = let parts = div-add-mod size len in omega (arith, parts)

  abbrev f : ℕ → List ℕ
  f = bytes_at v.world

  row : all ≡ flat_map f blocks
  row = said_is_row c v x.found.more file x.found.stands no_dir now

  block_full : (b : ℕ) → has_number blocks b ≡ true → length (f b) ≡ len
  block_full b h = named_full c v x.found.more file x.found.stands no_dir now b h ∙ sym same_len

  enough_in_row : size ≤ length (flat_map f blocks)
  enough_in_row = subst (λ xs. size ≤ length xs) row enough

  module _ (front y : List ℕ) (content : Content) (g : IsGrownFile file.inode front y content) (front_is : front ≡ part (bytes_said v.world (inode_of file.inode)) (block_len_of file.inode * (amount_said (inode_of file.inode) / block_len_of file.inode)) (amount_said (inode_of file.inode))) where
    front_length : length content.front.now ≡ size % len
    front_length =
        let parts = div-add-mod size len in
        let behind = behind_length f len blocks block_full full size few within enough_in_row in
        ap length g.before ∙ (ap length front_is ∙ ap (λ xs. length (part xs (len * full) size)) row) ∙ omega (arith, behind, parts)

    new_length : length (new_bytes content) ≡ size % len + length y
    new_length =
        let both = length-append content.front.now content.bytes.now in
        let here = front_length in
        let bytes = ap length g.added in
        omega (arith, both, here, bytes)

    pub new_is : new_count content ≡ div_ceil (amount_said (inode_of file.inode) % block_len_of file.inode + length y) (block_len_of file.inode)
    new_is = ap (λ n. div_ceil n content.block_len) new_length ∙ ap (div_ceil (size % len + length y)) g.len

    pub all_is : all_count content ≡ amount_said (inode_of file.inode) / block_len_of file.inode + div_ceil (amount_said (inode_of file.inode) % block_len_of file.inode + length y) (block_len_of file.inode)
    all_is = ap (λ n. n + new_count content) (count_is file.inode no_dir whole front y content g) ∙ ap (λ n. full + n) new_is

    in_file : (b : ℕ) → has_number (shared_of content) b ≡ true → has_number blocks b ≡ true
    in_file b h = in_take full blocks b (ap (λ xs. has_number xs b) (sym (shared_are file.inode no_dir whole front y content g)) ∙ h)

    pub is_for : IsFor c v content
    is_for = record {
      len = g.len ∙ same_len;
      count = all_is ∙ (sym (full_blocks len size (length y) some) ∙ (ap (λ n. div_ceil n len) (sym g.size) ∙ ap (div_ceil content.size) (sym g.len)));
      size =
          let parts = div-add-mod size len in
          let new = new_length in
          let all_bytes = g.size in
          subst (λ n. content.size ≤ n * shared_count content + length (new_bytes content)) (sym g.len)
          (subst (λ n. content.size ≤ len * n + length (new_bytes content)) (sym (count_is file.inode no_dir whole front y content g)) (omega (arith, parts, new, all_bytes)));
      apart = ap are_apart (shared_are file.inode no_dir whole front y content g) ∙ apart_take full blocks once;
      may = λ b h. record {
        may = may_look c v x.found.more file x.found.stands no_dir now (record { number = x.found.stands.may.number; begun = x.found.stands.may.begun }) b (in_file b h);
        apart = now.valid.raw.apart file.block b (named_held c v x.found.more file x.found.stands no_dir now b (in_file b h));
      };
    }
      where
        once : are_apart blocks ≡ true
        once = said_in_order v.world file.block (tree.regular size blocks) (x.found.stands.says ∙ ap (λ i. Some i) (file_said (inode_of file.inode) no_dir))

    pub of_files : (b : ℕ) → has_number (shared_of content) b ≡ true → IsOfFile c.root v.world b
    of_files b h = (path, record { block = file.block; size = size; blocks = blocks }, x.found.node ∙ node_is c v x.found.more file x.found.stands no_dir now, in_file b h)

    pub made_bytes : take content.size (joined v.world (shared_of content) (new_bytes content)) ≡ bytes_in (at (tree_under c v) path) ++ y
    made_bytes =
        let behind = part all (len * full) size in
        ap (λ n. take n (joined v.world (shared_of content) (new_bytes content))) g.size
        ∙ (ap (λ bs. take (size + length y) (flat_map f bs ++ (content.front.now ++ content.bytes.now))) (shared_are file.inode no_dir whole front y content g)
        ∙ (ap (λ xs. take (size + length y) (flat_map f (take full blocks) ++ (xs ++ content.bytes.now))) (g.before ∙ front_is)
        ∙ (ap (λ xs. take (size + length y) (flat_map f (take full blocks) ++ (behind ++ xs))) g.added
        ∙ (ap (λ xs. take (size + length y) (flat_map f (take full blocks) ++ (part xs (len * full) size ++ y))) row
        ∙ (grown f len blocks block_full full size few within enough_in_row y
        ∙ (ap (λ xs. take size xs ++ y) (sym row) ∙ ap (λ xs. xs ++ y) (sym bytes_is)))))))

    -- what it needs, in the numbers of what is made
    pub need_is : 1 ≤ length y → inode_need v.world.geometry (tree_under c v) (ask.Append path y) ≡ need (1 + new_count content) (1 + all_count content)
    need_is least =
        append_need v.world.geometry (tree_under c v) path y size (subst (λ n. 0 < n) same_len some) least size_is
        ∙ (ap (λ n. need (1 + div_ceil (size % n + length y) n) (1 + (size / n + div_ceil (size % n + length y) n))) (sym same_len)
        ∙ (ap (λ n. need (1 + n) (1 + (full + div_ceil (size % len + length y) len))) (sym new_is) ∙ ap (λ n. need (1 + new_count content) (1 + n)) (sym all_is)))

    -- what refuses it
    pub room_is : 1 ≤ length y → nat_lt (data_room (block_len_of file.inode)) (div_ceil (amount_said (inode_of file.inode) + length y) (block_len_of file.inode)) ≡ false
        → refused_on (mounted_by c) v (ask.Append path y) ≡ no_room_in v.world (1 + new_count content) (1 + all_count content)
    room_is least fits = room_refuses y least fits ∙ (ap (λ n. no_room_in v.world (1 + n) (1 + (full + div_ceil (size % len + length y) len))) (sym new_is) ∙ ap (λ n. no_room_in v.world (1 + new_count content) (1 + n)) (sym all_is))

-- after the make: the file is to be entered
pub to_enter : {told : Type 0} {c : Client} {v mk : DiskView} {path : Path} {lookup : Lookup} {file : Found} {front y : List ℕ} {content : Content} {i : ℕ} → is_directory (inode_of file.inode) ≡ false → (told → IsValidNow v) → (told → Grows c v path lookup file)
    → IsGrownFile file.inode front y content → (told → front ≡ part (bytes_said v.world (inode_of file.inode)) (block_len_of file.inode * (amount_said (inode_of file.inode) / block_len_of file.inode)) (amount_said (inode_of file.inode)))
    → 1 ≤ length y → nat_lt (data_room (block_len_of file.inode)) (div_ceil (amount_said (inode_of file.inode) + length y) (block_len_of file.inode)) ≡ false
    → (told → ◌≡◌ {A = Option FsRefusal} (no_room_in v.world (1 + new_count content) (1 + all_count content)) None) → (told → KeepsRoom (need (1 + new_count content) (1 + all_count content)) v.world mk.world)
    → (told → IsMadeInode c.root v.world lookup.directory.block i (a_file (bytes_made v.world content)) mk.world) → Runs {X = ℕ} told v mk (IsAside c.root v.world) (Ok i)
    → ToEnter told c v mk (ask.Append path y) path lookup i (a_file (bytes_in (at (tree_under c v) path) ++ y))
to_enter {c = c} {v = v} {mk = mk} {path = path} {lookup = lookup} {file = file} {front = front} {y = y} {content = content} {i = i} no_dir now x g front_is least fits none keeps made runs = record {
  none = λ t. room_is c v path lookup file (x t) no_dir (now t) front y content g (front_is t) least fits ∙ none t;
  is_done = refl;
  tree = λ t. refl;
  grounds = λ t. (x t).grounds;
  made = λ t. subst (λ xs. IsMadeInode c.root v.world lookup.directory.block i (a_file xs) mk.world) (made_bytes c v path lookup file (x t) no_dir (now t) front y content g (front_is t)) (made t);
  keeps = λ t. subst (λ n. KeepsRoom n v.world mk.world) (sym (need_is c v path lookup file (x t) no_dir (now t) front y content g (front_is t) least)) (keeps t);
  runs = runs;
}
