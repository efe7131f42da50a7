-- A file that was read: its blocks and their bytes.
use Rattle.std.proofs.Common.{◌≡◌, ℕ, zero, suc, ◌+◌, ◌-◌, ◌*◌, ◌/◌, ◌%◌, ◌<◌, ◌≤◌, true, false, ◌==◌, List, [], ◌∷◌, length, refl, sym, ◌∙◌, ap, subst, arith, inl, inr, Option, Some, None, Ok}
use Rattle.inode_walks.proofs.Common.{eq-eqb, and_from, or_cases, or_left, or_right, div-add-mod, div-lt_iff_lt-mul, mul_comm, map, is_some, drop, unwrap_or, flat_map, slice_index, IfSome, block_len, contents, has_number, holds, is_pair, Path, a_file, at, is_there, numbers, FileInode, inode_at, node_at, inodes_under, file_bytes, inode_tree, ways_lead_on, tree-at, DiskView, state_of, IsValidNow, Stays, Client, shown_at, MayWrite, Looked, OnlyLooks, may_again, said, inode_of, block_len_of, body_of, blocks_said, is_directory, amount_said, Found, tree_under, StandsAsRead, IsStanding, IsOpenNow, StandsAtPath, node_pairs, part, bytes_at, bytes_said}
use Rattle.std.proofs.lemmas.Grind.{div_ceil_times}
use Rattle.std.specs.Prelude.{take}
use Rattle.std.specs.Int.{div_ceil}
use Rattle.fs_trees.specs.Inode as tree
use Rattle.fs_trees.specs.InodeTree as inodes
use Rattle.inode_layout.specs.declared.inode.Inode.{Inode}
use Rattle.inode_layout.specs.declared.kind.InodeKind.{InodeKind}
use Rattle.inode_layout.specs.declared.kind.InodeKind.TheVariants.{Directory, Regular}
use Rattle.inode_layout.specs.Kinds.{items_for}
use Rattle.inode_walks.proofs.WalkLaws.{file_node}
use Rattle.inode_walks.proofs.ReadLaws.{block_long}
use Rattle.inode_walks.proofs.PartLaws.{one_of_row, row_length, part_of_part}

-- what is no directory is a file
pub file_said : (i : tree.Inode) → is_directory i ≡ false → i ≡ tree.regular (amount_said i) (blocks_said i)
file_said (tree.directory es) h = absurd (cc)
file_said (tree.regular size blocks) h = refl

numbers_length : (n : ℕ) (x : List ℕ) → length (numbers n x) ≡ n
numbers_length zero x = refl
numbers_length (suc n) x = ap suc (numbers_length n (drop 4 x))

-- it names as many blocks as its size takes
pub file_count : (i : Inode) → is_directory (inode_of i) ≡ false → length (blocks_said (inode_of i)) ≡ div_ceil (amount_said (inode_of i)) (block_len_of i)
file_count i h = by_kind i.kind i.amount i.count (body_of i) (block_len_of i) i.counts h
  where
    by_kind : (k : InodeKind) (a count : ℕ) (body : List ℕ) (len : ℕ) → count ≡ items_for k a len → is_directory (said k a count body) ≡ false → length (blocks_said (said k a count body)) ≡ div_ceil (amount_said (said k a count body)) len
    by_kind Directory a count body len e h = absurd (cc)
    by_kind Regular a count body len e h = numbers_length count body ∙ e

-- a place in it is in one of its blocks
pub place_named : (i : Inode) (lookup : ℕ) → is_directory (inode_of i) ≡ false → 16 ≤ block_len_of i → lookup < amount_said (inode_of i) → lookup / block_len_of i < length (blocks_said (inode_of i))
place_named i lookup h whole below =
    let len = block_len_of i in
    let size = amount_said (inode_of i) in
    let some : 0 < len = omega arith in
    let most = (div_ceil_times size len some).0 in
    let in_row : lookup < div_ceil size len * len = omega arith in
    subst (λ n. lookup / len < n) (sym (file_count i h)) ((div-lt_iff_lt-mul some).1 in_row)

fan_held : (d : ℕ) (cs : List ℕ) (b : ℕ) → has_number cs b ≡ true → holds (map (λ c. (d, c)) cs) d b ≡ true
fan_held d [] b h = absurd (cc)
fan_held d (c ∷ cs) b h = elim (or_cases (c == b) (has_number cs b) h) [
  | inl here ↦ or_left (is_pair d b (d, c)) _ (and_from (d == d) (c == b) (eq-eqb d d refl) here)
  | inr later ↦ or_right (is_pair d b (d, c)) _ (fan_held d cs b later)
]

pub number_at_place : (bs : List ℕ) (i : ℕ) → i < length bs → has_number bs (slice_index bs i) ≡ true
number_at_place [] i h = absurd (omega arith)
number_at_place (b ∷ bs) zero h = or_left (b == b) _ (eq-eqb b b refl)
number_at_place (b ∷ bs) (suc i) h = or_right (b == slice_index bs i) _ (number_at_place bs i (omega arith))

module _ (c : Client) (v : DiskView) (more : ℕ) (file : Found) (stands : StandsAsRead c v more file) (is_file : is_directory (inode_of file.inode) ≡ false) (now : IsValidNow v) where
  abbrev blocks : List ℕ
  blocks = blocks_said (inode_of file.inode)

  abbrev size : ℕ
  size = amount_said (inode_of file.inode)

  pub node_is : node_at v.world (suc more) file.block ≡ a_file (record { block = file.block; size = size; blocks = blocks })
  node_is = file_node v.world more file.block stands.there size blocks (stands.says ∙ ap (λ i. Some i) (file_said (inode_of file.inode) is_file))

  pub named_held : (b : ℕ) → has_number blocks b ≡ true → holds v.world.pairs file.block b ≡ true
  named_held b h = stands.pairs file.block b (ap (λ x. holds (node_pairs x) file.block b) node_is ∙ fan_held file.block blocks b h)

  pub named_full : (b : ℕ) → has_number blocks b ≡ true → length (bytes_at v.world b) ≡ block_len v.world.geometry
  named_full b h = full (contents v.world b) (now.valid.raw.targets file.block b (named_held b h)) (now.valid.raw.sized.full b)
    where
      full : (o : Option (List ℕ)) → is_some o ≡ true → IfSome o (λ x. length x ≡ block_len v.world.geometry) → length (unwrap_or o []) ≡ block_len v.world.geometry
      full None l k = absurd (cc)
      full (Some x) l k = k

  pub may_look : IsOpenNow c v → (b : ℕ) → has_number blocks b ≡ true → MayWrite c v b
  may_look opened b h = record {
    number = opened.number;
    begun = opened.begun;
    live = now.valid.raw.targets file.block b (named_held b h);
    attains = ways_lead_on (state_of v) c.session file.block b (shown_at c b) (now.valid.raw.apart file.block b (named_held b h)) (named_held b h) stands.held;
  }

  pub said_is_row : bytes_said v.world (inode_of file.inode) ≡ flat_map (bytes_at v.world) blocks
  said_is_row = ap (bytes_said v.world) (file_said (inode_of file.inode) is_file)

  pub block_in_row : (i : ℕ) → i < length blocks → bytes_at v.world (slice_index blocks i) ≡ take (block_len_of file.inode) (drop (block_len_of file.inode * i) (bytes_said v.world (inode_of file.inode)))
  block_in_row i h =
      one_of_row (bytes_at v.world) (block_len_of file.inode) blocks (λ b m. named_full b m ∙ sym stands.whole) i h
      ∙ ap (λ xs. take (block_len_of file.inode) (drop (block_len_of file.inode * i) xs)) (sym said_is_row)

  -- its blocks have as many bytes as its size says, or more
  pub row_is_long : 16 ≤ block_len_of file.inode → size ≤ length (bytes_said v.world (inode_of file.inode))
  row_is_long whole =
      let len = block_len_of file.inode in
      let some : 0 < len = omega arith in
      let most = (div_ceil_times size len some).0 in
      let long : length (bytes_said v.world (inode_of file.inode)) ≡ len * length blocks = ap length said_is_row ∙ row_length (bytes_at v.world) len blocks (λ b m. named_full b m ∙ sym stands.whole) in
      let count : len * length blocks ≡ div_ceil size len * len = ap (λ n. len * n) (file_count file.inode is_file) ∙ mul_comm len (div_ceil size len) in
      omega (arith, most, long, count)

  -- the file's bytes
  pub file_is : inodes.tree_of v.world (node_at v.world (suc more) file.block) ≡ a_file (take size (bytes_said v.world (inode_of file.inode)))
  file_is = ap (inodes.tree_of v.world) node_is ∙ ap (λ xs. a_file (take size xs)) (sym said_is_row)

-- what a path leads to
pub tree_there : (c : Client) (v : DiskView) (p : Path) (found : Found) → (i : StandsAtPath c v p found) → at (tree_under c v) p ≡ inodes.tree_of v.world (node_at v.world (suc i.more) found.block)
tree_there c v p found i = sym (tree-at v.world p (inodes_under v.world c.root)) ∙ ap (inodes.tree_of v.world) i.node

-- a block that was read has room for a head
pub found_long : (c : Client) (v : DiskView) (more : ℕ) (found : Found) → StandsAsRead c v more found → IsValidNow v → 16 ≤ block_len_of found.inode
found_long c v more found stands now = let room = block_long v.world now.valid in let is = stands.whole in omega (arith, room, is)

-- what stands there still does after a look
pub stands_still : (c : Client) (old new : DiskView) (more : ℕ) (found : Found) → Looked old new → Stays old new → IsValidNow old → StandsAsRead c old more found → StandsAsRead c new more found
stands_still c old new more found seen stays now stands = record {
  there = ap (λ w. is_there (node_at w (suc more) found.block)) seen.world ∙ stands.there;
  says = ap (λ w. inode_at w found.block) seen.world ∙ stands.says;
  pairs = λ a b h. ap (λ w. holds w.pairs a b) seen.world ∙ stands.pairs a b (ap (λ w. holds (node_pairs (node_at w (suc more) found.block)) a b) (sym seen.world) ∙ h);
  held = seen.ways c.session found.block stands.held;
  may = may_again c old new found.block seen stays now stands.may;
  whole = stands.whole ∙ ap (λ w. block_len w.geometry) (sym seen.world);
}

-- the bytes of a file from one place on, as far as they have come
pub record Reading (told : Type 0) (c : Client) (first now : DiskView) (file : Found) (start at end : ℕ) (into : List ℕ) : Type 0 where
  pub looks : OnlyLooks {X = Unit {0}} told first now (Ok tt)
  pub stands : told → IsStanding c now file
  pub low : start ≤ at
  pub high : at ≤ end
  pub came : told → into ≡ part (bytes_said first.world (inode_of file.inode)) start at

-- what stands in the block of a place, from there on
pub block_part : (c : Client) (v : DiskView) (more : ℕ) (file : Found) → StandsAsRead c v more file → is_directory (inode_of file.inode) ≡ false → IsValidNow v → (len lookup last : ℕ) (bytes : List ℕ) → len ≡ block_len_of file.inode
    → lookup / len < length (blocks_said (inode_of file.inode)) → contents v.world (slice_index (blocks_said (inode_of file.inode)) (lookup / len)) ≡ Some bytes
    → lookup % len ≤ last → last ≤ len
    → part bytes (lookup % len) last ≡ part (bytes_said v.world (inode_of file.inode)) lookup (lookup + (last - lookup % len))
block_part c v more file stands is_file now len lookup last bytes e below is first room =
    let i = lookup / len in
    let all = bytes_said v.world (inode_of file.inode) in
    let here : bytes ≡ take len (drop (len * i) all) = ap (λ o. unwrap_or o []) (sym is) ∙ (block_in_row c v more file stands is_file now i below ∙ ap (λ n. take n (drop (n * i) all)) (sym e)) in
    let whole : len * i + lookup % len ≡ lookup = div-add-mod lookup len in
    let end : len * i + last ≡ lookup + (last - lookup % len) = omega (arith, whole, first) in
    ap (λ x. part x (lookup % len) last) here
    ∙ (part_of_part all (len * i) len (lookup % len) last first room
    ∙ (ap (λ n. part all n (len * i + last)) whole ∙ ap (part all lookup) end))

pub place_named_by : (i : Inode) (len lookup end : ℕ) → is_directory (inode_of i) ≡ false → len ≡ block_len_of i → 16 ≤ len → lookup < end → end ≤ amount_said (inode_of i) → lookup / len < length (blocks_said (inode_of i))
place_named_by i len lookup end h e whole order there =
    subst (λ n. lookup / n < length (blocks_said (inode_of i))) (sym e) (place_named i lookup h (omega (arith, e, whole)) (omega (arith, order, there)))
