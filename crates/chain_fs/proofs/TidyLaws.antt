-- A chain whose clusters let go of what they don't name, one after the other.
use Rattle.std.proofs.Common.{◌≡◌, ℕ, ◌+◌, ◌≤◌, true, false, ◌==◌, List, [], ◌∷◌, ◌++◌, length, refl, sym, ◌∙◌, ap, subst, arith, inl, inr, append_assoc, length-append, Option, Some, None, Result, Ok, Err}
use Rattle.chain_fs.proofs.Common.{and_from, or_cases, or_left, or_right, eq-eqb, eqb-true, flat_map, World, has_number, holds, is_pair, Cluster, Link, ChainFile, Chains, cluster_at, blocks_of, links, chain_blocks, chain_pairs, Named, HoldsWrite, held_right, number_right, DiskView, state_of, IsValidNow, Stays, IsClientReady, Client, MayWrite, IsWay, MayTrim, Trimmed, IsTrim, Trims, OnlyNamed, ready_still, runs_but_refuses, next_blocks, IsFrom, from_same, mounted_by, link_of, IsWalked, walk_starts, first_link, walk_ends, one_more, named_of, IsIn, AreChainsUnder, AreClean, MayTidy, IsFileHere, IfErr, FsRefusal, IsDiskSound, OnlyLooks, MayDelete, Geometry, Part, IsPartOfRoot, has_part, part_there, cluster_of, part_cluster, no_look, trims_by_looks, trims_refused, then_trims, delete_still}
use Rattle.fs_trees.specs.declared.refusal.FsRefusal.TheVariants as no
use Rattle.fs_laws.proofs.WayLaws.{ways_lead_on}
use Rattle.fs_client.specs.Client.{shown_at}
use Rattle.chain_fs.proofs.StandLaws.{stands_still, from_chain, file_pair, file_block, of_entry, file_from, entry_pair, part_names, part_named}

-- ---- before each call

pub tidy_still : {X : Type 0} (told : Type 0) (c : Client) (k : Chains) (old new : DiskView) (x : X) → MayTidy told c k old → Trims told c (named_of k) old new (Ok x) → MayTidy told c k new
tidy_still told c k old new x may trims = record {
  ready = ready_still (mounted_by c) old new trims.runs.stays.0 trims.runs.counts trims.runs.unspent.0 may.ready;
  valid = λ t. (trims.trimmed t).valid;
  stands = λ t. stands_still c k old new (trims.trimmed t) (may.stands t);
}

-- a block that a pair leads to from one that is held for writing
pub may_by_pair : (c : Client) (v : DiskView) (z b : ℕ) → IsClientReady (mounted_by c) v → IsValidNow v → holds v.world.pairs z b ≡ true → HoldsWrite (state_of v) c.session z → MayWrite c v b
may_by_pair c v z b ready valid pair held = record {
  number = ready.number;
  begun = ready.begun;
  live = valid.valid.raw.targets z b pair;
  attains = ways_lead_on (state_of v) c.session z b (shown_at c b) (valid.valid.raw.apart z b pair) pair held;
}

-- it is refused where that can't be
pub trims_refuse : (told : Type 0) (c : Client) (n : Named) (old new : DiskView) → (told → ⊥) → Trims {X = Unit {0}} told c n old new (Ok tt) → Trims {X = Unit {0}} told c n old new (Err no.NotThisFs)
trims_refuse told c n old new never trims = record {
  trimmed = λ t. tt;
  only = λ t. absurd (never t);
  runs = runs_but_refuses told old new (IsTrim c n old) tt no.NotThisFs (λ e. cc) trims.runs;
}

-- ---- before a turn, and a look at a cluster

module _ {told : Type 0} {c : Client} {k : Chains} {now : DiskView} (tree : MayTidy told c k now) where
  look_trims : {X : Type 0} {mid : DiskView} {r : Result X FsRefusal} → OnlyLooks told now mid r → (told → IfErr r (λ e. e ≡ no.Device)) → Trims told c (named_of k) now mid r
  look_trims {mid = mid} {r = r} looks only = trims_by_looks told c (named_of k) now mid r tree.valid (λ t. (tree.stands t).under) only looks

  -- at first nothing is deleted
  pub first_trims : (told → now.spent ≡ false → IsDiskSound now) → Trims {X = Unit {0}} told c (named_of k) now now (Ok tt)
  first_trims sound = look_trims (no_look told now tree.ready.unspent (λ t. sound t tree.ready.unspent) tree.valid) (λ t. tt)

  -- a cluster was read
  pub read_trims : {X : Type 0} {mid : DiskView} {x : X} → OnlyLooks told now mid (Ok x) → Trims told c (named_of k) now mid (Ok x)
  read_trims looks = look_trims looks (λ t. tt)

  module _ {first : DiskView} (trims : Trims {X = Unit {0}} told c (named_of k) first now (Ok tt)) where
    -- the read was refused
    pub lost_trims : {X : Type 0} {mid : DiskView} {e : FsRefusal} → OnlyLooks {X = X} told now mid (Err e) → (told → e ≡ no.Device) → Trims {X = Unit {0}} told c (named_of k) first mid (Err e)
    lost_trims {mid = mid} {e = e} looks only = then_trims told c (named_of k) first now mid tt (Err e) trims (trims_refused told c (named_of k) now mid e (look_trims looks only))

    -- what came of the deletions after it
    pub turn_trims : {X : Type 0} {mid new : DiskView} {x : X} {r : Result (Unit {0}) FsRefusal} → OnlyLooks told now mid (Ok x) → Trims told c (named_of k) mid new r → Trims told c (named_of k) first new r
    turn_trims {mid = mid} {new = new} {x = x} {r = r} looks after =
        then_trims told c (named_of k) first mid new x r (then_trims told c (named_of k) first now mid tt (Ok x) trims (read_trims looks)) after

    -- there were as many turns as the disk has blocks
    pub all_turns : {shape : Geometry} {turn : ℕ} → (told → now.spent ≡ false → IsDiskSound now) → shape ≡ first.geometry → shape.blocks ≤ turn → told → now.world.geometry.blocks ≤ turn
    all_turns {turn = turn} sound is past t = subst (λ x. x.blocks ≤ turn) (is ∙ (sym trims.runs.counts.geometry ∙ sym (sound t tree.ready.unspent).geometry)) past

-- ---- the walk goes on over deletions

links_behind : (before rest : List Link) (x y : ℕ) → holds (links (blocks_of rest)) x y ≡ true → holds (links (blocks_of (before ++ rest))) x y ≡ true
links_behind [] rest x y h = h
links_behind (l ∷ before) rest x y h = from_chain l.block (before ++ rest) x y (links_behind before rest x y h)

block_behind : (before rest : List Link) (a : ℕ) → has_number (blocks_of rest) a ≡ true → has_number (blocks_of (before ++ rest)) a ≡ true
block_behind [] rest a h = h
block_behind (l ∷ before) rest a h = or_right (l.block == a) _ (block_behind before rest a h)

pub block_here : (c : Client) (now : DiskView) (ls before : List Link) (b : ℕ) → IsWalked c now ls before b → has_number (blocks_of ls) b ≡ true
block_here c now ls before b walked = ap (λ xs. has_number (blocks_of xs) b) walked.parts ∙ block_behind before walked.rest b (first walked.rest walked.ahead.rest)
  where
    first : (ks : List Link) → IsFrom now.world (Some b) ks → has_number (blocks_of ks) b ≡ true
    first [] is = absurd (cc)
    first (k ∷ ks) is = let same : k.block ≡ b = cc in or_left (k.block == b) _ (eq-eqb k.block b same)

pub walk_over : (c : Client) (n : Named) (now new : DiskView) (ls before : List Link) (b d : ℕ) (cl : Cluster) → IsWalked c now ls before b → cluster_at now.world b ≡ Some cl → cl.next ≡ Some d
    → ((a : ℕ) → has_number (blocks_of ls) a ≡ true → has_number n.blocks a ≡ true) → ((x y : ℕ) → holds (links (blocks_of ls)) x y ≡ true → holds n.pairs x y ≡ true)
    → Trimmed c n now new → Stays now new → HoldsWrite (state_of new) c.session b → IsWalked c new ls (before ++ link_of b cl ∷ []) d
walk_over c n now new ls before b d cl walked at next blocks pairs trimmed stays held =
    let first = first_link now.world b walked.rest cl walked.ahead.rest at in
    by_second first.0 first.1 (subst (λ o. IsFrom now.world o first.0) next first.2)
  where
    by_second : (ks : List Link) → walked.rest ≡ link_of b cl ∷ ks → IsFrom now.world (Some d) ks → IsWalked c new ls (before ++ link_of b cl ∷ []) d
    by_second [] all is = absurd (cc)
    by_second (k ∷ ks) all is =
        let here : d ≡ k.block = cc in
        let parts : ls ≡ before ++ (link_of b cl ∷ k ∷ ks) = walked.parts ∙ ap (λ xs. before ++ xs) all in
        let linked : (x y : ℕ) → holds (links (blocks_of (link_of b cl ∷ k ∷ ks))) x y ≡ true → holds n.pairs x y ≡ true =
        λ x y h. pairs x y (ap (λ xs. holds (links (blocks_of xs)) x y) parts ∙ links_behind before (link_of b cl ∷ k ∷ ks) x y h) in
        let inner : (a : ℕ) → has_number (blocks_of (k ∷ ks)) a ≡ true → has_number n.blocks a ≡ true =
        λ a m. blocks a (ap (λ xs. has_number (blocks_of xs) a) parts ∙ block_behind before (link_of b cl ∷ k ∷ ks) a (or_right (b == a) _ m)) in
        let pair = trimmed.keeps.pairs b d (linked b d (or_left (is_pair b d (b, k.block)) _ (and_from (b == b) (k.block == d) (eq-eqb b b refl) (eq-eqb k.block d (sym here))))) in
        record {
          rest = k ∷ ks;
          parts = parts ∙ sym (append_assoc before (link_of b cl ∷ []) (k ∷ ks));
          ahead = record {
            rest = from_same now.world new.world (Some d) (k ∷ ks) (λ a m. trimmed.keeps.bytes a (inner a m)) is;
            held = λ x y h. trimmed.keeps.pairs x y (linked x y (or_right (is_pair x y (b, k.block)) _ h));
            may = record {
              number = walked.ahead.may.number;
              begun = stays.sessions c.session ∙ walked.ahead.may.begun;
              live = trimmed.valid.valid.raw.targets b d pair;
              attains = ways_lead_on (state_of new) c.session b d (shown_at c d) (trimmed.valid.valid.raw.apart b d pair) pair held;
            };
          };
        }

-- ---- clean blocks

pub clean_still : (n : Named) (w next : World) (bs : List ℕ) → ((x y : ℕ) → holds next.pairs x y ≡ true → holds w.pairs x y ≡ true) → AreClean n w bs → AreClean n next bs
clean_still n w next bs fewer clean a m b h = clean a m b (fewer a b h)

pub clean_none : (n : Named) (w : World) → AreClean n w []
clean_none n w a m b h = absurd (cc)

pub clean_more : (n : Named) (w : World) (before : List Link) (b : ℕ) (cl : Cluster) → AreClean n w (blocks_of before) → AreClean n w (b ∷ []) → AreClean n w (blocks_of (before ++ link_of b cl ∷ []))
clean_more n w [] b cl before here a m = here a m
clean_more n w (l ∷ ls) b cl before here a m = elim (or_cases (l.block == a) (has_number (blocks_of (ls ++ link_of b cl ∷ [])) a) m) [
  | inl one ↦ before a (or_left (l.block == a) _ one)
  | inr other ↦ clean_more n w ls b cl (λ x k. before x (or_right (l.block == x) _ k)) here a other
]

pub one_clean : (n : Named) (w : World) (a : ℕ) → ((b : ℕ) → holds w.pairs a b ≡ true → holds n.pairs a b ≡ true) → AreClean n w (a ∷ [])
one_clean n w a h x m b pair = elim (or_cases (a == x) false m) [
  | inl here ↦ let same = eqb-true a x here in ap (λ y. holds n.pairs y b) (sym same) ∙ h b (ap (λ y. holds w.pairs y b) same ∙ pair)
  | inr never ↦ absurd (cc)
]

-- the next block is the only one
pub next_only : (o : Option ℕ) (b : ℕ) → has_number (next_blocks o) b ≡ true → o ≡ Some b
next_only None b h = absurd (cc)
next_only (Some d) b h = elim (or_cases (d == b) false h) [ inl here ↦ ap (λ x. Some x) (eqb-true d b here) | inr never ↦ absurd (cc) ]

pub only_next : (o : Option ℕ) (b : ℕ) → o ≡ Some b → has_number (next_blocks o) b ≡ true
only_next None b e = absurd (cc)
only_next (Some d) b e = let same : d ≡ b = cc in or_left (d == b) _ (eq-eqb d b same)

-- ---- a file's clusters

-- of a file these clusters were tidied, and this one is next
pub record FileLeft (c : Client) (k : Chains) (now : DiskView) (f : ChainFile) (b turn : ℕ) : Type 0 where
  pub one : IsIn f k.files
  pub before : List Link
  pub walked : IsWalked c now f.chain before b
  pub count : length before ≡ turn
  pub way : IsWay c (named_of k) now b
  pub clean : AreClean (named_of k) now.world (blocks_of before)

pub record FileGoing (told : Type 0) (c : Client) (k : Chains) (first now : DiskView) (start b turn : ℕ) : Type 0 where
  pub tree : MayTidy told c k now
  pub trims : Trims {X = Unit {0}} told c (named_of k) first now (Ok tt)
  pub left : told → (f : ChainFile) → IsFileHere c k first start f → FileLeft c k now f b turn

-- what a file names is named
module _ (k : Chains) (f : ChainFile) (one : IsIn f k.files) where
  pub file_blocks : (a : ℕ) → has_number (blocks_of f.chain) a ≡ true → has_number (chain_blocks k) a ≡ true
  file_blocks a m = number_right (blocks_of k.directory) (flat_map (λ g. blocks_of g.chain) k.files) a (file_block k.files f a one m)

  pub file_links : (x y : ℕ) → holds (links (blocks_of f.chain)) x y ≡ true → holds (chain_pairs k) x y ≡ true
  file_links x y h = held_right (links (blocks_of k.directory)) (flat_map (λ g. links (g.from ∷ blocks_of g.chain)) k.files) x y (file_pair k.files f x y one (from_chain f.from f.chain x y h))

pub file_starts : (c : Client) (k : Chains) (v : DiskView) (b : ℕ) (f : ChainFile) → IsClientReady (mounted_by c) v → IsValidNow v → AreChainsUnder c k v → IsFileHere c k v b f → FileLeft c k v f b 0
file_starts c k v b f ready valid s here = record {
  one = here.one;
  before = [];
  walked = walk_starts c v b f.chain (record {
    rest = file_from c k v s f b here.one here.begins;
    held = λ x y h. s.under.held x y (file_links k f here.one x y h);
    may = may_by_pair c v f.from b ready valid (s.under.held f.from b (entry_pair c k v s f b here.one here.begins)) here.held;
  });
  count = refl;
  way = inr (f.from, entry_pair c k v s f b here.one here.begins, here.held);
  clean = clean_none (named_of k) v.world;
}

module _ (c : Client) (k : Chains) (now : DiskView) (s : AreChainsUnder c k now) (f : ChainFile) (b turn : ℕ) (left : FileLeft c k now f b turn) (cl : Cluster) (at : cluster_at now.world b ≡ Some cl) where
  here : has_number (blocks_of f.chain) b ≡ true
  here = block_here c now f.chain left.before b left.walked

  -- all pairs out of the cluster but that to the next one may go
  pub part_trim : MayTrim c (named_of k) now b (next_blocks cl.next)
  part_trim = record {
    under = s.under;
    named = file_blocks k f left.one b here;
    all = λ d h. only_next cl.next d (part_names c k now s f b d cl left.one here at h);
    way = left.way;
    may = left.walked.ahead.may;
  }

  module _ (new : DiskView) (trimmed : Trimmed c (named_of k) now new) (only : OnlyNamed new.world b (next_blocks cl.next)) where
    clean_here : AreClean (named_of k) new.world (blocks_of (left.before ++ link_of b cl ∷ []))
    clean_here = clean_more (named_of k) new.world left.before b cl
        (clean_still (named_of k) now.world new.world (blocks_of left.before) trimmed.fewer left.clean)
        (one_clean (named_of k) new.world b (λ d h. part_named c k now s f b d cl left.one here at (next_only cl.next d (only d h))))

    pub file_on : (d : ℕ) → cl.next ≡ Some d → Stays now new → HoldsWrite (state_of new) c.session b → FileLeft c k new f d (turn + 1)
    file_on d next stays held = record {
      one = left.one;
      before = left.before ++ link_of b cl ∷ [];
      walked = walk_over c (named_of k) now new f.chain left.before b d cl left.walked at next (file_blocks k f left.one) (file_links k f left.one) trimmed stays held;
      count = let sum = length-append left.before (link_of b cl ∷ []) in omega (arith, sum, left.count);
      way = inr (b, part_named c k now s f b d cl left.one here at next, held);
      clean = clean_here;
    }

    pub file_ends : cl.next ≡ None → AreClean (named_of k) new.world (blocks_of f.chain)
    file_ends next = subst (λ ls. AreClean (named_of k) new.world (blocks_of ls)) (sym (walk_ends c now f.chain left.before b cl left.walked at next)) clean_here

-- no chain has more clusters than the disk has blocks
pub file_short : (c : Client) (k : Chains) (now : DiskView) (f : ChainFile) (b turn : ℕ) → AreChainsUnder c k now → FileLeft c k now f b turn → now.world.geometry.blocks ≤ turn → ⊥
file_short c k now f b turn s left past =
    let more = one_more c now f.chain left.before b left.walked in
    let short = (of_entry c k now s f left.one).2.chain.short in
    omega (arith, more, short, left.count, past)

-- ---- a file's turn

abbrev pub part_said : Part → Cluster
part_said part = cluster_of (part_cluster part.cluster)

pub first_part : {told : Type 0} {c : Client} {k : Chains} {v : DiskView} {b : ℕ} → MayTidy told c k v → (told → v.spent ≡ false → IsDiskSound v) → FileGoing told c k v v b b 0
first_part {c = c} {k = k} {v = v} {b = b} tree sound = record {
  tree = tree;
  trims = first_trims tree sound;
  left = λ t f here. file_starts c k v b f tree.ready (tree.valid t) (tree.stands t) here;
}

module _ {told : Type 0} {c : Client} {k : Chains} {first now : DiskView} {start b turn : ℕ} (going : FileGoing told c k first now start b turn) where
  module _ (file : told → (f : ChainFile) × IsFileHere c k first start f) where
    file_left : (t : told) → FileLeft c k now (file t).0 b turn
    file_left t = going.left t (file t).0 (file t).1

    pub part_may : told → MayWrite c now b
    part_may t = (file_left t).walked.ahead.may

    pub part_is : told → has_part now.world b ≡ true
    part_is t =
        let left = file_left t in
        part_there c now (file t).0.chain left.before b left.walked (of_entry c k now (going.tree.stands t) (file t).0 left.one).2.filled

    pub parts_over : {shape : Geometry} → (told → now.spent ≡ false → IsDiskSound now) → shape ≡ first.geometry → shape.blocks ≤ turn → Trims {X = Unit {0}} told c (named_of k) first now (Err no.NotThisFs)
    parts_over sound is past = trims_refuse told c (named_of k) first now
        (λ t. file_short c k now (file t).0 b turn (going.tree.stands t) (file_left t) (all_turns going.tree going.trims sound is past t)) going.trims

  module _ {mid : DiskView} {part : Part} (looks : OnlyLooks told now mid (Ok part)) (is : told → IsPartOfRoot now.world b part) where
    part_lets : (t : told) (f : ChainFile) → FileLeft c k now f b turn → MayTrim c (named_of k) now b (next_blocks (part_said part).next)
    part_lets t f left = part_trim c k now (going.tree.stands t) f b turn left (part_said part) (is t).read.says

    pub part_deletes : (told → (f : ChainFile) × IsFileHere c k first start f) → MayDelete told c (named_of k) mid b (next_blocks (part_said part).next)
    part_deletes file = delete_still told c (named_of k) now mid b (next_blocks (part_said part).next) part
        (record { unspent = going.tree.ready.unspent; valid = going.tree.valid; trim = λ t. part_lets t (file t).0 (file_left file t) }) (read_trims going.tree looks)

    module _ {new : DiskView} (after : Trims {X = Unit {0}} told c (named_of k) mid new (Ok tt)) (only : told → OnlyNamed new.world b (next_blocks (part_said part).next)) where
      part_trims : Trims {X = Unit {0}} told c (named_of k) now new (Ok tt)
      part_trims = then_trims told c (named_of k) now mid new part (Ok tt) (read_trims going.tree looks) after

      pub part_last : (part_said part).next ≡ None → told → (f : ChainFile) → IsFileHere c k first start f → AreClean (named_of k) new.world (blocks_of f.chain)
      part_last next t f here =
          file_ends c k now (going.tree.stands t) f b turn (going.left t f here) (part_said part) (is t).read.says new (part_trims.trimmed t) (only t) next

      pub part_next : {d : ℕ} → (part_said part).next ≡ Some d → (told → HoldsWrite (state_of mid) c.session b) → FileGoing told c k first new start d (turn + 1)
      part_next {d} next held = record {
        tree = tidy_still told c k now new tt going.tree part_trims;
        trims = turn_trims going.tree going.trims looks after;
        left = λ t f here.
            let left = going.left t f here in
            let live = (after.trimmed t).keeps.live b (part_lets t f left).named in
            file_on c k now (going.tree.stands t) f b turn left (part_said part) (is t).read.says new (part_trims.trimmed t) (only t) d next part_trims.runs.stays.0
            ((after.trimmed t).ways c.session b (held t) live);
      }
