-- A cluster of the directory, and the files of its entries.
use Rattle.std.proofs.Common.{◌≡◌, ◌⊎◌, ℕ, zero, suc, ◌+◌, ◌<◌, ◌≤◌, true, false, ◌==◌, List, [], ◌∷◌, ◌++◌, length, refl, sym, ◌∙◌, ap, subst, arith, inl, inr, length-append, Some, None, Ok, Err}
use Rattle.chain_fs.proofs.Common.{or_cases, or_left, or_right, eq-eqb, eqb-true, cases_lt, flat_map, slice_index, is_some, option_and_then, block_len, World, has_number, holds, Entry, Cluster, cluster_in, entries_of, Link, ChainFile, Chains, cluster_at, blocks_of, links, chain_blocks, chain_pairs, HoldsWrite, held_left, number_left, number_right, number_append, DiskView, state_of, Stays, Client, MayWrite, IsWay, MayTrim, Trimmed, Trims, OnlyNamed, IsClean, way_still, may_by_way, next_blocks, entry_blocks, cluster_of, blocks_in, entries_in, page_cluster, entries_at, IsPage, link_of, IsWalked, walk_starts, walk_ends, one_more, named_of, IsIn, BeginsAt, AreChainsUnder, AreClean, FilesAreClean, MayTidy, IsFileHere, IsPageHere, MayTidyPage, IsDiskSound, OnlyLooks, Geometry, then_trims, root_may}
use Rattle.chain_reading.specs.declared.walking.Page.{Page}
use Rattle.fs_trees.specs.declared.ask.ShellKind.TheVariants as kind
use Rattle.fs_trees.specs.declared.refusal.FsRefusal.TheVariants as no
use Rattle.chain_fs.proofs.StandLaws.{one_of_files, from_directory, entry_pair, page_names, next_named, entries_here, file_of_entry, entry_of_file}
use Rattle.chain_fs.proofs.TidyLaws.{tidy_still, trims_refuse, first_trims, read_trims, turn_trims, all_turns, block_here, walk_over, clean_still, clean_none, clean_more, one_clean, next_only, only_next}

-- ---- entries by their places

abbrev pub entry_block : Page → ℕ → ℕ
entry_block page i = slice_index (entry_blocks (entries_in page.cluster)) i

pub entry_at : (es : List Entry) (i : ℕ) → i < length es → (e : Entry) × IsIn e es × (slice_index (entry_blocks es) i ≡ e.block)
entry_at [] i h = absurd (omega arith)
entry_at (e ∷ es) zero h = (e, inl refl, refl)
entry_at (e ∷ es) (suc i) h = let rest = entry_at es i (omega arith) in (rest.0, inr rest.1, rest.2)

place_of_entry : (es : List Entry) (e : Entry) → IsIn e es → (i : ℕ) × (i < length es) × (slice_index (entry_blocks es) i ≡ e.block)
place_of_entry [] e h = absurd h
place_of_entry (d ∷ es) e (inl same) = (0, omega arith, ap (λ x. x.block) same)
place_of_entry (d ∷ es) e (inr h) = let rest = place_of_entry es e h in (suc rest.0, let low = rest.1 in omega (arith, low), rest.2)

entry_number : (es : List Entry) (e : Entry) → IsIn e es → has_number (entry_blocks es) e.block ≡ true
entry_number [] e h = absurd h
entry_number (d ∷ es) e (inl same) = or_left (d.block == e.block) _ (eq-eqb d.block e.block (ap (λ x. x.block) same))
entry_number (d ∷ es) e (inr h) = or_right (d.block == e.block) _ (entry_number es e h)

number_entry : (es : List Entry) (b : ℕ) → has_number (entry_blocks es) b ≡ true → (e : Entry) × IsIn e es × (e.block ≡ b)
number_entry [] b h = absurd (cc)
number_entry (e ∷ es) b h = elim (or_cases (e.block == b) (has_number (entry_blocks es) b) h) [
  | inl here ↦ (e, inl refl, eqb-true e.block b here)
  | inr later ↦ let rest = number_entry es b later in (rest.0, inr rest.1, rest.2)
]

-- ---- what a page names

module _ (c : Client) (k : Chains) (v : DiskView) (s : AreChainsUnder c k v) (page : Page) (here : IsPageHere c k v page) where
  abbrev cl : Cluster
  cl = cluster_of (page_cluster page.cluster)

  -- all other pairs out of the cluster may go
  pub page_trim : MayTrim c (named_of k) v page.block (blocks_in page.cluster)
  page_trim = record {
    under = s.under;
    named = number_left (blocks_of k.directory) (flat_map (λ f. blocks_of f.chain) k.files) page.block here.one;
    all = λ b h. elim (page_names c k v s page.block b cl (entries_in page.cluster) here.read.read.says here.read.entries h) [
      | inl next ↦ number_left (next_blocks cl.next) (entry_blocks (entries_in page.cluster)) b (only_next cl.next b next)
      | inr entered ↦ number_right (next_blocks cl.next) (entry_blocks (entries_in page.cluster)) b (ap (has_number (entry_blocks (entries_in page.cluster))) (sym entered.2) ∙ entry_number (entries_in page.cluster) entered.0 entered.1)
    ];
    way = here.way;
    may = here.may;
  }

  -- and what it names is named
  pub page_named : (b : ℕ) → has_number (blocks_in page.cluster) b ≡ true → holds (chain_pairs k) page.block b ≡ true
  page_named b h = elim (number_append (next_blocks cl.next) (entry_blocks (entries_in page.cluster)) b h) [
    | inl next ↦ next_named c k v s page.block b cl here.one here.read.read.says (next_only cl.next b next)
    | inr entered ↦
        let e = number_entry (entries_in page.cluster) b entered in
        let f = file_of_entry c k v s page.block (entries_in page.cluster) e.0 here.one here.read.entries e.1 in
        ap (λ x. holds (chain_pairs k) x b) (sym f.3) ∙ entry_pair c k v s f.0 b f.1 (subst (λ x. BeginsAt x f.0.chain) e.2 f.2)
  ]

  pub own_clean : (w : World) → OnlyNamed w page.block (blocks_in page.cluster) → AreClean (named_of k) w (page.block ∷ [])
  own_clean w only = one_clean (named_of k) w page.block (λ b h. page_named b (only b h))

  -- the file of the entry at a position
  pub file_here : (i : ℕ) → i < length (entries_in page.cluster) → (f : ChainFile) × IsFileHere c k v (entry_block page i) f
  file_here i h =
      let e = entry_at (entries_in page.cluster) i h in
      let f = file_of_entry c k v s page.block (entries_in page.cluster) e.0 here.one here.read.entries e.1 in
      (f.0, record { one = f.1; begins = subst (λ x. BeginsAt x f.0.chain) (sym e.2) f.2; held = subst (HoldsWrite (state_of v) c.session) (sym f.3) here.held })

  -- and the place of a file's entry
  pub place_here : (f : ChainFile) → IsIn f k.files → f.from ≡ page.block → (i : ℕ) × (i < length (entries_in page.cluster)) × BeginsAt (entry_block page i) f.chain
  place_here f one from =
      let e = entry_of_file c k v s page.block (entries_in page.cluster) f here.read.entries one from in
      let i = place_of_entry (entries_in page.cluster) e.0 e.1 in
      (i.0, i.1, subst (λ x. BeginsAt x f.chain) (sym i.2) e.2)

-- ---- it stays what it is

module _ (c : Client) (k : Chains) (old new : DiskView) (s : AreChainsUnder c k old) (trimmed : Trimmed c (named_of k) old new) (stays : Stays old new) where
  pub is_page_still : (page : Page) (b : ℕ) → has_number (blocks_of k.directory) b ≡ true → IsPage old.world b page → IsPage new.world b page
  is_page_still page b m is =
      let bytes = trimmed.keeps.bytes b (number_left (blocks_of k.directory) (flat_map (λ f. blocks_of f.chain) k.files) b m) in
      let at : cluster_at new.world b ≡ cluster_at old.world b = ap (option_and_then cluster_in) bytes in
      record {
        block = is.block;
        read = record {
          says = at ∙ is.read.says;
          whole = is.read.whole ∙ ap block_len (sym trimmed.keeps.geometry);
        };
        entries = ap (λ g. option_and_then (entries_of (block_len g)) (cluster_at new.world b)) trimmed.keeps.geometry ∙ (ap (option_and_then (entries_of (block_len old.world.geometry))) at ∙ is.entries);
      }

  pub page_here_still : (page : Page) → IsPageHere c k old page → IsPageHere c k new page
  page_here_still page here =
      let way = way_still c (named_of k) old new trimmed stays page.block s.under here.way in
      record {
        read = is_page_still page page.block here.one here.read;
        one = here.one;
        way = way;
        may = may_by_way c (named_of k) old new trimmed stays page.block s.under way here.may;
        held = trimmed.ways c.session page.block here.held (trimmed.keeps.live page.block (number_left (blocks_of k.directory) (flat_map (λ f. blocks_of f.chain) k.files) page.block here.one));
      }

pub page_still : {X : Type 0} (told : Type 0) (c : Client) (k : Chains) (old new : DiskView) (page : Page) (x : X) → MayTidyPage told c k old page → Trims told c (named_of k) old new (Ok x) → MayTidyPage told c k new page
page_still told c k old new page x may trims = record {
  tree = tidy_still told c k old new x may.tree trims;
  here = λ t. page_here_still c k old new (may.tree.stands t) (trims.trimmed t) trims.runs.stays.0 page (may.here t);
}

-- ---- file after file

-- the files of the entries before this place are clean
pub record PageGoing (told : Type 0) (c : Client) (k : Chains) (first now : DiskView) (page : Page) (i : ℕ) : Type 0 where
  pub may : MayTidyPage told c k now page
  pub trims : Trims {X = Unit {0}} told c (named_of k) first now (Ok tt)
  pub clean : told → (j : ℕ) → j < i → (f : ChainFile) → IsIn f k.files → BeginsAt (entry_block page j) f.chain → f.from ≡ page.block → AreClean (named_of k) now.world (blocks_of f.chain)

pub files_more : (c : Client) (k : Chains) (now new : DiskView) (page : Page) (i : ℕ) → Trimmed c (named_of k) now new → HoldsWrite (state_of now) c.session page.block
    → ((j : ℕ) → j < i → (f : ChainFile) → IsIn f k.files → BeginsAt (entry_block page j) f.chain → f.from ≡ page.block → AreClean (named_of k) now.world (blocks_of f.chain))
    → ((f : ChainFile) → IsFileHere c k now (entry_block page i) f → AreClean (named_of k) new.world (blocks_of f.chain))
    → (j : ℕ) → j < i + 1 → (f : ChainFile) → IsIn f k.files → BeginsAt (entry_block page j) f.chain → f.from ≡ page.block → AreClean (named_of k) new.world (blocks_of f.chain)
files_more c k now new page i trimmed held before here j less f one begins from = elim (cases_lt j i) [
  | inl earlier ↦ clean_still (named_of k) now.world new.world (blocks_of f.chain) trimmed.fewer (before j earlier f one begins from)
  | inr late ↦
      let same : j ≡ i = omega (arith, less, late) in
      here f (record { one = one; begins = subst (λ n. BeginsAt (entry_block page n) f.chain) same begins; held = subst (HoldsWrite (state_of now) c.session) (sym from) held })
]

pub files_all : (c : Client) (k : Chains) (now : DiskView) (s : AreChainsUnder c k now) (page : Page) (here : IsPageHere c k now page) (i : ℕ) → length (entries_in page.cluster) ≤ i
    → ((j : ℕ) → j < i → (f : ChainFile) → IsIn f k.files → BeginsAt (entry_block page j) f.chain → f.from ≡ page.block → AreClean (named_of k) now.world (blocks_of f.chain))
    → FilesAreClean k now.world page.block
files_all c k now s page here i past clean f one from =
    let at = place_here c k now s page here f one from in
    let low = at.1 in
    clean at.0 (omega (arith, low, past)) f one at.2 from

-- ---- cluster after cluster of the directory

-- these clusters of the directory were tidied with their files, and this one is next
pub record DirLeft (c : Client) (k : Chains) (now : DiskView) (b turn : ℕ) : Type 0 where
  pub before : List Link
  pub walked : IsWalked c now k.directory before b
  pub count : length before ≡ turn
  pub way : IsWay c (named_of k) now b
  pub clean : AreClean (named_of k) now.world (blocks_of before)
  pub files : (f : ChainFile) → IsIn f k.files → has_number (blocks_of before) f.from ≡ true → AreClean (named_of k) now.world (blocks_of f.chain)

pub record DirGoing (told : Type 0) (c : Client) (k : Chains) (first now : DiskView) (b turn : ℕ) : Type 0 where
  pub tree : MayTidy told c k now
  pub trims : Trims {X = Unit {0}} told c (named_of k) first now (Ok tt)
  pub left : told → DirLeft c k now b turn

pub dir_starts : (c : Client) (k : Chains) (v : DiskView) → MayWrite c v c.root → AreChainsUnder c k v → DirLeft c k v c.root 0
dir_starts c k v may s = record {
  before = [];
  walked = walk_starts c v c.root k.directory (record {
    rest = s.directory.links;
    held = λ x y h. s.under.held x y (held_left (links (blocks_of k.directory)) (flat_map (λ g. links (g.from ∷ blocks_of g.chain)) k.files) x y h);
    may = may;
  });
  count = refl;
  way = inl refl;
  clean = clean_none (named_of k) v.world;
  files = λ f one h. absurd (never h);
}
  where
    never : false ≡ true → ⊥
    never h = cc

module _ (c : Client) (k : Chains) (now : DiskView) (s : AreChainsUnder c k now) (b turn : ℕ) (left : DirLeft c k now b turn) where
  pub dir_here : has_number (blocks_of k.directory) b ≡ true
  dir_here = block_here c now k.directory left.before b left.walked

  pub dir_named : has_number (chain_blocks k) b ≡ true
  dir_named = number_left (blocks_of k.directory) (flat_map (λ f. blocks_of f.chain) k.files) b dir_here

  pub page_there : is_some (entries_at now.world b) ≡ true
  page_there = ap is_some (entries_here c k now s b dir_here).are

  -- the cluster that was read there
  pub page_read : (mid : DiskView) (page : Page) → Trimmed c (named_of k) now mid → Stays now mid → IsPage now.world b page → HoldsWrite (state_of mid) c.session b → IsPageHere c k mid page
  page_read mid page trimmed stays is held =
      let at = is.block in
      let way = way_still c (named_of k) now mid trimmed stays b s.under left.way in
      record {
        read = subst (λ x. IsPage mid.world x page) (sym at) (is_page_still c k now mid s trimmed stays page b dir_here is);
        one = ap (has_number (blocks_of k.directory)) at ∙ dir_here;
        way = subst (IsWay c (named_of k) mid) (sym at) way;
        may = subst (MayWrite c mid) (sym at) (may_by_way c (named_of k) now mid trimmed stays b s.under way left.walked.ahead.may);
        held = subst (HoldsWrite (state_of mid) c.session) (sym at) held;
      }

  module _ (cl : Cluster) (at : cluster_at now.world b ≡ Some cl) (new : DiskView) (trimmed : Trimmed c (named_of k) now new) (own : AreClean (named_of k) new.world (b ∷ [])) (clean : FilesAreClean k new.world b) where
    clean_now : AreClean (named_of k) new.world (blocks_of (left.before ++ link_of b cl ∷ []))
    clean_now = clean_more (named_of k) new.world left.before b cl (clean_still (named_of k) now.world new.world (blocks_of left.before) trimmed.fewer left.clean) own

    last_of : (before : List Link) (x : ℕ) → has_number (blocks_of (before ++ link_of b cl ∷ [])) x ≡ true → (has_number (blocks_of before) x ≡ true) ⊎ (x ≡ b)
    last_of [] x h = elim (or_cases (b == x) false h) [ inl here ↦ inr (sym (eqb-true b x here)) | inr never ↦ absurd (cc) ]
    last_of (l ∷ before) x h = elim (or_cases (l.block == x) (has_number (blocks_of (before ++ link_of b cl ∷ [])) x) h) [
      | inl here ↦ inl (or_left (l.block == x) _ here)
      | inr later ↦ elim (last_of before x later) [ inl old ↦ inl (or_right (l.block == x) _ old) | inr new ↦ inr new ]
    ]

    files_now : (f : ChainFile) → IsIn f k.files → has_number (blocks_of (left.before ++ link_of b cl ∷ [])) f.from ≡ true → AreClean (named_of k) new.world (blocks_of f.chain)
    files_now f one h = elim (last_of left.before f.from h) [
      | inl old ↦ clean_still (named_of k) now.world new.world (blocks_of f.chain) trimmed.fewer (left.files f one old)
      | inr same ↦ clean f one same
    ]

    pub dir_on : (d : ℕ) → cl.next ≡ Some d → Stays now new → HoldsWrite (state_of new) c.session b → DirLeft c k new d (turn + 1)
    dir_on d next stays held = record {
      before = left.before ++ link_of b cl ∷ [];
      walked = walk_over c (named_of k) now new k.directory left.before b d cl left.walked at next
          (λ a m. number_left (blocks_of k.directory) (flat_map (λ f. blocks_of f.chain) k.files) a m)
          (λ x y h. held_left (links (blocks_of k.directory)) (flat_map (λ g. links (g.from ∷ blocks_of g.chain)) k.files) x y h) trimmed stays held;
      count = let sum = length-append left.before (link_of b cl ∷ []) in omega (arith, sum, left.count);
      way = inr (b, next_named c k now s b d cl dir_here at next, held);
      clean = clean_now;
      files = files_now;
    }

    -- at the end all are clean
    pub dir_ends : cl.next ≡ None → (a : ℕ) → IsClean (named_of k) new.world a
    dir_ends next a named = elim (number_append (blocks_of k.directory) (flat_map (λ f. blocks_of f.chain) k.files) a named) [
      | inl first ↦ clean_now a (ap (λ ls. has_number (blocks_of ls) a) (sym whole) ∙ first)
      | inr second ↦
          let f = one_of_files k.files a second in
          files_now f.0 f.1 (ap (λ ls. has_number (blocks_of ls) f.0.from) (sym whole) ∙ from_directory c k now s f.0 f.1) a f.2
    ]
      where
        whole : k.directory ≡ left.before ++ link_of b cl ∷ []
        whole = walk_ends c now k.directory left.before b cl left.walked at next

  pub dir_short : now.world.geometry.blocks ≤ turn → ⊥
  dir_short past =
      let more = one_more c now k.directory left.before b left.walked in
      let short = s.directory.short in
      omega (arith, more, short, left.count, past)

-- ---- a turn of the directory

abbrev pub page_said : Page → Cluster
page_said page = cluster_of (page_cluster page.cluster)

pub first_page : {told : Type 0} {c : Client} {k : Chains} {v : DiskView} → MayTidy told c k v → (told → v.spent ≡ false → IsDiskSound v) → DirGoing told c k v v c.root 0
first_page {c = c} {k = k} {v = v} tree sound = record {
  tree = tree;
  trims = first_trims tree sound;
  left = λ t. dir_starts c k v (root_may kind.Chain c v tree.ready (tree.valid t) (sound t tree.ready.unspent)) (tree.stands t);
}

module _ {told : Type 0} {c : Client} {k : Chains} {first now : DiskView} {b turn : ℕ} (going : DirGoing told c k first now b turn) where
  pub page_is : told → is_some (entries_at now.world b) ≡ true
  page_is t = page_there c k now (going.tree.stands t) b turn (going.left t)

  pub pages_over : {shape : Geometry} → (told → now.spent ≡ false → IsDiskSound now) → shape ≡ first.geometry → shape.blocks ≤ turn → Trims {X = Unit {0}} told c (named_of k) first now (Err no.NotThisFs)
  pages_over sound is past = trims_refuse told c (named_of k) first now
      (λ t. dir_short c k now (going.tree.stands t) b turn (going.left t) (all_turns going.tree going.trims sound is past t)) going.trims

  module _ {mid : DiskView} {page : Page} (looks : OnlyLooks told now mid (Ok page)) (is : told → IsPage now.world b page) (held : told → HoldsWrite (state_of mid) c.session b) where
    pub page_may : MayTidyPage told c k mid page
    page_may =
        let seen = read_trims going.tree looks in
        record {
          tree = tidy_still told c k now mid page going.tree seen;
          here = λ t. page_read c k now (going.tree.stands t) b turn (going.left t) mid page (seen.trimmed t) looks.stays.0 (is t) (held t);
        }

    module _ {new : DiskView} (after : Trims {X = Unit {0}} told c (named_of k) mid new (Ok tt)) (own : told → AreClean (named_of k) new.world (page.block ∷ [])) (clean : told → FilesAreClean k new.world page.block) where
      page_trims : Trims {X = Unit {0}} told c (named_of k) now new (Ok tt)
      page_trims = then_trims told c (named_of k) now mid new page (Ok tt) (read_trims going.tree looks) after

      own_here : told → AreClean (named_of k) new.world (b ∷ [])
      own_here t = subst (λ x. AreClean (named_of k) new.world (x ∷ [])) (is t).block (own t)

      files_here : told → FilesAreClean k new.world b
      files_here t = subst (FilesAreClean k new.world) (is t).block (clean t)

      pub page_last : (page_said page).next ≡ None → told → (a : ℕ) → IsClean (named_of k) new.world a
      page_last next t =
          dir_ends c k now (going.tree.stands t) b turn (going.left t) (page_said page) (is t).read.says new (page_trims.trimmed t) (own_here t) (files_here t) next

      pub page_next : {d : ℕ} → (page_said page).next ≡ Some d → DirGoing told c k first new d (turn + 1)
      page_next {d} next = record {
        tree = tidy_still told c k now new tt going.tree page_trims;
        trims = turn_trims going.tree going.trims looks after;
        left = λ t.
            let s = going.tree.stands t in
            let live = (after.trimmed t).keeps.live b (dir_named c k now s b turn (going.left t)) in
            dir_on c k now s b turn (going.left t) (page_said page) (is t).read.says new (page_trims.trimmed t) (own_here t) (files_here t) d next page_trims.runs.stays.0
            ((after.trimmed t).ways c.session b (held t) live);
      }
