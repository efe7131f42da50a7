-- A file's removal, from the entry that was found to the last request.
-- The cluster without the entry decides: its file is named no more. The pair to the file is loose then, and goes.
use Rattle.std.proofs.Common.{◌≡◌, ℕ, suc, ◌+◌, ◌<◌, ◌≤◌, true, false, ◌==◌, nat_lt, List, [], ◌∷◌, ◌++◌, length, refl, sym, ◌∙◌, ap, subst, arith, inl, inr, ◌⊎◌, Option, Some, None, length-append, Ok}
use Rattle.chain_changes.proofs.Common.{and_from, and_parts, or_left, eq-eqb, eqb-true, cases_eq, take, drop, is_some, block_len, World, is_live, is_free, free_count, has_number, holds, is_pair, IsValid, filled, written, contents-other, Name, Path, are_distinct, nothing, a_file, entry, at, is_there, names_in, with_at, Entry, all_named, Cluster, entries_room, directory_bytes, Link, blocks_of, links, ChainFile, chain_bytes, Chains, chain_blocks, chain_pairs, chains_under, as_tree, tree_of_files, chain_tree, by_chains, named_at, IsTidy, need, need_of, is_under, OthersStay, FsRefusal, is_inside, number_left, number_right, first_in, held_left, held_right, times, named_is_under, DiskView, IsEitherTree, Client, write_by, MayWrite, Looked, OnlyLooks, Leads, refused_on, lookup_refusal, rm_none, runs_as, runs_look, same_room, as_before, clash_free_live, named_reached, cluster_of, dir_cluster, entries_in, unlisted_at, entry_blocks, HaveFourBytes, IsChainFile, file_blocks, file_pairs, file_names, relinked, FileRemoved, HasChains, has_chains, IsRight, right_is, blocks-append, file_pairs-append, entry_is_removed, distinct_parts, tree_has, Page, Taken, tree_under, mounted_by, page_link, IsLookupTaken, IsLookupOf}
use Rattle.fs_trees.specs.declared.ask.ShellAsk.TheVariants as ask
use Rattle.fs_trees.specs.declared.ask.ShellKind.TheVariants as kind
use Rattle.fs_trees.specs.declared.refusal.FsRefusal.TheVariants as no
use Rattle.chain_changes.proofs.EntryLaws.{ReadsAs, directory_read, directory_fits, from_first, named_parts, named_both, small_parts, small_both, page_live, page_within, page_named, page_entries, page_all_named, page_linked, page_sized, page_small}
use Rattle.chain_changes.proofs.ExchangeLaws.{old_gone, named_before, still_named}
use Rattle.chain_changes.proofs.AfterLaws.{LetsGo, This_loose, decided_either}
use Rattle.chain_changes.proofs.WritingLaws.{Writing}

-- ---- a list without one of its entries

unlisted : (es : List Entry) (e : Entry) (fs : List Entry) → unlisted_at (length es) (es ++ (e ∷ fs)) ≡ es ++ fs
unlisted [] e fs = refl
unlisted (d ∷ es) e fs =
    let more : suc (length es) + 1 ≡ suc (length es + 1) = omega arith in
    ap (λ k. take (suc (length es)) (d ∷ (es ++ (e ∷ fs))) ++ drop k (d ∷ (es ++ (e ∷ fs)))) more ∙ ap (λ xs. d ∷ xs) (unlisted es e fs)

-- the blocks of a directory, one cluster of which is written anew
pub same_blocks : (ls : List Link) (l : Link) (cl : Cluster) (ms : List Link) → blocks_of (ls ++ relinked l cl ∷ ms) ≡ blocks_of (ls ++ l ∷ ms)
same_blocks [] l cl ms = refl
same_blocks (k ∷ ls) l cl ms = ap (λ bs. k.block ∷ bs) (same_blocks ls l cl ms)

pub names_between : (fs : List ChainFile) (f : ChainFile) (gs : List ChainFile) → file_names (fs ++ (f ∷ gs)) ≡ file_names fs ++ f.name ∷ file_names gs
names_between [] f gs = refl
names_between (g ∷ fs) f gs = ap (λ ns. g.name ∷ ns) (names_between fs f gs)

-- what is written makes no free block live
pub none_taken : (w : World) (d : ℕ) (bytes : List ℕ) → is_live w d ≡ true → (k : ℕ) → is_free w k ≡ true → is_live (written w d bytes) k ≡ true → ⊥
none_taken w d bytes live k free lives = elim (cases_eq k d) [
  | inl same ↦ clash_free_live w k free (subst (λ x. is_live w x ≡ true) (sym same) live)
  | inr other ↦ clash_free_live w k free (ap is_some (sym (contents-other w d k (filled (block_len w.geometry) bytes) other)) ∙ lives)
]

-- ---- one entry among those of a known directory

module _ (w : World) (root : ℕ) (c : Chains) (under : chains_under w root ≡ Some c) (valid : IsValid w) (primary : root < w.geometry.primaries) where
  whole : IsRight w c
  whole = right_is w c (has_chains w root c under).right

  pub is_under_root : (b : ℕ) → has_number (chain_blocks c) b ≡ true → is_under w root b ≡ true
  is_under_root b named =
      let there : is_there (chain_tree w root) ≡ true = ap (λ o. is_there (as_tree o)) under in
      named_reached w root (named_at kind.Chain w root) valid (named_is_under kind.Chain w root primary there) b (ap (λ o. has_number (by_chains o).blocks b) under ∙ named)

  -- the file of an entry
  module _ (before : List ChainFile) (old : ChainFile) (behind : List ChainFile) (files : c.files ≡ before ++ (old ∷ behind)) (d : ℕ) (e : Entry) (was : IsChainFile w d e old) where
    pub file_entry : entry e.name (tree_of_files c.files) ≡ a_file (chain_bytes old.chain)
    file_entry =
        let parts = distinct_parts old.name (file_names before) (file_names behind) (ap are_distinct (sym (names_between before old behind) ∙ ap file_names (sym files)) ∙ whole.names) in
        ap (λ fs. entry e.name (tree_of_files fs)) files ∙ (ap (λ n. entry n (tree_of_files (before ++ (old ∷ behind)))) (sym was.name) ∙ tree_has before old behind parts.0)

    -- its chain begins with the entry's block
    pub file_first : (rest : List ℕ) × (blocks_of old.chain ≡ e.block ∷ rest)
    file_first = let first = from_first w e.block old.chain was.chain.links in (blocks_of first.1, ap blocks_of first.2 ∙ ap (λ k. k ∷ blocks_of first.1) first.3)

    pub file_has_first : has_number (blocks_of old.chain) e.block ≡ true
    file_has_first = ap (λ bs. has_number bs e.block) file_first.1 ∙ first_in e.block file_first.0

    -- the pair to it is held
    pub file_pair : holds w.pairs d e.block ≡ true
    file_pair = whole.held d e.block (held_right (links (blocks_of c.directory)) (file_pairs c.files) d e.block
        (ap (λ fs. holds (file_pairs fs) d e.block) files ∙ (ap (λ es. holds es d e.block) (file_pairs-append before (old ∷ behind))
        ∙ held_right (file_pairs before) (file_pairs (old ∷ behind)) d e.block (held_left (links (old.from ∷ blocks_of old.chain)) (file_pairs behind) d e.block first_link))))
      where
        first_link : holds (links (old.from ∷ blocks_of old.chain)) d e.block ≡ true
        first_link = ap (λ bs. holds (links (old.from ∷ bs)) d e.block) file_first.1 ∙ or_left (is_pair d e.block (old.from, e.block)) _ (and_from (old.from == d) (e.block == e.block) (eq-eqb old.from d was.from) (eq-eqb e.block e.block refl))

-- ---- an entry that is to be taken out

pub record Taking (c : Client) (first mid : DiskView) (path : Path) (n : Name) (page : Page) (position b : ℕ) : Type 0 where
  pub valid : IsValid first.world
  pub tree : is_there (tree_under c first) ≡ true
  pub primary : c.root < first.world.geometry.primaries
  pub seen : Looked first mid
  pub path_is : path ≡ n ∷ []
  pub found : IsLookupOf c mid n (Taken page position b)
  pub way : ◌≡◌ {A = Option FsRefusal} (lookup_refusal (tree_under c first) path no.IsDir) None

module _ (c : Client) (first mid : DiskView) (path : Path) (n : Name) (page : Page) (position b : ℕ) (x : Taking c first mid path n page position b) where
  abbrev w : World
  w = mid.world

  abbrev d : ℕ
  d = page.block

  abbrev cs : Chains
  cs = x.found.chains

  valid : IsValid mid.world
  valid = x.seen.valid.valid

  primary : c.root < mid.world.geometry.primaries
  primary = subst (λ v. c.root < v.geometry.primaries) (sym x.seen.world) x.primary

  pub has : HasChains mid.world c.root x.found.chains
  has = has_chains mid.world c.root x.found.chains x.found.under

  pub taken : IsLookupTaken c mid n x.found.chains.directory page position b
  taken = x.found.found has.listing.entries has.listing.in_order

  abbrev es : List Entry
  es = taken.entry.front

  abbrev e : Entry
  e = taken.entry.entry

  abbrev fs : List Entry
  fs = taken.entry.back

  abbrev bytes : List ℕ
  bytes = directory_bytes (cluster_of (dir_cluster page.cluster)).next (unlisted_at position (entries_in page.cluster))

  news : unlisted_at position (entries_in page.cluster) ≡ es ++ fs
  news = ap (unlisted_at position) taken.entry.parts ∙ (ap (λ k. unlisted_at k (es ++ (e ∷ fs))) (sym taken.entry.count) ∙ unlisted es e fs)

  own : (all_named (entries_in page.cluster) ≡ true) × (length (entries_in page.cluster) ≤ entries_room (block_len mid.world.geometry))
  own = page_all_named mid.world c.root x.found.chains x.found.under valid taken.before page taken.behind taken.parts taken.read

  news_named : all_named (es ++ fs) ≡ true
  news_named =
      let parts = named_parts es (e ∷ fs) (ap all_named (sym taken.entry.parts) ∙ own.0) in
      named_both es fs parts.0 (named_parts (e ∷ []) fs parts.1).1

  news_few : length (es ++ fs) ≤ entries_room (block_len mid.world.geometry)
  news_few =
      let size = ap length taken.entry.parts in
      let one = length-append es (e ∷ fs) in
      let two = length-append es fs in
      omega (arith, size, one, two, own.1)

  sized : (16 ≤ block_len mid.world.geometry) × (block_len mid.world.geometry ≤ 4096)
  sized = page_sized mid.world c.root x.found.chains x.found.under valid taken.before page taken.behind taken.parts taken.read

  pub fits : length (directory_bytes (cluster_of (dir_cluster page.cluster)).next (unlisted_at position (entries_in page.cluster))) ≤ block_len mid.world.geometry
  fits = subst (λ xs. length (directory_bytes (cluster_of (dir_cluster page.cluster)).next xs) ≤ block_len mid.world.geometry) (sym news)
      (directory_fits (block_len mid.world.geometry) (cluster_of (dir_cluster page.cluster)).next (es ++ fs) sized.0 news_named news_few)

  pub may_write : MayWrite c mid d
  may_write = taken.may

  reads : ReadsAs (block_len mid.world.geometry) (filled (block_len mid.world.geometry) bytes) (cluster_of (dir_cluster page.cluster)).next (es ++ fs)
  reads = subst (λ xs. ReadsAs (block_len mid.world.geometry) (filled (block_len mid.world.geometry) (directory_bytes (cluster_of (dir_cluster page.cluster)).next xs)) (cluster_of (dir_cluster page.cluster)).next (es ++ fs)) (sym news)
      (directory_read (block_len mid.world.geometry) (cluster_of (dir_cluster page.cluster)).next (es ++ fs) sized.1
      (page_linked mid.world c.root x.found.chains x.found.under valid taken.before page taken.behind taken.parts taken.read) news_few news_named
      (let parts = small_parts es (e ∷ fs) (subst (λ xs. HaveFourBytes (entry_blocks xs)) taken.entry.parts small) in small_both es fs parts.0 (small_parts (e ∷ []) fs parts.1).1))
    where
      small : HaveFourBytes (entry_blocks (entries_in page.cluster))
      small = page_small mid.world c.root x.found.chains x.found.under valid taken.before page taken.behind taken.parts taken.read

  live : is_live mid.world d ≡ true
  live = page_live mid.world c.root x.found.chains x.found.under valid taken.before page taken.behind taken.parts taken.read

  -- ---- the deciding write

  abbrev cl : Cluster
  cl = reads.cluster

  removed : FileRemoved mid.world c.root x.found.chains taken.before (page_link page) taken.behind (filled (block_len mid.world.geometry) bytes) cl e
  removed = entry_is_removed mid.world c.root x.found.chains taken.before (page_link page) taken.behind (filled (block_len mid.world.geometry) bytes) cl es e fs x.found.under
      (record { position = taken.parts; within = page_within mid.world c.root x.found.chains x.found.under valid taken.before page taken.behind taken.parts taken.read; read = reads.read })
      reads.next_is
      (page_entries mid.world c.root x.found.chains x.found.under valid taken.before page taken.behind taken.parts taken.read ∙ ap (λ xs. Some xs) taken.entry.parts)
      reads.entries_are

  abbrev after : Chains
  after = record { directory = taken.before ++ relinked (page_link page) cl ∷ taken.behind; files = removed.before ++ removed.behind }

  old_entry : entry e.name (tree_of_files cs.files) ≡ a_file (chain_bytes removed.old.chain)
  old_entry = file_entry mid.world c.root x.found.chains x.found.under valid primary removed.before removed.old removed.behind removed.files d e removed.was

  -- the file is there
  at_path : at (tree_under c first) path ≡ a_file (chain_bytes removed.old.chain)
  at_path =
      ap (at (tree_under c first)) x.path_is ∙ (ap (λ v. at (chain_tree v c.root) (n ∷ [])) (sym x.seen.world)
      ∙ (ap (λ o. at (as_tree o) (n ∷ [])) x.found.under ∙ (ap (λ m. entry m (tree_of_files cs.files)) (sym taken.entry.name) ∙ old_entry)))

  pub none_refuses : ◌≡◌ {A = Option FsRefusal} (refused_on (mounted_by c) first (ask.Rm path)) None
  none_refuses = rm_none kind.Chain first.world.geometry (tree_under c first) (free_count first.world) (length first.world.pairs) (need_of kind.Chain first.world c.root (tree_under c first) (ask.Rm path)) x.tree path x.way
      (ap is_there at_path) (ap (λ y. nat_lt 0 (length (names_in y))) at_path)

  named_d : has_number (chain_blocks cs) d ≡ true
  named_d = page_named mid.world c.root x.found.chains x.found.under valid taken.before page taken.behind taken.parts taken.read

  inside : is_inside mid.world c.root (write_by c d bytes) ≡ true
  inside = and_from (is_under mid.world c.root d) true (is_under_root mid.world c.root x.found.chains x.found.under valid primary d named_d) refl

  directory_same : blocks_of after.directory ≡ blocks_of cs.directory
  directory_same = same_blocks taken.before (page_link page) cl taken.behind ∙ ap blocks_of (sym taken.parts)

  once : (k : ℕ) → times k (chain_blocks cs) + times k (file_blocks []) ≤ 1
  once k = let most = (whole mid.world c.root x.found.chains x.found.under valid primary).once k in omega (arith, most)

  first_is : b ≡ e.block
  first_is = sym taken.entry.block

  source_named : has_number (chain_blocks after) d ≡ true
  source_named = number_left (blocks_of after.directory) _ d (ap (λ bs. has_number bs d) directory_same
      ∙ (ap (λ xs. has_number (blocks_of xs) d) taken.parts ∙ (ap (λ xs. has_number xs d) (blocks-append taken.before (page_link page ∷ taken.behind)) ∙ number_right (blocks_of taken.before) _ d (first_in d (blocks_of taken.behind)))))

  target_gone : has_number (chain_blocks after) b ≡ false
  target_gone = old_gone cs after removed.before removed.old removed.behind [] removed.files refl directory_same once b
      (subst (λ k. has_number (blocks_of removed.old.chain) k ≡ true) (sym first_is) (file_has_first mid.world c.root x.found.chains x.found.under valid primary removed.before removed.old removed.behind removed.files d e removed.was))

  pair_held : holds (written mid.world d bytes).pairs d b ≡ true
  pair_held = subst (λ k. holds mid.world.pairs d k ≡ true) (sym first_is) (file_pair mid.world c.root x.found.chains x.found.under valid primary removed.before removed.old removed.behind removed.files d e removed.was)

  pub lets_go : Leads mid.world (write_by c d bytes) (written mid.world d bytes) → LetsGo c first (ask.Rm path) (written mid.world d bytes) d b
  lets_go leads = record {
    decided = record {
      granted = none_refuses;
      answer = refl;
      valid = leads.valid;
      geometry = leads.geometry ∙ ap (λ v. v.geometry) x.seen.world;
      others = subst (λ v. OthersStay c.root v (written mid.world d bytes)) x.seen.world (leads.others c.root primary inside);
      primary = primary;
      chains = after;
      under = removed.becomes.under;
      tree = removed.becomes.tree ∙ (ap (λ m. with_at (m ∷ []) nothing (chain_tree mid.world c.root)) taken.entry.name
          ∙ (ap (λ p. with_at p nothing (chain_tree mid.world c.root)) (sym x.path_is) ∙ ap (λ v. with_at path nothing (chain_tree v c.root)) x.seen.world));
      taken = λ k free lives. absurd (none_taken mid.world d bytes live k (ap (λ v. is_free v k) x.seen.world ∙ free) lives);
      clean = λ tidy k y named h.
          let was = of_old k (named_before cs after removed.before removed.old removed.behind [] removed.files refl directory_same once k named) in
          let tidy_mid = subst (λ v. IsTidy kind.Chain v c.root) (sym x.seen.world) tidy in
          let named_is = ap by_chains x.found.under in
          let pair : holds (chain_pairs cs) k y ≡ true = ap (λ m. holds m.pairs k y) (sym named_is) ∙ (sym (tidy_mid.pairs k y (ap (λ m. has_number m.blocks k) named_is ∙ was)) ∙ h) in
          elim (still_named cs after removed.before removed.old removed.behind [] removed.files refl directory_same once k y named pair) [
            | inl still ↦ inl still
            | inr this ↦ inr (is_this k y this.0 this.1 this.2 this.3)
          ];
    };
    source = source_named;
    held = pair_held;
    gone = target_gone;
  }
    where
      of_old : (k : ℕ) → (has_number (chain_blocks cs) k ≡ true) ⊎ (false ≡ true) → has_number (chain_blocks cs) k ≡ true
      of_old k (inl was) = was
      of_old k (inr never) = absurd (cc)

      is_this : (k y first : ℕ) (rest : List ℕ) → blocks_of removed.old.chain ≡ first ∷ rest → is_pair k y (removed.old.from, first) ≡ true → is_pair d b (k, y) ≡ true
      is_this k y f rest begins h =
          let own = file_first mid.world c.root x.found.chains x.found.under valid primary removed.before removed.old removed.behind removed.files d e removed.was in
          let same : e.block ≡ f = same_head (sym own.1 ∙ begins) in
          let parts = and_parts (removed.old.from == k) (f == y) h in
          and_from (k == d) (y == b) (eq-eqb k d (sym (eqb-true removed.old.from k parts.0) ∙ removed.was.from)) (eq-eqb y b (sym (eqb-true f y parts.1) ∙ (sym same ∙ sym first_is)))
        where
          same_head : {m k : ℕ} {ms ks : List ℕ} → m ∷ ms ≡ k ∷ ks → m ≡ k
          same_head h = cc

-- the cluster's write, after the look
pub writes_without : {X : Type 0} {told : Type 0} {c : Client} {first mid : DiskView} {path : Path} {n : Name} {page : Page} {position b : ℕ} (found : X) → (told → Taking c first mid path n page position b) → OnlyLooks told first mid (Ok found)
    → Writing told c first mid (ask.Rm path) page.block (directory_bytes (cluster_of (dir_cluster page.cluster)).next (unlisted_at position (entries_in page.cluster))) (λ w. LetsGo c first (ask.Rm path) w page.block b)
writes_without {told = told} {c = c} {first = first} {mid = mid} {path = path} {n = n} {page = page} {position = position} {b = b} found x looks =
    let f = mounted_by c in
    let a = ask.Rm path in
    let P = IsEitherTree f first a in
    record {
      so_far = runs_as told first mid P found tt (runs_look told first mid P (Ok found) (λ t w is. as_before f first a w (x t).valid is) looks);
      kept = λ t. same_room (need 0 0) first.world mid.world (x t).seen.world;
      may = λ t. may_write c first mid path n page position b (x t);
      fits = λ t. fits c first mid path n page position b (x t);
      leads = λ t. lets_go c first mid path n page position b (x t);
      still = λ t. as_before f first a mid.world (x t).valid (x t).seen.world;
      either = λ t w lets. decided_either c first a w (This_loose page.block b) lets.decided;
    }
