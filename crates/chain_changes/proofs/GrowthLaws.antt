-- A file gets longer, from its last cluster that was read to the write that decides.
-- What the last cluster has no room for stands in new clusters that nothing names yet; the last one, written anew, names them.
use Rattle.std.proofs.Common.{◌≡◌, ℕ, zero, suc, ◌+◌, ◌-◌, ◌^◌, ◌<◌, ◌≤◌, Bool, true, false, not, ◌&&◌, ◌==◌, nat_lt, min, List, [], ◌∷◌, ◌++◌, length, refl, sym, ◌∙◌, ap, subst, arith, inl, inr, ◌⊎◌, append-nil, append_assoc, length-append, Option, Some, None, ◌≢◌, Ok, Err}
use Rattle.chain_changes.proofs.Common.{and_from, or_cases, eq-eqb, cases_eq, le-leb, lt-ltb, take-append-drop, length-take-le, length-drop, flat_map-append, take-append_seam, take, drop, is_some, replicate, max, div_ceil, block_len, Geometry, World, is_live, is_free, free_count, has_number, are_apart, holds, IsValid, filled, written, contents-other, live_below, Path, Tree, a_file, a_dir, at, is_there, is_dir, bytes_in, with_at, Cluster, cluster_in, bytes_room, part_bytes, Link, blocks_of, links, is_filled, chain_bytes, Chains, chain_blocks, chain_pairs, chains_under, as_tree, tree_of_files, chain_tree, by_chains, IsTidy, need, need_of, clusters_for, is_under, RoomNeed, when, first_of, lost_on_the_way, missing, no_file, too_big, no_room, refusal, ShellAsk, FsRefusal, is_inside, number_left, number_right, first_in, times, apart_times, outside_twice, DiskView, IsEitherTree, KeepsRoom, Runs, Client, write_by, Leads, no_room_in, refused_on, is_mounted, clash_free_live, runs_as, cluster_of, block_len_of, part_in, IsFrom, IsChainFile, PlacedEntry, AreFiles, file_blocks, relinked, Becomes, grown, Lengthens, entries_of_files, HasChains, has_chains, IsRight, right_is, blocks-append, the_file_grows, Part, tree_under, mounted_by, no_file_found, Stage, IsAside, first_block, AreLinkable, ArePartsOf, part_link, IsLastOf, clusters_more, NewTail}
use Rattle.fs_trees.specs.declared.ask.ShellAsk.TheVariants as ask
use Rattle.fs_trees.specs.declared.ask.ShellKind.TheVariants as kind
use Rattle.fs_trees.specs.declared.refusal.FsRefusal.TheVariants as no
use Rattle.chain_layout.specs.Held as held
use Rattle.chain_changes.proofs.FileLaws.{long_room, file_filled}
use Rattle.chain_changes.proofs.MakingLaws.{aside_now, tree_same, primary_now, link_held, source_under, new_unnamed, was_live}
use Rattle.chain_changes.proofs.PartLaws.{parts_bytes}
use Rattle.chain_changes.proofs.WriteLaws.{part_length, part_cluster, part_back, first_linked}
use Rattle.chain_changes.proofs.EntryLaws.{cluster_live}
use Rattle.chain_changes.proofs.KeptLaws.{chains_kept}
use Rattle.chain_changes.proofs.SizeLaws.{IsSize, size_is, part_size, ceil_none, clusters_grow}
use Rattle.chain_changes.proofs.LongerLaws.{grown_filled, apart_both, longer_has, more_in, more_pairs, old_pairs}
use Rattle.chain_changes.proofs.RemoveLaws.{is_under_root, file_entry}
use Rattle.chain_changes.proofs.AfterLaws.{Decided, None_loose, decided_either}
use Rattle.chain_changes.proofs.TakenLaws.{tail_takes}
use Rattle.chain_changes.proofs.WritingLaws.{Ends, Writing, aside_runs, refused_ends}

-- ---- the refusals of an append to a file that is there

pub append_refused : (g : Geometry) (t : Tree) (free held : ℕ) (n : RoomNeed) (path : Path) (x y : List ℕ) → is_there t ≡ true → ◌≡◌ {A = Option FsRefusal} (lost_on_the_way t path) None → at t path ≡ a_file y → refusal kind.Chain g t free held n (ask.Append path x) ≡ first_of (no_room g free held n)
append_refused g t free held n path x y there way file =
    is_mounted t (lost_on_the_way t path ∷ missing t path ∷ no_file t path ∷ too_big kind.Chain g (length (bytes_in (at t path)) + length x) ∷ no_room g free held n) there
    ∙ (ap (λ o. first_of (o ∷ missing t path ∷ no_file t path ∷ None ∷ no_room g free held n)) way
    ∙ ap (λ z. first_of (when (not (is_there z)) no.NoEntry ∷ when (is_dir z) no.IsDir ∷ None ∷ no_room g free held n)) file)

pub append_lost : (g : Geometry) (t : Tree) (free held : ℕ) (n : RoomNeed) (path : Path) (x : List ℕ) (e : FsRefusal) → is_there t ≡ true → no_file_found t path ≡ Some e → refusal kind.Chain g t free held n (ask.Append path x) ≡ Some e
append_lost g t free held n path x e there h =
    is_mounted t (lost_on_the_way t path ∷ missing t path ∷ no_file t path ∷ too_big kind.Chain g (length (bytes_in (at t path)) + length x) ∷ no_room g free held n) there
    ∙ of_three (lost_on_the_way t path) (missing t path) (no_file t path) h
  where
    of_three : (a b d : Option FsRefusal) → first_of (a ∷ b ∷ d ∷ []) ≡ Some e → first_of (a ∷ b ∷ d ∷ None ∷ no_room g free held n) ≡ Some e
    of_three (Some r) b d k = k
    of_three None (Some r) d k = k
    of_three None None (Some r) k = k
    of_three None None None k = absurd (cc)

-- what is in the making leaves the tree as it was
pub aside_either : (c : Client) (first : DiskView) (a : ShellAsk) (w : World) → IsAside c.root first.world w → IsEitherTree (mounted_by c) first a w
aside_either c first a w aside = (inl aside.tree, record { valid = aside.valid; geometry = aside.geometry; others = aside.others })

-- ---- the file, and what it needs

module _ (c : Client) (first : DiskView) (path : Path) (x : List ℕ) (part : Part) (last : IsLastOf c first path part) (valid : IsValid first.world) (primary : c.root < first.world.geometry.primaries) where
  abbrev d : ℕ
  d = part.block

  abbrev room : ℕ
  room = bytes_room (block_len first.world.geometry)

  abbrev used : ℕ
  used = (cluster_of (held.part_cluster part.cluster)).used

  has : HasChains first.world c.root last.chains
  has = has_chains first.world c.root last.chains last.under

  whole : IsRight first.world last.chains
  whole = right_is first.world last.chains has.right

  -- the file of one of the entries
  file_is : (q : PlacedEntry) × IsChainFile first.world q.0 q.1 last.file
  file_is =
      let split = entries_of_files first.world has.listing.entries last.front (last.file ∷ last.back) (subst (AreFiles first.world has.listing.entries) last.among has.listing.files) in
      by_rest split.1 split.4
    where
      by_rest : (qs : List PlacedEntry) → AreFiles first.world qs (last.file ∷ last.back) → (q : PlacedEntry) × IsChainFile first.world q.0 q.1 last.file
      by_rest [] are = absurd are
      by_rest (q ∷ qs) are = (q, are.0)

  size : IsSize room last.last.before (part_link part)
  size = size_is first.world valid.raw.sized (Some file_is.0.1.block) last.last.before (part_link part)
      (subst (IsFrom first.world (Some file_is.0.1.block)) last.last.parts file_is.1.chain.links) (ap (is_filled room) (sym last.last.parts) ∙ file_is.1.filled)

  pub own_size : length (part_in part.cluster) ≡ used
  own_size = part_size first.world valid.raw.sized (part_link part) last.last.read.read.says size.fits

  pub last_live : is_live first.world d ≡ true
  last_live = cluster_live first.world d (cluster_of (held.part_cluster part.cluster)) last.last.read.read.says

  last_named : has_number (chain_blocks last.chains) d ≡ true
  last_named = number_right (blocks_of last.chains.directory) (file_blocks last.chains.files) d (ap (λ fs. has_number (file_blocks fs) d) last.among
      ∙ (ap (λ xs. has_number xs d) (flat_map-append (λ g. blocks_of g.chain) last.front (last.file ∷ last.back))
      ∙ number_right (file_blocks last.front) _ d (number_left (blocks_of last.file.chain) (file_blocks last.back) d
      (ap (λ ls. has_number (blocks_of ls) d) last.last.parts ∙ (ap (λ xs. has_number xs d) (blocks-append last.last.before (part_link part ∷ [])) ∙ number_right (blocks_of last.last.before) _ d (first_in d []))))))

  pub stage : Stage c.root first.world d
  stage = record {
    valid = valid;
    primary = primary;
    there = ap (λ o. is_there (as_tree o)) last.under;
    reached = is_under_root first.world c.root last.chains last.under valid primary d last_named;
  }

  at_path : at (tree_under c first) path ≡ a_file (chain_bytes last.file.chain)
  at_path =
      ap (at (tree_under c first)) last.named ∙ (ap (λ o. at (as_tree o) (last.file.name ∷ [])) last.under
      ∙ (ap (λ n. at (a_dir tt (tree_of_files last.chains.files)) (n ∷ [])) file_is.1.name
      ∙ file_entry first.world c.root last.chains last.under valid primary last.front last.file last.back last.among file_is.0.0 file_is.0.1 file_is.1))

  way : ◌≡◌ {A = Option FsRefusal} (lost_on_the_way (tree_under c first) path) None
  way = ap (lost_on_the_way (tree_under c first)) last.named ∙ ap (λ o. lost_on_the_way (as_tree o) (last.file.name ∷ [])) last.under

  module _ (taken : ℕ) (is : taken ≡ min (room - length (part_in part.cluster)) (length x)) (some : 0 < length x) where
    abbrev rest : List ℕ
    rest = drop taken x

    abbrev own : List ℕ
    own = part_in part.cluster ++ take taken x

    long : 496 ≤ room
    long = long_room first.world valid

    -- so many clusters more
    pub more_is : clusters_for first.world.geometry (length (bytes_in (at (tree_under c first) path)) + length x) - clusters_for first.world.geometry (length (bytes_in (at (tree_under c first) path))) ≡ clusters_more (block_len first.world.geometry) (drop taken x)
    more_is =
        let old = ap (λ z. length (bytes_in z)) at_path ∙ (ap (λ ls. length (chain_bytes ls)) last.last.parts ∙ size.bytes) in
        let cut = length-drop taken x in
        ap (λ n. clusters_for first.world.geometry (n + length x) - clusters_for first.world.geometry n) old
        ∙ (clusters_grow room (length last.last.before) used (length x) taken (let l = long in omega (arith, l)) size.fits size.some some (is ∙ ap (λ n. min (room - n) (length x)) own_size)
        ∙ ap (λ n. div_ceil n room) (sym cut))

    -- the refusal that applies first is want of room for them
    pub refused_is : refused_on (mounted_by c) first (ask.Append path x) ≡ no_room_in first.world (clusters_more (block_len first.world.geometry) (drop taken x)) (clusters_more (block_len first.world.geometry) (drop taken x))
    refused_is =
        append_refused first.world.geometry (tree_under c first) (free_count first.world) (length first.world.pairs) (need_of kind.Chain first.world c.root (tree_under c first) (ask.Append path x)) path x (chain_bytes last.file.chain) stage.there way at_path
        ∙ ap (λ n. no_room_in first.world n n) more_is

    own_length : length own ≡ used + taken
    own_length =
        let both = length-append (part_in part.cluster) (take taken x) in
        let cut = length-take-le taken x (omega (arith, is)) in
        omega (arith, both, cut, own_size)

    own_fits : length own ≤ room
    own_fits = let fits = size.fits in omega (arith, own_length, own_size, is, fits)

    -- ---- the deciding write

    module _ (mid : DiskView) (blocks : List ℕ) (linkable : AreLinkable blocks) (tail : NewTail c first mid d rest blocks) where
      abbrev bytes : List ℕ
      bytes = part_bytes (first_block blocks) own

      abbrev cl : Cluster
      cl = part_cluster (block_len mid.world.geometry) (first_block blocks) own

      abbrev after : Chains
      after = record { directory = last.chains.directory; files = last.front ++ (grown last.file last.last.before (part_link part) cl tail.links ∷ last.back) }

      same_size : block_len mid.world.geometry ≡ block_len first.world.geometry
      same_size = ap block_len tail.making.geometry

      pub grow_fits : length (part_bytes (first_block blocks) (part_in part.cluster ++ take taken x)) ≤ block_len mid.world.geometry
      grow_fits = let all = part_length (first_block blocks) own in let l = long in omega (arith, all, same_size, own_fits, l)

      under_mid : chains_under mid.world c.root ≡ Some last.chains
      under_mid = chains_kept first.world mid.world c.root last.chains last.under tail.making.keeps

      read : cluster_in (filled (block_len mid.world.geometry) bytes) ≡ Some cl
      read = part_back (block_len mid.world.geometry) (first_block blocks) own (first_linked blocks linkable) (small (valid.raw.sized.lawful.sectors))
        where
          small : (first.world.geometry.sectors ≡ 1) ⊎ (first.world.geometry.sectors ≡ 2) ⊎ (first.world.geometry.sectors ≡ 4) ⊎ (first.world.geometry.sectors ≡ 8) → length own < 2 ^ 32
          small h = elim h [
            | inl one ↦ omega (arith, one, own_fits)
            | inr more ↦ elim more [
              | inl two ↦ omega (arith, two, own_fits)
              | inr most ↦ elim most [ inl four ↦ omega (arith, four, own_fits) | inr eight ↦ omega (arith, eight, own_fits) ]
            ]
          ]

      -- what follows it, if anything does
      last_filled : is_filled room (relinked (part_link part) cl ∷ tail.links) ≡ true
      last_filled = by_links tail.links tail.parts (sym (links-length tail.links) ∙ (ap length tail.blocks_are ∙ tail.many))
        where
          links-length : (ls : List Link) → length (blocks_of ls) ≡ length ls
          links-length [] = refl
          links-length (l ∷ ls) = ap suc (links-length ls)

          by_links : (ls : List Link) → ArePartsOf room rest ls → length ls ≡ clusters_more (block_len first.world.geometry) rest → is_filled room (relinked (part_link part) cl ∷ ls) ≡ true
          by_links [] parts many = le-leb (length own) room own_fits
          by_links (m ∷ ms) parts many =
              let l = long in
              let some_room : 0 < room = omega (arith, l) in
              let left : 0 < length rest = some_rest (length rest) many in
              let cut = length-drop taken x in
              let full : length own ≡ room = omega (arith, own_length, own_size, is, left, cut, size.fits) in
              let first_used : m.cluster.used ≡ length (take room rest) = parts.0 in
              let some_used : 0 < m.cluster.used = subst (λ n. 0 < n) (sym first_used) (take_some room rest some_room left) in
              let many_now : length (m ∷ ms) ≡ max 1 (div_ceil (length rest) room) = omega (arith, many) in
              and_from ((length own == room) && nat_lt 0 m.cluster.used) (is_filled room (m ∷ ms)) (and_from (length own == room) (nat_lt 0 m.cluster.used) (eq-eqb (length own) room full) (lt-ltb 0 m.cluster.used some_used))
              (file_filled room some_room rest (m ∷ ms) parts many_now)
            where
              some_rest : (n : ℕ) → suc (length ms) ≡ div_ceil n room → 0 < n
              some_rest zero h = absurd (let none = ceil_none room (let l = long in omega (arith, l)) in omega (arith, h, none))
              some_rest (suc n) h = omega arith

              take_some : (r : ℕ) (ys : List ℕ) → 0 < r → 0 < length ys → 0 < length (take r ys)
              take_some zero ys a b = absurd (omega (arith, a))
              take_some (suc r) [] a b = absurd (omega (arith, b))
              take_some (suc r) (y ∷ ys) a b = omega arith

      filled_now : is_filled (bytes_room (block_len mid.world.geometry)) (last.last.before ++ relinked (part_link part) cl ∷ tail.links) ≡ true
      filled_now = ap (λ n. is_filled (bytes_room n) (last.last.before ++ relinked (part_link part) cl ∷ tail.links)) same_size
          ∙ grown_filled room last.last.before (part_link part) cl tail.links (ap (is_filled room) (sym last.last.parts) ∙ file_is.1.filled) (omega (arith, own_length)) last_filled

      fresh : are_apart (chain_blocks last.chains ++ blocks_of tail.links) ≡ true
      fresh = apart_both (chain_blocks last.chains) (blocks_of tail.links) whole.once (λ b. subst (λ xs. times b xs ≤ 1) (sym tail.blocks_are) (apart_times blocks tail.making.once b))
          (λ b h. ap (λ o. has_number (by_chains o).blocks b) (sym last.under) ∙ new_unnamed c.root first.world d stage blocks mid.world tail.making b (ap (λ xs. has_number xs b) (sym tail.blocks_are) ∙ h))

      lengthens : Lengthens mid.world last.chains last.front last.file last.back last.last.before (part_link part) (filled (block_len mid.world.geometry) bytes) cl tail.links
      lengthens = record {
        position = last.among;
        ends = last.last.parts;
        within = subst (λ n. d < n) (sym many_blocks) (live_below first.world.blocks d last_live);
        read = read;
        tail = tail.from;
        filled = filled_now;
        fresh = fresh;
        held = λ a b h. link_held c.root first.world d stage blocks mid.world tail.making a b (ap (λ xs. holds (links (d ∷ xs)) a b) (sym tail.blocks_are) ∙ h);
      }
        where
          many_blocks : length mid.world.blocks ≡ length first.world.blocks
          many_blocks = tail.making.valid.raw.sized.each_block ∙ (ap (λ g. g.blocks) tail.making.geometry ∙ sym valid.raw.sized.each_block)

      becomes : Becomes mid.world c.root d (filled (block_len mid.world.geometry) bytes) after (with_at (last.file.name ∷ []) (a_file (chain_bytes (last.last.before ++ relinked (part_link part) cl ∷ tail.links))) (chain_tree mid.world c.root))
      becomes = the_file_grows mid.world c.root last.chains last.front last.file last.back last.last.before (part_link part) (filled (block_len mid.world.geometry) bytes) cl tail.links tail.making.valid.raw.sized under_mid lengthens

      -- it has the bytes of before, and these
      bytes_now : chain_bytes (last.last.before ++ relinked (part_link part) cl ∷ tail.links) ≡ chain_bytes last.file.chain ++ x
      bytes_now =
          let front = chain_bytes last.last.before in
          let p = part_in part.cluster in
          flat_map-append (λ l. take l.cluster.used l.cluster.body) last.last.before (relinked (part_link part) cl ∷ tail.links)
          ∙ (ap (λ y. front ++ (y ++ chain_bytes tail.links)) (take-append_seam own (replicate (block_len mid.world.geometry - length bytes) 0))
          ∙ (ap (λ y. front ++ (own ++ y)) (parts_bytes room rest tail.links tail.parts)
          ∙ (ap (λ y. front ++ y) (append_assoc p (take taken x) (drop taken x) ∙ ap (λ y. p ++ y) (take-append-drop taken x))
          ∙ (sym (append_assoc front p x)
          ∙ ap (λ y. y ++ x) (sym (ap chain_bytes last.last.parts ∙ (flat_map-append (λ l. take l.cluster.used l.cluster.body) last.last.before (part_link part ∷ []) ∙ ap (λ y. front ++ y) (append-nil p))))))))

      tree_mid : chain_tree mid.world c.root ≡ tree_under c first
      tree_mid = tree_same c.root first.world d stage blocks mid.world tail.making

      inside : is_inside mid.world c.root (write_by c d bytes) ≡ true
      inside = and_from (is_under mid.world c.root d) true (source_under c.root first.world d stage blocks mid.world tail.making) refl

      primary_mid : c.root < mid.world.geometry.primaries
      primary_mid = primary_now c.root first.world d stage blocks mid.world tail.making

      -- what lives after the write lived before, or is new
      lived : (k : ℕ) → is_free first.world k ≡ true → is_live (written mid.world d bytes) k ≡ true → has_number blocks k ≡ true
      lived k free lives = by_new (has_number blocks k) refl
        where
          by_new : (t : Bool) → has_number blocks k ≡ t → t ≡ true
          by_new true new = refl
          by_new false new = absurd (elim (cases_eq k d) [
            | inl same ↦ clash_free_live first.world k free (subst (λ j. is_live first.world j ≡ true) (sym same) last_live)
            | inr other ↦ clash_free_live first.world k free (was_live c.root first.world d stage blocks mid.world tail.making k new (ap is_some (sym (contents-other mid.world d k (filled (block_len mid.world.geometry) bytes) other)) ∙ lives))
          ])

      pub grow_decided : ◌≡◌ {A = Option FsRefusal} (no_room_in first.world (clusters_more (block_len first.world.geometry) (drop taken x)) (clusters_more (block_len first.world.geometry) (drop taken x))) None
          → Leads mid.world (write_by c d (part_bytes (first_block blocks) (part_in part.cluster ++ take taken x))) (written mid.world d (part_bytes (first_block blocks) (part_in part.cluster ++ take taken x)))
          → Decided c first (ask.Append path x) (written mid.world d (part_bytes (first_block blocks) (part_in part.cluster ++ take taken x))) None_loose
      grow_decided roomy leads = record {
        granted = refused_is ∙ roomy;
        answer = refl;
        valid = leads.valid;
        geometry = leads.geometry ∙ tail.making.geometry;
        others = outside_twice c.root first.world mid.world (written mid.world d bytes) tail.making.others (leads.others c.root primary_mid inside);
        primary = primary_mid;
        chains = after;
        under = becomes.under;
        tree = becomes.tree ∙ (ap (λ p. with_at p (a_file (chain_bytes (last.last.before ++ relinked (part_link part) cl ∷ tail.links))) (chain_tree mid.world c.root)) (sym last.named)
            ∙ (ap (λ y. with_at path (a_file y) (chain_tree mid.world c.root)) (bytes_now ∙ ap (λ z. bytes_in z ++ x) (sym at_path)) ∙ ap (with_at path (a_file (bytes_in (at (tree_under c first) path) ++ x))) tree_mid));
        taken = λ k free lives. more_in last.chains last.front last.file last.back last.among last.last.before (part_link part) last.last.parts cl tail.links k (ap (λ xs. has_number xs k) tail.blocks_are ∙ lived k free lives);
        clean = λ tidy k y named h. inl (pair_named tidy k y named h);
      }
        where
          pair_named : IsTidy kind.Chain first.world c.root → (k y : ℕ) → has_number (chain_blocks after) k ≡ true → holds mid.world.pairs k y ≡ true → holds (chain_pairs after) k y ≡ true
          pair_named tidy k y named h = elim (or_cases (holds first.world.pairs k y) (holds (links (d ∷ blocks)) k y) (sym (tail.making.pairs k y) ∙ h)) [
            | inr new ↦ more_pairs last.chains last.front last.file last.back last.among last.last.before (part_link part) last.last.parts cl tail.links k y (ap (λ xs. holds (links (d ∷ xs)) k y) tail.blocks_are ∙ new)
            | inl old ↦ elim (longer_has last.chains last.front last.file last.back last.among last.last.before (part_link part) last.last.parts cl tail.links k named) [
              | inl was ↦ old_pairs last.chains last.front last.file last.back last.among last.last.before (part_link part) last.last.parts cl tail.links k y
                  (ap (λ o. holds (by_chains o).pairs k y) (sym last.under) ∙ (sym (tidy.pairs k y (ap (λ o. has_number (by_chains o).blocks k) last.under ∙ was)) ∙ old))
              | inr new ↦ absurd (clash_free_live first.world k (tail.making.free k (ap (λ xs. has_number xs k) (sym tail.blocks_are) ∙ new)) (valid.raw.sources k y old))
            ]
          ]

-- ---- the stages of it

-- what the last cluster takes of the bytes, and what is left for further ones
pub record Parted (told : Type 0) (c : Client) (first : DiskView) (path : Path) (x : List ℕ) (part : Part) (len taken : ℕ) (rest : List ℕ) : Type 0 where
  pub last : told → IsLastOf c first path part
  pub valid : told → IsValid first.world
  pub primary : told → c.root < first.world.geometry.primaries
  pub some : 0 < length x
  pub taken_is : taken ≡ min (bytes_room (block_len_of (held.part_cluster part.cluster)) - length (part_in part.cluster)) (length x)
  pub len_is : len ≡ block_len_of (held.part_cluster part.cluster)
  pub rest_is : rest ≡ drop taken x

module _ {told : Type 0} {c : Client} {first : DiskView} {path : Path} {x : List ℕ} {part : Part} {len taken : ℕ} {rest : List ℕ} (p : Parted told c first path x part len taken rest) where
  abbrev a : ShellAsk
  a = ask.Append path x

  abbrev many : ℕ
  many = clusters_more (block_len first.world.geometry) (drop taken x)

  taken_there : told → taken ≡ min (bytes_room (block_len first.world.geometry) - length (part_in part.cluster)) (length x)
  taken_there t = p.taken_is ∙ ap (λ n. min (bytes_room n - length (part_in part.cluster)) (length x)) (p.last t).last.read.read.whole

  room_same : told → no_room_in first.world (clusters_more len rest) (clusters_more len rest) ≡ no_room_in first.world many many
  room_same t = ap (λ n. no_room_in first.world n n) (ap (λ n. clusters_more n rest) (p.len_is ∙ (p.last t).last.read.read.whole) ∙ ap (clusters_more (block_len first.world.geometry)) p.rest_is)

  -- want of room refuses it
  pub grow_refused : {X : Type 0} (new : DiskView) (e : FsRefusal) → (told → e ≢ no.Device → no_room_in first.world (clusters_more len rest) (clusters_more len rest) ≡ Some e) → (told → e ≢ no.Device → new.world ≡ first.world)
      → Runs {X = X} told first new (IsAside c.root first.world) (Err e) → Ends told c first new (ask.Append path x) (Err e)
  grow_refused new e full same runs = refused_ends told c first new a e
      (λ t ne. refused_is c first path x part (p.last t) (p.valid t) (p.primary t) taken (taken_there t) p.some ∙ (sym (room_same t) ∙ full t ne)) same (aside_runs told c first new a (Err e) runs)

  -- the write of the last cluster, once the further ones stand
  pub grow_writes : {mid : DiskView} {blocks : List ℕ} → AreLinkable blocks → (told → NewTail c first mid part.block rest blocks) → (told → ◌≡◌ {A = Option FsRefusal} (no_room_in first.world (clusters_more len rest) (clusters_more len rest)) None) → Runs told first mid (IsAside c.root first.world) (Ok blocks)
      → Writing told c first mid (ask.Append path x) part.block (part_bytes (first_block blocks) (part_in part.cluster ++ take taken x)) (λ w. Decided c first (ask.Append path x) w None_loose)
  grow_writes {mid} {blocks} linkable made room runs =
      let tail : told → NewTail c first mid part.block (drop taken x) blocks = λ t. subst (λ y. NewTail c first mid part.block y blocks) p.rest_is (made t) in
      record {
        so_far = runs_as told first mid (IsEitherTree (mounted_by c) first a) blocks tt (aside_runs told c first mid a (Ok blocks) runs);
        kept = λ t. subst (λ n. KeepsRoom (need n n) first.world mid.world) (sym (more_is c first path x part (p.last t) (p.valid t) (p.primary t) taken (taken_there t) p.some)) (tail_takes c first mid part.block (drop taken x) blocks (p.valid t) (tail t));
        may = λ t. (tail t).may part.block (p.last t).last.may;
        fits = λ t. grow_fits c first path x part (p.last t) (p.valid t) (p.primary t) taken (taken_there t) p.some mid blocks linkable (tail t);
        leads = λ t. grow_decided c first path x part (p.last t) (p.valid t) (p.primary t) taken (taken_there t) p.some mid blocks linkable (tail t) (sym (room_same t) ∙ room t);
        still = λ t. aside_either c first a mid.world (aside_now c.root first.world part.block (stage c first path x part (p.last t) (p.valid t) (p.primary t)) blocks mid.world (tail t).making);
        either = λ t w decided. decided_either c first a w None_loose decided;
      }
