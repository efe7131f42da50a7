-- The tree under a mounted root, as it is read.
use Rattle.std.proofs.Common.{◌≡◌, ℕ, ◌≤◌, ◌<◌, true, cond, ◌==◌, List, [], ◌∷◌, ◌++◌, length, refl, sym, ◌∙◌, ap, subst, arith, inl, append_assoc, Option, Some, None}
use Rattle.chain_reading.proofs.Common.{and_from, or_left, or_right, eq-eqb, when, first_of, lost_on_the_way, missing, no_file, no_dir, Taken, Free, slice_get, block_len, World, holds, is_pair, Name, Path, Entries, nothing, a_file, a_dir, entry, at, is_there, is_file, is_dir, Entry, entry_names, Link, ChainFile, blocks_of, links, is_filled, chain_bytes, Chains, chains_under, as_tree, tree_of_files, chain_tree, bytes_room, FsRefusal, ways_lead_on, found, held_left, held_right, DiskView, state_of, IsDiskSound, Stays, Client, shown_at, MayWrite, Looked, cluster_of, dir_cluster, entries_in, IsFrom, IsChainFile, PlacedEntry, AreFiles, placed, AreEntries, AreOthers, file_names, file_pairs, Page, IsFileAhead, IsDirectoryAhead, HasDirectory, MayAsk, tree_under, placed_names, no_way, IsLookupTaken, IsNameFound, IsFileOf, no_file_found, no_directory_found}
use Rattle.std.proofs.Common.{get_or, not}
use Rattle.chain_reading.specs.declared.finding.Lookup.{Lookup}
use Rattle.tsd_model.specs.Records.{kept_of}
use Rattle.tsd_model.specs.Sessions.{level_le}
use Rattle.tsd_model.specs.Attained.{record_level, shown_level}
use Rattle.tsd_model.specs.declared.caps.Shown.TheVariants.{Nothing, Key}
use Rattle.tsd_model.specs.declared.requests.Level.TheVariants as level
use Rattle.disk_laws.proofs.AttainedLaws.{attained_where}
use Rattle.fs_trees.specs.declared.refusal.FsRefusal.TheVariants as no
use Rattle.chain_reading.proofs.ChainedLaws.{files_split, entries_split}
use Rattle.chain_reading.proofs.ChangeLaws.{HasChains, has_chains, right_is, placed-append, file_pairs-append}
use Rattle.chain_reading.proofs.FileLaws.{tree_has, tree_lacks, others-append}
use Rattle.chain_reading.proofs.WalkLaws.{link_of}
use Rattle.chain_reading.proofs.ListLaws.{names_placed, names-append, own_entries, entries_unique}
use Rattle.tsd_model.proofs.ValueLaws.{some_same}

-- ---- the root

-- what the root shows may be written
pub root_may : (told : Type 0) (c : Client) (v : DiskView) → told → MayAsk told c v → IsDiskSound v → MayWrite c v c.root
root_may told c v t may sound = record {
  number = may.ready.number;
  begun = may.ready.begun;
  live = (may.valid t).valid.raw.primaries c.root primary;
  attains = (attained_where v.world v.sessions c.session c.root (shown_at c c.root) level.Write refl).1 (inl (primary, shown));
}
  where
    primary : c.root < v.world.geometry.primaries
    primary = subst (λ n. c.root < n) (ap (λ x. x.primaries) (sym sound.geometry)) may.ready.primary

    shown : level_le level.Write (shown_level v.world c.root (shown_at c c.root)) ≡ true
    shown =
        ap (λ s. level_le level.Write (shown_level v.world c.root s)) (ap (λ t. cond t (Key c.cap) Nothing) (eq-eqb c.root c.root refl))
        ∙ ap (level_le level.Write) (ap (λ rs. record_level (slice_get rs c.root) (kept_of v.world.version c.cap)) sound.records
        ∙ (ap (λ n. record_level (slice_get v.records c.root) (kept_of n c.cap)) sound.version ∙ may.ready.attains))

-- the chains under the root, and the directory ahead
pub record IsKnown (c : Client) (v : DiskView) : Type 0 where
  pub chains : Chains
  pub under : chains_under v.world c.root ≡ Some chains
  pub has : HasChains v.world c.root chains
  pub ahead : IsDirectoryAhead c v chains.directory has.listing.entries

pub is_known : (told : Type 0) (c : Client) (v : DiskView) → told → MayAsk told c v → IsDiskSound v → IsKnown c v
is_known told c v t may sound =
    let f = found v.world c.root (may.tree t) in
    let has = has_chains v.world c.root f.chains f.under in
    record {
      chains = f.chains;
      under = f.under;
      has = has;
      ahead = record {
        ahead = record {
          rest = has.directory.links;
          held = λ x y h. (right_is v.world f.chains has.right).held x y (held_left (links (blocks_of f.chains.directory)) (file_pairs f.chains.files) x y h);
          may = root_may told c v t may sound;
        };
        entries = has.listing.in_order;
        short = has.directory.short;
      };
    }

pub has_directory : (c : Client) (v : DiskView) → IsKnown c v → HasDirectory c v
has_directory c v known = (known.chains.directory, known.has.listing.entries, known.ahead)

pub tree_known : (c : Client) (v : DiskView) (known : IsKnown c v) → tree_under c v ≡ a_dir tt (tree_of_files known.chains.files)
tree_known c v known = ap as_tree known.under

-- ---- the files of entries

pub names_of_files : (w : World) (ps : List PlacedEntry) (fs : List ChainFile) → AreFiles w ps fs → file_names fs ≡ placed_names ps
names_of_files w [] [] are = refl
names_of_files w [] (f ∷ fs) are = absurd are
names_of_files w (p ∷ ps) [] are = absurd are
names_of_files w (p ∷ ps) (f ∷ fs) are = ap (λ n. n ∷ file_names fs) are.0.name ∙ ap (λ ns. p.1.name ∷ ns) (names_of_files w ps fs are.1)

-- one file among them
record IsAmong (w : World) (b : ℕ) (e : Entry) (n : Name) (fs : List ChainFile) : Type 0 where
  front : List ChainFile
  file : ChainFile
  back : List ChainFile
  parts : fs ≡ front ++ (file ∷ back)
  is : IsChainFile w b e file
  others : AreOthers n (file_names front)

-- an entry's file, where the entry is the first of its name
file_among : (w : World) (ps qs : List PlacedEntry) (b : ℕ) (e : Entry) (n : Name) (fs : List ChainFile) → AreFiles w (ps ++ ((b, e) ∷ qs)) fs → AreOthers n (placed_names ps) → IsAmong w b e n fs
file_among w ps qs b e n fs are others =
    let split = files_split w ps ((b, e) ∷ qs) fs are in
    by_back split.0 split.1 split.2 split.3 split.4
  where
    by_back : (gs hs : List ChainFile) → fs ≡ gs ++ hs → AreFiles w ps gs → AreFiles w ((b, e) ∷ qs) hs → IsAmong w b e n fs
    by_back gs [] all first rest = absurd rest
    by_back gs (h ∷ hs) all first rest = record { front = gs; file = h; back = hs; parts = all; is = rest.0; others = subst (AreOthers n) (sym (names_of_files w ps gs first)) others }

module _ (c : Client) (old new : DiskView) (known : IsKnown c old) (seen : Looked old new) (n : Name) where
  -- no file has the name
  pub free_name : AreOthers n (placed_names known.has.listing.entries) → entry n (tree_of_files known.chains.files) ≡ nothing
  free_name others = tree_lacks n known.chains.files (subst (AreOthers n) (sym (names_of_files old.world known.has.listing.entries known.chains.files known.has.listing.files)) others)

  module _ (page : Page) (position first : ℕ) (taken : IsLookupTaken c new n known.chains.directory page position first) where
    -- all entries, by the one that was found
    in_parts : (later : List PlacedEntry) → known.has.listing.entries ≡ taken.earlier ++ (placed page.block (entries_in page.cluster) ++ later)
        → known.has.listing.entries ≡ (taken.earlier ++ placed page.block taken.entry.front) ++ ((page.block, taken.entry.entry) ∷ (placed page.block taken.entry.back ++ later))
    in_parts later all =
        all ∙ (ap (λ xs. taken.earlier ++ (placed page.block xs ++ later)) taken.entry.parts
        ∙ (ap (λ xs. taken.earlier ++ (xs ++ later)) (placed-append page.block taken.entry.front (taken.entry.entry ∷ taken.entry.back))
        ∙ (ap (λ xs. taken.earlier ++ xs) (append_assoc (placed page.block taken.entry.front) (placed page.block (taken.entry.entry ∷ taken.entry.back)) later)
        ∙ sym (append_assoc taken.earlier (placed page.block taken.entry.front) ((page.block, taken.entry.entry) ∷ (placed page.block taken.entry.back ++ later))))))

    others_before : AreOthers n (placed_names (taken.earlier ++ placed page.block taken.entry.front))
    others_before = subst (AreOthers n) (sym (names-append taken.earlier (placed page.block taken.entry.front) ∙ ap (λ ns. placed_names taken.earlier ++ ns) (names_placed page.block taken.entry.front)))
        (others-append n (placed_names taken.earlier) (entry_names taken.entry.front) taken.others taken.entry.others)

    pub entry_file : (f : ChainFile) × (fs : List ChainFile) × (gs : List ChainFile) × (known.chains.files ≡ fs ++ (f ∷ gs)) × IsChainFile old.world page.block taken.entry.entry f × AreOthers n (file_names fs)
    entry_file =
        let len = block_len old.world.geometry in
        let all : AreEntries len (taken.before ++ (link_of page.block (cluster_of (dir_cluster page.cluster)) ∷ taken.behind)) known.has.listing.entries = subst (λ xs. AreEntries len xs known.has.listing.entries) taken.parts known.has.listing.in_order in
        let split = entries_split len taken.before (link_of page.block (cluster_of (dir_cluster page.cluster)) ∷ taken.behind) known.has.listing.entries all in
        let same_len : len ≡ block_len new.world.geometry = ap (λ w. block_len w.geometry) (sym seen.world) in
        let earlier : split.0 ≡ taken.earlier = entries_unique len taken.before split.0 taken.earlier split.3 (subst (λ k. AreEntries k taken.before taken.earlier) (sym same_len) taken.entries) in
        let own = own_entries new.world page.block len (cluster_of (dir_cluster page.cluster)) (entries_in page.cluster) same_len taken.read.read.says taken.read.entries in
        let here : split.4.0 ≡ entries_in page.cluster = some_same (sym split.4.2 ∙ own) in
        let whole : known.has.listing.entries ≡ taken.earlier ++ (placed page.block (entries_in page.cluster) ++ split.4.1) =
        split.2 ∙ (ap (λ xs. xs ++ split.1) earlier ∙ (ap (λ xs. taken.earlier ++ xs) split.4.3 ∙ ap (λ xs. taken.earlier ++ (placed page.block xs ++ split.4.1)) here)) in
        let among = file_among old.world (taken.earlier ++ placed page.block taken.entry.front) (placed page.block taken.entry.back ++ split.4.1) page.block taken.entry.entry n known.chains.files
        (subst (λ ps. AreFiles old.world ps known.chains.files) (in_parts split.4.1 whole) known.has.listing.files) others_before in
        (among.file, among.front, among.back, among.parts, among.is, among.others)

    -- the name stands for the file
    pub taken_name : entry n (tree_of_files known.chains.files) ≡ a_file (chain_bytes entry_file.0.chain)
    taken_name =
        let f = entry_file.0 in
        let name : f.name ≡ n = entry_file.4.name ∙ taken.entry.name in
        ap (entry n) (ap tree_of_files entry_file.3)
        ∙ (ap (λ m. entry m (tree_of_files (entry_file.1 ++ (f ∷ entry_file.2)))) (sym name)
        ∙ tree_has entry_file.1 f entry_file.2 (subst (λ m. AreOthers m (file_names entry_file.1)) (sym name) entry_file.5))

    -- its pairs are held
    file_held : (x y : ℕ) → holds (links (page.block ∷ blocks_of entry_file.0.chain)) x y ≡ true → holds old.world.pairs x y ≡ true
    file_held x y h =
        let f = entry_file.0 in
        let own : holds (links (f.from ∷ blocks_of f.chain)) x y ≡ true = ap (λ k. holds (links (k ∷ blocks_of f.chain)) x y) entry_file.4.from ∙ h in
        (right_is old.world known.chains known.has.right).held x y (held_right (links (blocks_of known.chains.directory)) (file_pairs known.chains.files) x y
        (ap (λ xs. holds (file_pairs xs) x y) entry_file.3 ∙ (ap (λ xs. holds xs x y) (file_pairs-append entry_file.1 (f ∷ entry_file.2))
        ∙ held_right (file_pairs entry_file.1) (file_pairs (f ∷ entry_file.2)) x y (held_left (links (f.from ∷ blocks_of f.chain)) (file_pairs entry_file.2) x y own))))

    -- it can be read from its first block
    pub file_ahead : Stays old new → MayWrite c old c.root → IsFileAhead c new first entry_file.0.chain
    file_ahead stays may = by_chain entry_file.0.chain refl
      where
        by_chain : (ls : List Link) → entry_file.0.chain ≡ ls → IsFileAhead c new first entry_file.0.chain
        by_chain [] e = absurd (no_links (subst (IsFrom old.world (Some taken.entry.entry.block)) e entry_file.4.chain.links))
          where
            no_links : Some taken.entry.entry.block ≡ None → ⊥
            no_links h = cc
        by_chain (l ∷ ls) e =
            let f = entry_file.0 in
            let is : IsFrom old.world (Some taken.entry.entry.block) (l ∷ ls) = subst (IsFrom old.world (Some taken.entry.entry.block)) e entry_file.4.chain.links in
            let here : l.block ≡ first = sym (some_same is.0) ∙ taken.entry.block in
            let pair : holds old.world.pairs page.block first ≡ true = file_held page.block first
            (ap (λ xs. holds (links (page.block ∷ blocks_of xs)) page.block first) e ∙ or_left (is_pair page.block first (page.block, l.block)) _ (and_from (page.block == page.block) (l.block == first) (eq-eqb page.block page.block refl) (eq-eqb l.block first here))) in
            let new_pair : holds new.world.pairs page.block first ≡ true = ap (λ w. holds w.pairs page.block first) seen.world ∙ pair in
            record {
              ahead = record {
                rest = subst (λ w. IsFrom w (Some first) f.chain) (sym seen.world) (subst (λ k. IsFrom old.world (Some k) f.chain) taken.entry.block entry_file.4.chain.links);
                held = λ x y h. ap (λ w. holds w.pairs x y) seen.world ∙ file_held x y (later_held x y e h);
                may = record {
                  number = may.number;
                  begun = stays.sessions c.session ∙ may.begun;
                  live = seen.valid.valid.raw.targets page.block first new_pair;
                  attains = ways_lead_on (state_of new) c.session page.block first (shown_at c first) (seen.valid.valid.raw.apart page.block first new_pair) new_pair taken.held;
                };
              };
              filled = filled_in e;
              short = subst (λ w. length f.chain ≤ w.geometry.blocks) (sym seen.world) entry_file.4.chain.short;
            }
          where
            later_held : (x y : ℕ) → entry_file.0.chain ≡ l ∷ ls → holds (links (blocks_of entry_file.0.chain)) x y ≡ true → holds (links (page.block ∷ blocks_of entry_file.0.chain)) x y ≡ true
            later_held x y e h = ap (λ xs. holds (links (page.block ∷ blocks_of xs)) x y) e ∙ or_right (is_pair x y (page.block, l.block)) _ (ap (λ xs. holds (links (blocks_of xs)) x y) (sym e) ∙ h)

            filled_in : entry_file.0.chain ≡ l ∷ ls → is_filled (bytes_room (block_len new.world.geometry)) entry_file.0.chain ≡ true
            filled_in e = ap (λ w. is_filled (bytes_room (block_len w.geometry)) entry_file.0.chain) seen.world ∙ entry_file.4.filled

-- ---- paths

pub path_of_one : (p : Path) (x : Name) → 1 ≤ length p → length p < 2 → x ≡ get_or p 0 x → p ≡ x ∷ []
path_of_one [] x a b e = absurd (omega arith)
path_of_one (y ∷ []) x a b e = ap (λ z. z ∷ []) (sym e)
path_of_one (y ∷ z ∷ p) x a b e = absurd (omega arith)

pub path_of_more : (p : Path) (x : Name) → 1 ≤ length p → x ≡ get_or p 0 x → (ns : Path) × (p ≡ x ∷ ns)
path_of_more [] x a e = absurd (omega arith)
path_of_more (y ∷ p) x a e = (p, ap (λ z. z ∷ p) (sym e))

pub path_of_two : (p : Path) (x : Name) → 2 ≤ length p → x ≡ get_or p 0 x → (m : Name) × (ns : Path) × (p ≡ x ∷ m ∷ ns)
path_of_two [] x a e = absurd (omega arith)
path_of_two (y ∷ []) x a e = absurd (omega arith)
path_of_two (y ∷ m ∷ p) x a e = (m, p, ap (λ z. z ∷ m ∷ p) (sym e))

pub no_path : (p : Path) → length p < 1 → p ≡ []
no_path [] h = refl
no_path (x ∷ p) h = absurd (omega arith)

-- ---- refusals, by what the first name is

module _ (es : Entries (Unit {0}) (List ℕ)) (n : Name) where
  pub taken_found : (x : List ℕ) → entry n es ≡ a_file x → ◌≡◌ {A = Option FsRefusal} (no_file_found (a_dir tt es) (n ∷ [])) None
  taken_found x e = ap (λ y. first_of (None ∷ when (not (is_there y)) no.NoEntry ∷ when (is_dir y) no.IsDir ∷ [])) e

  pub free_refused : entry n es ≡ nothing → no_file_found (a_dir tt es) (n ∷ []) ≡ Some no.NoEntry
  free_refused e = ap (λ y. first_of (None ∷ when (not (is_there y)) no.NoEntry ∷ when (is_dir y) no.IsDir ∷ [])) e

  pub taken_lost : (m : Name) (ns : Path) (x : List ℕ) (rest : List (Option FsRefusal)) → entry n es ≡ a_file x → first_of (lost_on_the_way (a_dir tt es) (n ∷ m ∷ ns) ∷ rest) ≡ Some no.NotDir
  taken_lost m ns x rest e = ap (λ y. first_of (lost_on_the_way y (m ∷ ns) ∷ rest)) e

  pub free_lost : (m : Name) (ns : Path) (rest : List (Option FsRefusal)) → entry n es ≡ nothing → first_of (lost_on_the_way (a_dir tt es) (n ∷ m ∷ ns) ∷ rest) ≡ Some no.NoEntry
  free_lost m ns rest e = ap (λ y. first_of (lost_on_the_way y (m ∷ ns) ∷ rest)) e

  pub taken_no_dir : (ns : Path) (x : List ℕ) → entry n es ≡ a_file x → no_directory_found (a_dir tt es) (n ∷ ns) ≡ Some no.NotDir
  taken_no_dir [] x e = ap (λ y. first_of (None ∷ when (not (is_there y)) no.NoEntry ∷ when (is_file y) no.NotDir ∷ [])) e
  taken_no_dir (m ∷ ns) x e = ap (λ y. first_of (lost_on_the_way y (m ∷ ns) ∷ missing (a_dir tt es) (n ∷ m ∷ ns) ∷ no_dir (a_dir tt es) (n ∷ m ∷ ns) ∷ [])) e

  pub free_no_dir : (ns : Path) → entry n es ≡ nothing → no_directory_found (a_dir tt es) (n ∷ ns) ≡ Some no.NoEntry
  free_no_dir [] e = ap (λ y. first_of (None ∷ when (not (is_there y)) no.NoEntry ∷ when (is_file y) no.NotDir ∷ [])) e
  free_no_dir (m ∷ ns) e = ap (λ y. first_of (lost_on_the_way y (m ∷ ns) ∷ missing (a_dir tt es) (n ∷ m ∷ ns) ∷ no_dir (a_dir tt es) (n ∷ m ∷ ns) ∷ [])) e

-- ---- what looking a name up found

module _ (told : Type 0) (c : Client) (old new : DiskView) (t : told) (may : MayAsk told c old) (sound : IsDiskSound old) (seen : Looked old new) (stays : Stays old new) (n : Name) (position : Lookup) (found : (ls : List Link) (ps : List PlacedEntry) → IsDirectoryAhead c old ls ps → IsNameFound c new n ls ps position) where
  the_known : IsKnown c old
  the_known = is_known told c old t may sound

  pub place_lost : (m : Name) (ns : Path) → no_file_found (tree_under c old) (n ∷ m ∷ ns) ≡ Some (no_way position)
  place_lost m ns = by_place position (found the_known.chains.directory the_known.has.listing.entries the_known.ahead)
    where
      by_place : (p : Lookup) → IsNameFound c new n the_known.chains.directory the_known.has.listing.entries p → no_file_found (tree_under c old) (n ∷ m ∷ ns) ≡ Some (no_way p)
      by_place (Taken page position first) taken =
          ap (λ x. no_file_found x (n ∷ m ∷ ns)) (tree_known c old the_known)
          ∙ taken_lost (tree_of_files the_known.chains.files) n m ns (chain_bytes (entry_file c old new the_known seen n page position first taken).0.chain) (missing (a_dir tt (tree_of_files the_known.chains.files)) (n ∷ m ∷ ns) ∷ no_file (a_dir tt (tree_of_files the_known.chains.files)) (n ∷ m ∷ ns) ∷ []) (taken_name c old new the_known seen n page position first taken)
      by_place (Free page count) free =
          ap (λ x. no_file_found x (n ∷ m ∷ ns)) (tree_known c old the_known)
          ∙ free_lost (tree_of_files the_known.chains.files) n m ns (missing (a_dir tt (tree_of_files the_known.chains.files)) (n ∷ m ∷ ns) ∷ no_file (a_dir tt (tree_of_files the_known.chains.files)) (n ∷ m ∷ ns) ∷ []) (free_name c old new the_known seen n free.0)

  pub place_no_dir : (ns : Path) → no_directory_found (tree_under c old) (n ∷ ns) ≡ Some (no_way position)
  place_no_dir ns = by_place position (found the_known.chains.directory the_known.has.listing.entries the_known.ahead)
    where
      by_place : (p : Lookup) → IsNameFound c new n the_known.chains.directory the_known.has.listing.entries p → no_directory_found (tree_under c old) (n ∷ ns) ≡ Some (no_way p)
      by_place (Taken page position first) taken =
          ap (λ x. no_directory_found x (n ∷ ns)) (tree_known c old the_known)
          ∙ taken_no_dir (tree_of_files the_known.chains.files) n ns (chain_bytes (entry_file c old new the_known seen n page position first taken).0.chain) (taken_name c old new the_known seen n page position first taken)
      by_place (Free page count) free = ap (λ x. no_directory_found x (n ∷ ns)) (tree_known c old the_known) ∙ free_no_dir (tree_of_files the_known.chains.files) n ns (free_name c old new the_known seen n free.0)

-- a name that was found, and one that wasn't
module _ (told : Type 0) (c : Client) (old new : DiskView) (t : told) (may : MayAsk told c old) (sound : IsDiskSound old) (seen : Looked old new) (stays : Stays old new) (n : Name) where
  pub no_name : (page : Page) (count : ℕ) → ((ls : List Link) (ps : List PlacedEntry) → IsDirectoryAhead c old ls ps → IsNameFound c new n ls ps (Free page count)) → no_file_found (tree_under c old) (n ∷ []) ≡ Some no.NoEntry
  no_name page count found =
      let known = is_known told c old t may sound in
      ap (λ x. no_file_found x (n ∷ [])) (tree_known c old known) ∙ free_refused (tree_of_files known.chains.files) n (free_name c old new known seen n (found known.chains.directory known.has.listing.entries known.ahead).0)

  module _ (page : Page) (position first : ℕ) (found : (ls : List Link) (ps : List PlacedEntry) → IsDirectoryAhead c old ls ps → IsNameFound c new n ls ps (Taken page position first)) where
    pub a_name : ◌≡◌ {A = Option FsRefusal} (no_file_found (tree_under c old) (n ∷ [])) None
    a_name =
        let known = is_known told c old t may sound in
        let taken = found known.chains.directory known.has.listing.entries known.ahead in
        ap (λ x. no_file_found x (n ∷ [])) (tree_known c old known) ∙ taken_found (tree_of_files known.chains.files) n (chain_bytes (entry_file c old new known seen n page position first taken).0.chain) (taken_name c old new known seen n page position first taken)

    pub a_file_there : IsFileOf c new (n ∷ []) first
    a_file_there =
        let known = is_known told c old t may sound in
        let taken = found known.chains.directory known.has.listing.entries known.ahead in
        let here = entry_file c old new known seen n page position first taken in
        record {
          file = (entry_file c old new known seen n page position first taken).0;
          ahead = file_ahead c old new known seen n page position first taken stays (root_may told c old t may sound);
          there = ap (λ w. at (chain_tree w c.root) (n ∷ [])) seen.world ∙ (ap (λ x. at x (n ∷ [])) (tree_known c old known) ∙ taken_name c old new known seen n page position first taken);
          chains = known.chains;
          under = ap (λ w. chains_under w c.root) seen.world ∙ known.under;
          front = here.1;
          back = here.2;
          among = here.3;
          named = ap (λ m. m ∷ []) (sym (here.4.name ∙ taken.entry.name));
        }

-- `/` is a directory
pub root_is_dir : (told : Type 0) (c : Client) (v : DiskView) → told → MayAsk told c v → IsDiskSound v → no_file_found (tree_under c v) [] ≡ Some no.IsDir
root_is_dir told c v t may sound = ap (λ x. no_file_found x []) (tree_known c v (is_known told c v t may sound))

pub root_is_listed : (told : Type 0) (c : Client) (v : DiskView) → told → MayAsk told c v → IsDiskSound v → ◌≡◌ {A = Option FsRefusal} (no_directory_found (tree_under c v) []) None
root_is_listed told c v t may sound = ap (λ x. no_directory_found x []) (tree_known c v (is_known told c v t may sound))
