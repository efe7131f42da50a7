-- What was found of a name, for the file that is put there, and what refuses that.
use Rattle.std.proofs.Common.{◌≡◌, ℕ, suc, ◌+◌, ◌<◌, ◌≤◌, true, false, not, cond, ◌&&◌, ◌||◌, ◌==◌, nat_lt, nat_le, List, [], ◌∷◌, ◌++◌, length, refl, sym, ◌∙◌, ap, subst, arith, Option, Some}
use Rattle.chain_changes.proofs.Common.{and_parts, or_left, or_right, nat_tests, take, drop, slice_index_or, option_map_or, list_any, list_all, block_len, free_count, has_number, Name, Path, path_max, is_name, is_path, nothing, a_file, entry, is_there, names, Entry, entries_room, directory_bytes, ChainFile, chain_bytes, Chains, chains_under, as_tree, has_room, names_max, tree_of_files, tree_at, need, clusters_for, chain_need, need_of, when, first_of, no_room, refusal, ShellAsk, FsRefusal, length-entries, any-append, first_in, DiskView, IsValidNow, FilesView, need_on, Client, Looked, no_room_in, refused_on, lookup_refusal, cluster_of, block_len_of, dir_cluster, entries_in, listed_at, PlacedEntry, AreOthers, file_names, HasChains, has_chains, right_is, tree_lacks, first_block, Page, Taken, Free, tree_under, mounted_by, placed_names, page_link, is_roomy, IsEntry, IsLookupTaken, IsRoomiest, IsKnown, names_of_files, entry_file, taken_name, IsLookupOf}
use Rattle.fs_trees.specs.declared.ask.ShellAsk.TheVariants as ask
use Rattle.fs_trees.specs.declared.ask.ShellKind.TheVariants as kind
use Rattle.fs_trees.specs.declared.refusal.FsRefusal.TheVariants as no
use Rattle.fs_laws.proofs.ChainLaws.{found}
use Rattle.chain_changes.proofs.PutNeedLaws.{put_lost, put_over, put_new, need_over, need_new, names_counted}
use Rattle.chain_changes.proofs.PuttingLaws.{Putting}
use Rattle.tsd_model.proofs.ValueLaws.{some_same}

-- ---- the first blocks of a chain

pub first_of_all : (bs : List ℕ) → 0 < length bs → first_block (drop 0 bs) ≡ Some (slice_index_or bs 0 0)
first_of_all [] h = absurd (omega arith)
first_of_all (b ∷ bs) h = refl

pub none_dropped : (bs : List ℕ) → drop 0 bs ≡ bs
none_dropped [] = refl
none_dropped (b ∷ bs) = refl

pub second_of_all : (bs : List ℕ) → 1 < length bs → first_block (drop 1 bs) ≡ Some (slice_index_or bs 1 0)
second_of_all [] h = absurd (omega arith)
second_of_all (b ∷ []) h = absurd (omega arith)
second_of_all (b ∷ d ∷ bs) h = refl

pub first_and_rest : (bs : List ℕ) → 0 < length bs → bs ≡ slice_index_or bs 0 0 ∷ drop 1 bs
first_and_rest [] h = absurd (omega arith)
first_and_rest (b ∷ []) h = refl
first_and_rest (b ∷ d ∷ bs) h = refl

pub first_there : (bs : List ℕ) → 0 < length bs → has_number bs (slice_index_or bs 0 0) ≡ true
first_there [] h = absurd (omega arith)
first_there (b ∷ bs) h = first_in b bs

pub second_there : (bs : List ℕ) → 1 < length bs → has_number bs (slice_index_or bs 1 0) ≡ true
second_there [] h = absurd (omega arith)
second_there (b ∷ []) h = absurd (omega arith)
second_there (b ∷ d ∷ bs) h = or_right (b == d) _ (first_in d bs)

-- ---- an entry in a list

pub listed_over : (es : List Entry) (e new : Entry) (fs : List Entry) → listed_at (length es) new (es ++ (e ∷ fs)) ≡ es ++ (new ∷ fs)
listed_over [] e new [] = refl
listed_over [] e new (f ∷ fs) = refl
listed_over (d ∷ es) e new fs =
    let more : suc (length es) + 1 ≡ suc (length es + 1) = omega arith in
    ap (λ k. take (suc (length es)) (d ∷ (es ++ (e ∷ fs))) ++ new ∷ drop k (d ∷ (es ++ (e ∷ fs)))) more ∙ ap (λ xs. d ∷ xs) (listed_over es e new fs)

pub listed_behind : (es : List Entry) (new : Entry) → listed_at (length es) new es ≡ es ++ (new ∷ [])
listed_behind [] new = refl
listed_behind (d ∷ es) new =
    let more : suc (length es) + 1 ≡ suc (length es + 1) = omega arith in
    ap (λ k. take (suc (length es)) (d ∷ es) ++ new ∷ drop k (d ∷ es)) more ∙ ap (λ xs. d ∷ xs) (listed_behind es new)

-- how many entries a cluster has
pub entries_used : (page : Page) → length (entries_in page.cluster) ≡ (cluster_of (dir_cluster page.cluster)).used
entries_used page = length-entries (cluster_of (dir_cluster page.cluster)).used (cluster_of (dir_cluster page.cluster)).body

-- the bytes with an entry in place of another, or behind all
pub set_bytes : (next : Option ℕ) (n : Name) (b : ℕ) (es : List Entry) (position first : ℕ) (at : IsEntry n es position first) → directory_bytes next (listed_at position (record { name = n; block = b }) es) ≡ directory_bytes next (at.front ++ (record { name = n; block = b } ∷ at.back))
set_bytes next n b es position first at =
    let new : Entry = record { name = n; block = b } in
    ap (directory_bytes next) (ap (listed_at position new) at.parts ∙ (ap (λ k. listed_at k new (at.front ++ (at.entry ∷ at.back))) (sym at.count) ∙ listed_over at.front at.entry new at.back))

pub add_bytes : (next : Option ℕ) (n : Name) (b : ℕ) (es : List Entry) (position : ℕ) → position ≡ length es → directory_bytes next (listed_at position (record { name = n; block = b }) es) ≡ directory_bytes next (es ++ (record { name = n; block = b } ∷ []))
add_bytes next n b es position at =
    let new : Entry = record { name = n; block = b } in
    ap (directory_bytes next) (ap (λ k. listed_at k new es) at ∙ listed_behind es new)

-- ---- what was found

module _ (c : Client) (old : DiskView) (n : Name) (page : Page) (valid : IsValidNow old) (tree : is_there (tree_under c old) ≡ true) (primary : c.root < old.world.geometry.primaries) (named : is_name n ≡ true) where
  pub the_taken : (position first : ℕ) (at : IsLookupOf c old n (Taken page position first)) → IsLookupTaken c old n at.chains.directory page position first
  the_taken position first at = let has : HasChains old.world c.root at.chains = has_chains old.world c.root at.chains at.under in at.found has.listing.entries has.listing.in_order

  abbrev pub putting_over : (position first : ℕ) → IsLookupOf c old n (Taken page position first) → Putting c old n page
  putting_over position first at =
      record { valid = valid; tree = tree; primary = primary; named = named; chains = at.chains; under = at.under; before = (the_taken position first at).before; behind = (the_taken position first at).behind; parts = (the_taken position first at).parts; read = (the_taken position first at).read; may = (the_taken position first at).may }

  -- the name stands for a file
  pub over_entry : (known : IsKnown c old) (position first : ℕ) (at : IsLookupOf c old n (Taken page position first)) → (y : List ℕ) × (entry n (tree_of_files at.chains.files) ≡ a_file y)
  over_entry known position first at =
      let same : known.chains ≡ at.chains = some_same (sym known.under ∙ at.under) in
      let taken = subst (λ cs. IsLookupTaken c old n cs.directory page position first) (sym same) (the_taken position first at) in
      let seen : Looked old old = record { world = refl; valid = valid; ways = λ s a h. h; led = ([], refl) } in
      (chain_bytes (entry_file c old old known seen n page position first taken).0.chain, ap (λ cs. entry n (tree_of_files cs.files)) (sym same) ∙ taken_name c old old known seen n page position first taken)

  -- no file has the name
  module _ (count : ℕ) (at : IsLookupOf c old n (Free page count)) where
    has : HasChains old.world c.root at.chains
    has = has_chains old.world c.root at.chains at.under

    pub the_roomiest : IsRoomiest c old at.chains.directory page
    the_roomiest = (at.found has.listing.entries has.listing.in_order).2

    names_are : file_names at.chains.files ≡ placed_names has.listing.entries
    names_are = names_of_files old.world has.listing.entries at.chains.files has.listing.files

    pub new_name : AreOthers n (file_names at.chains.files)
    new_name = subst (AreOthers n) (sym names_are) (at.found has.listing.entries has.listing.in_order).0

    pub new_count : length at.chains.files ≡ count
    new_count = name-length at.chains.files ∙ (ap length names_are ∙ (placed-length has.listing.entries ∙ sym (at.found has.listing.entries has.listing.in_order).1))
      where
        name-length : (fs : List ChainFile) → length fs ≡ length (file_names fs)
        name-length [] = refl
        name-length (f ∷ fs) = ap suc (name-length fs)

        placed-length : (ps : List PlacedEntry) → length (placed_names ps) ≡ length ps
        placed-length [] = refl
        placed-length (p ∷ ps) = ap suc (placed-length ps)

    pub new_entry : entry n (tree_of_files at.chains.files) ≡ nothing
    new_entry = tree_lacks n at.chains.files new_name

    abbrev pub putting_new : Putting c old n page
    putting_new = record { valid = valid; tree = tree; primary = primary; named = named; chains = at.chains; under = at.under; before = the_roomiest.before; behind = the_roomiest.behind; parts = the_roomiest.parts; read = the_roomiest.read; may = the_roomiest.may }

    same_room : entries_room (block_len_of (dir_cluster page.cluster)) ≡ entries_room (block_len old.world.geometry)
    same_room = ap entries_room the_roomiest.read.read.whole

    -- whether the directory has room for one more
    pub roomy_there : length (entries_in page.cluster) < entries_room (block_len_of (dir_cluster page.cluster)) → has_room old.world at.chains ≡ true
    roomy_there less =
        let used = entries_used page in
        let same = same_room in
        let r = the_roomiest in
        let test : is_roomy (block_len old.world.geometry) (page_link page) ≡ true = roomy_test (cluster_of (dir_cluster page.cluster)).used (entries_room (block_len old.world.geometry)) (omega (arith, used, same, less)) in
        ap (list_any (is_roomy (block_len old.world.geometry))) r.parts
        ∙ (any-append (is_roomy (block_len old.world.geometry)) r.before (page_link page ∷ r.behind) ∙ or_right (list_any (is_roomy (block_len old.world.geometry)) r.before) _ (or_left (is_roomy (block_len old.world.geometry) (page_link page)) _ test))
      where
        roomy_test : (a b : ℕ) → a < b → nat_lt a b ≡ true
        roomy_test a b h = grind (arith, nat_tests)

    module _ (full : entries_room (block_len_of (dir_cluster page.cluster)) ≤ length (entries_in page.cluster)) where
      full_page : is_roomy (block_len old.world.geometry) (page_link page) ≡ false
      full_page =
          let used = entries_used page in
          let same = same_room in
          full_test (cluster_of (dir_cluster page.cluster)).used (entries_room (block_len old.world.geometry)) (omega (arith, used, same, full))
        where
          full_test : (a b : ℕ) → b ≤ a → nat_lt a b ≡ false
          full_test a b h = grind (arith, nat_tests)

      pub none_behind : the_roomiest.behind ≡ []
      none_behind = the_roomiest.last full_page

      pub full_there : has_room old.world at.chains ≡ false
      full_there =
          let r = the_roomiest in
          let len = block_len old.world.geometry in
          ap (list_any (is_roomy len)) (r.parts ∙ ap (λ ls. r.before ++ (page_link page ∷ ls)) none_behind)
          ∙ (any-append (is_roomy len) r.before (page_link page ∷ []) ∙ (ap (λ t. t || (is_roomy len (page_link page) || false)) r.full ∙ ap (λ t. t || false) full_page))

-- ---- what refuses it

module _ (c : Client) (old : DiskView) (n : Name) (cs : Chains) (under : chains_under old.world c.root ≡ Some cs) (body : List ℕ) where
  abbrev by_chains_there : Option Chains → Option FsRefusal
  by_chains_there o = refusal kind.Chain old.world.geometry (as_tree o) (free_count old.world) (length old.world.pairs)
      (chain_need old.world.geometry (as_tree o) (option_map_or (has_room old.world) o true) (ask.Put (n ∷ []) body)) (ask.Put (n ∷ []) body)

  refused_there : refused_on (mounted_by c) old (ask.Put (n ∷ []) body) ≡ by_chains_there (Some cs)
  refused_there = ap by_chains_there under

  abbrev many : ℕ
  many = clusters_for old.world.geometry (length body)

  needed_there : need_on (mounted_by c) old (ask.Put (n ∷ []) body) ≡ chain_need old.world.geometry (as_tree (Some cs)) (has_room old.world cs) (ask.Put (n ∷ []) body)
  needed_there = ap (λ o. chain_need old.world.geometry (as_tree o) (option_map_or (has_room old.world) o true) (ask.Put (n ∷ []) body)) under

  -- what it needs
  pub needed_over : (y : List ℕ) → entry n (tree_of_files cs.files) ≡ a_file y → need_on (mounted_by c) old (ask.Put (n ∷ []) body) ≡ need (clusters_for old.world.geometry (length body) + 0) (clusters_for old.world.geometry (length body) + 0)
  needed_over y e = needed_there ∙ need_over old.world.geometry (tree_of_files cs.files) (has_room old.world cs) body n y e

  pub needed_new : entry n (tree_of_files cs.files) ≡ nothing → (extra : ℕ) → cond {A = ℕ} (not (has_room old.world cs) && true) 1 0 ≡ extra
      → need_on (mounted_by c) old (ask.Put (n ∷ []) body) ≡ need (clusters_for old.world.geometry (length body) + extra) (clusters_for old.world.geometry (length body) + extra)
  needed_new e extra is = needed_there ∙ need_new old.world.geometry (tree_of_files cs.files) (has_room old.world cs) body n e extra is

  pub refused_over : (y : List ℕ) → entry n (tree_of_files cs.files) ≡ a_file y → refused_on (mounted_by c) old (ask.Put (n ∷ []) body) ≡ no_room_in old.world (clusters_for old.world.geometry (length body) + 0) (clusters_for old.world.geometry (length body) + 0)
  refused_over y e =
      refused_there
      ∙ (put_over old.world.geometry (tree_of_files cs.files) (free_count old.world) (length old.world.pairs) (chain_need old.world.geometry (as_tree (Some cs)) (has_room old.world cs) (ask.Put (n ∷ []) body)) body n y e
      ∙ ap (λ k. first_of (no_room old.world.geometry (free_count old.world) (length old.world.pairs) k)) (need_over old.world.geometry (tree_of_files cs.files) (has_room old.world cs) body n y e))

  module _ (e : entry n (tree_of_files cs.files) ≡ nothing) where
    names_there : length (names (tree_of_files cs.files)) ≡ length cs.files
    names_there = names_counted cs.files (right_is old.world cs (has_chains old.world c.root cs under).right).names

    pub refused_full : names_max ≤ length cs.files → refused_on (mounted_by c) old (ask.Put (n ∷ []) body) ≡ Some no.DirFull
    refused_full full =
        refused_there
        ∙ (put_new old.world.geometry (tree_of_files cs.files) (free_count old.world) (length old.world.pairs) (chain_need old.world.geometry (as_tree (Some cs)) (has_room old.world cs) (ask.Put (n ∷ []) body)) body n e
        ∙ ap (λ t. first_of (when t no.DirFull ∷ no_room old.world.geometry (free_count old.world) (length old.world.pairs) (chain_need old.world.geometry (as_tree (Some cs)) (has_room old.world cs) (ask.Put (n ∷ []) body)))) (as_many names_max (length (names (tree_of_files cs.files))) (let same = names_there in omega (arith, same, full))))
      where
        as_many : (a b : ℕ) → a ≤ b → nat_le a b ≡ true
        as_many a b h = grind (arith, nat_tests)

    pub refused_new : (extra : ℕ) → length cs.files < names_max → cond {A = ℕ} (not (has_room old.world cs) && true) 1 0 ≡ extra
        → refused_on (mounted_by c) old (ask.Put (n ∷ []) body) ≡ no_room_in old.world (clusters_for old.world.geometry (length body) + extra) (clusters_for old.world.geometry (length body) + extra)
    refused_new extra few is =
        refused_there
        ∙ (put_new old.world.geometry (tree_of_files cs.files) (free_count old.world) (length old.world.pairs) (chain_need old.world.geometry (as_tree (Some cs)) (has_room old.world cs) (ask.Put (n ∷ []) body)) body n e
        ∙ (ap (λ t. first_of (when t no.DirFull ∷ no_room old.world.geometry (free_count old.world) (length old.world.pairs) (chain_need old.world.geometry (as_tree (Some cs)) (has_room old.world cs) (ask.Put (n ∷ []) body)))) (fewer names_max (length (names (tree_of_files cs.files))) (let same = names_there in omega (arith, same, few)))
        ∙ ap (λ k. first_of (no_room old.world.geometry (free_count old.world) (length old.world.pairs) k)) (need_new old.world.geometry (tree_of_files cs.files) (has_room old.world cs) body n e extra is)))
      where
        fewer : (a b : ℕ) → b < a → nat_le a b ≡ false
        fewer a b h = grind (arith, nat_tests)

-- ---- where the path leads to no entry

abbrev by_any : Client → DiskView → Path → List ℕ → Option Chains → Option FsRefusal
by_any c old path body o = refusal kind.Chain old.world.geometry (as_tree o) (free_count old.world) (length old.world.pairs)
    (chain_need old.world.geometry (as_tree o) (option_map_or (has_room old.world) o true) (ask.Put path body)) (ask.Put path body)

pub refused_lost : (c : Client) (old : DiskView) → is_there (tree_under c old) ≡ true → (path : Path) (body : List ℕ) (e : FsRefusal) → lookup_refusal (tree_under c old) path no.IsDir ≡ Some e → refused_on (mounted_by c) old (ask.Put path body) ≡ Some e
refused_lost c old there path body e h =
    let f = found old.world c.root there in
    let cs = f.chains in
    ap (by_any c old path body) f.under
    ∙ put_lost old.world.geometry (tree_of_files cs.files) (free_count old.world) (length old.world.pairs) (chain_need old.world.geometry (as_tree (Some cs)) (has_room old.world cs) (ask.Put path body)) body path e
    (ap (λ o. lookup_refusal (as_tree o) path no.IsDir) (sym f.under) ∙ h)

-- what refuses an ask where nothing has changed since
pub refused_since : (f : FilesView) (first mid : DiskView) (a : ShellAsk) → mid.world ≡ first.world → refused_on f mid a ≡ refused_on f first a
refused_since f first mid a same =
    ap (λ w. refusal f.kind w.geometry (cond f.mounted (tree_at f.kind w f.root) nothing) (free_count w) (length w.pairs) (need_of f.kind w f.root (cond f.mounted (tree_at f.kind w f.root) nothing) a) a) same

-- the name of a path of one
pub name_of_path : (path : Path) (n : Name) → path ≡ n ∷ [] → is_path path ≡ true → is_name n ≡ true
name_of_path path n e h = (and_parts (is_name n) true (and_parts (nat_le (length (n ∷ [])) path_max) (list_all is_name (n ∷ [])) (ap is_path (sym e) ∙ h)).1).0
