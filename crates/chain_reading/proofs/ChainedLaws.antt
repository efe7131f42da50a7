-- Chains and files are read so exactly where they are such lists.
use Rattle.std.proofs.Common.{◌≡◌, ℕ, zero, suc, ◌≤◌, Bool, true, false, ◌==◌, List, [], ◌∷◌, ◌++◌, length, refl, sym, ◌∙◌, ap, subst, arith, append_assoc, Option, Some, None}
use Rattle.chain_reading.proofs.Common.{or_right, number_left, number_right, first_in, map, flat_map, option_map, option_and_then, block_len, World, contents, has_number, only_if, Entry, Cluster, cluster_in, entries_of, bytes_room, Link, cluster_at, before_rest, chain_by_next, next_of, chain_at, blocks_of, is_filled, ChainFile, file_of, file_at, all_there, files_of, files_in, IsFrom, IsChain, IsChainFile, PlacedEntry, AreFiles, placed, AreEntries}

-- ---- a chain

chain_by : (w : World) (more b : ℕ) (o : Option Cluster) → cluster_at w b ≡ o
    → ((d : ℕ) (ls : List Link) → chain_at w more d ≡ Some ls → IsFrom w (Some d) ls × (length ls ≤ more))
    → (ls : List Link) → chain_by_next (λ d. chain_at w more d) b o (next_of o) ≡ Some ls → IsFrom w (Some b) ls × (length ls ≤ suc more)
chain_by w more b None there later ls e = absurd (cc)
chain_by w more b (Some c) there later ls e = by_next c.next refl e
  where
    one : Link
    one = record { block = b; cluster = c }

    by_next : (o : Option ℕ) → c.next ≡ o → chain_by_next (λ d. chain_at w more d) b (Some c) o ≡ Some ls → IsFrom w (Some b) ls × (length ls ≤ suc more)
    by_next None is e =
        let same : record { block = b; cluster = c } ∷ [] ≡ ls = cc in
        subst (λ xs. IsFrom w (Some b) xs × (length xs ≤ suc more)) same ((refl, there, is), omega arith)
    by_next (Some d) is e = by_rest (chain_at w more d) refl e
      where
        by_rest : (o : Option (List Link)) → chain_at w more d ≡ o → before_rest (record { block = b; cluster = c }) o ≡ Some ls → IsFrom w (Some b) ls × (length ls ≤ suc more)
        by_rest None at e = absurd (cc)
        by_rest (Some ks) at e =
            let same : record { block = b; cluster = c } ∷ ks ≡ ls = cc in
            let rest = later d ks at in
            let longer : suc (length ks) ≤ suc more = omega (arith, rest.1) in
            subst (λ xs. IsFrom w (Some b) xs × (length xs ≤ suc more)) same ((refl, there, subst (λ n. IsFrom w n ks) (sym is) rest.0), longer)

chain_read : (w : World) (more b : ℕ) (ls : List Link) → chain_at w more b ≡ Some ls → IsFrom w (Some b) ls × (length ls ≤ more)
chain_read w zero b ls e = absurd (cc)
chain_read w (suc more) b ls e = chain_by w more b (cluster_at w b) refl (λ d ks at. chain_read w more d ks at) ls e

pub chain_is : (w : World) (b : ℕ) (ls : List Link) → chain_at w w.geometry.blocks b ≡ Some ls → IsChain w b ls
chain_is w b ls e = let read = chain_read w w.geometry.blocks b ls e in record { links = read.0; short = read.1 }

chain_of : (w : World) (more b : ℕ) (ls : List Link) → IsFrom w (Some b) ls → length ls ≤ more → chain_at w more b ≡ Some ls
chain_of w more b [] is fits = absurd (cc)
chain_of w zero b (l ∷ ls) is fits = absurd (omega arith)
chain_of w (suc more) b (l ∷ ls) is fits =
    let here : b ≡ l.block = cc in
    ap (λ x. chain_by_next (λ d. chain_at w more d) x (cluster_at w x) (next_of (cluster_at w x))) here
    ∙ (ap (λ o. chain_by_next (λ d. chain_at w more d) l.block o (next_of o)) is.1
    ∙ by_rest ls is.2 (omega arith) (λ d g f. chain_of w more d ls g f))
  where
    by_rest : (ks : List Link) → IsFrom w l.cluster.next ks → length ks ≤ more → ((d : ℕ) → IsFrom w (Some d) ks → length ks ≤ more → chain_at w more d ≡ Some ks)
        → chain_by_next (λ d. chain_at w more d) l.block (Some l.cluster) l.cluster.next ≡ Some (l ∷ ks)
    by_rest [] last fits later = ap (chain_by_next (λ d. chain_at w more d) l.block (Some l.cluster)) last
    by_rest (k ∷ ks) next fits later =
        ap (chain_by_next (λ d. chain_at w more d) l.block (Some l.cluster)) next.0
        ∙ ap (before_rest l) (later k.block (refl, next.1, next.2) fits)

pub chain_from : (w : World) (b : ℕ) (ls : List Link) → IsChain w b ls → chain_at w w.geometry.blocks b ≡ Some ls
chain_from w b ls is = chain_of w w.geometry.blocks b ls is.links is.short

-- ---- a file

pub file_is : (w : World) (from : ℕ) (e : Entry) (f : ChainFile) → file_at w from e ≡ Some f → IsChainFile w from e f
file_is w from e f h = by_chain (chain_at w w.geometry.blocks e.block) refl h
  where
    by_test : (ls : List Link) (t : Bool) → is_filled (bytes_room (block_len w.geometry)) ls ≡ t → IsChain w e.block ls → only_if t (λ _. Some (record { name = e.name; from = from; chain = ls })) ≡ Some f → IsChainFile w from e f
    by_test ls false filled is h = absurd (cc)
    by_test ls true filled is h =
        let same : record { name = e.name; from = from; chain = ls } ≡ f = cc in
        subst (λ g. IsChainFile w from e g) same (record { name = refl; from = refl; chain = is; filled = filled })

    by_chain : (o : Option (List Link)) → chain_at w w.geometry.blocks e.block ≡ o → file_of w from e o ≡ Some f → IsChainFile w from e f
    by_chain None at h = absurd (cc)
    by_chain (Some ls) at h = by_test ls (is_filled (bytes_room (block_len w.geometry)) ls) refl (chain_is w e.block ls at) h

pub file_from : (w : World) (from : ℕ) (e : Entry) (f : ChainFile) → IsChainFile w from e f → file_at w from e ≡ Some f
file_from w from e f is =
    ap (file_of w from e) (chain_from w e.block f.chain is.chain)
    ∙ (ap (λ t. only_if t (λ _. Some (record { name = e.name; from = from; chain = f.chain }))) is.filled
    ∙ (ap (λ n. Some (record { name = n; from = from; chain = f.chain })) (sym is.name) ∙ ap (λ n. Some (record { name = f.name; from = n; chain = f.chain })) (sym is.from)))

-- ---- all of them

pub there_append : (os ps : List (Option ChainFile)) (fs : List ChainFile) → all_there (os ++ ps) ≡ Some fs
    → (gs : List ChainFile) × (hs : List ChainFile) × (fs ≡ gs ++ hs) × (all_there os ≡ Some gs) × (all_there ps ≡ Some hs)
there_append [] ps fs h = ([], fs, refl, refl, h)
there_append (None ∷ os) ps fs h = absurd (cc)
there_append (Some f ∷ os) ps fs h = by_rest (λ xs is. there_append os ps xs is) (all_there (os ++ ps)) refl h
  where
    by_rest : ((xs : List ChainFile) → all_there (os ++ ps) ≡ Some xs → (gs : List ChainFile) × (hs : List ChainFile) × (xs ≡ gs ++ hs) × (all_there os ≡ Some gs) × (all_there ps ≡ Some hs))
        → (o : Option (List ChainFile)) → all_there (os ++ ps) ≡ o → option_map (λ xs. f ∷ xs) o ≡ Some fs
        → (gs : List ChainFile) × (hs : List ChainFile) × (fs ≡ gs ++ hs) × (all_there (Some f ∷ os) ≡ Some gs) × (all_there ps ≡ Some hs)
    by_rest split None is e = absurd (cc)
    by_rest split (Some xs) is e =
        let later = split xs is in
        let same : f ∷ xs ≡ fs = cc in
        (f ∷ later.0, later.1, sym same ∙ ap (λ ys. f ∷ ys) later.2, ap (option_map (λ ys. f ∷ ys)) later.3, later.4)

pub append_there : (os ps : List (Option ChainFile)) (gs hs : List ChainFile) → all_there os ≡ Some gs → all_there ps ≡ Some hs → all_there (os ++ ps) ≡ Some (gs ++ hs)
append_there [] ps gs hs g h = let none : [] ≡ gs = cc in h ∙ ap (λ xs. Some (xs ++ hs)) none
append_there (None ∷ os) ps gs hs g h = absurd (cc)
append_there (Some f ∷ os) ps gs hs g h = by_rest (λ xs is. append_there os ps xs hs is h) (all_there os) refl g
  where
    by_rest : ((xs : List ChainFile) → all_there os ≡ Some xs → all_there (os ++ ps) ≡ Some (xs ++ hs)) → (o : Option (List ChainFile)) → all_there os ≡ o → option_map (λ xs. f ∷ xs) o ≡ Some gs → all_there (Some f ∷ (os ++ ps)) ≡ Some (gs ++ hs)
    by_rest join None is e = absurd (cc)
    by_rest join (Some xs) is e =
        let same : f ∷ xs ≡ gs = cc in
        ap (option_map (λ ys. f ∷ ys)) (join xs is) ∙ ap (λ ys. Some (ys ++ hs)) same

-- ---- the entries of the directory

files_are : (w : World) (from : ℕ) (es : List Entry) (fs : List ChainFile) → all_there (map (file_at w from) es) ≡ Some fs → AreFiles w (placed from es) fs
files_are w from [] fs h = let none : [] ≡ fs = cc in subst (AreFiles w []) none tt
files_are w from (e ∷ es) fs h = by_first (λ xs is. files_are w from es xs is) (file_at w from e) refl h
  where
    by_rest : ((xs : List ChainFile) → all_there (map (file_at w from) es) ≡ Some xs → AreFiles w (placed from es) xs) → (f : ChainFile) → file_at w from e ≡ Some f → (o : Option (List ChainFile)) → all_there (map (file_at w from) es) ≡ o → option_map (λ xs. f ∷ xs) o ≡ Some fs → AreFiles w (placed from (e ∷ es)) fs
    by_rest later f at None is h = absurd (cc)
    by_rest later f at (Some xs) is h = let same : f ∷ xs ≡ fs = cc in subst (AreFiles w (placed from (e ∷ es))) same (file_is w from e f at, later xs is)

    by_first : ((xs : List ChainFile) → all_there (map (file_at w from) es) ≡ Some xs → AreFiles w (placed from es) xs) → (o : Option ChainFile) → file_at w from e ≡ o → all_there (o ∷ map (file_at w from) es) ≡ Some fs → AreFiles w (placed from (e ∷ es)) fs
    by_first later None at h = absurd (cc)
    by_first later (Some f) at h = by_rest later f at (all_there (map (file_at w from) es)) refl h

files_from : (w : World) (from : ℕ) (es : List Entry) (fs : List ChainFile) → AreFiles w (placed from es) fs → all_there (map (file_at w from) es) ≡ Some fs
files_from w from [] [] are = refl
files_from w from [] (f ∷ fs) are = absurd are
files_from w from (e ∷ es) [] are = absurd are
files_from w from (e ∷ es) (f ∷ fs) are =
    ap (λ o. all_there (o ∷ map (file_at w from) es)) (file_from w from e f are.0) ∙ ap (option_map (λ xs. f ∷ xs)) (files_from w from es fs are.1)

-- ---- parts of them

pub files-append : (w : World) (ps qs : List PlacedEntry) (fs gs : List ChainFile) → AreFiles w ps fs → AreFiles w qs gs → AreFiles w (ps ++ qs) (fs ++ gs)
files-append w [] qs [] gs a b = b
files-append w [] qs (f ∷ fs) gs a b = absurd a
files-append w (p ∷ ps) qs [] gs a b = absurd a
files-append w (p ∷ ps) qs (f ∷ fs) gs a b = (a.0, files-append w ps qs fs gs a.1 b)

-- by the parts of the entries, and by the parts of the files
pub files_split : (w : World) (ps qs : List PlacedEntry) (fs : List ChainFile) → AreFiles w (ps ++ qs) fs → (gs : List ChainFile) × (hs : List ChainFile) × (fs ≡ gs ++ hs) × AreFiles w ps gs × AreFiles w qs hs
files_split w [] qs fs a = ([], fs, refl, tt, a)
files_split w (p ∷ ps) qs [] a = absurd a
files_split w (p ∷ ps) qs (f ∷ fs) a = let later = files_split w ps qs fs a.1 in (f ∷ later.0, later.1, ap (λ xs. f ∷ xs) later.2, (a.0, later.3), later.4)

pub entries_of_files : (w : World) (ps : List PlacedEntry) (gs hs : List ChainFile) → AreFiles w ps (gs ++ hs) → (qs : List PlacedEntry) × (rs : List PlacedEntry) × (ps ≡ qs ++ rs) × AreFiles w qs gs × AreFiles w rs hs
entries_of_files w ps [] hs a = ([], ps, refl, tt, a)
entries_of_files w [] (g ∷ gs) hs a = absurd a
entries_of_files w (p ∷ ps) (g ∷ gs) hs a = let later = entries_of_files w ps gs hs a.1 in (p ∷ later.0, later.1, ap (λ xs. p ∷ xs) later.2, (a.0, later.3), later.4)

pub entries-append : (len : ℕ) (ls ms : List Link) (ps qs : List PlacedEntry) → AreEntries len ls ps → AreEntries len ms qs → AreEntries len (ls ++ ms) (ps ++ qs)
entries-append len [] ms ps qs a b = subst (λ xs. AreEntries len ms (xs ++ qs)) (sym a) b
entries-append len (l ∷ ls) ms ps qs a b =
    (a.0, a.1 ++ qs, a.2, ap (λ xs. xs ++ qs) a.3 ∙ append_assoc (placed l.block a.0) a.1 qs, entries-append len ls ms a.1 qs a.4 b)

pub entries_split : (len : ℕ) (ls ms : List Link) (ps : List PlacedEntry) → AreEntries len (ls ++ ms) ps → (qs : List PlacedEntry) × (rs : List PlacedEntry) × (ps ≡ qs ++ rs) × AreEntries len ls qs × AreEntries len ms rs
entries_split len [] ms ps a = ([], ps, refl, refl, a)
entries_split len (l ∷ ls) ms ps a =
    let later = entries_split len ls ms a.1 a.4 in (
      placed l.block a.0 ++ later.0,
      later.1,
      a.3 ∙ (ap (λ xs. placed l.block a.0 ++ xs) later.2 ∙ sym (append_assoc (placed l.block a.0) later.0 later.1)),
      (a.0, later.0, a.2, refl, later.3),
      later.4,
    )

-- ---- all of the directory's

-- its entries, and their files
pub record IsListing (w : World) (ls : List Link) (fs : List ChainFile) : Type 0 where
  pub entries : List PlacedEntry
  pub in_order : AreEntries (block_len w.geometry) ls entries
  pub files : AreFiles w entries fs

listing_of : (w : World) (ls : List Link) (fs : List ChainFile) → all_there (flat_map (λ l. files_of w l (entries_of (block_len w.geometry) l.cluster)) ls) ≡ Some fs → IsListing w ls fs
listing_of w [] fs h = let none : [] ≡ fs = cc in record { entries = []; in_order = refl; files = subst (AreFiles w []) none tt }
listing_of w (l ∷ ls) fs h =
    let parts = there_append (files_of w l (entries_of (block_len w.geometry) l.cluster)) (flat_map (λ k. files_of w k (entries_of (block_len w.geometry) k.cluster)) ls) fs h in
    by_entries (entries_of (block_len w.geometry) l.cluster) refl parts.0 parts.1 parts.2 parts.3 (listing_of w ls parts.1 parts.4)
  where
    by_entries : (o : Option (List Entry)) → entries_of (block_len w.geometry) l.cluster ≡ o → (gs hs : List ChainFile) → fs ≡ gs ++ hs → all_there (files_of w l o) ≡ Some gs → IsListing w ls hs → IsListing w (l ∷ ls) fs
    by_entries None at gs hs is h rest = absurd (cc)
    by_entries (Some es) at gs hs is h rest = record {
      entries = placed l.block es ++ rest.entries;
      in_order = (es, rest.entries, at, refl, rest.in_order);
      files = subst (AreFiles w (placed l.block es ++ rest.entries)) (sym is) (files-append w (placed l.block es) rest.entries gs hs (files_are w l.block es gs h) rest.files);
    }

pub listing_is : (w : World) (ls : List Link) (fs : List ChainFile) → files_in w ls ≡ Some fs → IsListing w ls fs
listing_is w ls fs h = listing_of w ls fs h

read_listing : (w : World) (ls : List Link) (ps : List PlacedEntry) (fs : List ChainFile) → AreEntries (block_len w.geometry) ls ps → AreFiles w ps fs → all_there (flat_map (λ l. files_of w l (entries_of (block_len w.geometry) l.cluster)) ls) ≡ Some fs
read_listing w [] ps fs a b = no_files ps fs a b
  where
    no_files : (ps : List PlacedEntry) (fs : List ChainFile) → ps ≡ [] → AreFiles w ps fs → Some [] ≡ Some fs
    no_files [] [] e h = refl
    no_files [] (f ∷ fs) e h = absurd h
    no_files (p ∷ ps) fs e h = absurd (cc)
read_listing w (l ∷ ls) ps fs a b =
    let parts = files_split w (placed l.block a.0) a.1 fs (subst (λ xs. AreFiles w xs fs) a.3 b) in
    ap (λ o. all_there (files_of w l o ++ flat_map (λ k. files_of w k (entries_of (block_len w.geometry) k.cluster)) ls)) a.2
    ∙ (append_there (map (file_at w l.block) a.0) (flat_map (λ k. files_of w k (entries_of (block_len w.geometry) k.cluster)) ls) parts.0 parts.1 (files_from w l.block a.0 parts.0 parts.3) (read_listing w ls a.1 parts.1 a.4 parts.4)
    ∙ ap (λ xs. Some xs) (sym parts.2))

pub listing_from : (w : World) (ls : List Link) (fs : List ChainFile) → IsListing w ls fs → files_in w ls ≡ Some fs
listing_from w ls fs is = read_listing w ls is.entries fs is.in_order is.files

-- ---- where other blocks are the same

pub from_same : (w next : World) (o : Option ℕ) (ls : List Link) → ((b : ℕ) → has_number (blocks_of ls) b ≡ true → contents next b ≡ contents w b) → IsFrom w o ls → IsFrom next o ls
from_same w next o [] same is = is
from_same w next o (l ∷ ls) same is =
    (is.0, ap (option_and_then cluster_in) (same l.block (first_in l.block (blocks_of ls))) ∙ is.1, from_same w next l.cluster.next ls (λ b m. same b (or_right (l.block == b) _ m)) is.2)

pub files_same : (w next : World) (ps : List PlacedEntry) (fs : List ChainFile) → next.geometry ≡ w.geometry
    → ((b : ℕ) → has_number (flat_map (λ f. blocks_of f.chain) fs) b ≡ true → contents next b ≡ contents w b) → AreFiles w ps fs → AreFiles next ps fs
files_same w next [] [] size same a = tt
files_same w next [] (f ∷ fs) size same a = absurd a
files_same w next (p ∷ ps) [] size same a = absurd a
files_same w next (p ∷ ps) (f ∷ fs) size same a =
    let file = a.0 in
    let own = blocks_of f.chain in
    let rest = flat_map (λ g. blocks_of g.chain) fs in (
      record {
        name = file.name;
        from = file.from;
        chain = record {
          links = from_same w next (Some p.1.block) f.chain (λ b m. same b (number_left own rest b m)) file.chain.links;
          short = subst (λ g. length f.chain ≤ g.blocks) (sym size) file.chain.short;
        };
        filled = ap (λ g. is_filled (bytes_room (block_len g)) f.chain) size ∙ file.filled;
      },
      files_same w next ps fs size (λ b m. same b (number_right own rest b m)) a.1,
    )
