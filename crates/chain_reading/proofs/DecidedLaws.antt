-- The trees after the deciding writes.
use Rattle.std.proofs.Common.{◌≡◌, ℕ, zero, suc, ◌+◌, ◌≤◌, ◌<◌, true, false, cond, ◌==◌, List, [], ◌∷◌, ◌++◌, length, refl, sym, ◌∙◌, ap, subst, inl, inr, arith, append_assoc, append-nil, length-append, Option, Some, None}
use Rattle.chain_reading.proofs.Common.{or_cases, or_right, eqb-true, holds, with_contents, in_append, first_in, is_some, option_and_then, World, contents, has_number, are_apart, Name, are_distinct, Tree, Entries, nothing, a_file, a_dir, with_entry, with_at, Entry, Cluster, cluster_in, Link, cluster_at, blocks_of, links, ChainFile, chain_bytes, Chains, chain_blocks, names_max, chains_under, as_tree, tree_of_files, chain_tree, times, times-append, apart_times, times_apart, IsFrom, IsChainFile, PlacedEntry, AreFiles, placed, AreOthers, file_blocks, file_pairs, file_names, relinked}
use Rattle.std.proofs.lemmas.Bool.Decides.{nat_tests}
use Rattle.disk_laws.proofs.DoomLaws.{live_below}
use Rattle.chain_reading.specs.Decided.{FilesInAnyOrder, NamesAreFound, FileSet, EntryIsSet, FileAdded, EntryIsAdded, FileRemoved, EntryIsRemoved, DirectoryGrows, grown, FileGrows}
use Rattle.chain_reading.proofs.FileLaws.{distinct_parts, distinct_with, others_left, tree_moved, tree_set, tree_removed, tree_has, tree_lacks}
use Rattle.chain_reading.proofs.ChangeLaws.{HasChains, has_chains, chains_are, right_is, blocks-append, file_blocks-append, entries_change}
use Rattle.chain_reading.proofs.ChainedLaws.{entries_of_files}
use Rattle.chain_reading.proofs.GrowLaws.{directory_grows, file_grows}

-- ---- how many blocks there are

abbrev total : ℕ → List ℕ → ℕ
total zero xs = 0
total (suc n) xs = times n xs + total n xs

-- no block twice, and each below a number: there are no more than that
apart_fits : (xs : List ℕ) (n : ℕ) → ((b : ℕ) → times b xs ≤ 1) → ((b : ℕ) → has_number xs b ≡ true → b < n) → length xs ≤ n
apart_fits xs n once below = let most = at_most n in let all = counts xs below in omega (arith, most, all)
  where
    at_most : (n : ℕ) → total n xs ≤ n
    at_most zero = omega arith
    at_most (suc n) = omega (arith, once n, at_most n)

    none_of : (n : ℕ) → total n [] ≡ 0
    none_of zero = refl
    none_of (suc n) = omega (arith, none_of n)

    skips : (k x : ℕ) (ys : List ℕ) → k ≤ x → total k (x ∷ ys) ≡ total k ys
    skips zero x ys h = refl
    skips (suc k) x ys h =
        let other : (x == k) ≡ false = grind (arith, nat_tests) in
        let none : ◌≡◌ {A = ℕ} (cond (x == k) 1 0) 0 = ap (λ t. cond t 1 0) other in
        omega (arith, none, skips k x ys (omega arith))

    counts_one : (k x : ℕ) (ys : List ℕ) → x < k → total k (x ∷ ys) ≡ 1 + total k ys
    counts_one zero x ys h = absurd (omega arith)
    counts_one (suc k) x ys h = elim (x == k) as (λ t. (x == k) ≡ t → total (suc k) (x ∷ ys) ≡ 1 + total (suc k) ys) [
      | true ↦ λ e.
          let one : ◌≡◌ {A = ℕ} (cond (x == k) 1 0) 1 = ap (λ t. cond t 1 0) e in
          let same : x ≡ k = eqb-true x k e in
          omega (arith, one, skips k x ys (omega (arith, same)))
      | false ↦ λ e.
          let none : ◌≡◌ {A = ℕ} (cond (x == k) 1 0) 0 = ap (λ t. cond t 1 0) e in
          let less : x < k = grind (arith, nat_tests) in
          omega (arith, none, counts_one k x ys less)
    ] refl

    counts : (ys : List ℕ) → ((b : ℕ) → has_number ys b ≡ true → b < n) → total n ys ≡ length ys
    counts [] below = none_of n
    counts (y ∷ ys) below = omega (arith, counts_one n y ys (below y (first_in y ys)), counts ys (λ b m. below b (or_right (y == b) _ m)))

-- the blocks of a chain are there
from_live : (w : World) (o : Option ℕ) (ls : List Link) (b : ℕ) → IsFrom w o ls → has_number (blocks_of ls) b ≡ true → b < length w.blocks
from_live w o [] b is m = absurd (cc)
from_live w o (l ∷ ls) b is m = elim (or_cases (l.block == b) (has_number (blocks_of ls) b) m) [
  | inl here ↦ subst (λ k. k < length w.blocks) (eqb-true l.block b here) (is_there w l.block l.cluster is.1)
  | inr later ↦ from_live w l.cluster.next ls b is.2 later
]
  where
    is_there : (w : World) (b : ℕ) (c : Cluster) → cluster_at w b ≡ Some c → b < length w.blocks
    is_there w b c e = live_below w.blocks b (by_contents (contents w b) e)
      where
        by_contents : (o : Option (List ℕ)) → option_and_then cluster_in o ≡ Some c → is_some o ≡ true
        by_contents None e = absurd (cc)
        by_contents (Some x) e = refl

length-blocks : (ls : List Link) → length (blocks_of ls) ≡ length ls
length-blocks [] = refl
length-blocks (l ∷ ls) = ap suc (length-blocks ls)

-- ---- the tree of known chains

tree_is : (w : World) (root : ℕ) (c : Chains) → chains_under w root ≡ Some c → chain_tree w root ≡ a_dir tt (tree_of_files c.files)
tree_is w root c h = ap as_tree h

set_in : (n : Name) (y : Tree) (es : Entries (Unit {0}) (List ℕ)) (t : Tree) → t ≡ a_dir tt es → a_dir tt (with_entry n y es) ≡ with_at (n ∷ []) y t
set_in n y es t e = sym (ap (with_at (n ∷ []) y) e)

-- what is left of two names of a list is one of the list
names_between : (fs : List ChainFile) (f : ChainFile) (gs : List ChainFile) → file_names (fs ++ (f ∷ gs)) ≡ file_names fs ++ f.name ∷ file_names gs
names_between [] f gs = refl
names_between (g ∷ fs) f gs = ap (λ ns. g.name ∷ ns) (names_between fs f gs)

names-append : (fs gs : List ChainFile) → file_names (fs ++ gs) ≡ file_names fs ++ file_names gs
names-append [] gs = refl
names-append (g ∷ fs) gs = ap (λ ns. g.name ∷ ns) (names-append fs gs)

-- one file of one entry
one_file : (w : World) (from : ℕ) (e : Entry) (f : ChainFile) → IsChainFile w from e f → AreFiles w (placed from (e ∷ [])) (f ∷ [])
one_file w from e f is = (is, tt)

pub entry_is_set : EntryIsSet
entry_is_set w root c ls l ms bytes cl es e new fs f under rewrites same_next was now same new_file =
    let has = has_chains w root c under in
    let right = right_is w c has.right in
    let change = entries_change w root c has ls l ms bytes cl rewrites es (e ∷ []) (new ∷ []) fs was now same_next (f ∷ []) (one_file w l.block new f new_file.file)
    (subst (λ xs. are_apart (chain_blocks c ++ xs) ≡ true) (sym (append-nil (blocks_of f.chain))) new_file.fresh)
    (λ a b h. new_file.held a b (links_of a b h)) in
    by_old change.before change.old change.behind change.files change.were change.after right.names right.few
  where
    links_of : (a b : ℕ) → holds (file_pairs (f ∷ [])) a b ≡ true → holds (links (l.block ∷ blocks_of f.chain)) a b ≡ true
    links_of a b h = ap (λ k. holds (links (k ∷ blocks_of f.chain)) a b) (sym new_file.file.from) ∙ (ap (λ xs. holds xs a b) (sym (append-nil (links (f.from ∷ blocks_of f.chain)))) ∙ h)

    by_old : (before olds behind : List ChainFile) → c.files ≡ before ++ (olds ++ behind) → AreFiles w (placed l.block (e ∷ [])) olds
        → (are_distinct (file_names (before ++ (f ∷ behind))) ≡ true → length (before ++ (f ∷ behind)) ≤ names_max → HasChains (with_contents w l.block bytes) root (record { directory = ls ++ relinked l cl ∷ ms; files = before ++ (f ∷ behind) }))
        → are_distinct (file_names c.files) ≡ true → length c.files ≤ names_max → FileSet w root c ls l ms bytes cl e f
    by_old before [] behind files were after names few = absurd were
    by_old before (old ∷ g ∷ olds) behind files were after names few = absurd were.1
    by_old before (old ∷ []) behind files were after names few =
        let name : f.name ≡ old.name = new_file.file.name ∙ (same ∙ sym were.0.name) in
        let all_names : file_names (before ++ (f ∷ behind)) ≡ file_names c.files =
        names_between before f behind ∙ (ap (λ n. file_names before ++ n ∷ file_names behind) name ∙ (sym (names_between before old behind) ∙ ap file_names (sym files))) in
        let number : length (before ++ (f ∷ behind)) ≡ length c.files = length-append before (f ∷ behind) ∙ (sym (length-append before (old ∷ behind)) ∙ ap length (sym files)) in
        let has_now = after (ap are_distinct all_names ∙ names) (subst (λ n. n ≤ names_max) (sym number) few) in
        let now_under = chains_are (with_contents w l.block bytes) root (record { directory = ls ++ relinked l cl ∷ ms; files = before ++ (f ∷ behind) }) has_now in
        let parts = distinct_parts old.name (file_names before) (file_names behind) (ap are_distinct (sym (names_between before old behind) ∙ ap file_names (sym files)) ∙ names) in
        record {
          before = before;
          old = old;
          behind = behind;
          files = files;
          was = were.0;
          becomes = record {
            under = now_under;
            tree = ap as_tree now_under ∙ (ap (a_dir tt) (tree_set before old f behind name parts.0)
                ∙ (ap (λ n. a_dir tt (with_entry n (a_file (chain_bytes f.chain)) (tree_of_files (before ++ (old ∷ behind))))) were.0.name
                ∙ set_in e.name (a_file (chain_bytes f.chain)) (tree_of_files (before ++ (old ∷ behind))) (chain_tree w root) (ap as_tree under ∙ ap (λ gs. a_dir tt (tree_of_files gs)) files)));
          };
        }

pub entry_is_added : EntryIsAdded
entry_is_added w root c ls l ms bytes cl es new fs f under rewrites same_next was now new_file others room =
    let has = has_chains w root c under in
    let right = right_is w c has.right in
    let change = entries_change w root c has ls l ms bytes cl rewrites es [] (new ∷ []) fs was now same_next (f ∷ []) (one_file w l.block new f new_file.file)
    (subst (λ xs. are_apart (chain_blocks c ++ xs) ≡ true) (sym (append-nil (blocks_of f.chain))) new_file.fresh)
    (λ a b h. new_file.held a b (links_of a b h)) in
    by_old change.before change.old change.behind change.files change.were change.after right.names
  where
    links_of : (a b : ℕ) → holds (file_pairs (f ∷ [])) a b ≡ true → holds (links (l.block ∷ blocks_of f.chain)) a b ≡ true
    links_of a b h = ap (λ k. holds (links (k ∷ blocks_of f.chain)) a b) (sym new_file.file.from) ∙ (ap (λ xs. holds xs a b) (sym (append-nil (links (f.from ∷ blocks_of f.chain)))) ∙ h)

    by_old : (before olds behind : List ChainFile) → c.files ≡ before ++ (olds ++ behind) → AreFiles w (placed l.block []) olds
        → (are_distinct (file_names (before ++ (f ∷ behind))) ≡ true → length (before ++ (f ∷ behind)) ≤ names_max → HasChains (with_contents w l.block bytes) root (record { directory = ls ++ relinked l cl ∷ ms; files = before ++ (f ∷ behind) }))
        → are_distinct (file_names c.files) ≡ true → FileAdded w root c ls l ms bytes cl f
    by_old before (old ∷ olds) behind files were after names = absurd were
    by_old before [] behind files were after names =
        let away : AreOthers f.name (file_names before ++ file_names behind) = subst (AreOthers f.name) (ap file_names files ∙ names-append before behind) others in
        let all_names : are_distinct (file_names (before ++ (f ∷ behind))) ≡ true =
        ap are_distinct (names_between before f behind) ∙ distinct_with f.name (file_names before) (file_names behind) (ap are_distinct (sym (ap file_names files ∙ names-append before behind)) ∙ names) away in
        let number : length (before ++ (f ∷ behind)) ≡ suc (length c.files) =
        let one = length-append before (f ∷ behind) in let two = length-append before behind in let three = ap length files in omega (arith, one, two, three) in
        let has_now = after all_names (subst (λ n. n ≤ names_max) (sym number) room) in
        let now_under = chains_are (with_contents w l.block bytes) root (record { directory = ls ++ relinked l cl ∷ ms; files = before ++ (f ∷ behind) }) has_now in
        record {
          before = before;
          behind = behind;
          files = files;
          becomes = record {
            under = now_under;
            tree = ap as_tree now_under ∙ (ap (a_dir tt) (tree_moved before f behind (others_left f.name (file_names before) (file_names behind) away))
                ∙ set_in f.name (a_file (chain_bytes f.chain)) (tree_of_files (before ++ behind)) (chain_tree w root) (ap as_tree under ∙ ap (λ gs. a_dir tt (tree_of_files gs)) files));
          };
        }

pub entry_is_removed : EntryIsRemoved
entry_is_removed w root c ls l ms bytes cl es e fs under rewrites same_next was now =
    let has = has_chains w root c under in
    let right = right_is w c has.right in
    let change = entries_change w root c has ls l ms bytes cl rewrites es (e ∷ []) [] fs was now same_next [] tt
    (subst (λ xs. are_apart xs ≡ true) (sym (append-nil (chain_blocks c))) (times_apart (chain_blocks c) right.once))
    (λ a b h. absurd (cc)) in
    by_old change.before change.old change.behind change.files change.were change.after right.names right.few
  where
    by_old : (before olds behind : List ChainFile) → c.files ≡ before ++ (olds ++ behind) → AreFiles w (placed l.block (e ∷ [])) olds
        → (are_distinct (file_names (before ++ behind)) ≡ true → length (before ++ behind) ≤ names_max → HasChains (with_contents w l.block bytes) root (record { directory = ls ++ relinked l cl ∷ ms; files = before ++ behind }))
        → are_distinct (file_names c.files) ≡ true → length c.files ≤ names_max → FileRemoved w root c ls l ms bytes cl e
    by_old before [] behind files were after names few = absurd were
    by_old before (old ∷ g ∷ olds) behind files were after names few = absurd were.1
    by_old before (old ∷ []) behind files were after names few =
        let parts = distinct_parts old.name (file_names before) (file_names behind) (ap are_distinct (sym (names_between before old behind) ∙ ap file_names (sym files)) ∙ names) in
        let number : length (before ++ behind) ≤ names_max =
        let one = length-append before (old ∷ behind) in let two = length-append before behind in let three = ap length files in omega (arith, one, two, three) in
        let has_now = after (ap are_distinct (names-append before behind) ∙ parts.2) number in
        let now_under = chains_are (with_contents w l.block bytes) root (record { directory = ls ++ relinked l cl ∷ ms; files = before ++ behind }) has_now in
        record {
          before = before;
          old = old;
          behind = behind;
          files = files;
          was = were.0;
          becomes = record {
            under = now_under;
            tree = ap as_tree now_under ∙ (ap (a_dir tt) (tree_removed before old behind parts.0 parts.1)
                ∙ (ap (λ n. a_dir tt (with_entry n nothing (tree_of_files (before ++ (old ∷ behind))))) were.0.name
                ∙ set_in e.name nothing (tree_of_files (before ++ (old ∷ behind))) (chain_tree w root) (ap as_tree under ∙ ap (λ gs. a_dir tt (tree_of_files gs)) files)));
          };
        }

pub the_directory_grows : DirectoryGrows
the_directory_grows w root c ls l m bytes cl es e f sized under rewrites links_on was now new others room =
    let has = has_chains w root c under in
    let right = right_is w c has.right in
    let fresh : are_apart (chain_blocks c ++ (m.block ∷ file_blocks (f ∷ []))) ≡ true = subst (λ xs. are_apart (chain_blocks c ++ (m.block ∷ xs)) ≡ true) (sym (append-nil (blocks_of f.chain))) new.fresh in
    let blocks : blocks_of (ls ++ relinked l cl ∷ m ∷ []) ≡ blocks_of c.directory ++ m.block ∷ [] =
    blocks-append ls (relinked l cl ∷ m ∷ []) ∙ (sym (append_assoc (blocks_of ls) (l.block ∷ []) (m.block ∷ [])) ∙ ap (λ xs. xs ++ m.block ∷ []) (sym (blocks-append ls (l ∷ [])) ∙ ap blocks_of (sym rewrites.position))) in
    let once : (b : ℕ) → times b (blocks_of c.directory ++ m.block ∷ []) ≤ 1 = λ b.
    let one = times-append b (chain_blocks c) (m.block ∷ blocks_of f.chain) in
    let two = times-append b (blocks_of c.directory) (file_blocks c.files) in
    let three = times-append b (blocks_of c.directory) (m.block ∷ []) in
    omega (arith, one, two, three, apart_times (chain_blocks c ++ (m.block ∷ blocks_of f.chain)) new.fresh b) in
    let below : (b : ℕ) → has_number (blocks_of c.directory ++ m.block ∷ []) b ≡ true → b < length w.blocks = λ b h. elim (in_append (blocks_of c.directory) (m.block ∷ []) b h) [
      | inl old ↦ from_live w (Some root) c.directory b has.directory.links old
      | inr this ↦ from_live w (Some m.block) (m ∷ []) b (refl, new.there, new.ends) this
    ] in
    let fits = apart_fits (blocks_of c.directory ++ m.block ∷ []) (length w.blocks) once below in
    let short : length (ls ++ relinked l cl ∷ m ∷ []) ≤ w.geometry.blocks =
    let size = ap length (sym blocks) ∙ length-blocks (ls ++ relinked l cl ∷ m ∷ []) in omega (arith, fits, size, sized.each_block) in
    let away : AreOthers f.name (file_names c.files ++ []) = subst (AreOthers f.name) (sym (append-nil (file_names c.files))) others in
    let names : are_distinct (file_names (c.files ++ (f ∷ []))) ≡ true =
    ap are_distinct (names_between c.files f []) ∙ distinct_with f.name (file_names c.files) [] (ap are_distinct (append-nil (file_names c.files)) ∙ right.names) away in
    let number : length (c.files ++ (f ∷ [])) ≤ names_max = let one = length-append c.files (f ∷ []) in omega (arith, one) in
    let has_now = directory_grows w root c has ls l bytes cl rewrites m links_on new.there new.ends es (e ∷ []) was now new.entries (f ∷ []) (one_file w m.block e f new.file) fresh new.led
    (λ a b h. new.held a b (links_of a b h)) short names number in
    let now_under = chains_are (with_contents w l.block bytes) root (record { directory = ls ++ relinked l cl ∷ m ∷ []; files = c.files ++ (f ∷ []) }) has_now in
    record {
      under = now_under;
      tree = ap as_tree now_under ∙ (ap (a_dir tt) (tree_moved c.files f [] others ∙ ap (λ gs. with_entry f.name (a_file (chain_bytes f.chain)) (tree_of_files gs)) (append-nil c.files))
          ∙ set_in f.name (a_file (chain_bytes f.chain)) (tree_of_files c.files) (chain_tree w root) (ap as_tree under));
    }
  where
    links_of : (a b : ℕ) → holds (file_pairs (f ∷ [])) a b ≡ true → holds (links (m.block ∷ blocks_of f.chain)) a b ≡ true
    links_of a b h = ap (λ k. holds (links (k ∷ blocks_of f.chain)) a b) (sym new.file.from) ∙ (ap (λ xs. holds xs a b) (sym (append-nil (links (f.from ∷ blocks_of f.chain)))) ∙ h)

pub the_file_grows : FileGrows
the_file_grows w root c fs f hs ks k bytes cl more sized under lengthens =
    let has = has_chains w root c under in
    let right = right_is w c has.right in
    let chain = ks ++ relinked k cl ∷ more in
    let blocks : blocks_of chain ≡ blocks_of f.chain ++ blocks_of more =
    blocks-append ks (relinked k cl ∷ more) ∙ (sym (append_assoc (blocks_of ks) (k.block ∷ []) (blocks_of more)) ∙ ap (λ xs. xs ++ blocks_of more) (sym (blocks-append ks (k ∷ [])) ∙ ap blocks_of (sym lengthens.ends))) in
    let once : (b : ℕ) → times b (blocks_of f.chain ++ blocks_of more) ≤ 1 = λ b.
    let one = times-append b (chain_blocks c) (blocks_of more) in
    let two = times-append b (blocks_of c.directory) (file_blocks c.files) in
    let three = ap (λ xs. times b (file_blocks xs)) lengthens.position ∙ (ap (times b) (file_blocks-append fs (f ∷ hs)) ∙ times-append b (file_blocks fs) (file_blocks (f ∷ hs))) in
    let four = times-append b (blocks_of f.chain) (file_blocks hs) in
    let five = times-append b (blocks_of f.chain) (blocks_of more) in
    omega (arith, one, two, three, four, five, apart_times (chain_blocks c ++ blocks_of more) lengthens.fresh b) in
    let old = entries_of_files w has.listing.entries fs (f ∷ hs) (subst (AreFiles w has.listing.entries) lengthens.position has.listing.files) in
    let below : (b : ℕ) → has_number (blocks_of f.chain ++ blocks_of more) b ≡ true → b < length w.blocks = λ b h. elim (in_append (blocks_of f.chain) (blocks_of more) b h) [
      | inl own ↦ of_file old.1 old.4 b own
      | inr this ↦ from_live w cl.next more b lengthens.tail this
    ] in
    let fits = apart_fits (blocks_of f.chain ++ blocks_of more) (length w.blocks) once below in
    let short : length chain ≤ w.geometry.blocks = let size = ap length (sym blocks) ∙ length-blocks chain in omega (arith, fits, size, sized.each_block) in
    let has_now = file_grows w root c has fs f hs lengthens.position ks k lengthens.ends bytes lengthens.within cl lengthens.read more lengthens.tail lengthens.filled short lengthens.fresh lengthens.held in
    let now_under = chains_are (with_contents w k.block bytes) root (record { directory = c.directory; files = fs ++ (grown f ks k cl more ∷ hs) }) has_now in
    let parts = distinct_parts f.name (file_names fs) (file_names hs) (ap are_distinct (sym (names_between fs f hs) ∙ ap file_names (sym lengthens.position)) ∙ right.names) in
    record {
      under = now_under;
      tree = ap as_tree now_under ∙ (ap (a_dir tt) (tree_set fs f (grown f ks k cl more) hs refl parts.0)
          ∙ set_in f.name (a_file (chain_bytes chain)) (tree_of_files (fs ++ (f ∷ hs))) (chain_tree w root) (ap as_tree under ∙ ap (λ gs. a_dir tt (tree_of_files gs)) lengthens.position));
    }
  where
    of_file : (ps : List PlacedEntry) → AreFiles w ps (f ∷ hs) → (b : ℕ) → has_number (blocks_of f.chain) b ≡ true → b < length w.blocks
    of_file [] are b m = absurd are
    of_file (p ∷ ps) are b m = from_live w (Some p.1.block) f.chain b are.0.chain.links m

pub in_any_order : FilesInAnyOrder
in_any_order fs f gs others = tree_moved fs f gs others

pub names_are_found : NamesAreFound
names_are_found = (tree_has, tree_lacks)
