-- The tree of files, whatever their order.
use Rattle.std.proofs.Common.{◌≡◌, Bool, true, false, not, ◌||◌, List, [], ◌∷◌, ◌++◌, refl, sym, ◌∙◌, ap}
use Rattle.chain_reading.proofs.Common.{and_parts, and_from, or_parts, not-true, bytes_eq-Decides, list_any, Name, are_distinct, nothing, a_file, entry, with_entry, ChainFile, chain_bytes, tree_of_files, AreOthers, file_names, clash, with_entry-commutes, with_entry-again, without_absent, entry-same, entry-other}
use Rattle.std.specs.Prelude.{bytes_eq}

-- ---- names that stand once

abbrev is_among : Name → List Name → Bool
is_among n ns = list_any (bytes_eq n) ns

no_test : (m n : Name) → (m ≡ n → ⊥) → bytes_eq m n ≡ false
no_test m n other = elim (bytes_eq m n) as (λ t. bytes_eq m n ≡ t → t ≡ false) [
  | true ↦ λ e. absurd (other ((bytes_eq-Decides m n).0 e))
  | false ↦ λ e. refl
] refl

tested : (m n : Name) → bytes_eq m n ≡ false → m ≡ n → ⊥
tested m n h e = clash (bytes_eq m n) ((bytes_eq-Decides m n).1 e) h

pub others_tested : (n : Name) (ns : List Name) → is_among n ns ≡ false → AreOthers n ns
others_tested n [] h = tt
others_tested n (m ∷ ns) h = let parts = or_parts (bytes_eq n m) (is_among n ns) h in (tested n m parts.0, others_tested n ns parts.1)

pub test_others : (n : Name) (ns : List Name) → AreOthers n ns → is_among n ns ≡ false
test_others n [] h = refl
test_others n (m ∷ ns) h = ap (λ t. t || is_among n ns) (no_test n m h.0) ∙ test_others n ns h.1

pub others-append : (n : Name) (ms ns : List Name) → AreOthers n ms → AreOthers n ns → AreOthers n (ms ++ ns)
others-append n [] ns g h = h
others-append n (m ∷ ms) ns g h = (g.0, others-append n ms ns g.1 h)

pub others_left : (n : Name) (ms ns : List Name) → AreOthers n (ms ++ ns) → AreOthers n ms
others_left n [] ns h = tt
others_left n (m ∷ ms) ns h = (h.0, others_left n ms ns h.1)

pub others_right : (n : Name) (ms ns : List Name) → AreOthers n (ms ++ ns) → AreOthers n ns
others_right n [] ns h = h
others_right n (m ∷ ms) ns h = others_right n ms ns h.1

-- of names each of which stands once, one in the midst
pub distinct_parts : (n : Name) (ms ns : List Name) → are_distinct (ms ++ n ∷ ns) ≡ true → AreOthers n ms × AreOthers n ns × (are_distinct (ms ++ ns) ≡ true)
distinct_parts n [] ns h = let parts = and_parts (not (is_among n ns)) (are_distinct ns) h in (tt, others_tested n ns (not-true (is_among n ns) parts.0), parts.1)
distinct_parts n (m ∷ ms) ns h =
    let parts = and_parts (not (is_among m (ms ++ n ∷ ns))) (are_distinct (ms ++ n ∷ ns)) h in
    let away = others_tested m (ms ++ n ∷ ns) (not-true (is_among m (ms ++ n ∷ ns)) parts.0) in
    let behind = others_right m ms (n ∷ ns) away in
    let later = distinct_parts n ms ns parts.1 in
    ((λ e. behind.0 (sym e), later.0), later.1, and_from (not (is_among m (ms ++ ns))) (are_distinct (ms ++ ns)) (ap not (test_others m (ms ++ ns) (others-append m ms ns (others_left m ms (n ∷ ns) away) behind.1))) later.2)

pub distinct_with : (n : Name) (ms ns : List Name) → are_distinct (ms ++ ns) ≡ true → AreOthers n (ms ++ ns) → are_distinct (ms ++ n ∷ ns) ≡ true
distinct_with n [] ns h others = and_from (not (is_among n ns)) (are_distinct ns) (ap not (test_others n ns others)) h
distinct_with n (m ∷ ms) ns h others =
    let parts = and_parts (not (is_among m (ms ++ ns))) (are_distinct (ms ++ ns)) h in
    let away = others_tested m (ms ++ ns) (not-true (is_among m (ms ++ ns)) parts.0) in
    and_from (not (is_among m (ms ++ n ∷ ns))) (are_distinct (ms ++ n ∷ ns))
    (ap not (test_others m (ms ++ n ∷ ns) (others-append m ms (n ∷ ns) (others_left m ms ns away) (λ e. others.0 (sym e), others_right m ms ns away))))
    (distinct_with n ms ns parts.1 others.1)

-- ---- the tree of files

pub tree_moved : (fs : List ChainFile) (f : ChainFile) (gs : List ChainFile) → AreOthers f.name (file_names fs) → tree_of_files (fs ++ f ∷ gs) ≡ with_entry f.name (a_file (chain_bytes f.chain)) (tree_of_files (fs ++ gs))
tree_moved [] f gs others = refl
tree_moved (h ∷ fs) f gs others =
    ap (with_entry h.name (a_file (chain_bytes h.chain))) (tree_moved fs f gs others.1)
    ∙ with_entry-commutes h.name f.name (a_file (chain_bytes h.chain)) (a_file (chain_bytes f.chain)) (tree_of_files (fs ++ gs)) (λ e. others.0 (sym e)) refl refl

-- a file in place of one of its name
pub tree_set : (fs : List ChainFile) (f g : ChainFile) (gs : List ChainFile) → g.name ≡ f.name → AreOthers f.name (file_names fs)
    → tree_of_files (fs ++ g ∷ gs) ≡ with_entry f.name (a_file (chain_bytes g.chain)) (tree_of_files (fs ++ f ∷ gs))
tree_set fs f g gs same others =
    tree_moved fs g gs (others_of fs same others)
    ∙ (ap (λ n. with_entry n (a_file (chain_bytes g.chain)) (tree_of_files (fs ++ gs))) same
    ∙ (sym (with_entry-again f.name (a_file (chain_bytes g.chain)) (a_file (chain_bytes f.chain)) (tree_of_files (fs ++ gs)) refl)
    ∙ ap (with_entry f.name (a_file (chain_bytes g.chain))) (sym (tree_moved fs f gs others))))
  where
    others_of : (fs : List ChainFile) {m n : Name} → m ≡ n → AreOthers n (file_names fs) → AreOthers m (file_names fs)
    others_of [] e h = tt
    others_of (f ∷ fs) e h = (λ d. h.0 (sym e ∙ d), others_of fs e h.1)

pub tree_lacks : (n : Name) (fs : List ChainFile) → AreOthers n (file_names fs) → entry n (tree_of_files fs) ≡ nothing
tree_lacks n [] others = refl
tree_lacks n (f ∷ fs) others = entry-other n f.name (a_file (chain_bytes f.chain)) (tree_of_files fs) others.0 refl ∙ tree_lacks n fs others.1

-- a file taken away
pub tree_removed : (fs : List ChainFile) (f : ChainFile) (gs : List ChainFile) → AreOthers f.name (file_names fs) → AreOthers f.name (file_names gs)
    → tree_of_files (fs ++ gs) ≡ with_entry f.name nothing (tree_of_files (fs ++ f ∷ gs))
tree_removed fs f gs before behind =
    sym (ap (with_entry f.name nothing) (tree_moved fs f gs before)
    ∙ (with_entry-again f.name nothing (a_file (chain_bytes f.chain)) (tree_of_files (fs ++ gs)) refl
    ∙ without_absent f.name (tree_of_files (fs ++ gs)) (tree_lacks f.name (fs ++ gs) (both fs before))))
  where
    both : (fs : List ChainFile) → AreOthers f.name (file_names fs) → AreOthers f.name (file_names (fs ++ gs))
    both [] h = behind
    both (g ∷ fs) h = (h.0, both fs h.1)

pub tree_has : (fs : List ChainFile) (f : ChainFile) (gs : List ChainFile) → AreOthers f.name (file_names fs) → entry f.name (tree_of_files (fs ++ f ∷ gs)) ≡ a_file (chain_bytes f.chain)
tree_has fs f gs others = ap (entry f.name) (tree_moved fs f gs others) ∙ entry-same f.name (a_file (chain_bytes f.chain)) (tree_of_files (fs ++ gs)) refl
