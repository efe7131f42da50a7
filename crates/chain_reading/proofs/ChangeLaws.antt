-- The chains under a root, where a cluster is written anew.
use Rattle.std.proofs.Common.{◌≡◌, ℕ, ◌+◌, ◌≤◌, Bool, true, false, cond, ◌&&◌, ◌==◌, nat_le, List, [], ◌∷◌, ◌++◌, length, refl, sym, ◌∙◌, ap, subst, inl, inr, ◌⊎◌, arith, append_assoc, length-append, Option, Some, None}
use Rattle.chain_reading.proofs.Common.{and_parts, and_from, or_right, eq-eqb, le-leb, leb-true, flat_map-append, map, option_and_then, list_all, block_len, World, contents, has_number, are_apart, holds, with_contents, contents-other, contents-same, are_distinct, only_if, Entry, Cluster, cluster_in, entries_of, Link, chain_at, blocks_of, links, ChainFile, files_in, Chains, chain_blocks, chain_pairs, names_max, are_right, with_files, with_directory, chains_under, all_held, held_left, held_right, held_append, first_in, times, times-append, none_times, apart_times, times_apart, IsFrom, IsChain, PlacedEntry, AreFiles, placed, AreEntries, file_blocks, file_pairs, file_names, relinked, Rewrites}
use Rattle.tsd_model.proofs.PairLaws.{all_of_held}
use Rattle.chain_reading.proofs.ChainedLaws.{IsListing, listing_is, listing_from, chain_is, chain_from, from_same, files_same, files_split, files-append, entries_split, entries-append}
use Rattle.tsd_model.proofs.ValueLaws.{clash}

-- ---- what is there

-- the chains under a root, as lists
pub record HasChains (w : World) (root : ℕ) (c : Chains) : Type 0 where
  pub directory : IsChain w root c.directory
  pub listing : IsListing w c.directory c.files
  pub right : are_right w c ≡ true

pub has_chains : (w : World) (root : ℕ) (c : Chains) → chains_under w root ≡ Some c → HasChains w root c
has_chains w root c h = by_directory (chain_at w w.geometry.blocks root) refl h
  where
    by_right : (ls : List Link) (fs : List ChainFile) (t : Bool) → are_right w (record { directory = ls; files = fs }) ≡ t → IsChain w root ls → IsListing w ls fs → only_if t (λ _. Some (record { directory = ls; files = fs })) ≡ Some c → HasChains w root c
    by_right ls fs false e chain listing h = absurd (cc)
    by_right ls fs true e chain listing h =
        let same : record { directory = ls; files = fs } ≡ c = cc in
        subst (HasChains w root) same (record { directory = chain; listing = listing; right = e })

    by_files : (ls : List Link) (o : Option (List ChainFile)) → files_in w ls ≡ o → IsChain w root ls → with_files w ls o ≡ Some c → HasChains w root c
    by_files ls None e chain h = absurd (cc)
    by_files ls (Some fs) e chain h = by_right ls fs (are_right w (record { directory = ls; files = fs })) refl chain (listing_is w ls fs e) h

    by_directory : (o : Option (List Link)) → chain_at w w.geometry.blocks root ≡ o → with_directory w o ≡ Some c → HasChains w root c
    by_directory None e h = absurd (cc)
    by_directory (Some ls) e h = by_files ls (files_in w ls) refl (chain_is w root ls e) h

pub chains_are : (w : World) (root : ℕ) (c : Chains) → HasChains w root c → chains_under w root ≡ Some c
chains_are w root c has =
    ap (with_directory w) (chain_from w root c.directory has.directory)
    ∙ (ap (with_files w c.directory) (listing_from w c.directory c.files has.listing)
    ∙ ap (λ t. only_if t (λ _. Some c)) has.right)

-- ---- what is right, by counting

pub record IsRight (w : World) (c : Chains) : Type 0 where
  pub held : (a b : ℕ) → holds (chain_pairs c) a b ≡ true → holds w.pairs a b ≡ true
  pub once : (b : ℕ) → times b (chain_blocks c) ≤ 1
  pub names : are_distinct (file_names c.files) ≡ true
  pub few : length c.files ≤ names_max

pub right_is : (w : World) (c : Chains) → are_right w c ≡ true → IsRight w c
right_is w c right =
    let A = list_all (λ e. holds w.pairs e.0 e.1) (chain_pairs c) in
    let B = are_apart (chain_blocks c) in
    let C = are_distinct (map (λ f. f.name) c.files) in
    let D = nat_le (length c.files) names_max in
    let outer = and_parts (A && B && C) D right in
    let middle = and_parts (A && B) C outer.0 in
    let inner = and_parts A B middle.0 in
    record {
      held = λ a b h. all_of_held (λ e. holds w.pairs e.0 e.1) (chain_pairs c) a b inner.0 h;
      once = apart_times (chain_blocks c) inner.1;
      names = middle.1;
      few = leb-true (length c.files) names_max outer.1;
    }

pub is_right : (w : World) (c : Chains) → IsRight w c → are_right w c ≡ true
is_right w c r =
    let A = list_all (λ e. holds w.pairs e.0 e.1) (chain_pairs c) in
    let B = are_apart (chain_blocks c) in
    let C = are_distinct (map (λ f. f.name) c.files) in
    let D = nat_le (length c.files) names_max in
    and_from (A && B && C) D (and_from (A && B) C (and_from A B (all_held (chain_pairs c) w.pairs r.held) (times_apart (chain_blocks c) r.once)) r.names) (le-leb (length c.files) names_max r.few)

-- ---- lists in parts

pub blocks-append : (ls ms : List Link) → blocks_of (ls ++ ms) ≡ blocks_of ls ++ blocks_of ms
blocks-append [] ms = refl
blocks-append (l ∷ ls) ms = ap (λ bs. l.block ∷ bs) (blocks-append ls ms)

pub placed-append : (from : ℕ) (es fs : List Entry) → placed from (es ++ fs) ≡ placed from es ++ placed from fs
placed-append from [] fs = refl
placed-append from (e ∷ es) fs = ap (λ ps. (from, e) ∷ ps) (placed-append from es fs)

pub file_blocks-append : (fs gs : List ChainFile) → file_blocks (fs ++ gs) ≡ file_blocks fs ++ file_blocks gs
file_blocks-append fs gs = flat_map-append (λ f. blocks_of f.chain) fs gs

pub file_pairs-append : (fs gs : List ChainFile) → file_pairs (fs ++ gs) ≡ file_pairs fs ++ file_pairs gs
file_pairs-append fs gs = flat_map-append (λ f. links (f.from ∷ blocks_of f.chain)) fs gs

pub times_three : (b : ℕ) (fs gs hs : List ChainFile) → times b (file_blocks (fs ++ (gs ++ hs))) ≡ times b (file_blocks fs) + (times b (file_blocks gs) + times b (file_blocks hs))
times_three b fs gs hs =
    ap (times b) (file_blocks-append fs (gs ++ hs) ∙ ap (λ xs. file_blocks fs ++ xs) (file_blocks-append gs hs))
    ∙ (times-append b (file_blocks fs) (file_blocks gs ++ file_blocks hs) ∙ ap (λ n. times b (file_blocks fs) + n) (times-append b (file_blocks gs) (file_blocks hs)))

-- the pairs of files in three parts
pub held_three : (fs gs hs : List ChainFile) (a b : ℕ) → holds (file_pairs (fs ++ (gs ++ hs))) a b ≡ true
    → (holds (file_pairs fs) a b ≡ true) ⊎ ((holds (file_pairs gs) a b ≡ true) ⊎ (holds (file_pairs hs) a b ≡ true))
held_three fs gs hs a b h = elim (held_append (file_pairs fs) (file_pairs (gs ++ hs)) a b (ap (λ es. holds es a b) (sym (file_pairs-append fs (gs ++ hs))) ∙ h)) [
  | inl first ↦ inl first
  | inr rest ↦ inr (held_append (file_pairs gs) (file_pairs hs) a b (ap (λ es. holds es a b) (sym (file_pairs-append gs hs)) ∙ rest))
]

pub first_held : (fs gs hs : List ChainFile) (a b : ℕ) → holds (file_pairs fs) a b ≡ true → holds (file_pairs (fs ++ (gs ++ hs))) a b ≡ true
first_held fs gs hs a b h = ap (λ es. holds es a b) (file_pairs-append fs (gs ++ hs)) ∙ held_left (file_pairs fs) (file_pairs (gs ++ hs)) a b h

pub last_held : (fs gs hs : List ChainFile) (a b : ℕ) → holds (file_pairs hs) a b ≡ true → holds (file_pairs (fs ++ (gs ++ hs))) a b ≡ true
last_held fs gs hs a b h =
    ap (λ es. holds es a b) (file_pairs-append fs (gs ++ hs)) ∙ held_right (file_pairs fs) (file_pairs (gs ++ hs)) a b
    (ap (λ es. holds es a b) (file_pairs-append gs hs) ∙ held_right (file_pairs gs) (file_pairs hs) a b h)

-- a block of a list in which that one doesn't stand is another
pub is_other : (d b : ℕ) (xs : List ℕ) → times d xs ≡ 0 → has_number xs b ≡ true → b ≡ d → ⊥
is_other d b xs none m e = clash (has_number xs d) (ap (has_number xs) (sym e) ∙ m) (none_times d xs none)

-- ---- the directory with one cluster written anew, and what follows it

-- the chain up to that one, and on from it
pub from_changed : (w next : World) (o : Option ℕ) (ls : List Link) (l : Link) (ms : List Link) (cl : Cluster) (ks : List Link) → ((b : ℕ) → has_number (blocks_of ls) b ≡ true → contents next b ≡ contents w b)
    → option_and_then cluster_in (contents next l.block) ≡ Some cl → IsFrom next cl.next ks → IsFrom w o (ls ++ l ∷ ms) → IsFrom next o (ls ++ relinked l cl ∷ ks)
from_changed w next o [] l ms cl ks same read tail is = (is.0, read, tail)
from_changed w next o (k ∷ ls) l ms cl ks same read tail is =
    (is.0, ap (option_and_then cluster_in) (same k.block (first_in k.block (blocks_of ls))) ∙ is.1, from_changed w next k.cluster.next ls l ms cl ks (λ b m. same b (or_right (k.block == b) _ m)) read tail is.2)

module _ (w : World) (root : ℕ) (c : Chains) (has : HasChains w root c) (ls : List Link) (l : Link) (ms : List Link) (bytes : List ℕ) (cl : Cluster) (rewrites : Rewrites w c ls l ms bytes cl) where
  abbrev next : World
  next = with_contents w l.block bytes

  whole : IsRight w c
  whole = right_is w c has.right

  -- its block stands nowhere else
  counts : times l.block (blocks_of ls) + ((1 + times l.block (blocks_of ms)) + times l.block (file_blocks c.files)) ≤ 1
  counts =
      let d = l.block in
      let one : ◌≡◌ {A = ℕ} (cond (d == d) 1 0) 1 = ap (λ t. cond t 1 0) (eq-eqb d d refl) in
      let parts : times d (blocks_of c.directory) ≡ times d (blocks_of ls) + (cond (d == d) 1 0 + times d (blocks_of ms)) = ap (λ xs. times d (blocks_of xs)) rewrites.position ∙ (ap (times d) (blocks-append ls (l ∷ ms)) ∙ times-append d (blocks_of ls) (d ∷ blocks_of ms)) in
      let all = times-append d (blocks_of c.directory) (file_blocks c.files) in
      let most = whole.once d in
      omega (arith, one, parts, all, most)

  pub not_before : times l.block (blocks_of ls) ≡ 0
  not_before = let h = counts in omega (arith, h)

  pub not_behind : times l.block (blocks_of ms) ≡ 0
  not_behind = let h = counts in omega (arith, h)

  pub not_of_files : times l.block (file_blocks c.files) ≡ 0
  not_of_files = let h = counts in omega (arith, h)

  pub stays : (xs : List ℕ) → times l.block xs ≡ 0 → (b : ℕ) → has_number xs b ≡ true → contents next b ≡ contents w b
  stays xs none b m = contents-other w l.block b bytes (is_other l.block b xs none m)

  read_now : option_and_then cluster_in (contents next l.block) ≡ Some cl
  read_now = ap (option_and_then cluster_in) (contents-same w l.block bytes rewrites.within) ∙ rewrites.read

  pub tail_stays : cl.next ≡ l.cluster.next → IsFrom next cl.next ms
  tail_stays same = subst (λ o. IsFrom next o ms) (sym same) (from_same w next l.cluster.next ms (stays (blocks_of ms) not_behind) (last_part (Some root) ls (subst (IsFrom w (Some root)) rewrites.position has.directory.links)))
    where
      last_part : (o : Option ℕ) (ks : List Link) → IsFrom w o (ks ++ l ∷ ms) → IsFrom w l.cluster.next ms
      last_part o [] is = is.2
      last_part o (k ∷ ks) is = last_part k.cluster.next ks is.2

  pub directory_changed : (ks : List Link) (fs : List ChainFile) → IsFrom next cl.next ks → length (ls ++ relinked l cl ∷ ks) ≤ w.geometry.blocks → IsListing next (ls ++ relinked l cl ∷ ks) fs
      → IsRight next (record { directory = ls ++ relinked l cl ∷ ks; files = fs }) → HasChains next root (record { directory = ls ++ relinked l cl ∷ ks; files = fs })
  directory_changed ks fs tail short listing right = record {
    directory = record {
      links = from_changed w next (Some root) ls l ms cl ks (stays (blocks_of ls) not_before) read_now tail (subst (IsFrom w (Some root)) rewrites.position has.directory.links);
      short = short;
    };
    listing = listing;
    right = is_right next (record { directory = ls ++ relinked l cl ∷ ks; files = fs }) right;
  }

  -- ---- its entries

  -- the parts of the files, and what follows where names and their number are right
  pub record EntriesChange (olds news : List Entry) (gs : List ChainFile) : Type 0 where
    pub before : List ChainFile
    pub old : List ChainFile
    pub behind : List ChainFile
    pub files : c.files ≡ before ++ (old ++ behind)
    pub were : AreFiles w (placed l.block olds) old
    pub after : are_distinct (file_names (before ++ (gs ++ behind))) ≡ true → length (before ++ (gs ++ behind)) ≤ names_max
        → HasChains next root (record { directory = ls ++ relinked l cl ∷ ms; files = before ++ (gs ++ behind) })

  module _ (es olds news fs : List Entry) (was : entries_of (block_len w.geometry) l.cluster ≡ Some (es ++ (olds ++ fs))) (now : entries_of (block_len w.geometry) cl ≡ Some (es ++ (news ++ fs))) (same_next : cl.next ≡ l.cluster.next)
      (gs : List ChainFile) (are_new : AreFiles w (placed l.block news) gs) (fresh : are_apart (chain_blocks c ++ file_blocks gs) ≡ true) (held : (a b : ℕ) → holds (file_pairs gs) a b ≡ true → holds w.pairs a b ≡ true) where
    len : ℕ
    len = block_len w.geometry

    -- no block twice among all of them
    all_once : (b : ℕ) → times b (blocks_of c.directory) + (times b (file_blocks c.files) + times b (file_blocks gs)) ≤ 1
    all_once b =
        let one = times-append b (chain_blocks c) (file_blocks gs) in
        let two = times-append b (blocks_of c.directory) (file_blocks c.files) in
        omega (arith, one, two, apart_times (chain_blocks c ++ file_blocks gs) fresh b)

    in_three : (xs : List Entry) → placed l.block (es ++ (xs ++ fs)) ≡ placed l.block es ++ (placed l.block xs ++ placed l.block fs)
    in_three xs = placed-append l.block es (xs ++ fs) ∙ ap (λ ps. placed l.block es ++ ps) (placed-append l.block xs fs)

    -- the new block's files aren't written
    new_once : times l.block (file_blocks gs) ≡ 0
    new_once =
        let here : times l.block (blocks_of c.directory) ≡ times l.block (blocks_of ls) + (cond (l.block == l.block) 1 0 + times l.block (blocks_of ms)) = ap (λ xs. times l.block (blocks_of xs)) rewrites.position ∙ (ap (times l.block) (blocks-append ls (l ∷ ms)) ∙ times-append l.block (blocks_of ls) (l.block ∷ blocks_of ms)) in
        let one : ◌≡◌ {A = ℕ} (cond (l.block == l.block) 1 0) 1 = ap (λ t. cond t 1 0) (eq-eqb l.block l.block refl) in
        omega (arith, all_once l.block, here, one)

    by_parts : (qs rs rest : List PlacedEntry) (es_l : List Entry) → has.listing.entries ≡ qs ++ rs → AreEntries (block_len w.geometry) ls qs → entries_of (block_len w.geometry) l.cluster ≡ Some es_l → rs ≡ placed l.block es_l ++ rest → AreEntries (block_len w.geometry) ms rest → EntriesChange olds news gs
    by_parts qs rs rest es_l all front are_l is_rs back =
        let same : es_l ≡ es ++ (olds ++ fs) = cc in
        let old_list : has.listing.entries ≡ (qs ++ placed l.block es) ++ (placed l.block olds ++ (placed l.block fs ++ rest)) =
        all ∙ (ap (λ xs. qs ++ xs) (is_rs ∙ (ap (λ xs. placed l.block xs ++ rest) same ∙ (ap (λ xs. xs ++ rest) (in_three olds) ∙ regroup (placed l.block es) (placed l.block olds) (placed l.block fs) rest)))
        ∙ sym (append_assoc qs (placed l.block es) (placed l.block olds ++ (placed l.block fs ++ rest)))) in
        let new_list : (qs ++ placed l.block es) ++ (placed l.block news ++ (placed l.block fs ++ rest)) ≡ qs ++ (placed l.block (es ++ (news ++ fs)) ++ rest) =
        append_assoc qs (placed l.block es) (placed l.block news ++ (placed l.block fs ++ rest))
        ∙ ap (λ xs. qs ++ xs) (sym (ap (λ xs. xs ++ rest) (in_three news) ∙ regroup (placed l.block es) (placed l.block news) (placed l.block fs) rest)) in
        let split = files_split w (qs ++ placed l.block es) (placed l.block olds ++ (placed l.block fs ++ rest)) c.files (subst (λ ps. AreFiles w ps c.files) old_list has.listing.files) in
        let later = files_split w (placed l.block olds) (placed l.block fs ++ rest) split.1 split.4 in
        let before = split.0 in
        let old = later.0 in
        let behind = later.1 in
        let files : c.files ≡ before ++ (old ++ behind) = split.2 ∙ ap (λ xs. before ++ xs) later.2 in
        let counted : (b : ℕ) → times b (file_blocks c.files) ≡ times b (file_blocks before) + (times b (file_blocks old) + times b (file_blocks behind)) = λ b. ap (λ xs. times b (file_blocks xs)) files ∙ times_three b before old behind in
        let d = l.block in
        let none_before : times d (file_blocks before) ≡ 0 = omega (arith, counted d, not_of_files) in
        let none_behind : times d (file_blocks behind) ≡ 0 = omega (arith, counted d, not_of_files) in
        let in_order : AreEntries (block_len w.geometry) (ls ++ relinked l cl ∷ ms) ((qs ++ placed l.block es) ++ (placed l.block news ++ (placed l.block fs ++ rest))) =
        subst (AreEntries (block_len w.geometry) (ls ++ relinked l cl ∷ ms)) (sym new_list) (entries-append (block_len w.geometry) ls (relinked l cl ∷ ms) qs (placed l.block (es ++ (news ++ fs)) ++ rest) front (es ++ (news ++ fs), rest, now, refl, back)) in
        let new_files : AreFiles next ((qs ++ placed l.block es) ++ (placed l.block news ++ (placed l.block fs ++ rest))) (before ++ (gs ++ behind)) =
        files-append next (qs ++ placed l.block es) (placed l.block news ++ (placed l.block fs ++ rest)) before (gs ++ behind)
        (files_same w next (qs ++ placed l.block es) before refl (stays (file_blocks before) none_before) split.3)
        (files-append next (placed l.block news) (placed l.block fs ++ rest) gs behind
        (files_same w next (placed l.block news) gs refl (stays (file_blocks gs) new_once) are_new)
        (files_same w next (placed l.block fs ++ rest) behind refl (stays (file_blocks behind) none_behind) later.4)) in
        let same_blocks : blocks_of (ls ++ relinked l cl ∷ ms) ≡ blocks_of c.directory = blocks-append ls (relinked l cl ∷ ms) ∙ (sym (blocks-append ls (l ∷ ms)) ∙ ap blocks_of (sym rewrites.position)) in
        record {
          before = before;
          old = old;
          behind = behind;
          files = files;
          were = later.3;
          after = λ names few. directory_changed ms (before ++ (gs ++ behind)) (tail_stays same_next)
              (subst (λ k. k ≤ w.geometry.blocks) (same_length rewrites.position) has.directory.short)
              (record { entries = (qs ++ placed l.block es) ++ (placed l.block news ++ (placed l.block fs ++ rest)); in_order = in_order; files = new_files })
              (record {
                held = λ a b h. elim (held_append (links (blocks_of (ls ++ relinked l cl ∷ ms))) (file_pairs (before ++ (gs ++ behind))) a b h) [
                  | inl own ↦ whole.held a b (held_left (links (blocks_of c.directory)) (file_pairs c.files) a b (ap (λ xs. holds (links xs) a b) (sym same_blocks) ∙ own))
                  | inr theirs ↦ elim (held_three before gs behind a b theirs) [
                    | inl first ↦ whole.held a b (held_right (links (blocks_of c.directory)) (file_pairs c.files) a b (ap (λ xs. holds (file_pairs xs) a b) files ∙ first_held before old behind a b first))
                    | inr more ↦ elim more [
                      | inl new ↦ held a b new
                      | inr last ↦ whole.held a b (held_right (links (blocks_of c.directory)) (file_pairs c.files) a b (ap (λ xs. holds (file_pairs xs) a b) files ∙ last_held before old behind a b last))
                    ]
                  ]
                ];
                once = λ b.
                    let own = times-append b (blocks_of (ls ++ relinked l cl ∷ ms)) (file_blocks (before ++ (gs ++ behind))) in
                    let their = times_three b before gs behind in
                    let same_times = ap (times b) same_blocks in
                    omega (arith, own, their, same_times, counted b, all_once b);
                names = names;
                few = few;
              });
        }
      where
        regroup : (xs ys zs us : List PlacedEntry) → (xs ++ (ys ++ zs)) ++ us ≡ xs ++ (ys ++ (zs ++ us))
        regroup xs ys zs us = append_assoc xs (ys ++ zs) us ∙ ap (λ ps. xs ++ ps) (append_assoc ys zs us)

        same_length : c.directory ≡ ls ++ l ∷ ms → length c.directory ≡ length (ls ++ relinked l cl ∷ ms)
        same_length e = ap length e ∙ (length-append ls (l ∷ ms) ∙ sym (length-append ls (relinked l cl ∷ ms)))

    pub entries_change : EntriesChange olds news gs
    entries_change =
        let split = entries_split (block_len w.geometry) ls (l ∷ ms) has.listing.entries (subst (λ xs. AreEntries (block_len w.geometry) xs has.listing.entries) rewrites.position has.listing.in_order) in
        by_parts split.0 split.1 split.4.1 split.4.0 split.2 split.3 split.4.2 split.4.3 split.4.4
