-- Where a look comes to the end, the chains are there, and what they name is held and was come to once.
use Rattle.std.proofs.Common.{◌≡◌, ℕ, zero, suc, ◌+◌, ◌≤◌, Bool, true, false, cond, ◌&&◌, ◌||◌, ◌==◌, nat_lt, nat_le, List, [], ◌∷◌, ◌++◌, length, refl, sym, ◌∙◌, ap, subst, arith, inl, inr, Option, Some, None}
use Rattle.chain_reading.proofs.Common.{and_parts, and_from, or_cases, or_left, or_right, eq-eqb, eqb-true, leb-true, is_none, option_and_then, list_all, block_len, World, has_number, are_apart, holds, is_pair, Entry, Cluster, Link, blocks_of, links, is_filled, ChainFile, names_max, held_append, number_right, times, times-append, times_none, are_held, all_in, next_blocks, entry_blocks, IsFrom, PlacedEntry, AreFiles, placed, AreEntries, file_blocks, file_pairs, part_seen, ListedCluster, blocks_listed, page_seen, go_on, file_by, file_from, files_from, page_on, directory_by, directory_from}
use Rattle.chain_reading.proofs.ChainedLaws.{files-append}
use Rattle.chain_reading.proofs.ChangeLaws.{file_blocks-append, file_pairs-append}
use Rattle.chain_reading.proofs.WalkLaws.{link_of}
use Rattle.chain_reading.proofs.SeenLaws.{room_of, passed, PartIs, part_is, PageIs, page_is}

-- ---- what was come to

abbrev pub Once : List ℕ → Type 0
Once s = (c : ℕ) → times c s ≤ 1

-- these blocks were come to, each for the first time
pub record Adds (s t bs : List ℕ) : Type 0 where
  pub count : (c : ℕ) → times c t ≡ times c bs + times c s
  pub once : Once s → Once t

pub once_more : (b : ℕ) (s : List ℕ) → has_number s b ≡ false → Once s → Once (b ∷ s)
once_more b s new once c = by_test (b == c) refl
  where
    by_test : (t : Bool) → (b == c) ≡ t → cond t 1 0 + times c s ≤ 1
    by_test true e = let none : times c s ≡ 0 = subst (λ x. times x s ≡ 0) (eqb-true b c e) (times_none b s new) in omega (arith, none)
    by_test false e = omega (arith, once c)

adds_none : (s : List ℕ) → Adds s s []
adds_none s = record { count = λ c. omega arith; once = λ h. h }

-- one block, and then others
adds_first : (b : ℕ) (s t bs : List ℕ) → has_number s b ≡ false → Adds (b ∷ s) t bs → Adds s t (b ∷ bs)
adds_first b s t bs new rest = record {
  count = λ c. let e = rest.count c in omega (arith, e);
  once = λ h. rest.once (once_more b s new h);
}

adds_both : (s t u bs cs : List ℕ) → Adds s t bs → Adds t u cs → Adds s u (bs ++ cs)
adds_both s t u bs cs first second = record {
  count = λ c. let one = first.count c in let two = second.count c in let all = times-append c bs cs in omega (arith, one, two, all);
  once = λ h. second.once (first.once h);
}

-- ---- a file

abbrev pub begins_filled : Bool → List Link → Bool
begins_filled first [] = true
begins_filled first (l ∷ ls) = first || nat_lt 0 l.cluster.used

pub record FileRight (w : World) (first : Bool) (n b : ℕ) (s t : List ℕ) : Type 0 where
  pub chain : List Link
  pub from : IsFrom w (Some b) chain
  pub short : length chain ≤ n
  pub filled : is_filled (room_of w) chain ≡ true
  pub begins : begins_filled first chain ≡ true
  pub held : (x y : ℕ) → holds (links (blocks_of chain)) x y ≡ true → holds w.pairs x y ≡ true
  pub adds : Adds s t (blocks_of chain)

-- its block points to the next one
next_held : (w : World) (b d : ℕ) (bs : List ℕ) → are_held w b (d ∷ bs) ≡ true → holds w.pairs b d ≡ true
next_held w b d bs h = (and_parts (holds w.pairs b d) (list_all (holds w.pairs b) bs) (and_parts (are_apart (d ∷ bs)) (list_all (holds w.pairs b) (d ∷ bs)) h).1).0

pub next_held_of : (w next : World) → next ≡ w → (b d : ℕ) (c : Cluster) → are_held w b (next_blocks c.next) ≡ true → c.next ≡ Some d → holds next.pairs b d ≡ true
next_held_of w next same b d c held link = ap (λ x. holds x.pairs b d) same ∙ next_held w b d [] (ap (λ o. are_held w b (next_blocks o)) (sym link) ∙ held)

-- linked to what begins at a block to which it points
pub linked_on : (w : World) (b d : ℕ) (ls : List Link) → IsFrom w (Some d) ls → holds w.pairs b d ≡ true → ((x y : ℕ) → holds (links (blocks_of ls)) x y ≡ true → holds w.pairs x y ≡ true)
    → (x y : ℕ) → holds (links (b ∷ blocks_of ls)) x y ≡ true → holds w.pairs x y ≡ true
linked_on w b d [] from pair held x y h = absurd (cc)
linked_on w b d (l ∷ ls) from pair held x y h = elim (or_cases (is_pair x y (b, l.block)) (holds (links (l.block ∷ blocks_of ls)) x y) h) [
  | inl here ↦
      let parts = and_parts (b == x) (l.block == y) here in
      let same : d ≡ l.block = cc in
      ap (λ a. holds w.pairs a y) (sym (eqb-true b x parts.0)) ∙ (ap (holds w.pairs b) (sym (same ∙ eqb-true l.block y parts.1)) ∙ pair)
  | inr later ↦ held x y later
]

-- one cluster more
filled_on : (w : World) (b d : ℕ) (c : Cluster) (ls : List Link) → IsFrom w (Some d) ls → (c.used == room_of w) ≡ true → is_filled (room_of w) ls ≡ true → begins_filled false ls ≡ true → is_filled (room_of w) (link_of b c ∷ ls) ≡ true
filled_on w b d c [] from full filled begins = absurd (cc)
filled_on w b d c (l ∷ ls) from full filled begins =
    and_from ((c.used == room_of w) && nat_lt 0 l.cluster.used) (is_filled (room_of w) (l ∷ ls)) (and_from (c.used == room_of w) (nat_lt 0 l.cluster.used) full begins) filled

module _ (w : World) (first : Bool) (n b : ℕ) (s t : List ℕ) (later : (d : ℕ) (u : List ℕ) → file_from w n false d u ≡ Some t → FileRight w false n d u t) where
  file_on : (c : Cluster) → has_number s b ≡ false → PartIs w first b c → (o : Option ℕ) → c.next ≡ o → go_on (λ d u. file_from w n false d u) (b ∷ s) o ≡ Some t → FileRight w first (suc n) b s t
  file_on c new is None next h =
      let same : b ∷ s ≡ t = cc in
      record {
        chain = link_of b c ∷ [];
        from = (refl, is.at, next);
        short = omega arith;
        filled = is.fits;
        begins = (and_parts (first || nat_lt 0 c.used) (is_none c.next || (c.used == room_of w)) is.filled).0;
        held = λ x y k. absurd (cc);
        adds = subst (λ u. Adds s u (b ∷ [])) same (adds_first b s (b ∷ s) [] new (adds_none (b ∷ s)));
      }
  file_on c new is (Some d) next h =
      let rest = later d (b ∷ s) h in
      let filled = and_parts (first || nat_lt 0 c.used) (is_none c.next || (c.used == room_of w)) is.filled in
      let full : (c.used == room_of w) ≡ true = ap (λ o. is_none o || (c.used == room_of w)) (sym next) ∙ filled.1 in
      let pair : holds w.pairs b d ≡ true = next_held w b d [] (ap (λ o. are_held w b (next_blocks o)) (sym next) ∙ is.held) in
      record {
        chain = link_of b c ∷ rest.chain;
        from = (refl, is.at, subst (λ o. IsFrom w o rest.chain) (sym next) rest.from);
        short = let k = rest.short in omega (arith, k);
        filled = filled_on w b d c rest.chain rest.from full rest.filled rest.begins;
        begins = filled.0;
        held = linked_on w b d rest.chain rest.from pair rest.held;
        adds = adds_first b s t (blocks_of rest.chain) new rest.adds;
      }

  file_seen : (o : Option Cluster) → has_number s b ≡ false → part_seen w first b ≡ o → file_by (λ d u. file_from w n false d u) (b ∷ s) o ≡ Some t → FileRight w first (suc n) b s t
  file_seen None new e h = absurd (cc)
  file_seen (Some c) new e h = file_on c new (part_is w first b c e) c.next refl h

  file_new : (u : Bool) → has_number s b ≡ u → cond u None (file_by (λ d v. file_from w n false d v) (b ∷ s) (part_seen w first b)) ≡ Some t → FileRight w first (suc n) b s t
  file_new true e h = absurd (cc)
  file_new false e h = file_seen (part_seen w first b) e refl h

pub file_right : (w : World) (first : Bool) (n b : ℕ) (s t : List ℕ) → file_from w n first b s ≡ Some t → FileRight w first n b s t
file_right w first zero b s t h = absurd (cc)
file_right w first (suc n) b s t h = file_new w first n b s t (λ d u k. file_right w false n d u t k) (has_number s b) refl h

-- ---- the files of entries

pub record FilesRight (w : World) (from : ℕ) (es : List Entry) (s t : List ℕ) : Type 0 where
  pub files : List ChainFile
  pub are : AreFiles w (placed from es) files
  pub held : (x y : ℕ) → holds (file_pairs files) x y ≡ true → holds w.pairs x y ≡ true
  pub adds : Adds s t (file_blocks files)

module _ (w : World) (from : ℕ) (e : Entry) (es : List Entry) (s t : List ℕ) (pair : holds w.pairs from e.block ≡ true) (later : (u : List ℕ) → files_from w (entry_blocks es) u ≡ Some t → FilesRight w from es u t) where
  files_on : (o : Option (List ℕ)) → file_from w w.geometry.blocks true e.block s ≡ o → option_and_then (λ u. files_from w (entry_blocks es) u) o ≡ Some t → FilesRight w from (e ∷ es) s t
  files_on None is h = absurd (cc)
  files_on (Some u) is h =
      let one = file_right w true w.geometry.blocks e.block s u is in
      let rest = later u h in
      let f : ChainFile = record { name = e.name; from = from; chain = one.chain } in
      record {
        files = f ∷ rest.files;
        are = (record { name = refl; from = refl; chain = record { links = one.from; short = one.short }; filled = one.filled }, rest.are);
        held = λ x y k. elim (held_append (links (from ∷ blocks_of one.chain)) (file_pairs rest.files) x y k) [
          | inl own ↦ linked_on w from e.block one.chain one.from pair one.held x y own
          | inr other ↦ rest.held x y other
        ];
        adds = adds_both s u t (blocks_of one.chain) (file_blocks rest.files) one.adds rest.adds;
      }

pub files_right : (w : World) (from : ℕ) (es : List Entry) (s t : List ℕ) → ((b : ℕ) → has_number (entry_blocks es) b ≡ true → holds w.pairs from b ≡ true) → files_from w (entry_blocks es) s ≡ Some t → FilesRight w from es s t
files_right w from [] s t held h =
    let same : s ≡ t = cc in
    record { files = []; are = tt; held = λ x y k. absurd (cc); adds = subst (λ u. Adds s u []) same (adds_none s) }
files_right w from (e ∷ es) s t held h =
    files_on w from e es s t (held e.block (or_left (e.block == e.block) _ (eq-eqb e.block e.block refl)))
    (λ u k. files_right w from es u t (λ b m. held b (or_right (e.block == b) _ m)) k) (file_from w w.geometry.blocks true e.block s) refl h

-- ---- the directory

pub record DirectoryRight (w : World) (n b count : ℕ) (s t : List ℕ) : Type 0 where
  pub chain : List Link
  pub entries : List PlacedEntry
  pub files : List ChainFile
  pub from : IsFrom w (Some b) chain
  pub short : length chain ≤ n
  pub listed : AreEntries (block_len w.geometry) chain entries
  pub are : AreFiles w entries files
  pub linked : (x y : ℕ) → holds (links (blocks_of chain)) x y ≡ true → holds w.pairs x y ≡ true
  pub held : (x y : ℕ) → holds (file_pairs files) x y ≡ true → holds w.pairs x y ≡ true
  pub count_of : (c : ℕ) → times c t ≡ (times c (blocks_of chain) + times c (file_blocks files)) + times c s
  pub once : Once s → Once t
  pub few : count + length files ≤ names_max

-- as many files as entries
pub as_many : (w : World) (from : ℕ) (es : List Entry) (fs : List ChainFile) → AreFiles w (placed from es) fs → length fs ≡ length es
as_many w from [] [] are = refl
as_many w from [] (f ∷ fs) are = absurd are
as_many w from (e ∷ es) [] are = absurd are
as_many w from (e ∷ es) (f ∷ fs) are = ap (λ k. suc k) (as_many w from es fs are.1)

all_held : (w : World) (b : ℕ) (bs cs : List ℕ) → are_held w b (bs ++ cs) ≡ true → (c : ℕ) → has_number cs c ≡ true → holds w.pairs b c ≡ true
all_held w b bs cs h c m = all_in (holds w.pairs b) (bs ++ cs) c (and_parts (are_apart (bs ++ cs)) (list_all (holds w.pairs b) (bs ++ cs)) h).1 (number_right bs cs c m)

-- what a cluster of the directory names is pointed to from its block
pub entry_held_of : (w next : World) → next ≡ w → (b : ℕ) (p : ListedCluster) → are_held w b (blocks_listed p) ≡ true → (d : ℕ) → has_number (entry_blocks p.entries) d ≡ true → holds next.pairs b d ≡ true
entry_held_of w next same b p held d m = ap (λ x. holds x.pairs b d) same ∙ all_held w b (next_blocks p.cluster.next) (entry_blocks p.entries) held d m

pub page_held_of : (w next : World) → next ≡ w → (b d : ℕ) (p : ListedCluster) → are_held w b (blocks_listed p) ≡ true → p.cluster.next ≡ Some d → holds next.pairs b d ≡ true
page_held_of w next same b d p held link = ap (λ x. holds x.pairs b d) same ∙ next_held w b d (entry_blocks p.entries) (ap (λ o. are_held w b (next_blocks o ++ entry_blocks p.entries)) (sym link) ∙ held)

module _ (w : World) (n b count : ℕ) (s t : List ℕ) (later : (d k : ℕ) (u : List ℕ) → directory_from w n d k u ≡ Some t → DirectoryRight w n d k u t) where
  abbrev follow : ℕ → ℕ → List ℕ → Option (List ℕ)
  follow d k u = directory_from w n d k u

  directory_on : (p : ListedCluster) → has_number s b ≡ false → PageIs w b p → (u : List ℕ) → files_from w (entry_blocks p.entries) (b ∷ s) ≡ Some u → (o : Option ℕ) → p.cluster.next ≡ o
      → page_on follow o (count + length p.entries) (Some u) ≡ Some t → DirectoryRight w (suc n) b count s t
  directory_on p new is u files None next h =
      let own = files_right w b p.entries (b ∷ s) u (all_held w b (next_blocks p.cluster.next) (entry_blocks p.entries) is.held) files in
      let pass = passed (nat_le (count + length p.entries) names_max) u t h in
      let many = as_many w b p.entries own.files own.are in
      let few = leb-true (count + length p.entries) names_max pass.0 in
      record {
        chain = link_of b p.cluster ∷ [];
        entries = placed b p.entries ++ [];
        files = own.files ++ [];
        from = (refl, is.at, next);
        short = omega arith;
        listed = (p.entries, [], is.entries, refl, refl);
        are = files-append w (placed b p.entries) [] own.files [] own.are tt;
        linked = λ x y k. absurd (cc);
        held = λ x y k. elim (held_append (file_pairs own.files) [] x y (ap (λ es. holds es x y) (sym (file_pairs-append own.files [])) ∙ k)) [
          | inl one ↦ own.held x y one
          | inr never ↦ absurd (cc)
        ];
        count_of = λ c.
            let e = own.adds.count c in
            let all = ap (times c) (file_blocks-append own.files []) ∙ times-append c (file_blocks own.files) [] in
            let same = ap (times c) (sym pass.1) in
            omega (arith, e, all, same);
        once = λ k. subst Once pass.1 (own.adds.once (once_more b s new k));
        few = let all = length_end own.files in omega (arith, many, few, all);
      }
    where
      length_end : (fs : List ChainFile) → length (fs ++ []) ≡ length fs
      length_end [] = refl
      length_end (f ∷ fs) = ap (λ k. suc k) (length_end fs)
  directory_on p new is u files (Some d) next h =
      let own = files_right w b p.entries (b ∷ s) u (all_held w b (next_blocks p.cluster.next) (entry_blocks p.entries) is.held) files in
      let rest = later d (count + length p.entries) u h in
      let many = as_many w b p.entries own.files own.are in
      let pair : holds w.pairs b d ≡ true = next_held w b d (entry_blocks p.entries) (ap (λ o. are_held w b (next_blocks o ++ entry_blocks p.entries)) (sym next) ∙ is.held) in
      record {
        chain = link_of b p.cluster ∷ rest.chain;
        entries = placed b p.entries ++ rest.entries;
        files = own.files ++ rest.files;
        from = (refl, is.at, subst (λ o. IsFrom w o rest.chain) (sym next) rest.from);
        short = let k = rest.short in omega (arith, k);
        listed = (p.entries, rest.entries, is.entries, refl, rest.listed);
        are = files-append w (placed b p.entries) rest.entries own.files rest.files own.are rest.are;
        linked = linked_on w b d rest.chain rest.from pair rest.linked;
        held = λ x y k. elim (held_append (file_pairs own.files) (file_pairs rest.files) x y (ap (λ es. holds es x y) (sym (file_pairs-append own.files rest.files)) ∙ k)) [
          | inl one ↦ own.held x y one
          | inr two ↦ rest.held x y two
        ];
        count_of = λ c.
            let one = own.adds.count c in
            let two = rest.count_of c in
            let all = ap (times c) (file_blocks-append own.files rest.files) ∙ times-append c (file_blocks own.files) (file_blocks rest.files) in
            omega (arith, one, two, all);
        once = λ k. rest.once (own.adds.once (once_more b s new k));
        few = let all = length_both own.files rest.files in let k = rest.few in omega (arith, many, k, all);
      }
    where
      length_both : (fs gs : List ChainFile) → length (fs ++ gs) ≡ length fs + length gs
      length_both [] gs = omega arith
      length_both (f ∷ fs) gs = let e = length_both fs gs in omega (arith, e)

  directory_files : (p : ListedCluster) → has_number s b ≡ false → PageIs w b p → (o : Option (List ℕ)) → files_from w (entry_blocks p.entries) (b ∷ s) ≡ o → page_on follow p.cluster.next (count + length p.entries) o ≡ Some t → DirectoryRight w (suc n) b count s t
  directory_files p new is None e h = absurd (cc)
  directory_files p new is (Some u) e h = directory_on p new is u e p.cluster.next refl h

  directory_seen : (o : Option ListedCluster) → has_number s b ≡ false → page_seen w b ≡ o → directory_by w follow count (b ∷ s) o ≡ Some t → DirectoryRight w (suc n) b count s t
  directory_seen None new e h = absurd (cc)
  directory_seen (Some p) new e h = directory_files p new (page_is w b p e) (files_from w (entry_blocks p.entries) (b ∷ s)) refl h

  directory_new : (u : Bool) → has_number s b ≡ u → cond u None (directory_by w follow count (b ∷ s) (page_seen w b)) ≡ Some t → DirectoryRight w (suc n) b count s t
  directory_new true e h = absurd (cc)
  directory_new false e h = directory_seen (page_seen w b) e refl h

pub directory_right : (w : World) (n b count : ℕ) (s t : List ℕ) → directory_from w n b count s ≡ Some t → DirectoryRight w n b count s t
directory_right w zero b count s t h = absurd (cc)
directory_right w (suc n) b count s t h = directory_new w n b count s t (λ d k u e. directory_right w n d k u t e) (has_number s b) refl h
