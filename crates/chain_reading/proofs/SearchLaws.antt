-- A name, looked up in the directory.
use Rattle.std.proofs.Common.{◌≡◌, ℕ, suc, ◌+◌, ◌*◌, ◌≤◌, ◌<◌, Bool, true, false, cond, ◌||◌, List, [], ◌∷◌, ◌++◌, length, refl, sym, ◌∙◌, ap, subst, arith, length-append, append_assoc, Option, Some, None, Ok}
use Rattle.chain_reading.proofs.Common.{bytes_eq-Decides, slice_index, position_from, list_any, block_len, Name, Entry, entry_names, Cluster, entries_of, Link, cluster_at, HoldsWrite, DiskView, state_of, IsValidNow, Stays, Client, MayWrite, Looked, OnlyLooks, may_again, has_name, entry_blocks, cluster_of, block_len_of, dir_cluster, entries_in, PlacedEntry, placed, AreEntries, AreOthers, Page, IsPage, IsDirectoryAhead, placed_names, page_link, IsEntry, IsLookupTaken, is_roomy, IsRoomiest, better}
use Rattle.std.specs.Prelude.{bytes_eq}
use Rattle.chain_reading.proofs.FileLaws.{others-append}
use Rattle.chain_reading.proofs.WalkLaws.{link_of, first_link, walk_ends}
use Rattle.chain_reading.proofs.ListLaws.{IsLooking, look_starts, look_on, look_ends, names_placed, names-append}

-- ---- in one cluster

entry_found : (n : Name) (es : List Entry) (i position : ℕ) → position_from (has_name n) i es ≡ Some position
    → (front : List Entry) × (e : Entry) × (back : List Entry) × (es ≡ front ++ (e ∷ back)) × (length front + i ≡ position) × (e.name ≡ n) × AreOthers n (entry_names front)
entry_found n [] i position h = absurd (cc)
entry_found n (e ∷ es) i position h = by_test (bytes_eq e.name n) refl h (λ g. entry_found n es (i + 1) position g)
  where
    by_test : (t : Bool) → bytes_eq e.name n ≡ t → cond t (Some i) (position_from (has_name n) (i + 1) es) ≡ Some position
        → (position_from (has_name n) (i + 1) es ≡ Some position → (front : List Entry) × (d : Entry) × (back : List Entry) × (es ≡ front ++ (d ∷ back)) × (length front + (i + 1) ≡ position) × (d.name ≡ n) × AreOthers n (entry_names front))
        → (front : List Entry) × (d : Entry) × (back : List Entry) × (e ∷ es ≡ front ++ (d ∷ back)) × (length front + i ≡ position) × (d.name ≡ n) × AreOthers n (entry_names front)
    by_test true is h later = let same : i ≡ position = cc in ([], e, es, refl, omega (arith, same), (bytes_eq-Decides e.name n).0 is, tt)
    by_test false is h later =
        let rest = later h in
        let count : suc (length rest.0) + i ≡ position = omega (arith, rest.4) in
        (e ∷ rest.0, rest.1, rest.2, ap (λ xs. e ∷ xs) rest.3, count, rest.5, (λ g. not_both is ((bytes_eq-Decides e.name n).1 (sym g)), rest.6))
      where
        not_both : bytes_eq e.name n ≡ false → bytes_eq e.name n ≡ true → ⊥
        not_both a b = cc

pub none_found : (n : Name) (es : List Entry) (i : ℕ) → position_from (has_name n) i es ≡ None → AreOthers n (entry_names es)
none_found n [] i h = tt
none_found n (e ∷ es) i h = by_test (bytes_eq e.name n) refl h (λ g. none_found n es (i + 1) g)
  where
    by_test : (t : Bool) → bytes_eq e.name n ≡ t → cond t (Some i) (position_from (has_name n) (i + 1) es) ≡ None → (position_from (has_name n) (i + 1) es ≡ None → AreOthers n (entry_names es)) → AreOthers n (entry_names (e ∷ es))
    by_test true is h later = absurd (cc)
    by_test false is h later = (λ g. not_both is ((bytes_eq-Decides e.name n).1 (sym g)), later h)
      where
        not_both : bytes_eq e.name n ≡ false → bytes_eq e.name n ≡ true → ⊥
        not_both a b = cc

block_there : (front : List Entry) (e : Entry) (back : List Entry) → slice_index (entry_blocks (front ++ (e ∷ back))) (length front) ≡ e.block
block_there [] e back = refl
block_there (f ∷ front) e back = block_there front e back

pub is_entry : (n : Name) (es : List Entry) (position first : ℕ) → position_from (has_name n) 0 es ≡ Some position → first ≡ slice_index (entry_blocks es) position → IsEntry n es position first
is_entry n es position first at is =
    let found = entry_found n es 0 position at in
    let count : length found.0 ≡ position = omega (arith, found.4) in
    record {
      front = found.0;
      entry = found.1;
      back = found.2;
      parts = found.3;
      count = count;
      name = found.5;
      block = sym (is ∙ (ap (λ xs. slice_index (entry_blocks xs) position) found.3 ∙ (ap (slice_index (entry_blocks (found.0 ++ (found.1 ∷ found.2)))) (sym count) ∙ block_there found.0 found.1 found.2)));
      others = found.6;
    }

pub place_within : (n : Name) (es : List Entry) (position : ℕ) → position_from (has_name n) 0 es ≡ Some position → position < length es
place_within n es position at =
    let found = entry_found n es 0 position at in
    let size = ap length found.3 in
    let sum = length-append found.0 (found.1 ∷ found.2) in
    omega (arith, found.4, size, sum)

-- ---- the cluster for a new entry

-- none was read, or this one is it of those that were
abbrev pub IsRoomiestOf : Client → DiskView → List Link → Option Page → Type 0
IsRoomiestOf c v ls None = ls ≡ []
IsRoomiestOf c v ls (Some page) = IsRoomiest c v ls page

-- reading leaves it so
module _ (c : Client) (now new : DiskView) (seen : Looked now new) (stays : Stays now new) (valid : IsValidNow now) where
  roomiest_still : (ls : List Link) (page : Page) → IsRoomiest c now ls page → IsRoomiest c new ls page
  roomiest_still ls page is = record {
    before = is.before;
    behind = is.behind;
    parts = is.parts;
    read = subst (λ w. IsPage w page.block page) (sym seen.world) is.read;
    held = seen.ways c.session page.block is.held;
    may = may_again c now new page.block seen stays valid is.may;
    full = subst (λ w. list_any (is_roomy (block_len w.geometry)) is.before ≡ false) (sym seen.world) is.full;
    last = subst (λ w. is_roomy (block_len w.geometry) (page_link page) ≡ false → is.behind ≡ []) (sym seen.world) is.last;
  }

  pub roomiest_of_still : (ls : List Link) (best : Option Page) → IsRoomiestOf c now ls best → IsRoomiestOf c new ls best
  roomiest_of_still ls None is = is
  roomiest_of_still ls (Some page) is = roomiest_still ls page is

any-none : (p : Link → Bool) (ls ms : List Link) → list_any p ls ≡ false → list_any p ms ≡ false → list_any p (ls ++ ms) ≡ false
any-none p [] ms a b = b
any-none p (l ∷ ls) ms a b = by_first (p l) a (λ h. any-none p ls ms h b)
  where
    by_first : (t : Bool) → (t || list_any p ls) ≡ false → (list_any p ls ≡ false → list_any p (ls ++ ms) ≡ false) → (t || list_any p (ls ++ ms)) ≡ false
    by_first true h rest = absurd (cc)
    by_first false h rest = rest h

-- with one cluster more
module _ (c : Client) (v : DiskView) (ls : List Link) (page : Page) (read : IsPage v.world page.block page) (held : HoldsWrite (state_of v) c.session page.block) (may : MayWrite c v page.block) where
  -- it is the last, and those before have no room
  newest : list_any (is_roomy (block_len v.world.geometry)) ls ≡ false → IsRoomiest c v (ls ++ page_link page ∷ []) page
  newest full = record { before = ls; behind = []; parts = refl; read = read; held = held; may = may; full = full; last = λ _. refl }

  pub roomiest_more : (best : Option Page) → IsRoomiestOf c v ls best → IsRoomiest c v (ls ++ page_link page ∷ []) (better best page)
  roomiest_more None is = newest (ap (list_any (is_roomy (block_len v.world.geometry))) is)
  roomiest_more (Some old) is = by_room (is_roomy (block_len_of (dir_cluster old.cluster)) (page_link old)) (ap (λ n. is_roomy n (page_link old)) (sym is.read.read.whole))
    where
      len : ℕ
      len = block_len v.world.geometry

      by_room : (t : Bool) → is_roomy len (page_link old) ≡ t → IsRoomiest c v (ls ++ page_link page ∷ []) (cond t old page)
      by_room true roomy = record {
        before = is.before;
        behind = is.behind ++ page_link page ∷ [];
        parts = ap (λ xs. xs ++ page_link page ∷ []) is.parts ∙ append_assoc is.before (page_link old ∷ is.behind) (page_link page ∷ []);
        read = is.read;
        held = is.held;
        may = is.may;
        full = is.full;
        last = λ none. absurd (not_both roomy none);
      }
        where
          not_both : {t : Bool} → t ≡ true → t ≡ false → ⊥
          not_both a b = cc
      by_room false roomy = newest (ap (list_any (is_roomy len)) (is.parts ∙ ap (λ xs. is.before ++ page_link old ∷ xs) (is.last roomy)) ∙ any-none (is_roomy len) is.before (page_link old ∷ []) is.full (ap (λ t. t || false) roomy))

-- ---- in all clusters

pub record IsSearched (c : Client) (now : DiskView) (len : ℕ) (ls : List Link) (ps : List PlacedEntry) (i b : ℕ) (n : Name) (count : ℕ) (best : Option Page) : Type 0 where
  pub qs : List PlacedEntry
  pub looking : IsLooking c now len ls ps qs i b
  pub others : AreOthers n (placed_names qs)
  pub counted : count ≡ length qs
  pub roomiest : IsRoomiestOf c now looking.before best

pub record Searching (told : Type 0) (c : Client) (first now : DiskView) (i b : ℕ) (n : Name) (count : ℕ) (best : Option Page) : Type 0 where
  pub looks : OnlyLooks {X = Unit {0}} told first now (Ok tt)
  pub searched : told → (ls : List Link) (ps : List PlacedEntry) → IsDirectoryAhead c first ls ps → IsSearched c now (block_len first.world.geometry) ls ps i b n count best
  pub few : count ≤ 127 * i

length-placed : (b : ℕ) (es : List Entry) → length (placed b es) ≡ length es
length-placed b [] = refl
length-placed b (e ∷ es) = ap suc (length-placed b es)

module _ (c : Client) (now : DiskView) (len : ℕ) (ls : List Link) (ps : List PlacedEntry) (i b : ℕ) (n : Name) (count more : ℕ) (best : Option Page) (cl : Cluster) (es : List Entry) (searched : IsSearched c now len ls ps i b n count best) (at : cluster_at now.world b ≡ Some cl) (own : entries_of len cl ≡ Some es)
    (none : position_from (has_name n) 0 es ≡ None) (sized : more ≡ length es) where
  others_now : AreOthers n (placed_names (searched.qs ++ placed b es))
  others_now = subst (AreOthers n) (sym (names-append searched.qs (placed b es) ∙ ap (λ ns. placed_names searched.qs ++ ns) (names_placed b es))) (others-append n (placed_names searched.qs) (entry_names es) searched.others (none_found n es 0 none))

  counted_now : count + more ≡ length (searched.qs ++ placed b es)
  counted_now = let sum = length-append searched.qs (placed b es) in let size = length-placed b es in omega (arith, sum, size, sized, searched.counted)

  module _ (page : Page) (here : page_link page ≡ link_of b cl) (read : IsPage now.world page.block page) (new : DiskView) (valid : IsValidNow now) (seen : Looked now new) (stays : Stays now new) (held : HoldsWrite (state_of new) c.session b) where
    roomiest_now : IsRoomiest c new (searched.looking.before ++ link_of b cl ∷ []) (better best page)
    roomiest_now = subst (λ l. IsRoomiest c new (searched.looking.before ++ l ∷ []) (better best page)) here
        (roomiest_more c new searched.looking.before page (subst (λ w. IsPage w page.block page) (sym seen.world) read) (subst (HoldsWrite (state_of new) c.session) (sym (ap (λ l. l.block) here)) held)
        (subst (MayWrite c new) (sym (ap (λ l. l.block) here)) (may_again c now new b seen stays valid searched.looking.walked.ahead.may)) best (roomiest_of_still c now new seen stays valid searched.looking.before best searched.roomiest))

    pub search_on : (d : ℕ) → cl.next ≡ Some d → IsSearched c new len ls ps (i + 1) d n (count + more) (Some (better best page))
    search_on d next = record {
      qs = searched.qs ++ placed b es;
      looking = look_on c now len ls ps searched.qs i b searched.looking cl es at own new d next seen stays held;
      others = others_now;
      counted = counted_now;
      roomiest = roomiest_now;
    }

    pub search_ends : cl.next ≡ None → AreOthers n (placed_names ps) × (count + more ≡ length ps) × IsRoomiest c new ls (better best page)
    search_ends next =
        let all = look_ends c now len ls ps searched.qs i b searched.looking cl es at own next in (
          subst (λ xs. AreOthers n (placed_names xs)) (sym all) others_now,
          counted_now ∙ ap length (sym all),
          subst (λ xs. IsRoomiest c new xs (better best page)) (sym (walk_ends c now ls searched.looking.before b cl searched.looking.walked at next)) roomiest_now,
        )

-- it was found in this cluster
pub search_finds : (c : Client) (first now new : DiskView) (ls : List Link) (ps : List PlacedEntry) (i b : ℕ) (n : Name) (count : ℕ) (best : Option Page) (page : Page) (position block : ℕ) → IsSearched c now (block_len first.world.geometry) ls ps i b n count best → Looked first now → Looked now new → Stays now new
    → IsPage now.world b page → HoldsWrite (state_of new) c.session b → position_from (has_name n) 0 (entries_in page.cluster) ≡ Some position → block ≡ slice_index (entry_blocks (entries_in page.cluster)) position
    → IsLookupTaken c new n ls page position block
search_finds c first now new ls ps i b n count best page position block searched before seen stays read held at is =
    let cl = cluster_of (dir_cluster page.cluster) in
    let walked = searched.looking.walked in
    let ahead = first_link now.world b walked.rest cl walked.ahead.rest read.read.says in
    let here : page.block ≡ b = read.block in
    record {
      before = searched.looking.before;
      behind = ahead.0;
      parts = walked.parts ∙ (ap (λ xs. searched.looking.before ++ xs) ahead.1 ∙ ap (λ k. searched.looking.before ++ link_of k cl ∷ ahead.0) (sym here));
      read = subst (λ k. IsPage new.world k page) (sym here) (subst (λ w. IsPage w b page) (sym seen.world) read);
      entry = is_entry n (entries_in page.cluster) position block at is;
      earlier = searched.qs;
      entries = subst (λ w. AreEntries (block_len w.geometry) searched.looking.before searched.qs) (sym (seen.world ∙ before.world)) searched.looking.entries;
      others = searched.others;
      held = subst (λ k. HoldsWrite (state_of new) c.session k) (sym here) held;
      may = subst (MayWrite c new) (sym here) (may_again c now new b seen stays before.valid walked.ahead.may);
    }

pub search_starts : (c : Client) (v : DiskView) (ls : List Link) (ps : List PlacedEntry) (n : Name) → IsDirectoryAhead c v ls ps → IsSearched c v (block_len v.world.geometry) ls ps 0 c.root n 0 None
search_starts c v ls ps n ahead = record { qs = []; looking = look_starts c v (block_len v.world.geometry) ls ps refl ahead; others = tt; counted = refl; roomiest = refl }
