-- Clusters of the directory that are still to be read, one after the other.
use Rattle.std.proofs.Common.{◌≡◌, ℕ, ◌+◌, ◌≤◌, Bool, true, List, [], ◌∷◌, ◌++◌, length, refl, sym, ◌∙◌, ap, subst, arith, Option, Some, None, Ok}
use Rattle.chain_reading.proofs.Common.{is_some, option_and_then, block_len, holds, Name, Entry, entry_names, Cluster, entries_of, Link, cluster_at, HoldsWrite, DiskView, state_of, IsValidNow, Stays, Client, Looked, OnlyLooks, may_again, IsFrom, PlacedEntry, placed, AreEntries, dir_cluster, entries_at, IsAhead, IsRead, IsPage, Page, placed_names, ArePagesAhead}
use Rattle.chain_reading.proofs.WalkLaws.{link_of, walk_starts, walk_on, first_link}
use Rattle.chain_reading.proofs.ListLaws.{names_placed, names-append, own_entries}
use Rattle.tsd_model.proofs.ValueLaws.{some_same}

-- what the block's cluster is, and what is behind it
pub record FirstPage (c : Client) (v : DiskView) (b : ℕ) (ls : List Link) (ps : List PlacedEntry) (cl : Cluster) (es : List Entry) : Type 0 where
  pub later : List Link
  pub entries : List PlacedEntry
  pub parts : ls ≡ link_of b cl ∷ later
  pub from : IsFrom v.world cl.next later
  pub listed : AreEntries (block_len v.world.geometry) later entries
  pub names : placed_names ps ≡ entry_names es ++ placed_names entries

-- clusters are there
pub page_there : (c : Client) (v : DiskView) (b : ℕ) (ls : List Link) (ps : List PlacedEntry) → ArePagesAhead c v b ls ps → is_some (entries_at v.world b) ≡ true
page_there c v b [] ps pages = let e = pages.ahead.rest in absurd (cc)
page_there c v b (l ∷ ls) ps pages =
    let here : b ≡ l.block = some_same pages.ahead.rest.0 in
    let at : cluster_at v.world b ≡ Some l.cluster = ap (cluster_at v.world) here ∙ pages.ahead.rest.1 in
    ap (λ o. is_some (option_and_then (entries_of (block_len v.world.geometry)) o)) at ∙ ap is_some pages.entries.2

pub some_page : (c : Client) (v : DiskView) (b : ℕ) (ls : List Link) (ps : List PlacedEntry) → ArePagesAhead c v b ls ps → 1 ≤ length ls
some_page c v b [] ps pages = let e = pages.ahead.rest in absurd (cc)
some_page c v b (l ∷ ls) ps pages = omega arith

module _ (c : Client) (v : DiskView) (b : ℕ) (ls : List Link) (ps : List PlacedEntry) (pages : ArePagesAhead c v b ls ps) (cl : Cluster) (es : List Entry) (at : cluster_at v.world b ≡ Some cl) (own : entries_at v.world b ≡ Some es) where
  pub first_page : FirstPage c v b ls ps cl es
  first_page =
      let first = first_link v.world b ls cl pages.ahead.rest at in
      let listed = subst (λ xs. AreEntries (block_len v.world.geometry) xs ps) first.1 pages.entries in
      let same : listed.0 ≡ es = some_same (sym listed.2 ∙ own_entries v.world b (block_len v.world.geometry) cl es refl at own) in
      record {
        later = first.0;
        entries = listed.1;
        parts = first.1;
        from = first.2;
        listed = listed.4;
        names = ap placed_names listed.3 ∙ (names-append (placed b listed.0) listed.1 ∙ (ap (λ ns. ns ++ placed_names listed.1) (names_placed b listed.0) ∙ ap (λ xs. entry_names xs ++ placed_names listed.1) same));
      }

  -- the clusters behind it are ahead
  pub pages_on : (first : FirstPage c v b ls ps cl es) (new : DiskView) (d : ℕ) → cl.next ≡ Some d → Looked v new → Stays v new → HoldsWrite (state_of new) c.session b → ArePagesAhead c new d first.later first.entries
  pages_on first new d next seen stays held =
      let walked = walk_on c v new ls [] b d cl (walk_starts c v b ls pages.ahead) at next seen stays held in
      let all : link_of b cl ∷ first.later ≡ link_of b cl ∷ walked.rest = sym first.parts ∙ walked.parts in
      let same : walked.rest ≡ first.later = cc in
      record {
        ahead = subst (IsAhead c new d) same walked.ahead;
        entries = subst (λ w. AreEntries (block_len w.geometry) first.later first.entries) (sym seen.world) first.listed;
        short = let size = ap length first.parts in let fits = pages.short in
            subst (λ w. length first.later ≤ w.geometry.blocks) (sym seen.world) (omega (arith, size, fits));
      }

  -- none is behind it
  pub none_behind : (first : FirstPage c v b ls ps cl es) → ◌≡◌ {A = Option ℕ} cl.next None → placed_names first.entries ≡ []
  none_behind first next = by_later first.later first.entries (subst (λ o. IsFrom v.world o first.later) next first.from) first.listed
    where
      by_later : (ks : List Link) (qs : List PlacedEntry) → IsFrom v.world None ks → AreEntries (block_len v.world.geometry) ks qs → placed_names qs ≡ []
      by_later [] qs from listed = ap placed_names listed
      by_later (k ∷ ks) qs from listed = absurd (cc)

-- after looking, they are still ahead
pub pages_again : (c : Client) (old new : DiskView) (b : ℕ) (ls : List Link) (ps : List PlacedEntry) → Looked old new → Stays old new → IsValidNow old → ArePagesAhead c old b ls ps → ArePagesAhead c new b ls ps
pages_again c old new b ls ps seen stays valid pages = record {
  ahead = record {
    rest = subst (λ w. IsFrom w (Some b) ls) (sym seen.world) pages.ahead.rest;
    held = λ x y h. ap (λ w. holds w.pairs x y) seen.world ∙ pages.ahead.held x y h;
    may = may_again c old new b seen stays valid pages.ahead.may;
  };
  entries = subst (λ w. AreEntries (block_len w.geometry) ls ps) (sym seen.world) pages.entries;
  short = subst (λ w. length ls ≤ w.geometry.blocks) (sym seen.world) pages.short;
}

-- the cluster that was read, after looking
pub page_again : (old new : DiskView) (b : ℕ) (page : Page) → Looked old new → IsPage old.world b page → IsPage new.world page.block page
page_again old new b page seen read = subst (λ w. IsPage w page.block page) (sym seen.world) (record {
  block = refl;
  read = subst (λ d. IsRead old.world d (dir_cluster page.cluster)) (sym read.block) read.read;
  entries = ap (entries_at old.world) read.block ∙ read.entries;
})

-- by the block of that cluster
pub pages_at : (c : Client) (old new : DiskView) (b : ℕ) (ls : List Link) (ps : List PlacedEntry) (page : Page) → Looked old new → Stays old new → IsValidNow old → ArePagesAhead c old b ls ps → IsPage old.world b page → ArePagesAhead c new page.block ls ps
pages_at c old new b ls ps page seen stays valid pages read = subst (λ d. ArePagesAhead c new d ls ps) (sym read.block) (pages_again c old new b ls ps seen stays valid pages)

-- ---- while they are compared

-- what is left to be read, of which all else depends
pub record IsLeft (c : Client) (first now : DiskView) (i b : ℕ) (test : List Name → Bool) (names : List Name) : Type 0 where
  pub chain : List Link
  pub entries : List PlacedEntry
  pub ahead : ArePagesAhead c now b chain entries
  pub same : test names ≡ test (placed_names entries)
  pub few : length chain + i ≤ first.world.geometry.blocks

pub record Comparing (told : Type 0) (c : Client) (first now : DiskView) (start i b : ℕ) (test : List Name → Bool) : Type 0 where
  pub looks : OnlyLooks {X = Unit {0}} told first now (Ok tt)
  pub left : told → (ls : List Link) (ps : List PlacedEntry) → ArePagesAhead c first start ls ps → IsLeft c first now i b test (placed_names ps)

pub left_first : (c : Client) (v : DiskView) (b : ℕ) (test : List Name → Bool) (ls : List Link) (ps : List PlacedEntry) → ArePagesAhead c v b ls ps → IsLeft c v v 0 b test (placed_names ps)
left_first c v b test ls ps pages = record { chain = ls; entries = ps; ahead = pages; same = refl; few = let k = pages.short in omega (arith, k) }

-- there are no more than the disk has blocks
pub left_below : (c : Client) (first now : DiskView) (i b : ℕ) (test : List Name → Bool) (names : List Name) → IsLeft c first now i b test names → first.world.geometry.blocks ≤ i → ⊥
left_below c first now i b test names left over = let one = some_page c now b left.chain left.entries left.ahead in let few = left.few in absurd (omega (arith, one, few, over))

module _ (c : Client) (first now : DiskView) (i b : ℕ) (test : List Name → Bool) (names : List Name) (left : IsLeft c first now i b test names) (cl : Cluster) (es : List Entry) (at : cluster_at now.world b ≡ Some cl) (own : entries_at now.world b ≡ Some es) where
  page : FirstPage c now b left.chain left.entries cl es
  page = first_page c now b left.chain left.entries left.ahead cl es at own

  -- the test is passed by this cluster's names, and depends on the others
  pub left_on : ((ns : List Name) → placed_names left.entries ≡ entry_names es ++ ns → test (entry_names es ++ ns) ≡ test ns) → (new : DiskView) (d : ℕ) → cl.next ≡ Some d → Looked now new → Stays now new → HoldsWrite (state_of new) c.session b → IsLeft c first new (i + 1) d test names
  left_on passes new d next seen stays held = record {
    chain = page.later;
    entries = page.entries;
    ahead = pages_on c now b left.chain left.entries left.ahead cl es at own page new d next seen stays held;
    same = left.same ∙ (ap test page.names ∙ passes (placed_names page.entries) page.names);
    few = let size = ap length page.parts in let k = left.few in omega (arith, size, k);
  }

  pub left_ends : ((ns : List Name) → placed_names left.entries ≡ entry_names es ++ ns → test (entry_names es ++ ns) ≡ test ns) → ◌≡◌ {A = Option ℕ} cl.next None → test names ≡ test []
  left_ends passes next = left.same ∙ (ap test page.names ∙ (passes (placed_names page.entries) page.names ∙ ap test (none_behind c now b left.chain left.entries left.ahead cl es at own page next)))

  pub left_stops : (result : Bool) → ((ns : List Name) → placed_names left.entries ≡ entry_names es ++ ns → test (entry_names es ++ ns) ≡ result) → test names ≡ result
  left_stops result stops = left.same ∙ (ap test page.names ∙ stops (placed_names page.entries) page.names)
