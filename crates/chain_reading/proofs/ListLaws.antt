-- The directory, read cluster by cluster.
use Rattle.std.proofs.Common.{◌≡◌, ℕ, ◌+◌, true, List, [], ◌∷◌, ◌++◌, length, refl, sym, ◌∙◌, ap, subst, arith, append-nil, length-append, Option, Some, None, Ok}
use Rattle.chain_reading.proofs.Common.{map, is_some, option_and_then, block_len, World, Name, Entry, entry_names, Cluster, entries_of, Link, cluster_at, DiskView, state_of, Stays, HoldsWrite, Client, Looked, OnlyLooks, lesser, if_above, least_above, lesser-assoc, IsFrom, PlacedEntry, placed, AreEntries, entries_at, IsDirectoryAhead}
use Rattle.chain_reading.proofs.ChainedLaws.{entries-append, entries_split}
use Rattle.chain_reading.proofs.WalkLaws.{link_of, IsWalked, walk_starts, walk_on, walk_ends}
use Rattle.tsd_model.proofs.ValueLaws.{some_same}

abbrev pub placed_names : List PlacedEntry → List Name
placed_names ps = map (λ p. p.1.name) ps

pub names_placed : (b : ℕ) (es : List Entry) → placed_names (placed b es) ≡ entry_names es
names_placed b [] = refl
names_placed b (e ∷ es) = ap (λ ns. e.name ∷ ns) (names_placed b es)

pub names-append : (ps qs : List PlacedEntry) → placed_names (ps ++ qs) ≡ placed_names ps ++ placed_names qs
names-append [] qs = refl
names-append (p ∷ ps) qs = ap (λ ns. p.1.name ∷ ns) (names-append ps qs)

-- clusters have one list of entries
pub entries_unique : (len : ℕ) (ls : List Link) (ps qs : List PlacedEntry) → AreEntries len ls ps → AreEntries len ls qs → ps ≡ qs
entries_unique len [] ps qs a b = a ∙ sym b
entries_unique len (l ∷ ls) ps qs a b =
    let same : a.0 ≡ b.0 = some_same (sym a.2 ∙ b.2) in
    a.3 ∙ (ap (λ es. placed l.block es ++ a.1) same ∙ (ap (λ rs. placed l.block b.0 ++ rs) (entries_unique len ls a.1 b.1 a.4 b.4) ∙ sym b.3))

-- the clusters before a block were looked through, with these entries
pub record IsLooking (c : Client) (now : DiskView) (len : ℕ) (ls : List Link) (ps qs : List PlacedEntry) (i b : ℕ) : Type 0 where
  pub before : List Link
  pub walked : IsWalked c now ls before b
  pub count : length before ≡ i
  pub entries : AreEntries len before qs
  pub all : AreEntries len ls ps

abbrev pub look_starts : (c : Client) (v : DiskView) (len : ℕ) (ls : List Link) (ps : List PlacedEntry) → len ≡ block_len v.world.geometry → IsDirectoryAhead c v ls ps → IsLooking c v len ls ps [] 0 c.root
look_starts c v len ls ps is ahead = record {
  before = [];
  walked = walk_starts c v c.root ls ahead.ahead;
  count = refl;
  entries = refl;
  all = subst (λ n. AreEntries n ls ps) (sym is) ahead.entries;
}

one_cluster : (len b : ℕ) (cl : Cluster) (es : List Entry) → entries_of len cl ≡ Some es → AreEntries len (link_of b cl ∷ []) (placed b es)
one_cluster len b cl es e = (es, [], e, sym (append-nil (placed b es)), refl)

module _ (c : Client) (now : DiskView) (len : ℕ) (ls : List Link) (ps qs : List PlacedEntry) (i b : ℕ) (looking : IsLooking c now len ls ps qs i b) where
  -- the block has a cluster of the directory
  pub page_there : len ≡ block_len now.world.geometry → is_some (entries_at now.world b) ≡ true
  page_there whole = by_rest looking.walked.rest looking.walked.parts looking.walked.ahead.rest
    where
      by_rest : (ks : List Link) → ls ≡ looking.before ++ ks → IsFrom now.world (Some b) ks → is_some (entries_at now.world b) ≡ true
      by_rest [] e is = absurd (cc)
      by_rest (k ∷ ks) e is =
          let here : b ≡ k.block = cc in
          let at : cluster_at now.world b ≡ Some k.cluster = ap (cluster_at now.world) here ∙ is.1 in
          let split = entries_split len looking.before (k ∷ ks) ps (subst (λ xs. AreEntries len xs ps) e looking.all) in
          ap (λ o. is_some (option_and_then (entries_of (block_len now.world.geometry)) o)) at
          ∙ (ap (λ n. is_some (entries_of n k.cluster)) (sym whole) ∙ ap is_some split.4.2)

  module _ (cl : Cluster) (es : List Entry) (at : cluster_at now.world b ≡ Some cl) (own : entries_of len cl ≡ Some es) where
    pub more : AreEntries len (looking.before ++ link_of b cl ∷ []) (qs ++ placed b es)
    more = entries-append len looking.before (link_of b cl ∷ []) qs (placed b es) looking.entries (one_cluster len b cl es own)

    abbrev pub look_on : (new : DiskView) (d : ℕ) → cl.next ≡ Some d → Looked now new → Stays now new → HoldsWrite (state_of new) c.session b → IsLooking c new len ls ps (qs ++ placed b es) (i + 1) d
    look_on new d next seen stays held = record {
      before = looking.before ++ link_of b cl ∷ [];
      walked = walk_on c now new ls looking.before b d cl looking.walked at next seen stays held;
      count = let sum = length-append looking.before (link_of b cl ∷ []) in omega (arith, sum, looking.count);
      entries = more;
      all = looking.all;
    }

    -- these were all
    pub look_ends : cl.next ≡ None → ps ≡ qs ++ placed b es
    look_ends next = entries_unique len ls ps (qs ++ placed b es) looking.all (subst (λ xs. AreEntries len xs (qs ++ placed b es)) (sym (walk_ends c now ls looking.before b cl looking.walked at next)) more)

-- ---- the least name

pub least-append : (n : Name) (xs ys : List Name) → least_above n (xs ++ ys) ≡ lesser (least_above n xs) (least_above n ys)
least-append n [] ys = refl
least-append n (x ∷ xs) ys = ap (lesser (if_above n x)) (least-append n xs ys) ∙ sym (lesser-assoc (if_above n x) (least_above n xs) (least_above n ys))

-- with the names of one cluster more
pub least_more : (n : Name) (qs : List PlacedEntry) (b : ℕ) (es : List Entry) (least least_here result : Option Name) → least ≡ least_above n (placed_names qs) → least_here ≡ least_above n (entry_names es) → result ≡ lesser least least_here
    → result ≡ least_above n (placed_names (qs ++ placed b es))
least_more n qs b es least least_here result is here e =
    e ∙ (ap (λ m. lesser m least_here) is ∙ (ap (lesser (least_above n (placed_names qs))) here
    ∙ sym (ap (least_above n) (names-append qs (placed b es)) ∙ (least-append n (placed_names qs) (placed_names (placed b es)) ∙ ap (λ ns. lesser (least_above n (placed_names qs)) (least_above n ns)) (names_placed b es)))))

-- the clusters so far were looked through for it
pub record IsLeast (c : Client) (now : DiskView) (len : ℕ) (ls : List Link) (ps : List PlacedEntry) (i b : ℕ) (after : Name) (least : Option Name) : Type 0 where
  pub qs : List PlacedEntry
  pub looking : IsLooking c now len ls ps qs i b
  pub is : least ≡ least_above after (placed_names qs)

pub record Seeking (told : Type 0) (c : Client) (first now : DiskView) (i b : ℕ) (after : Name) (least : Option Name) : Type 0 where
  pub looks : OnlyLooks {X = Unit {0}} told first now (Ok tt)
  pub seen : told → (ls : List Link) (ps : List PlacedEntry) → IsDirectoryAhead c first ls ps → IsLeast c now (block_len first.world.geometry) ls ps i b after least

abbrev pub least_of : Name → List PlacedEntry → Option Name
least_of after ps = least_above after (placed_names ps)

-- the entries of a cluster that was read, in blocks of that length
pub own_entries : (w : World) (b len : ℕ) (cl : Cluster) (es : List Entry) → len ≡ block_len w.geometry → cluster_at w b ≡ Some cl → entries_at w b ≡ Some es → entries_of len cl ≡ Some es
own_entries w b len cl es whole at e = ap (λ n. entries_of n cl) whole ∙ (sym (ap (option_and_then (entries_of (block_len w.geometry))) at) ∙ e)
