-- A chain that grows at its end: the directory by a cluster, a file by bytes and clusters.
use Rattle.std.proofs.Common.{◌≡◌, ℕ, ◌+◌, ◌≤◌, ◌<◌, true, false, cond, ◌==◌, List, [], ◌∷◌, ◌++◌, length, refl, sym, ◌∙◌, ap, subst, inl, inr, ◌⊎◌, arith, append_assoc, append-nil, length-append, Option, Some, None}
use Rattle.chain_reading.proofs.Common.{or_cases, or_left, or_right, eq-eqb, eqb-true, and_parts, option_and_then, block_len, World, contents, has_number, are_apart, holds, is_pair, with_contents, contents-other, contents-same, are_distinct, Entry, Cluster, cluster_in, entries_of, bytes_room, Link, cluster_at, blocks_of, links, is_filled, ChainFile, Chains, chain_blocks, chain_pairs, names_max, held_left, held_right, held_append, first_in, times, times-append, apart_times, IsFrom, IsChainFile, PlacedEntry, AreFiles, placed, AreEntries, file_blocks, file_pairs, file_names, relinked, Rewrites}
use Rattle.chain_reading.proofs.ChainedLaws.{IsListing, from_same, files_same, files-append, entries_of_files, entries_split, entries-append}
use Rattle.chain_reading.proofs.ChangeLaws.{HasChains, right_is, is_right, blocks-append, file_blocks-append, file_pairs-append, times_three, held_three, first_held, last_held, is_other, from_changed, not_of_files, stays, directory_changed}

-- the links of a longer chain are those up to a block, and those from it on
pub links_split : (xs : List ℕ) (d : ℕ) (more : List ℕ) (a b : ℕ) → holds (links (xs ++ d ∷ more)) a b ≡ true → (holds (links (xs ++ d ∷ [])) a b ≡ true) ⊎ (holds (links (d ∷ more)) a b ≡ true)
links_split [] d more a b h = inr h
links_split (x ∷ []) d more a b h = elim (or_cases (is_pair a b (x, d)) (holds (links (d ∷ more)) a b) h) [
  | inl here ↦ inl (or_left (is_pair a b (x, d)) false here)
  | inr later ↦ inr later
]
links_split (x ∷ y ∷ ys) d more a b h = elim (or_cases (is_pair a b (x, y)) (holds (links (y ∷ (ys ++ d ∷ more))) a b) h) [
  | inl here ↦ inl (or_left (is_pair a b (x, y)) _ here)
  | inr later ↦ elim (links_split (y ∷ ys) d more a b later) [
    | inl before ↦ inl (or_right (is_pair a b (x, y)) _ before)
    | inr behind ↦ inr behind
  ]
]

-- ---- the directory grows by a cluster

module _ (w : World) (root : ℕ) (c : Chains) (has : HasChains w root c) (ls : List Link) (l : Link) (bytes : List ℕ) (cl : Cluster) (rewrites : Rewrites w c ls l [] bytes cl) (m : Link) (links_on : cl.next ≡ Some m.block) (there : cluster_at w m.block ≡ Some m.cluster) (last : m.cluster.next ≡ None)
    (es news : List Entry) (was : entries_of (block_len w.geometry) l.cluster ≡ Some es) (now : entries_of (block_len w.geometry) cl ≡ Some es) (own : entries_of (block_len w.geometry) m.cluster ≡ Some news)
    (gs : List ChainFile) (are_new : AreFiles w (placed m.block news) gs) (fresh : are_apart (chain_blocks c ++ (m.block ∷ file_blocks gs)) ≡ true) (led : holds w.pairs l.block m.block ≡ true) (held : (a b : ℕ) → holds (file_pairs gs) a b ≡ true → holds w.pairs a b ≡ true)
    (short : length (ls ++ relinked l cl ∷ m ∷ []) ≤ w.geometry.blocks) where
  abbrev grown : World
  grown = with_contents w l.block bytes

  abbrev wider : Chains
  wider = record { directory = ls ++ relinked l cl ∷ m ∷ []; files = c.files ++ gs }

  once : (b : ℕ) → times b (blocks_of c.directory) + (times b (file_blocks c.files) + (cond (m.block == b) 1 0 + times b (file_blocks gs))) ≤ 1
  once b =
      let one = times-append b (chain_blocks c) (m.block ∷ file_blocks gs) in
      let two = times-append b (blocks_of c.directory) (file_blocks c.files) in
      omega (arith, one, two, apart_times (chain_blocks c ++ (m.block ∷ file_blocks gs)) fresh b)

  -- the written block stands in the directory alone
  here : times l.block (blocks_of c.directory) ≡ times l.block (blocks_of ls) + (1 + 0)
  here =
      let one : ◌≡◌ {A = ℕ} (cond (l.block == l.block) 1 0) 1 = ap (λ t. cond t 1 0) (eq-eqb l.block l.block refl) in
      let parts : times l.block (blocks_of c.directory) ≡ times l.block (blocks_of ls) + (cond (l.block == l.block) 1 0 + 0) = ap (λ xs. times l.block (blocks_of xs)) rewrites.position ∙ (ap (times l.block) (blocks-append ls (l ∷ [])) ∙ times-append l.block (blocks_of ls) (l.block ∷ [])) in
      omega (arith, one, parts)

  not_new : times l.block (m.block ∷ file_blocks gs) ≡ 0
  not_new = omega (arith, here, once l.block)

  not_the_files : times l.block (file_blocks gs) ≡ 0
  not_the_files = let h = not_new in omega (arith, h)

  tail : IsFrom grown cl.next (m ∷ [])
  tail = (links_on, ap (option_and_then cluster_in) (stays w root c has ls l [] bytes cl rewrites (m.block ∷ file_blocks gs) not_new m.block (first_in m.block (file_blocks gs))) ∙ there, last)

  all_blocks : blocks_of (ls ++ relinked l cl ∷ m ∷ []) ≡ blocks_of c.directory ++ m.block ∷ []
  all_blocks =
      blocks-append ls (relinked l cl ∷ m ∷ [])
      ∙ (sym (append_assoc (blocks_of ls) (l.block ∷ []) (m.block ∷ [])) ∙ ap (λ xs. xs ++ m.block ∷ []) (sym (blocks-append ls (l ∷ [])) ∙ ap blocks_of (sym rewrites.position)))

  -- a link of the longer directory
  link_held : (a b : ℕ) → holds (links (blocks_of (ls ++ relinked l cl ∷ m ∷ []))) a b ≡ true → holds w.pairs a b ≡ true
  link_held a b h = elim (links_split (blocks_of ls) l.block (m.block ∷ []) a b (ap (λ xs. holds (links xs) a b) (sym (blocks-append ls (relinked l cl ∷ m ∷ []))) ∙ h)) [
    | inl old ↦ (right_is w c has.right).held a b (held_left (links (blocks_of c.directory)) (file_pairs c.files) a b (ap (λ xs. holds (links xs) a b) (ap blocks_of rewrites.position ∙ blocks-append ls (l ∷ [])) ∙ old))
    | inr new ↦ elim (or_cases (is_pair a b (l.block, m.block)) false new) [
      | inl this ↦ let parts = and_parts (l.block == a) (m.block == b) this in subst (λ y. holds w.pairs a y ≡ true) (eqb-true m.block b parts.1) (subst (λ x. holds w.pairs x m.block ≡ true) (eqb-true l.block a parts.0) led)
      | inr none ↦ absurd (cc)
    ]
  ]

  pub directory_grows : are_distinct (file_names (c.files ++ gs)) ≡ true → length (c.files ++ gs) ≤ names_max → HasChains grown root wider
  directory_grows names few =
      let split = entries_split (block_len w.geometry) ls (l ∷ []) has.listing.entries (subst (λ xs. AreEntries (block_len w.geometry) xs has.listing.entries) rewrites.position has.listing.in_order) in
      let len = block_len w.geometry in
      let own_es : split.4.0 ≡ es = same_some split.4.0 (entries_of len l.cluster) split.4.2 was in
      let entries : has.listing.entries ≡ split.0 ++ placed l.block es =
      split.2 ∙ (ap (λ xs. split.0 ++ xs) (split.4.3 ∙ (ap (λ xs. placed l.block split.4.0 ++ xs) split.4.4 ∙ (append-nil (placed l.block split.4.0) ∙ ap (placed l.block) own_es)))) in
      let in_order : AreEntries len (ls ++ relinked l cl ∷ m ∷ []) (split.0 ++ (placed l.block es ++ (placed m.block news ++ []))) =
      entries-append len ls (relinked l cl ∷ m ∷ []) split.0 (placed l.block es ++ (placed m.block news ++ [])) split.3 (es, placed m.block news ++ [], now, refl, (news, [], own, refl, refl)) in
      let listed : split.0 ++ (placed l.block es ++ (placed m.block news ++ [])) ≡ has.listing.entries ++ placed m.block news =
      sym (append_assoc split.0 (placed l.block es) (placed m.block news ++ [])) ∙ (ap (λ xs. (split.0 ++ placed l.block es) ++ xs) (append-nil (placed m.block news)) ∙ ap (λ xs. xs ++ placed m.block news) (sym entries)) in
      directory_changed w root c has ls l [] bytes cl rewrites (m ∷ []) (c.files ++ gs) tail short
      (record {
        entries = has.listing.entries ++ placed m.block news;
        in_order = subst (AreEntries len (ls ++ relinked l cl ∷ m ∷ [])) listed in_order;
        files = files-append grown has.listing.entries (placed m.block news) c.files gs
            (files_same w grown has.listing.entries c.files refl (stays w root c has ls l [] bytes cl rewrites (file_blocks c.files) (not_of_files w root c has ls l [] bytes cl rewrites)) has.listing.files)
            (files_same w grown (placed m.block news) gs refl (stays w root c has ls l [] bytes cl rewrites (file_blocks gs) not_the_files) are_new);
      })
      (record {
        held = λ a b h. elim (held_append (links (blocks_of (ls ++ relinked l cl ∷ m ∷ []))) (file_pairs (c.files ++ gs)) a b h) [
          | inl link ↦ link_held a b link
          | inr file ↦ elim (held_append (file_pairs c.files) (file_pairs gs) a b (ap (λ xs. holds xs a b) (sym (file_pairs-append c.files gs)) ∙ file)) [
            | inl old ↦ (right_is w c has.right).held a b (held_right (links (blocks_of c.directory)) (file_pairs c.files) a b old)
            | inr new ↦ held a b new
          ]
        ];
        once = λ b.
            let all = times-append b (blocks_of (ls ++ relinked l cl ∷ m ∷ [])) (file_blocks (c.files ++ gs)) in
            let own_times = ap (times b) all_blocks ∙ times-append b (blocks_of c.directory) (m.block ∷ []) in
            let their = ap (times b) (file_blocks-append c.files gs) ∙ times-append b (file_blocks c.files) (file_blocks gs) in
            omega (arith, all, own_times, their, once b);
        names = names;
        few = few;
      })
    where
      same_some : (xs : List Entry) (o : Option (List Entry)) → o ≡ Some xs → o ≡ Some es → xs ≡ es
      same_some xs o e f = cc

-- ---- a file grows

module _ (w : World) (root : ℕ) (c : Chains) (has : HasChains w root c) (fs : List ChainFile) (f : ChainFile) (hs : List ChainFile) (position : c.files ≡ fs ++ (f ∷ hs)) (ks : List Link) (k : Link) (ends : f.chain ≡ ks ++ k ∷ []) (bytes : List ℕ) (within : k.block < length w.blocks)
    (cl : Cluster) (read : cluster_in bytes ≡ Some cl) (more : List Link) (tail : IsFrom w cl.next more) (filled : is_filled (bytes_room (block_len w.geometry)) (ks ++ relinked k cl ∷ more) ≡ true) (short : length (ks ++ relinked k cl ∷ more) ≤ w.geometry.blocks)
    (fresh : are_apart (chain_blocks c ++ blocks_of more) ≡ true) (held : (a b : ℕ) → holds (links (k.block ∷ blocks_of more)) a b ≡ true → holds w.pairs a b ≡ true) where
  abbrev longer_world : World
  longer_world = with_contents w k.block bytes

  abbrev longer : ChainFile
  longer = record { name = f.name; from = f.from; chain = ks ++ relinked k cl ∷ more }

  abbrev fuller : Chains
  fuller = record { directory = c.directory; files = fs ++ (longer ∷ hs) }

  old_blocks : blocks_of f.chain ≡ blocks_of ks ++ k.block ∷ []
  old_blocks = ap blocks_of ends ∙ blocks-append ks (k ∷ [])

  new_blocks : blocks_of longer.chain ≡ blocks_of ks ++ (k.block ∷ blocks_of more)
  new_blocks = blocks-append ks (relinked k cl ∷ more)

  counted : (b : ℕ) → times b (file_blocks c.files) ≡ times b (file_blocks fs) + (times b (blocks_of ks) + cond (k.block == b) 1 0 + times b (file_blocks hs))
  counted b =
      let all = ap (λ xs. times b (file_blocks xs)) position ∙ times_three b fs (f ∷ []) hs in
      let one : times b (file_blocks (f ∷ [])) ≡ times b (blocks_of ks) + cond (k.block == b) 1 0 =
      ap (times b) (append-nil (blocks_of f.chain)) ∙ (ap (times b) old_blocks ∙ (times-append b (blocks_of ks) (k.block ∷ []) ∙ plus_none (times b (blocks_of ks)) (cond (k.block == b) 1 0))) in
      omega (arith, all, one)
    where
      plus_none : (m n : ℕ) → m + (n + 0) ≡ m + n
      plus_none m n = omega arith

  all_once : (b : ℕ) → times b (blocks_of c.directory) + (times b (file_blocks c.files) + times b (blocks_of more)) ≤ 1
  all_once b =
      let one = times-append b (chain_blocks c) (blocks_of more) in
      let two = times-append b (blocks_of c.directory) (file_blocks c.files) in
      omega (arith, one, two, apart_times (chain_blocks c ++ blocks_of more) fresh b)

  this : ◌≡◌ {A = ℕ} (cond (k.block == k.block) 1 0) 1
  this = ap (λ t. cond t 1 0) (eq-eqb k.block k.block refl)

  file_stays : (xs : List ℕ) → times k.block xs ≡ 0 → (b : ℕ) → has_number xs b ≡ true → contents longer_world b ≡ contents w b
  file_stays xs none b m = contents-other w k.block b bytes (is_other k.block b xs none m)

  in_directory : times k.block (blocks_of c.directory) ≡ 0
  in_directory = let h = this in omega (arith, counted k.block, all_once k.block, h)

  in_front : times k.block (file_blocks fs) ≡ 0
  in_front = let h = this in omega (arith, counted k.block, all_once k.block, h)

  in_own : times k.block (blocks_of ks) ≡ 0
  in_own = let h = this in omega (arith, counted k.block, all_once k.block, h)

  in_back : times k.block (file_blocks hs) ≡ 0
  in_back = let h = this in omega (arith, counted k.block, all_once k.block, h)

  in_more : times k.block (blocks_of more) ≡ 0
  in_more = let h = this in omega (arith, counted k.block, all_once k.block, h)

  file_now : (p : PlacedEntry) → IsChainFile w p.0 p.1 f → IsChainFile longer_world p.0 p.1 longer
  file_now p is = record {
    name = is.name;
    from = is.from;
    chain = record {
      links = from_changed w longer_world (Some p.1.block) ks k [] cl more (file_stays (blocks_of ks) in_own) (ap (option_and_then cluster_in) (contents-same w k.block bytes within) ∙ read)
          (from_same w longer_world cl.next more (file_stays (blocks_of more) in_more) tail) (subst (IsFrom w (Some p.1.block)) ends is.chain.links);
      short = short;
    };
    filled = filled;
  }

  -- the listing, with the file in its place
  by_files : (ps qs : List PlacedEntry) → has.listing.entries ≡ ps ++ qs → AreFiles w ps fs → AreFiles w qs (f ∷ hs) → IsListing longer_world c.directory (fs ++ (longer ∷ hs))
  by_files ps [] all first rest = absurd rest
  by_files ps (q ∷ qs) all first rest = record {
    entries = ps ++ q ∷ qs;
    in_order = subst (AreEntries (block_len w.geometry) c.directory) all has.listing.in_order;
    files = files-append longer_world ps (q ∷ qs) fs (longer ∷ hs)
        (files_same w longer_world ps fs refl (file_stays (file_blocks fs) in_front) first)
        (file_now q rest.0, files_same w longer_world qs hs refl (file_stays (file_blocks hs) in_back) rest.1);
  }

  listing_now : IsListing longer_world c.directory (fs ++ (longer ∷ hs))
  listing_now = let split = entries_of_files w has.listing.entries fs (f ∷ hs) (subst (AreFiles w has.listing.entries) position has.listing.files) in by_files split.0 split.1 split.2 split.3 split.4

  old_held : (a b : ℕ) → holds (file_pairs c.files) a b ≡ true → holds w.pairs a b ≡ true
  old_held a b h = (right_is w c has.right).held a b (held_right (links (blocks_of c.directory)) (file_pairs c.files) a b h)

  own_held : (a b : ℕ) → holds (links (f.from ∷ blocks_of f.chain)) a b ≡ true → holds w.pairs a b ≡ true
  own_held a b h = old_held a b (ap (λ xs. holds (file_pairs xs) a b) position ∙ (ap (λ es. holds es a b) (file_pairs-append fs (f ∷ hs)) ∙ held_right (file_pairs fs) (file_pairs (f ∷ hs)) a b (held_left (links (f.from ∷ blocks_of f.chain)) (file_pairs hs) a b h)))

  pair_held : (a b : ℕ) → holds (chain_pairs fuller) a b ≡ true → holds w.pairs a b ≡ true
  pair_held a b h = elim (held_append (links (blocks_of c.directory)) (file_pairs (fs ++ (longer ∷ hs))) a b h) [
    | inl link ↦ (right_is w c has.right).held a b (held_left (links (blocks_of c.directory)) (file_pairs c.files) a b link)
    | inr file ↦ elim (held_three fs (longer ∷ []) hs a b file) [
      | inl first ↦ old_held a b (ap (λ xs. holds (file_pairs xs) a b) position ∙ first_held fs (f ∷ []) hs a b first)
      | inr rest ↦ elim rest [
        | inl new ↦ elim (links_split (f.from ∷ blocks_of ks) k.block (blocks_of more) a b (ap (λ xs. holds (links (f.from ∷ xs)) a b) (sym new_blocks) ∙ (ap (λ es. holds es a b) (sym (append-nil (links (f.from ∷ blocks_of longer.chain)))) ∙ new))) [
          | inl old ↦ own_held a b (ap (λ xs. holds (links (f.from ∷ xs)) a b) old_blocks ∙ old)
          | inr on ↦ held a b on
        ]
        | inr last ↦ old_held a b (ap (λ xs. holds (file_pairs xs) a b) position ∙ last_held fs (f ∷ []) hs a b last)
      ]
    ]
  ]

  same_names : file_names (fs ++ (longer ∷ hs)) ≡ file_names c.files
  same_names = in_names fs ∙ ap file_names (sym position)
    where
      in_names : (gs : List ChainFile) → file_names (gs ++ (longer ∷ hs)) ≡ file_names (gs ++ (f ∷ hs))
      in_names [] = refl
      in_names (g ∷ gs) = ap (λ ns. g.name ∷ ns) (in_names gs)

  same_number : length (fs ++ (longer ∷ hs)) ≡ length c.files
  same_number = length-append fs (longer ∷ hs) ∙ (sym (length-append fs (f ∷ hs)) ∙ ap length (sym position))

  pub file_grows : HasChains longer_world root fuller
  file_grows = record {
    directory = record { links = from_same w longer_world (Some root) c.directory (file_stays (blocks_of c.directory) in_directory) has.directory.links; short = has.directory.short };
    listing = listing_now;
    right = is_right longer_world fuller (record {
      held = pair_held;
      once = λ b.
          let all = times-append b (blocks_of c.directory) (file_blocks (fs ++ (longer ∷ hs))) in
          let three = times_three b fs (longer ∷ []) hs in
          let one : times b (file_blocks (longer ∷ [])) ≡ times b (blocks_of ks) + (cond (k.block == b) 1 0 + times b (blocks_of more)) =
          ap (times b) (append-nil (blocks_of longer.chain)) ∙ (ap (times b) new_blocks ∙ times-append b (blocks_of ks) (k.block ∷ blocks_of more)) in
          omega (arith, all, three, one, counted b, all_once b);
      names = ap are_distinct same_names ∙ (right_is w c has.right).names;
      few = subst (λ n. n ≤ names_max) (sym same_number) (right_is w c has.right).few;
    });
  }
