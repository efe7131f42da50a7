-- The cluster of the directory with the entry of a new file, of a new name or in place of an old one: what its write leaves.
use Rattle.std.proofs.Common.{◌≡◌, ℕ, suc, ◌+◌, ◌^◌, ◌<◌, ◌≤◌, true, ◌==◌, nat_lt, List, [], ◌∷◌, ◌++◌, length, length-append, append-nil, refl, sym, ◌∙◌, ap, subst, arith, inl, inr, Option, Some, None}
use Rattle.chain_changes.proofs.Common.{and_from, and_parts, eq-eqb, eqb-true, nat_tests, slice_index_or, block_len, World, has_number, are_apart, holds, is_pair, filled, written, Name, is_name, a_file, with_at, Entry, all_named, entries_room, entries_of, directory_bytes, clusters_for, blocks_of, links, ChainFile, Chains, chain_blocks, names_max, chain_tree, FsRefusal, number_left, number_right, first_in, held_left, held_right, held_append, times, times-append, apart_times, DiskView, Client, write_by, Leads, no_room_in, refused_on, cluster_of, block_len_of, dir_cluster, entries_in, entry_blocks, HaveFourBytes, IsFrom, AreOthers, file_blocks, file_pairs, file_names, relinked, IsNewFile, FileAdded, FileSet, blocks-append, entry_is_added, entry_is_set, AreLinkable, NewFile, Page, mounted_by, page_link, IsEntry}
use Rattle.fs_trees.specs.declared.ask.ShellAsk.TheVariants as ask
use Rattle.chain_changes.proofs.MakingLaws.{primary_now, link_held}
use Rattle.chain_changes.proofs.EntryLaws.{ReadsAs, directory_read, directory_fits, named_parts, named_both, small_parts, small_both, page_entries, page_all_named, page_linked, page_sized, page_small}
use Rattle.chain_changes.proofs.ExchangeLaws.{old_gone, named_before, still_named}
use Rattle.chain_changes.proofs.RemoveLaws.{same_blocks, file_first, file_has_first, file_pair}
use Rattle.chain_changes.proofs.AfterLaws.{Decided, LetsGo, None_loose, This_loose}
use Rattle.chain_changes.proofs.AmongLaws.{among_named, among_held, among_parts, others_held}
use Rattle.chain_changes.proofs.PuttingLaws.{Putting, stage, under_now, new_apart, within_now, decided, file_in}
use Rattle.chain_changes.proofs.PlacedLaws.{first_of_all, none_dropped, first_there}

pub small_block : (b : ℕ) → b + 1 < 2 ^ 32 → nat_lt b (2 ^ 32) ≡ true
small_block b h = grind (arith, nat_tests)

-- the directory's cluster with other entries, as it is read
module _ (c : Client) (old : DiskView) (n : Name) (page : Page) (x : Putting c old n page) (es : List Entry) (named : all_named es ≡ true) (room : length es ≤ entries_room (block_len old.world.geometry)) (small : HaveFourBytes (entry_blocks es)) where
  sized : (16 ≤ block_len old.world.geometry) × (block_len old.world.geometry ≤ 4096)
  sized = page_sized old.world c.root x.chains x.under x.valid.valid x.before page x.behind x.parts x.read

  pub page_reads : (w : World) → w.geometry ≡ old.world.geometry → ReadsAs (block_len w.geometry) (filled (block_len w.geometry) (directory_bytes (cluster_of (dir_cluster page.cluster)).next es)) (cluster_of (dir_cluster page.cluster)).next es
  page_reads w size = subst (λ k. ReadsAs (block_len k) (filled (block_len k) (directory_bytes (cluster_of (dir_cluster page.cluster)).next es)) (cluster_of (dir_cluster page.cluster)).next es) (sym size)
      (directory_read (block_len old.world.geometry) (cluster_of (dir_cluster page.cluster)).next es sized.1
      (page_linked old.world c.root x.chains x.under x.valid.valid x.before page x.behind x.parts x.read) room named small)

  pub page_fits : length (directory_bytes (cluster_of (dir_cluster page.cluster)).next es) ≤ block_len old.world.geometry
  page_fits = directory_fits (block_len old.world.geometry) (cluster_of (dir_cluster page.cluster)).next es sized.0 named room

-- ---- a new file whose first block is named there

module _ (c : Client) (old : DiskView) (n : Name) (page : Page) (x : Putting c old n page) (body blocks : List ℕ) (mid : DiskView) (nf : NewFile c old mid page.block 0 body blocks)
    (room : ◌≡◌ {A = Option FsRefusal} (no_room_in old.world (clusters_for old.world.geometry (length body) + 0) (clusters_for old.world.geometry (length body) + 0)) None) (linkable : AreLinkable blocks) (some : 0 < length blocks) where
  abbrev pub entered_file : ChainFile
  entered_file = record { name = n; from = page.block; chain = nf.links }

  abbrev pub entered : Entry
  entered = record { name = n; block = slice_index_or blocks 0 0 }

  pub own_is : blocks_of nf.links ≡ blocks
  own_is = nf.blocks_are ∙ none_dropped blocks

  pub entered_small : nat_lt (slice_index_or blocks 0 0) (2 ^ 32) ≡ true
  entered_small = small_block (slice_index_or blocks 0 0) (linkable (slice_index_or blocks 0 0) (first_there blocks some))

  pub is_new : IsNewFile mid.world x.chains page.block (record { name = n; block = slice_index_or blocks 0 0 }) (record { name = n; from = page.block; chain = nf.links })
  is_new = record {
    file = file_in c old n page x 0 body blocks mid nf room mid.world nf.making.geometry page.block (slice_index_or blocks 0 0) (subst (λ o. IsFrom mid.world o nf.links) (first_of_all blocks some) nf.from);
    fresh = ap (λ bs. are_apart (chain_blocks x.chains ++ bs)) own_is ∙ new_apart c old n page x blocks mid.world nf.making;
    held = λ a b h. link_held c.root old.world page.block (stage c old n page x) blocks mid.world nf.making a b (ap (λ bs. holds (links (page.block ∷ bs)) a b) (sym own_is) ∙ h);
  }

  own_entries : entries_of (block_len mid.world.geometry) (cluster_of (dir_cluster page.cluster)) ≡ Some (entries_in page.cluster)
  own_entries = ap (λ g. entries_of (block_len g) (cluster_of (dir_cluster page.cluster))) nf.making.geometry ∙ page_entries old.world c.root x.chains x.under x.valid.valid x.before page x.behind x.parts x.read

  -- ---- a new name

  module _ (others : AreOthers n (file_names x.chains.files)) (few : length x.chains.files < names_max) (roomy : length (entries_in page.cluster) < entries_room (block_len_of (dir_cluster page.cluster))) where
    abbrev more : List Entry
    more = entries_in page.cluster ++ (record { name = n; block = slice_index_or blocks 0 0 } ∷ [])

    more_named : all_named (entries_in page.cluster ++ (record { name = n; block = slice_index_or blocks 0 0 } ∷ [])) ≡ true
    more_named = named_both (entries_in page.cluster) (record { name = n; block = slice_index_or blocks 0 0 } ∷ []) (page_all_named old.world c.root x.chains x.under x.valid.valid x.before page x.behind x.parts x.read).0 (and_from (is_name n) true x.named refl)

    more_room : length (entries_in page.cluster ++ (record { name = n; block = slice_index_or blocks 0 0 } ∷ [])) ≤ entries_room (block_len old.world.geometry)
    more_room =
        let same = ap entries_room x.read.read.whole in
        let sum = length-append (entries_in page.cluster) (record { name = n; block = slice_index_or blocks 0 0 } ∷ []) in
        fewer (length (entries_in page.cluster)) (entries_room (block_len_of (dir_cluster page.cluster))) (entries_room (block_len old.world.geometry)) (length more) roomy same sum
      where
        fewer : (k r s m : ℕ) → k < r → r ≡ s → m ≡ k + 1 → m ≤ s
        fewer k r s m h e q = omega (arith, h, e, q)

    more_small : HaveFourBytes (entry_blocks (entries_in page.cluster ++ (record { name = n; block = slice_index_or blocks 0 0 } ∷ [])))
    more_small = small_both (entries_in page.cluster) (record { name = n; block = slice_index_or blocks 0 0 } ∷ []) (page_small old.world c.root x.chains x.under x.valid.valid x.before page x.behind x.parts x.read) (and_from (nat_lt (slice_index_or blocks 0 0) (2 ^ 32)) true entered_small refl)

    abbrev bytes : List ℕ
    bytes = directory_bytes (cluster_of (dir_cluster page.cluster)).next (entries_in page.cluster ++ (record { name = n; block = slice_index_or blocks 0 0 } ∷ []))

    pub add_fits : length (directory_bytes (cluster_of (dir_cluster page.cluster)).next (entries_in page.cluster ++ (record { name = n; block = slice_index_or blocks 0 0 } ∷ []))) ≤ block_len mid.world.geometry
    add_fits = subst (λ g. length bytes ≤ block_len g) (sym nf.making.geometry) (page_fits c old n page x more more_named more_room more_small)

    reads : ReadsAs (block_len mid.world.geometry) (filled (block_len mid.world.geometry) bytes) (cluster_of (dir_cluster page.cluster)).next more
    reads = page_reads c old n page x more more_named more_room more_small mid.world nf.making.geometry

    added : FileAdded mid.world c.root x.chains x.before (page_link page) x.behind (filled (block_len mid.world.geometry) bytes) reads.cluster entered_file
    added = entry_is_added mid.world c.root x.chains x.before (page_link page) x.behind (filled (block_len mid.world.geometry) bytes) reads.cluster (entries_in page.cluster) entered [] entered_file
        (under_now c old n page x blocks mid.world nf.making) (record { position = x.parts; within = within_now c old n page x blocks mid.world nf.making; read = reads.read }) reads.next_is
        (own_entries ∙ ap (λ es. Some es) (sym (append-nil (entries_in page.cluster)))) reads.entries_are is_new others few

    abbrev next : Chains
    next = record { directory = x.before ++ relinked (page_link page) reads.cluster ∷ x.behind; files = added.before ++ (entered_file ∷ added.behind) }

    same_directory : blocks_of next.directory ≡ blocks_of x.chains.directory
    same_directory = same_blocks x.before (page_link page) reads.cluster x.behind ∙ ap blocks_of (sym x.parts)

    pub add_decided : (granted : ◌≡◌ {A = Option FsRefusal} (refused_on (mounted_by c) old (ask.Put (n ∷ []) body)) None)
        → Leads mid.world (write_by c page.block (directory_bytes (cluster_of (dir_cluster page.cluster)).next (entries_in page.cluster ++ (record { name = n; block = slice_index_or blocks 0 0 } ∷ [])))) (written mid.world page.block (directory_bytes (cluster_of (dir_cluster page.cluster)).next (entries_in page.cluster ++ (record { name = n; block = slice_index_or blocks 0 0 } ∷ []))))
        → Decided c old (ask.Put (n ∷ []) body) (written mid.world page.block (directory_bytes (cluster_of (dir_cluster page.cluster)).next (entries_in page.cluster ++ (record { name = n; block = slice_index_or blocks 0 0 } ∷ [])))) None_loose
    add_decided granted leads = decided c old n page x blocks mid.world nf.making body bytes None_loose next leads added.becomes.under
        (added.becomes.tree ∙ ap (λ y. with_at (n ∷ []) (a_file y) (chain_tree mid.world c.root)) nf.holds) granted
        (λ b h. elim (among_parts next.directory added.before entered_file added.behind b h) [
          | inl first ↦ inl (number_left (blocks_of x.chains.directory) (file_blocks x.chains.files) b (ap (λ bs. has_number bs b) (sym same_directory) ∙ first))
          | inr more ↦ elim more [
            | inl own ↦ inr (ap (λ bs. has_number bs b) (sym own_is) ∙ own)
            | inr other ↦ inl (number_right (blocks_of x.chains.directory) (file_blocks x.chains.files) b (ap (λ fs. has_number (file_blocks fs) b) added.files ∙ other))
          ]
        ])
        (λ b h. among_named next.directory added.before entered_file added.behind b (ap (λ bs. has_number bs b) own_is ∙ h))
        (λ a b h. among_held next.directory added.before entered_file added.behind a b (ap (λ bs. holds (links (page.block ∷ bs)) a b) own_is ∙ h))
        (λ a b from h. inl (elim (held_append (links (blocks_of x.chains.directory)) (file_pairs x.chains.files) a b h) [
          | inl link ↦ held_left (links (blocks_of next.directory)) (file_pairs next.files) a b (ap (λ bs. holds (links bs) a b) same_directory ∙ link)
          | inr file ↦ held_right (links (blocks_of next.directory)) (file_pairs next.files) a b (others_held next.directory added.before entered_file added.behind a b (ap (λ fs. holds (file_pairs fs) a b) (sym added.files) ∙ file))
        ]))

  -- ---- a name that stands for an old file

  module _ (position first : ℕ) (at : IsEntry n (entries_in page.cluster) position first) where
    abbrev front : List Entry
    front = at.front

    abbrev back : List Entry
    back = at.back

    abbrev others_too : List Entry
    others_too = at.front ++ (record { name = n; block = slice_index_or blocks 0 0 } ∷ at.back)

    set_named : all_named (at.front ++ (record { name = n; block = slice_index_or blocks 0 0 } ∷ at.back)) ≡ true
    set_named =
        let all = named_parts at.front (at.entry ∷ at.back) (ap all_named (sym at.parts) ∙ (page_all_named old.world c.root x.chains x.under x.valid.valid x.before page x.behind x.parts x.read).0) in
        named_both at.front (record { name = n; block = slice_index_or blocks 0 0 } ∷ at.back) all.0 (and_from (is_name n) (all_named at.back) x.named (named_parts (at.entry ∷ []) at.back all.1).1)

    set_room : length (at.front ++ (record { name = n; block = slice_index_or blocks 0 0 } ∷ at.back)) ≤ entries_room (block_len old.world.geometry)
    set_room =
        let size = ap length at.parts in
        let one = length-append at.front (at.entry ∷ at.back) in
        let two = length-append at.front (record { name = n; block = slice_index_or blocks 0 0 } ∷ at.back) in
        let most = (page_all_named old.world c.root x.chains x.under x.valid.valid x.before page x.behind x.parts x.read).1 in
        as_many (length (entries_in page.cluster)) (length (at.front ++ (at.entry ∷ at.back))) (length at.front) (length at.back) (length others_too) (entries_room (block_len old.world.geometry)) size one two most
      where
        as_many : (all old_all f b m r : ℕ) → all ≡ old_all → old_all ≡ f + suc b → m ≡ f + suc b → all ≤ r → m ≤ r
        as_many all old_all f b m r e p q h = omega (arith, e, p, q, h)

    set_small : HaveFourBytes (entry_blocks (at.front ++ (record { name = n; block = slice_index_or blocks 0 0 } ∷ at.back)))
    set_small =
        let all = small_parts at.front (at.entry ∷ at.back) (subst (λ es. HaveFourBytes (entry_blocks es)) at.parts (page_small old.world c.root x.chains x.under x.valid.valid x.before page x.behind x.parts x.read)) in
        small_both at.front (record { name = n; block = slice_index_or blocks 0 0 } ∷ at.back) all.0 (and_from (nat_lt (slice_index_or blocks 0 0) (2 ^ 32)) _ entered_small (small_parts (at.entry ∷ []) at.back all.1).1)

    abbrev bytes_set : List ℕ
    bytes_set = directory_bytes (cluster_of (dir_cluster page.cluster)).next (at.front ++ (record { name = n; block = slice_index_or blocks 0 0 } ∷ at.back))

    pub set_fits : length (directory_bytes (cluster_of (dir_cluster page.cluster)).next (at.front ++ (record { name = n; block = slice_index_or blocks 0 0 } ∷ at.back))) ≤ block_len mid.world.geometry
    set_fits = subst (λ g. length bytes_set ≤ block_len g) (sym nf.making.geometry) (page_fits c old n page x others_too set_named set_room set_small)

    reads_set : ReadsAs (block_len mid.world.geometry) (filled (block_len mid.world.geometry) bytes_set) (cluster_of (dir_cluster page.cluster)).next others_too
    reads_set = page_reads c old n page x others_too set_named set_room set_small mid.world nf.making.geometry

    the_set : FileSet mid.world c.root x.chains x.before (page_link page) x.behind (filled (block_len mid.world.geometry) bytes_set) reads_set.cluster at.entry entered_file
    the_set = entry_is_set mid.world c.root x.chains x.before (page_link page) x.behind (filled (block_len mid.world.geometry) bytes_set) reads_set.cluster at.front at.entry entered at.back entered_file
        (under_now c old n page x blocks mid.world nf.making) (record { position = x.parts; within = within_now c old n page x blocks mid.world nf.making; read = reads_set.read }) reads_set.next_is
        (own_entries ∙ ap (λ es. Some es) at.parts) reads_set.entries_are (sym at.name) is_new

    abbrev after : Chains
    after = record { directory = x.before ++ relinked (page_link page) reads_set.cluster ∷ x.behind; files = the_set.before ++ (entered_file ∷ the_set.behind) }

    directory_same : blocks_of after.directory ≡ blocks_of x.chains.directory
    directory_same = same_blocks x.before (page_link page) reads_set.cluster x.behind ∙ ap blocks_of (sym x.parts)

    once : (k : ℕ) → times k (chain_blocks x.chains) + times k (file_blocks (entered_file ∷ [])) ≤ 1
    once k =
        let most = apart_times (chain_blocks x.chains ++ blocks) (new_apart c old n page x blocks mid.world nf.making) k in
        let sum = times-append k (chain_blocks x.chains) blocks in
        let own = ap (times k) (append-nil (blocks_of nf.links) ∙ own_is) in
        omega (arith, most, sum, own)

    first_is : first ≡ at.entry.block
    first_is = sym at.block

    old_first : (rest : List ℕ) × (blocks_of the_set.old.chain ≡ at.entry.block ∷ rest)
    old_first = file_first mid.world c.root x.chains (under_now c old n page x blocks mid.world nf.making) nf.making.valid (primary_now c.root old.world page.block (stage c old n page x) blocks mid.world nf.making) the_set.before the_set.old the_set.behind the_set.files page.block at.entry the_set.was

    old_there : has_number (blocks_of the_set.old.chain) at.entry.block ≡ true
    old_there = file_has_first mid.world c.root x.chains (under_now c old n page x blocks mid.world nf.making) nf.making.valid (primary_now c.root old.world page.block (stage c old n page x) blocks mid.world nf.making) the_set.before the_set.old the_set.behind the_set.files page.block at.entry the_set.was

    pub set_lets : (granted : ◌≡◌ {A = Option FsRefusal} (refused_on (mounted_by c) old (ask.Put (n ∷ []) body)) None)
        → Leads mid.world (write_by c page.block (directory_bytes (cluster_of (dir_cluster page.cluster)).next (at.front ++ (record { name = n; block = slice_index_or blocks 0 0 } ∷ at.back)))) (written mid.world page.block (directory_bytes (cluster_of (dir_cluster page.cluster)).next (at.front ++ (record { name = n; block = slice_index_or blocks 0 0 } ∷ at.back))))
        → LetsGo c old (ask.Put (n ∷ []) body) (written mid.world page.block (directory_bytes (cluster_of (dir_cluster page.cluster)).next (at.front ++ (record { name = n; block = slice_index_or blocks 0 0 } ∷ at.back)))) page.block first
    unfolding decided
    set_lets granted leads = record {
      decided = decided c old n page x blocks mid.world nf.making body bytes_set (This_loose page.block first) after leads the_set.becomes.under
          (the_set.becomes.tree ∙ (ap (λ y. with_at (at.entry.name ∷ []) (a_file y) (chain_tree mid.world c.root)) nf.holds ∙ ap (λ m. with_at (m ∷ []) (a_file body) (chain_tree mid.world c.root)) at.name)) granted
          (λ b h. elim (named_before x.chains after the_set.before the_set.old the_set.behind (entered_file ∷ []) the_set.files refl directory_same once b h) [
            | inl was ↦ inl was
            | inr new ↦ inr (ap (λ bs. has_number bs b) (sym (append-nil (blocks_of nf.links) ∙ own_is)) ∙ new)
          ])
          (λ b h. among_named after.directory the_set.before entered_file the_set.behind b (ap (λ bs. has_number bs b) own_is ∙ h))
          (λ a b h. among_held after.directory the_set.before entered_file the_set.behind a b (ap (λ bs. holds (links (page.block ∷ bs)) a b) own_is ∙ h))
          (λ a b from h. elim (still_named x.chains after the_set.before the_set.old the_set.behind (entered_file ∷ []) the_set.files refl directory_same once a b from h) [
            | inl still ↦ inl still
            | inr this ↦ inr (is_this a b this.0 this.1 this.2 this.3)
          ]);
      source = number_left (blocks_of after.directory) (file_blocks after.files) page.block (ap (λ bs. has_number bs page.block) directory_same
          ∙ (ap (λ ls. has_number (blocks_of ls) page.block) x.parts ∙ (ap (λ bs. has_number bs page.block) (blocks-append x.before (page_link page ∷ x.behind)) ∙ number_right (blocks_of x.before) _ page.block (first_in page.block (blocks_of x.behind)))));
      held = subst (λ k. holds mid.world.pairs page.block k ≡ true) (sym first_is)
          (file_pair mid.world c.root x.chains (under_now c old n page x blocks mid.world nf.making) nf.making.valid (primary_now c.root old.world page.block (stage c old n page x) blocks mid.world nf.making) the_set.before the_set.old the_set.behind the_set.files page.block at.entry the_set.was);
      gone = old_gone x.chains after the_set.before the_set.old the_set.behind (entered_file ∷ []) the_set.files refl directory_same once first (subst (λ k. has_number (blocks_of the_set.old.chain) k ≡ true) (sym first_is) old_there);
    }
      where
        is_this : (a b f : ℕ) (rest : List ℕ) → blocks_of the_set.old.chain ≡ f ∷ rest → is_pair a b (the_set.old.from, f) ≡ true → is_pair page.block first (a, b) ≡ true
        is_this a b f rest begins h =
            let same : at.entry.block ≡ f = same_head (sym old_first.1 ∙ begins) in
            let parts = and_parts (the_set.old.from == a) (f == b) h in
            and_from (a == page.block) (b == first) (eq-eqb a page.block (sym (eqb-true the_set.old.from a parts.0) ∙ the_set.was.from)) (eq-eqb b first (sym (eqb-true f b parts.1) ∙ (sym same ∙ sym first_is)))
          where
            same_head : {m k : ℕ} {ms ks : List ℕ} → m ∷ ms ≡ k ∷ ks → m ≡ k
            same_head h = cc
