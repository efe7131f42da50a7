-- A new cluster of the directory, with the entry of a new file: it is made, and then the last cluster leads to it, which decides.
use Rattle.std.proofs.Common.{◌≡◌, ℕ, ◌+◌, ◌^◌, ◌<◌, ◌≤◌, true, false, not, ◌==◌, nat_lt, List, [], ◌∷◌, ◌++◌, length, append-nil, append_assoc, refl, sym, ◌∙◌, ap, subst, arith, inl, inr, ◌⊎◌, Option, Some, None}
use Rattle.chain_changes.proofs.Common.{and_from, and_parts, or_cases, or_left, or_right, eq-eqb, eqb-true, not-true, drop, slice_index_or, option_and_then, block_len, World, has_number, are_apart, holds, is_pair, filled, written, contents-other, contents-same, live_below, Name, is_name, a_file, with_at, Entry, all_named, Cluster, cluster_in, entries_room, entries_of, directory_bytes, clusters_for, Link, blocks_of, links, ChainFile, chain_bytes, Chains, chain_blocks, names_max, chain_tree, FsRefusal, number_left, number_right, in_append, first_in, held_left, held_right, held_append, DiskView, Client, write_by, Leads, no_room_in, refused_on, cluster_of, entries_in, entry_blocks, HaveFourBytes, IsFrom, AreOthers, file_blocks, file_pairs, file_names, relinked, IsNewCluster, Becomes, from_same, blocks-append, the_directory_grows, Making, AreLinkable, NewFile, Page, mounted_by, page_link}
use Rattle.fs_trees.specs.declared.ask.ShellAsk.TheVariants as ask
use Rattle.chain_layout.specs.Held as held
use Rattle.chain_changes.proofs.MakingLaws.{link_held, making_written}
use Rattle.chain_changes.proofs.WriteLaws.{in_drop}
use Rattle.chain_changes.proofs.EntryLaws.{ReadsAs, directory_read, directory_fits, page_entries, page_all_named, page_sized, page_small}
use Rattle.chain_changes.proofs.AfterLaws.{Decided, None_loose}
use Rattle.chain_changes.proofs.AmongLaws.{among_named, among_held, among_parts, others_held, links_left, links_seam}
use Rattle.chain_changes.proofs.PuttingLaws.{Putting, stage, under_now, new_apart, within_now, decided, file_in}
use Rattle.chain_changes.proofs.PlacedLaws.{second_of_all, first_and_rest, first_there, second_there}
use Rattle.chain_changes.proofs.AddLaws.{small_block}
use Rattle.tsd_model.proofs.ValueLaws.{clash}

module _ (c : Client) (old : DiskView) (n : Name) (page : Page) (x : Putting c old n page) (body blocks : List ℕ) (mid : DiskView) (nf : NewFile c old mid page.block 1 body blocks)
    (room : ◌≡◌ {A = Option FsRefusal} (no_room_in old.world (clusters_for old.world.geometry (length body) + 1) (clusters_for old.world.geometry (length body) + 1)) None) (linkable : AreLinkable blocks) (some : 1 < length blocks) where
  abbrev p : ℕ
  p = slice_index_or blocks 0 0

  abbrev q : ℕ
  q = slice_index_or blocks 1 0

  abbrev e : Entry
  e = record { name = n; block = slice_index_or blocks 1 0 }

  one : 0 < length blocks
  one = omega (arith, some)

  behind_first : blocks ≡ slice_index_or blocks 0 0 ∷ drop 1 blocks
  behind_first = first_and_rest blocks one

  off_first : has_number (drop 1 blocks) (slice_index_or blocks 0 0) ≡ false
  off_first = not-true (has_number (drop 1 blocks) p) (and_parts (not (has_number (drop 1 blocks) p)) (are_apart (drop 1 blocks)) (ap are_apart (sym behind_first) ∙ nf.making.once)).0

  sized : (16 ≤ block_len old.world.geometry) × (block_len old.world.geometry ≤ 4096)
  sized = page_sized old.world c.root x.chains x.under x.valid.valid x.before page x.behind x.parts x.read

  some_room : 1 ≤ entries_room (block_len old.world.geometry)
  some_room = elim x.valid.valid.raw.sized.lawful.sectors [
    | inl k ↦ omega (arith, k)
    | inr more ↦ elim more [ inl k ↦ omega (arith, k) | inr most ↦ elim most [ inl k ↦ omega (arith, k) | inr k ↦ omega (arith, k) ] ]
  ]

  one_named : all_named (record { name = n; block = slice_index_or blocks 1 0 } ∷ []) ≡ true
  one_named = and_from (is_name n) true x.named refl

  one_small : HaveFourBytes (entry_blocks (record { name = n; block = slice_index_or blocks 1 0 } ∷ []))
  one_small = and_from (nat_lt (slice_index_or blocks 1 0) (2 ^ 32)) true (small_block (slice_index_or blocks 1 0) (linkable (slice_index_or blocks 1 0) (second_there blocks some))) refl

  abbrev bytes_one : List ℕ
  bytes_one = directory_bytes None (record { name = n; block = slice_index_or blocks 1 0 } ∷ [])

  pub one_fits : length (directory_bytes None (record { name = n; block = slice_index_or blocks 1 0 } ∷ [])) ≤ block_len mid.world.geometry
  one_fits = subst (λ g. length bytes_one ≤ block_len g) (sym nf.making.geometry) (directory_fits (block_len old.world.geometry) None (e ∷ []) sized.0 one_named some_room)

  pub first_among : has_number blocks (slice_index_or blocks 0 0) ≡ true
  first_among = first_there blocks one

  -- ---- the new cluster is written

  module _ (leads_one : Leads mid.world (write_by c (slice_index_or blocks 0 0) (directory_bytes None (record { name = n; block = slice_index_or blocks 1 0 } ∷ []))) (written mid.world (slice_index_or blocks 0 0) (directory_bytes None (record { name = n; block = slice_index_or blocks 1 0 } ∷ [])))) where
    abbrev w : World
    w = written mid.world p bytes_one

    pub making_one : Making c.root old.world page.block blocks (written mid.world (slice_index_or blocks 0 0) (directory_bytes None (record { name = n; block = slice_index_or blocks 1 0 } ∷ [])))
    making_one = making_written c.root old.world page.block (stage c old n page x) blocks mid.world nf.making c p bytes_one first_among leads_one

    reads_one : ReadsAs (block_len mid.world.geometry) (filled (block_len mid.world.geometry) bytes_one) None (e ∷ [])
    reads_one = subst (λ g. ReadsAs (block_len g) (filled (block_len g) bytes_one) None (e ∷ [])) (sym nf.making.geometry)
        (directory_read (block_len old.world.geometry) None (e ∷ []) sized.1 (omega arith) some_room one_named one_small)

    abbrev m : Link
    m = record { block = p; cluster = reads_one.cluster }

    abbrev new_file : ChainFile
    new_file = record { name = n; from = p; chain = nf.links }

    from_here : IsFrom w (Some q) nf.links
    from_here = from_same mid.world w (Some q) nf.links (λ b h. contents-other mid.world p b (filled (block_len mid.world.geometry) bytes_one) (λ same. clash (has_number (drop 1 blocks) p) (subst (λ k. has_number (drop 1 blocks) k ≡ true) same (ap (λ bs. has_number bs b) (sym nf.blocks_are) ∙ h)) off_first))
        (subst (λ o. IsFrom mid.world o nf.links) (second_of_all blocks some) nf.from)

    all_new : p ∷ blocks_of nf.links ≡ blocks
    all_new = ap (λ bs. p ∷ bs) nf.blocks_are ∙ sym behind_first

    is_new_cluster : IsNewCluster w x.chains (page_link page) m e new_file
    is_new_cluster = record {
      there = ap (option_and_then cluster_in) (contents-same mid.world p (filled (block_len mid.world.geometry) bytes_one) (live_below mid.world.blocks p (nf.making.lives p first_among))) ∙ reads_one.read;
      ends = reads_one.next_is;
      entries = reads_one.entries_are;
      file = file_in c old n page x 1 body blocks mid nf room w making_one.geometry p q from_here;
      fresh = ap (λ bs. are_apart (chain_blocks x.chains ++ bs)) all_new ∙ new_apart c old n page x blocks w making_one;
      led = link_held c.root old.world page.block (stage c old n page x) blocks w making_one page.block p (ap (λ bs. holds (links (page.block ∷ bs)) page.block p) behind_first
          ∙ or_left (is_pair page.block p (page.block, p)) _ (and_from (page.block == page.block) (p == p) (eq-eqb page.block page.block refl) (eq-eqb p p refl)));
      held = λ a b h. link_held c.root old.world page.block (stage c old n page x) blocks w making_one a b (ap (λ bs. holds (links (page.block ∷ bs)) a b) (sym all_new) ∙ or_right (is_pair a b (page.block, p)) _ h);
    }

    -- ---- the last one leads to it

    module _ (no_behind : x.behind ≡ []) (others : AreOthers n (file_names x.chains.files)) (few : length x.chains.files < names_max) where
      abbrev es : List Entry
      es = entries_in page.cluster

      all_entries : (all_named (entries_in page.cluster) ≡ true) × (length (entries_in page.cluster) ≤ entries_room (block_len old.world.geometry))
      all_entries = page_all_named old.world c.root x.chains x.under x.valid.valid x.before page x.behind x.parts x.read

      abbrev entered : List ℕ
      entered = directory_bytes (Some (slice_index_or blocks 0 0)) (entries_in page.cluster)

      pub linked_fits : length (directory_bytes (Some (slice_index_or blocks 0 0)) (entries_in page.cluster)) ≤ block_len mid.world.geometry
      linked_fits = subst (λ g. length entered ≤ block_len g) (sym nf.making.geometry) (directory_fits (block_len old.world.geometry) (Some p) (entries_in page.cluster) sized.0 all_entries.0 all_entries.1)

      reads_two : ReadsAs (block_len mid.world.geometry) (filled (block_len mid.world.geometry) entered) (Some p) (entries_in page.cluster)
      reads_two = subst (λ g. ReadsAs (block_len g) (filled (block_len g) entered) (Some p) (entries_in page.cluster)) (sym nf.making.geometry)
          (directory_read (block_len old.world.geometry) (Some p) (entries_in page.cluster) sized.1 (linkable p first_among) all_entries.1 all_entries.0
          (page_small old.world c.root x.chains x.under x.valid.valid x.before page x.behind x.parts x.read))

      abbrev cl : Cluster
      cl = reads_two.cluster

      last_parts : x.chains.directory ≡ x.before ++ (page_link page ∷ [])
      last_parts = x.parts ∙ ap (λ ls. x.before ++ (page_link page ∷ ls)) no_behind

      abbrev next : Chains
      next = record { directory = x.before ++ relinked (page_link page) cl ∷ m ∷ []; files = x.chains.files ++ (new_file ∷ []) }

      grows : Becomes w c.root page.block (filled (block_len mid.world.geometry) entered) next (with_at (n ∷ []) (a_file (chain_bytes nf.links)) (chain_tree w c.root))
      grows = the_directory_grows w c.root x.chains x.before (page_link page) m (filled (block_len mid.world.geometry) entered) cl es e new_file making_one.valid.raw.sized
          (under_now c old n page x blocks w making_one) (record { position = last_parts; within = within_now c old n page x blocks w making_one; read = reads_two.read }) reads_two.next_is
          (ap (λ g. entries_of (block_len g) (cluster_of (held.dir_cluster page.cluster))) nf.making.geometry ∙ page_entries old.world c.root x.chains x.under x.valid.valid x.before page x.behind x.parts x.read)
          reads_two.entries_are is_new_cluster others few

      -- the directory's blocks, before and after
      old_directory : blocks_of x.chains.directory ≡ blocks_of x.before ++ (page.block ∷ [])
      old_directory = ap blocks_of last_parts ∙ blocks-append x.before (page_link page ∷ [])

      new_directory : blocks_of next.directory ≡ blocks_of x.before ++ (page.block ∷ p ∷ [])
      new_directory = blocks-append x.before (relinked (page_link page) cl ∷ m ∷ [])

      longer : (blocks_of x.before ++ (page.block ∷ [])) ++ (p ∷ []) ≡ blocks_of x.before ++ (page.block ∷ p ∷ [])
      longer = append_assoc (blocks_of x.before) (page.block ∷ []) (p ∷ [])

      in_directory : (b : ℕ) → has_number (blocks_of next.directory) b ≡ true → (has_number (blocks_of x.chains.directory) b ≡ true) ⊎ (p ≡ b)
      in_directory b h = elim (in_append (blocks_of x.before ++ (page.block ∷ [])) (p ∷ []) b (ap (λ bs. has_number bs b) (longer ∙ sym new_directory) ∙ h)) [
        | inl was ↦ inl (ap (λ bs. has_number bs b) old_directory ∙ was)
        | inr new ↦ elim (or_cases (p == b) false new) [ inl same ↦ inr (eqb-true p b same) | inr never ↦ absurd (cc) ]
      ]

      first_named : has_number (blocks_of next.directory) p ≡ true
      first_named = ap (λ bs. has_number bs p) (new_directory ∙ sym longer) ∙ number_right (blocks_of x.before ++ (page.block ∷ [])) (p ∷ []) p (first_in p [])

      pub extend_decided : (granted : ◌≡◌ {A = Option FsRefusal} (refused_on (mounted_by c) old (ask.Put (n ∷ []) body)) None)
          → Leads (written mid.world (slice_index_or blocks 0 0) (directory_bytes None (record { name = n; block = slice_index_or blocks 1 0 } ∷ []))) (write_by c page.block (directory_bytes (Some (slice_index_or blocks 0 0)) (entries_in page.cluster)))
          (written (written mid.world (slice_index_or blocks 0 0) (directory_bytes None (record { name = n; block = slice_index_or blocks 1 0 } ∷ []))) page.block (directory_bytes (Some (slice_index_or blocks 0 0)) (entries_in page.cluster)))
          → Decided c old (ask.Put (n ∷ []) body) (written (written mid.world (slice_index_or blocks 0 0) (directory_bytes None (record { name = n; block = slice_index_or blocks 1 0 } ∷ []))) page.block (directory_bytes (Some (slice_index_or blocks 0 0)) (entries_in page.cluster))) None_loose
      extend_decided granted leads = decided c old n page x blocks w making_one body entered None_loose next leads grows.under
          (grows.tree ∙ ap (λ y. with_at (n ∷ []) (a_file y) (chain_tree w c.root)) nf.holds) granted
          (λ b h. elim (among_parts next.directory x.chains.files new_file [] b h) [
            | inl first ↦ elim (in_directory b first) [
              | inl was ↦ inl (number_left (blocks_of x.chains.directory) (file_blocks x.chains.files) b was)
              | inr same ↦ inr (subst (λ k. has_number blocks k ≡ true) same first_among)
            ]
            | inr more ↦ elim more [
              | inl own ↦ inr (in_drop blocks 1 b (ap (λ bs. has_number bs b) (sym nf.blocks_are) ∙ own))
              | inr other ↦ inl (number_right (blocks_of x.chains.directory) (file_blocks x.chains.files) b (ap (λ fs. has_number (file_blocks fs) b) (sym (append-nil x.chains.files)) ∙ other))
            ]
          ])
          (λ b h. elim (or_cases (p == b) (has_number (drop 1 blocks) b) (ap (λ bs. has_number bs b) (sym behind_first) ∙ h)) [
            | inl same ↦ number_left (blocks_of next.directory) (file_blocks next.files) b (subst (λ k. has_number (blocks_of next.directory) k ≡ true) (eqb-true p b same) first_named)
            | inr later ↦ among_named next.directory x.chains.files new_file [] b (ap (λ bs. has_number bs b) nf.blocks_are ∙ later)
          ])
          (λ a b h. elim (or_cases (is_pair a b (page.block, p)) (holds (links (p ∷ drop 1 blocks)) a b) (ap (λ bs. holds (links (page.block ∷ bs)) a b) (sym behind_first) ∙ h)) [
            | inl seam ↦ held_left (links (blocks_of next.directory)) (file_pairs next.files) a b (the_seam a b seam)
            | inr later ↦ among_held next.directory x.chains.files new_file [] a b (ap (λ bs. holds (links (p ∷ bs)) a b) nf.blocks_are ∙ later)
          ])
          (λ a b from h. inl (elim (held_append (links (blocks_of x.chains.directory)) (file_pairs x.chains.files) a b h) [
            | inl link ↦ held_left (links (blocks_of next.directory)) (file_pairs next.files) a b (ap (λ bs. holds (links bs) a b) (new_directory ∙ sym longer) ∙ links_left (blocks_of x.before ++ (page.block ∷ [])) (p ∷ []) a b (ap (λ bs. holds (links bs) a b) (sym old_directory) ∙ link))
            | inr file ↦ held_right (links (blocks_of next.directory)) (file_pairs next.files) a b (others_held next.directory x.chains.files new_file [] a b (ap (λ fs. holds (file_pairs fs) a b) (append-nil x.chains.files) ∙ file))
          ]))
        where
          the_seam : (a b : ℕ) → is_pair a b (page.block, p) ≡ true → holds (links (blocks_of next.directory)) a b ≡ true
          the_seam a b h =
              let parts = and_parts (page.block == a) (p == b) h in
              subst (λ k. holds (links (blocks_of next.directory)) k b ≡ true) (eqb-true page.block a parts.0) (subst (λ k. holds (links (blocks_of next.directory)) page.block k ≡ true) (eqb-true p b parts.1)
              (ap (λ bs. holds (links bs) page.block p) new_directory ∙ links_seam (blocks_of x.before) page.block p))
