-- A file that is put under a name: what is known where it begins, and what its deciding write leaves.
use Rattle.std.proofs.Common.{◌≡◌, ℕ, suc, ◌+◌, ◌<◌, ◌≤◌, true, false, List, [], ◌∷◌, ◌++◌, length, refl, sym, ◌∙◌, ap, subst, arith, inl, inr, ◌⊎◌, Option, Some, None}
use Rattle.chain_changes.proofs.Common.{and_from, or_cases, false_from_ne_true, cases_eq, length-drop, is_some, is_none, block_len, World, contents, is_live, is_free, has_number, are_apart, holds, filled, written, contents-other, live_below, Name, is_name, a_file, is_there, with_at, bytes_room, clusters_for, Link, blocks_of, links, is_filled, Chains, chain_blocks, chain_pairs, chains_under, chain_tree, by_chains, named_at, is_under, FsRefusal, is_inside, times-append, times_none, apart_times, times_apart, outside_twice, DiskView, IsValidNow, IsEitherTree, Client, write_by, MayWrite, Leads, no_room_in, refused_on, there_is_room, clash_free_live, IsFrom, IsChainFile, has_chains, right_is, Stage, Making, IsAside, NewFile, Page, IsPage, tree_under, mounted_by, page_link}
use Rattle.std.proofs.lemmas.List.Sums.{count_by-le-length}
use Rattle.fs_trees.specs.declared.ask.ShellAsk.TheVariants as ask
use Rattle.fs_trees.specs.declared.ask.ShellKind.TheVariants as kind
use Rattle.chain_changes.proofs.MakingLaws.{named_live, tree_same, primary_now, source_under}
use Rattle.chain_changes.proofs.EntryLaws.{page_live, page_named}
use Rattle.chain_changes.proofs.RemoveLaws.{is_under_root}
use Rattle.chain_changes.proofs.KeptLaws.{chains_kept}
use Rattle.chain_changes.proofs.AfterLaws.{Decided}

-- the cluster of the directory that is to have the entry, where the call begins
pub record Putting (c : Client) (old : DiskView) (n : Name) (page : Page) : Type 0 where
  pub valid : IsValidNow old
  pub tree : is_there (tree_under c old) ≡ true
  pub primary : c.root < old.world.geometry.primaries
  pub named : is_name n ≡ true
  pub chains : Chains
  pub under : chains_under old.world c.root ≡ Some chains
  pub before : List Link
  pub behind : List Link
  pub parts : chains.directory ≡ before ++ (page_link page ∷ behind)
  pub read : IsPage old.world page.block page
  pub may : MayWrite c old page.block

-- a number stands in a list, or it doesn't
number_or : (xs : List ℕ) (b : ℕ) → (has_number xs b ≡ true) ⊎ (has_number xs b ≡ false)
number_or xs b = elim (has_number xs b) as (λ t. (t ≡ true) ⊎ (t ≡ false)) [ true ↦ inl refl | false ↦ inr refl ]

module _ (c : Client) (old : DiskView) (n : Name) (page : Page) (x : Putting c old n page) where
  abbrev d : ℕ
  d = page.block

  pub live_here : is_live old.world page.block ≡ true
  live_here = page_live old.world c.root x.chains x.under x.valid.valid x.before page x.behind x.parts x.read

  pub named_here : has_number (chain_blocks x.chains) page.block ≡ true
  named_here = page_named old.world c.root x.chains x.under x.valid.valid x.before page x.behind x.parts x.read

  pub stage : Stage c.root old.world page.block
  stage = record { valid = x.valid.valid; primary = x.primary; there = x.tree; reached = is_under_root old.world c.root x.chains x.under x.valid.valid x.primary page.block named_here }

  -- before the deciding write a stop leaves the tree
  pub aside_either : (body : List ℕ) (w : World) → IsAside c.root old.world w → IsEitherTree (mounted_by c) old (ask.Put (n ∷ []) body) w
  aside_either body w aside = (inl aside.tree, record { valid = aside.valid; geometry = aside.geometry; others = aside.others })

  -- ---- with new blocks under the cluster

  module _ (blocks : List ℕ) (w : World) (m : Making c.root old.world page.block blocks w) where
    pub under_now : chains_under w c.root ≡ Some x.chains
    under_now = chains_kept old.world w c.root x.chains x.under m.keeps

    pub named_then : (b : ℕ) → has_number (chain_blocks x.chains) b ≡ true → has_number (named_at kind.Chain old.world c.root).blocks b ≡ true
    named_then b h = ap (λ o. has_number (by_chains o).blocks b) x.under ∙ h

    pub old_off : (b : ℕ) → has_number (chain_blocks x.chains) b ≡ true → has_number blocks b ≡ false
    old_off b h = false_from_ne_true (has_number blocks b) (λ k. clash_free_live old.world b (m.free b k) (named_live c.root old.world page.block stage b (named_then b h)))

    pub new_apart : are_apart (chain_blocks x.chains ++ blocks) ≡ true
    new_apart = times_apart (chain_blocks x.chains ++ blocks) (λ b.
        let sum = times-append b (chain_blocks x.chains) blocks in
        let own = apart_times blocks m.once b in
        let all = (right_is old.world x.chains (has_chains old.world c.root x.chains x.under).right).once b in
        elim (number_or (chain_blocks x.chains) b) [
          | inl was ↦ let none = times_none b blocks (old_off b was) in omega (arith, sum, all, none)
          | inr never ↦ let none = times_none b (chain_blocks x.chains) never in omega (arith, sum, own, none)
        ])

    same_here : contents w page.block ≡ contents old.world page.block
    same_here = m.bytes page.block (old_off page.block named_here)

    pub live_now : is_live w page.block ≡ true
    live_now = ap is_some same_here ∙ live_here

    pub within_now : page.block < length w.blocks
    within_now = live_below w.blocks page.block live_now

    pub inside : (bytes : List ℕ) → is_inside w c.root (write_by c page.block bytes) ≡ true
    inside bytes = and_from (is_under w c.root page.block) true (source_under c.root old.world page.block stage blocks w m) refl

    -- ---- the deciding write

    module _ (body entered : List ℕ) (Loose : ℕ → ℕ → Type 0) (next : Chains) (leads : Leads w (write_by c page.block entered) (written w page.block entered))
        (under : chains_under (written w page.block entered) c.root ≡ Some next) (tree : chain_tree (written w page.block entered) c.root ≡ with_at (n ∷ []) (a_file body) (chain_tree w c.root))
        (granted : ◌≡◌ {A = Option FsRefusal} (refused_on (mounted_by c) old (ask.Put (n ∷ []) body)) None)
        (was : (b : ℕ) → has_number (chain_blocks next) b ≡ true → (has_number (chain_blocks x.chains) b ≡ true) ⊎ (has_number blocks b ≡ true))
        (news : (b : ℕ) → has_number blocks b ≡ true → has_number (chain_blocks next) b ≡ true)
        (new_pairs : (a b : ℕ) → holds (links (page.block ∷ blocks)) a b ≡ true → holds (chain_pairs next) a b ≡ true)
        (old_pairs : (a b : ℕ) → has_number (chain_blocks next) a ≡ true → holds (chain_pairs x.chains) a b ≡ true → (holds (chain_pairs next) a b ≡ true) ⊎ Loose a b) where
      -- a free block that is live afterwards is a new one
      pub taken_new : (k : ℕ) → is_free old.world k ≡ true → is_live (written w page.block entered) k ≡ true → has_number (chain_blocks next) k ≡ true
      taken_new k free lives = elim (number_or blocks k) [
        | inl new ↦ news k new
        | inr never ↦ elim (cases_eq k page.block) [
          | inl same ↦ absurd (clash_free_live old.world k free (subst (λ b. is_live old.world b ≡ true) (sym same) live_here))
          | inr other ↦ absurd (clash_free_live old.world k free (ap is_some (sym (m.bytes k never)) ∙ (ap is_some (sym (contents-other w page.block k (filled (block_len w.geometry) entered) other)) ∙ lives)))
        ]
      ]

      unfoldable pub decided : Decided c old (ask.Put (n ∷ []) body) (written w page.block entered) Loose
      decided = record {
        granted = granted;
        answer = refl;
        valid = leads.valid;
        geometry = leads.geometry ∙ m.geometry;
        others = outside_twice c.root old.world w (written w page.block entered) m.others (leads.others c.root (primary_now c.root old.world page.block stage blocks w m) (inside entered));
        primary = primary_now c.root old.world page.block stage blocks w m;
        chains = next;
        under = under;
        tree = tree ∙ ap (with_at (n ∷ []) (a_file body)) (tree_same c.root old.world page.block stage blocks w m);
        taken = taken_new;
        clean = λ tidy a b named h. elim (or_cases (holds old.world.pairs a b) (holds (links (page.block ∷ blocks)) a b) (sym (m.pairs a b) ∙ h)) [
          | inr new ↦ inl (new_pairs a b new)
          | inl held ↦ elim (was a named) [
            | inl before ↦ old_pairs a b named (ap (λ o. holds (by_chains o).pairs a b) (sym x.under) ∙ (sym (tidy.pairs a b (named_then a before)) ∙ held))
            | inr fresh ↦ absurd (clash_free_live old.world a (m.free a fresh) (x.valid.valid.raw.sources a b held))
          ]
        ];
      }

  -- ---- the new file

  -- a chain is no longer than the disk
  module _ (ahead : ℕ) (body blocks : List ℕ) (mid : DiskView) (nf : NewFile c old mid page.block ahead body blocks) (room : ◌≡◌ {A = Option FsRefusal} (no_room_in old.world (clusters_for old.world.geometry (length body) + ahead) (clusters_for old.world.geometry (length body) + ahead)) None) where
    pub short : length nf.links ≤ old.world.geometry.blocks
    short =
        let few = (there_is_room old.world (clusters_for old.world.geometry (length body) + ahead) (clusters_for old.world.geometry (length body) + ahead) room).0 in
        let free = count_by-le-length is_none old.world.blocks in
        let size = x.valid.valid.raw.sized.each_block in
        let own = blocks-length nf.links ∙ ap length nf.blocks_are in
        let left = length-drop ahead blocks in
        let many = nf.many in
        omega (arith, few, free, size, own, left, many)
      where
        blocks-length : (ls : List Link) → length ls ≡ length (blocks_of ls)
        blocks-length [] = refl
        blocks-length (l ∷ ls) = ap suc (blocks-length ls)

    -- in a world in which its clusters stand still
    pub file_in : (w : World) → w.geometry ≡ old.world.geometry → (namer b : ℕ) → IsFrom w (Some b) nf.links → IsChainFile w namer (record { name = n; block = b }) (record { name = n; from = namer; chain = nf.links })
    file_in w size namer b from = record {
      name = refl;
      from = refl;
      chain = record { links = from; short = subst (λ g. length nf.links ≤ g.blocks) (sym size) short };
      filled = ap (λ g. is_filled (bytes_room (block_len g)) nf.links) size ∙ nf.filled;
    }
