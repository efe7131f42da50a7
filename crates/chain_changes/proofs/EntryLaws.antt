-- A cluster of the directory, as it stands and as it is written.
use Rattle.std.proofs.Common.{◌≡◌, ℕ, ◌+◌, ◌*◌, ◌-◌, ◌^◌, ◌<◌, ◌≤◌, true, false, ◌&&◌, nat_lt, nat_le, Bool, inl, inr, ◌⊎◌, List, [], ◌∷◌, ◌++◌, length, refl, sym, ◌∙◌, ap, subst, arith, length-append, Option, Some, None}
use Rattle.chain_changes.proofs.Common.{and_parts, and_from, leb-true, nat_tests, length-replicate, flat_map, replicate, is_some, option_and_then, block_len, World, contents, is_live, has_number, IsValid, filled, live_below, is_name, only_if, Entry, entries, entry_bytes, all_named, Cluster, cluster_in, link_field, entries_room, entries_of, directory_bytes, Link, cluster_at, blocks_of, ChainFile, Chains, chain_blocks, chains_under, length-entries, number_left, number_right, first_in, cluster_of, entries_in, entry_blocks, HaveFourBytes, head_back, entries_back, IsFrom, placed, AreFiles, AreEntries, files_split, entries_split, HasChains, has_chains, blocks-append, Page, IsPage, page_link, own_entries}
use Rattle.chain_layout.specs.Held as held
use Rattle.tsd_model.proofs.ValueLaws.{some_same}
use Rattle.fs_laws.proofs.AtLaws.{name_fits}

-- ---- how long its bytes are

entry_length : (e : Entry) → length e.name ≤ 28 → length (entry_bytes e) ≡ 32
entry_length e h =
    let rest = length-append e.name (replicate (28 - length e.name) 0) in
    let pad : length (replicate {A = ℕ} (28 - length e.name) 0) ≡ 28 - length e.name = length-replicate (28 - length e.name) 0 in
    omega (arith, rest, pad, h)

listed_length : (es : List Entry) → all_named es ≡ true → length (flat_map entry_bytes es) ≡ 32 * length es
listed_length [] h = refl
listed_length (e ∷ es) h =
    let parts = and_parts (is_name e.name) (all_named es) h in
    let here = entry_length e (name_fits e.name parts.0) in
    let later = listed_length es parts.1 in
    let both = length-append (entry_bytes e) (flat_map entry_bytes es) in
    omega (arith, here, later, both)

pub directory_length : (next : Option ℕ) (es : List Entry) → all_named es ≡ true → length (directory_bytes next es) ≡ 16 + 32 * length es
directory_length next es h = let list = listed_length es h in omega (arith, list)

-- there is room for so many in a block of this length
pub directory_fits : (len : ℕ) (next : Option ℕ) (es : List Entry) → 16 ≤ len → all_named es ≡ true → length es ≤ entries_room len → length (directory_bytes next es) ≤ len
directory_fits len next es head h room = let long = directory_length next es h in omega (arith, long)

-- ---- what is read where it was written

pub record ReadsAs (len : ℕ) (bytes : List ℕ) (next : Option ℕ) (es : List Entry) : Type 0 where
  pub cluster : Cluster
  pub read : cluster_in bytes ≡ Some cluster
  pub next_is : cluster.next ≡ next
  pub entries_are : entries_of len cluster ≡ Some es

pub directory_read : (len : ℕ) (next : Option ℕ) (es : List Entry) → len ≤ 4096 → link_field next < 2 ^ 32 → length es ≤ entries_room len → all_named es ≡ true → HaveFourBytes (entry_blocks es) → ReadsAs len (filled len (directory_bytes next es)) next es
directory_read len next es short linked room named small =
    let rest : List ℕ = replicate (len - length (directory_bytes next es)) 0 in
    let few : length es < 2 ^ 32 = omega arith in
    record {
      cluster = record { next = next; used = length es; body = flat_map entry_bytes es ++ rest };
      read = head_back next (length es) (flat_map entry_bytes es) rest linked few;
      next_is = refl;
      entries_are = entries_back len next es rest (record { next = next; used = length es; body = flat_map entry_bytes es ++ rest }) room named small refl refl;
    }

-- ---- what is small, and named

pub live_small : (w : World) → IsValid w → (b : ℕ) → is_live w b ≡ true → b + 1 < 2 ^ 32
live_small w valid b live = let below = live_below w.blocks b live in let many = valid.raw.sized.each_block in let most = valid.raw.sized.lawful.blocks.1 in omega (arith, below, many, most)

pub cluster_live : (w : World) (b : ℕ) (cl : Cluster) → cluster_at w b ≡ Some cl → is_live w b ≡ true
cluster_live w b cl at = by_contents (contents w b) at
  where
    by_contents : (o : Option (List ℕ)) → option_and_then cluster_in o ≡ Some cl → is_some o ≡ true
    by_contents None e = absurd (cc)
    by_contents (Some x) e = refl

-- a chain begins with its first block
pub from_first : (w : World) (b : ℕ) (ls : List Link) → IsFrom w (Some b) ls → (l : Link) × (rest : List Link) × (ls ≡ l ∷ rest) × (l.block ≡ b) × (is_live w b ≡ true)
from_first w b [] is = absurd (cc)
from_first w b (l ∷ ls) is = let here : l.block ≡ b = cc in (l, ls, refl, here, subst (λ k. is_live w k ≡ true) here (cluster_live w l.block l.cluster is.1))

small_block : (w : World) → IsValid w → (b : ℕ) → is_live w b ≡ true → nat_lt b (2 ^ 32) ≡ true
small_block w valid b live = let below = live_small w valid b live in grind (arith, nat_tests)

files_small : (w : World) → IsValid w → (from : ℕ) (es : List Entry) (fs : List ChainFile) → AreFiles w (placed from es) fs → HaveFourBytes (entry_blocks es)
files_small w valid from [] fs are = refl
files_small w valid from (e ∷ es) [] are = absurd are
files_small w valid from (e ∷ es) (f ∷ fs) are =
    and_from (nat_lt e.block (2 ^ 32)) _ (small_block w valid e.block (from_first w e.block f.chain are.0.chain.links).4) (files_small w valid from es fs are.1)

entries_named : (len : ℕ) (cl : Cluster) (es : List Entry) → entries_of len cl ≡ Some es → (all_named es ≡ true) × (length es ≤ entries_room len)
entries_named len cl es e = by_room (nat_le cl.used (entries_room len)) refl e
  where
    as_many : (n : ℕ) (x : List ℕ) → length (entries n x) ≡ n
    as_many n x = length-entries n x

    by_names : (t : Bool) → all_named (entries cl.used cl.body) ≡ t → cl.used ≤ entries_room len → only_if t (λ _. Some (entries cl.used cl.body)) ≡ Some es → (all_named es ≡ true) × (length es ≤ entries_room len)
    by_names false named room h = absurd (cc)
    by_names true named room h =
        let same : entries cl.used cl.body ≡ es = cc in
        (ap all_named (sym same) ∙ named, let many = as_many cl.used cl.body in let size = ap length same in omega (arith, many, size, room))

    by_room : (t : Bool) → nat_le cl.used (entries_room len) ≡ t → only_if t (λ _. only_if (all_named (entries cl.used cl.body)) (λ _. Some (entries cl.used cl.body))) ≡ Some es → (all_named es ≡ true) × (length es ≤ entries_room len)
    by_room false room h = absurd (cc)
    by_room true room h = by_names (all_named (entries cl.used cl.body)) refl (leb-true cl.used (entries_room len) room) h

pub named_parts : (es fs : List Entry) → all_named (es ++ fs) ≡ true → (all_named es ≡ true) × (all_named fs ≡ true)
named_parts [] fs h = (refl, h)
named_parts (e ∷ es) fs h =
    let parts = and_parts (is_name e.name) (all_named (es ++ fs)) h in
    let later = named_parts es fs parts.1 in
    (and_from (is_name e.name) (all_named es) parts.0 later.0, later.1)

pub named_both : (es fs : List Entry) → all_named es ≡ true → all_named fs ≡ true → all_named (es ++ fs) ≡ true
named_both [] fs h k = k
named_both (e ∷ es) fs h k = let parts = and_parts (is_name e.name) (all_named es) h in and_from (is_name e.name) (all_named (es ++ fs)) parts.0 (named_both es fs parts.1 k)

pub small_parts : (es fs : List Entry) → HaveFourBytes (entry_blocks (es ++ fs)) → HaveFourBytes (entry_blocks es) × HaveFourBytes (entry_blocks fs)
small_parts [] fs h = (refl, h)
small_parts (e ∷ es) fs h =
    let parts = and_parts (nat_lt e.block (2 ^ 32)) _ h in
    let later = small_parts es fs parts.1 in
    (and_from (nat_lt e.block (2 ^ 32)) _ parts.0 later.0, later.1)

pub small_both : (es fs : List Entry) → HaveFourBytes (entry_blocks es) → HaveFourBytes (entry_blocks fs) → HaveFourBytes (entry_blocks (es ++ fs))
small_both [] fs h k = k
small_both (e ∷ es) fs h k = let parts = and_parts (nat_lt e.block (2 ^ 32)) _ h in and_from (nat_lt e.block (2 ^ 32)) _ parts.0 (small_both es fs parts.1 k)

-- ---- a cluster that stands in the directory

module _ (w : World) (root : ℕ) (c : Chains) (under : chains_under w root ≡ Some c) (valid : IsValid w) (ls : List Link) (page : Page) (ms : List Link) (parts : c.directory ≡ ls ++ (page_link page ∷ ms)) (read : IsPage w page.block page) where
  pub page_has : HasChains w root c
  page_has = has_chains w root c under

  pub page_live : is_live w page.block ≡ true
  page_live = cluster_live w page.block (cluster_of (held.dir_cluster page.cluster)) read.read.says

  pub page_within : page.block < length w.blocks
  page_within = live_below w.blocks page.block page_live

  pub page_named : has_number (chain_blocks c) page.block ≡ true
  page_named = number_left (blocks_of c.directory) _ page.block (ap (λ xs. has_number (blocks_of xs) page.block) parts
      ∙ (ap (λ xs. has_number xs page.block) (blocks-append ls (page_link page ∷ ms)) ∙ number_right (blocks_of ls) _ page.block (first_in page.block (blocks_of ms))))

  -- its entries
  pub page_entries : entries_of (block_len w.geometry) (cluster_of (held.dir_cluster page.cluster)) ≡ Some (entries_in page.cluster)
  page_entries = own_entries w page.block (block_len w.geometry) (cluster_of (held.dir_cluster page.cluster)) (entries_in page.cluster) refl read.read.says read.entries

  pub page_all_named : (all_named (entries_in page.cluster) ≡ true) × (length (entries_in page.cluster) ≤ entries_room (block_len w.geometry))
  page_all_named = entries_named (block_len w.geometry) (cluster_of (held.dir_cluster page.cluster)) (entries_in page.cluster) page_entries

  pub page_linked : link_field (cluster_of (held.dir_cluster page.cluster)).next < 2 ^ 32
  page_linked = page.cluster.cluster.linked

  pub page_sized : (16 ≤ block_len w.geometry) × (block_len w.geometry ≤ 4096)
  page_sized = by_sectors w.geometry.sectors valid.raw.sized.lawful.sectors
    where
      by_sectors : (k : ℕ) → (k ≡ 1) ⊎ (k ≡ 2) ⊎ (k ≡ 4) ⊎ (k ≡ 8) → (16 ≤ 512 * k) × (512 * k ≤ 4096)
      by_sectors k h = elim h [
        | inl one ↦ (omega (arith, one), omega (arith, one))
        | inr more ↦ elim more [
          | inl two ↦ (omega (arith, two), omega (arith, two))
          | inr most ↦ elim most [
            | inl four ↦ (omega (arith, four), omega (arith, four))
            | inr eight ↦ (omega (arith, eight), omega (arith, eight))
          ]
        ]
      ]

  pub page_small : HaveFourBytes (entry_blocks (entries_in page.cluster))
  page_small =
      let len = block_len w.geometry in
      let listing = page_has.listing in
      let split = entries_split len ls (page_link page ∷ ms) listing.entries (subst (λ xs. AreEntries len xs listing.entries) parts listing.in_order) in
      let same : split.4.0 ≡ entries_in page.cluster = some_same (sym split.4.2 ∙ page_entries) in
      let all : listing.entries ≡ split.0 ++ (placed page.block (entries_in page.cluster) ++ split.4.1) = split.2 ∙ ap (λ xs. split.0 ++ xs) (split.4.3 ∙ ap (λ es. placed page.block es ++ split.4.1) same) in
      let first = files_split w split.0 (placed page.block (entries_in page.cluster) ++ split.4.1) c.files (subst (λ ps. AreFiles w ps c.files) all listing.files) in
      let second = files_split w (placed page.block (entries_in page.cluster)) split.4.1 first.1 first.4 in
      files_small w valid page.block (entries_in page.cluster) second.0 second.3
