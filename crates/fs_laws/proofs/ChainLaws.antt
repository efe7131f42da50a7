-- The tree of chains is read from what it names.
use Rattle.std.proofs.Common.{◌≡◌, ℕ, zero, suc, ◌<◌, Bool, true, false, ◌&&◌, ◌==◌, nat_le, List, [], ◌∷◌, ◌++◌, length, refl, sym, ◌∙◌, ap, subst, inl, inr, Option, Some, None, append_assoc}
use Rattle.fs_laws.proofs.Common.{eq-eqb, eqb-true, and_parts, and_from, or_cases, or_left, or_right, is_some, flat_map, option_map, option_and_then, list_all, block_len, World, contents, has_number, are_apart, holds, is_pair, all_of_held, are_distinct, is_there, only_if, Entry, Cluster, cluster_in, entries_of, bytes_room, Link, cluster_at, before_rest, chain_by_next, next_of, chain_at, blocks_of, links, is_filled, ChainFile, file_of, file_at, all_there, files_of, files_in, Chains, chain_blocks, chain_pairs, names_max, with_files, with_directory, chains_under, as_tree, chain_tree, Named, by_chains, named_at, is_led_to, are_led_to, hang_from, IsUnder, Keeps}
use Rattle.std.specs.Prelude.{map}
use Rattle.fs_trees.specs.ChainTree.{are_right}
use Rattle.fs_trees.specs.declared.ask.ShellKind.TheVariants as kind
use Rattle.fs_laws.proofs.ListLaws.{number_left, number_right, held_left, held_right, all_held, AreIn, led_by, held_append, in_append, first_in}

-- ---- chains are read from their blocks

abbrev found_blocks : Option (List Link) → List ℕ
found_blocks None = []
found_blocks (Some ls) = blocks_of ls

rest_parts : (l : Link) (o : Option (List Link)) → is_some (before_rest l o) ≡ true → (is_some o ≡ true) × (found_blocks (before_rest l o) ≡ l.block ∷ found_blocks o)
rest_parts l None h = absurd (cc)
rest_parts l (Some ls) h = (refl, refl)

own_block : (follow : ℕ → Option (List Link)) (b : ℕ) (o : Option Cluster) (n : Option ℕ) → is_some (chain_by_next follow b o n) ≡ true → has_number (found_blocks (chain_by_next follow b o n)) b ≡ true
own_block follow b None n h = absurd (cc)
own_block follow b (Some c) None h = first_in b []
own_block follow b (Some c) (Some d) h = let parts = rest_parts (record { block = b; cluster = c }) (follow d) h in
    ap (λ xs. has_number xs b) parts.1 ∙ first_in b (found_blocks (follow d))

abbrev file_blocks : Option ChainFile → List ℕ
file_blocks None = []
file_blocks (Some f) = blocks_of f.chain

abbrev files_blocks : Option (List ChainFile) → List ℕ
files_blocks None = []
files_blocks (Some fs) = flat_map (λ f. blocks_of f.chain) fs

file_parts : (w : World) (from : ℕ) (e : Entry) (o : Option (List Link)) → is_some (file_of w from e o) ≡ true → (is_some o ≡ true) × (file_blocks (file_of w from e o) ≡ found_blocks o)
file_parts w from e None h = absurd (cc)
file_parts w from e (Some ls) h = passed (is_filled (bytes_room (block_len w.geometry)) ls) (record { name = e.name; from = from; chain = ls }) h
  where
    passed : (t : Bool) (f : ChainFile) → is_some (only_if t (λ _. Some f)) ≡ true → (true ≡ true) × (file_blocks (only_if t (λ _. Some f)) ≡ blocks_of f.chain)
    passed true f h = (refl, refl)
    passed false f h = absurd (cc)

there_parts : (os : List (Option ChainFile)) → is_some (all_there os) ≡ true → (list_all is_some os ≡ true) × (files_blocks (all_there os) ≡ flat_map file_blocks os)
there_parts [] h = (refl, refl)
there_parts (None ∷ os) h = absurd (cc)
there_parts (Some f ∷ os) h =
    let parts = more f (all_there os) h in
    let later = there_parts os parts.0 in
    (later.0, parts.1 ∙ ap (λ bs. blocks_of f.chain ++ bs) later.1)
  where
    more : (f : ChainFile) (o : Option (List ChainFile)) → is_some (option_map (λ xs. f ∷ xs) o) ≡ true → (is_some o ≡ true) × (files_blocks (option_map (λ xs. f ∷ xs) o) ≡ blocks_of f.chain ++ files_blocks o)
    more f None h = absurd (cc)
    more f (Some fs) h = (refl, refl)

all-append : (os ps : List (Option ChainFile)) → list_all is_some (os ++ ps) ≡ true → (list_all is_some os ≡ true) × (list_all is_some ps ≡ true)
all-append [] ps h = (refl, h)
all-append (o ∷ os) ps h = let parts = and_parts (is_some o) (list_all is_some (os ++ ps)) h in let later = all-append os ps parts.1 in (and_from (is_some o) _ parts.0 later.0, later.1)

flat-append : (os ps : List (Option ChainFile)) → flat_map file_blocks (os ++ ps) ≡ flat_map file_blocks os ++ flat_map file_blocks ps
flat-append [] ps = refl
flat-append (o ∷ os) ps = ap (λ bs. file_blocks o ++ bs) (flat-append os ps) ∙ sym (append_assoc (file_blocks o) (flat_map file_blocks os) (flat_map file_blocks ps))

module _ (w next : World) where
  -- these blocks have the same contents in both worlds
  abbrev Same : List ℕ → Type 0
  Same bs = (b : ℕ) → has_number bs b ≡ true → contents next b ≡ contents w b

  link_same : (follow other : ℕ → Option (List Link)) → ((c : ℕ) → is_some (follow c) ≡ true → Same (found_blocks (follow c)) → other c ≡ follow c)
      → (b : ℕ) (o : Option Cluster) (n : Option ℕ) → is_some (chain_by_next follow b o n) ≡ true → Same (found_blocks (chain_by_next follow b o n)) → chain_by_next other b o n ≡ chain_by_next follow b o n
  link_same follow other agree b None n h same = refl
  link_same follow other agree b (Some c) None h same = refl
  link_same follow other agree b (Some c) (Some d) h same =
      let l : Link = record { block = b; cluster = c } in
      let parts = rest_parts l (follow d) h in
      ap (before_rest l) (agree d parts.0 (λ x m. same x (ap (λ xs. has_number xs x) parts.1 ∙ or_right (b == x) _ m)))

  chain_same : (more b : ℕ) → is_some (chain_at w more b) ≡ true → Same (found_blocks (chain_at w more b)) → chain_at next more b ≡ chain_at w more b
  chain_same zero b h same = refl
  chain_same (suc more) b h same =
      let o = cluster_at w b in
      let here : cluster_at next b ≡ cluster_at w b = ap (option_and_then cluster_in) (same b (own_block (λ d. chain_at w more d) b (cluster_at w b) (next_of (cluster_at w b)) h)) in
      ap (λ x. chain_by_next (λ d. chain_at next more d) b x (next_of x)) here
      ∙ link_same (λ d. chain_at w more d) (λ d. chain_at next more d) (λ c there equal. chain_same more c there equal) b (cluster_at w b) (next_of (cluster_at w b)) h same

  module _ (size : next.geometry ≡ w.geometry) where
    file_same : (from : ℕ) (e : Entry) → is_some (file_at w from e) ≡ true → Same (file_blocks (file_at w from e)) → file_at next from e ≡ file_at w from e
    file_same from e h same =
        let parts = file_parts w from e (chain_at w w.geometry.blocks e.block) h in
        let chain : chain_at next next.geometry.blocks e.block ≡ chain_at w w.geometry.blocks e.block =
        ap (λ g. chain_at next g.blocks e.block) size ∙ chain_same w.geometry.blocks e.block parts.0 (λ b m. same b (ap (λ xs. has_number xs b) parts.1 ∙ m)) in
        ap (file_of next from e) chain ∙ of_size (chain_at w w.geometry.blocks e.block)
      where
        of_size : (o : Option (List Link)) → file_of next from e o ≡ file_of w from e o
        of_size None = refl
        of_size (Some ls) = ap (λ g. only_if (is_filled (bytes_room (block_len g)) ls) (λ _. Some (record { name = e.name; from = from; chain = ls }))) size

    entries_same : (from : ℕ) (es : List Entry) → list_all is_some (map (file_at w from) es) ≡ true → Same (flat_map file_blocks (map (file_at w from) es)) → map (file_at next from) es ≡ map (file_at w from) es
    entries_same from [] h same = refl
    entries_same from (e ∷ es) h same =
        let parts = and_parts (is_some (file_at w from e)) (list_all is_some (map (file_at w from) es)) h in
        let later = flat_map file_blocks (map (file_at w from) es) in
        ap (λ o. o ∷ map (file_at next from) es) (file_same from e parts.0 (λ b m. same b (number_left (file_blocks (file_at w from e)) later b m)))
        ∙ ap (λ os. file_at w from e ∷ os) (entries_same from es parts.1 (λ b m. same b (number_right (file_blocks (file_at w from e)) later b m)))

    files_of_same : (l : Link) (o : Option (List Entry)) → list_all is_some (files_of w l o) ≡ true → Same (flat_map file_blocks (files_of w l o)) → files_of next l o ≡ files_of w l o
    files_of_same l None h same = refl
    files_of_same l (Some es) h same = entries_same l.block es h same

    directory_same : (ls : List Link) → list_all is_some (flat_map (λ l. files_of w l (entries_of (block_len w.geometry) l.cluster)) ls) ≡ true → Same (flat_map file_blocks (flat_map (λ l. files_of w l (entries_of (block_len w.geometry) l.cluster)) ls))
        → flat_map (λ l. files_of next l (entries_of (block_len w.geometry) l.cluster)) ls ≡ flat_map (λ l. files_of w l (entries_of (block_len w.geometry) l.cluster)) ls
    directory_same [] h same = refl
    directory_same (l ∷ ls) h same =
        let os = files_of w l (entries_of (block_len w.geometry) l.cluster) in
        let ps = flat_map (λ k. files_of w k (entries_of (block_len w.geometry) k.cluster)) ls in
        let parts = all-append os ps h in
        ap (λ x. x ++ flat_map (λ k. files_of next k (entries_of (block_len w.geometry) k.cluster)) ls) (files_of_same l (entries_of (block_len w.geometry) l.cluster) parts.0 (λ b m. same b (ap (λ xs. has_number xs b) (flat-append os ps) ∙ number_left (flat_map file_blocks os) (flat_map file_blocks ps) b m)))
        ∙ ap (λ x. os ++ x) (directory_same ls parts.1 (λ b m. same b (ap (λ xs. has_number xs b) (flat-append os ps) ∙ number_right (flat_map file_blocks os) (flat_map file_blocks ps) b m)))

    files_same : (ls : List Link) → is_some (files_in w ls) ≡ true → Same (files_blocks (files_in w ls)) → files_in next ls ≡ files_in w ls
    files_same ls h same =
        let os = flat_map (λ l. files_of w l (entries_of (block_len w.geometry) l.cluster)) ls in
        let parts = there_parts os h in
        ap all_there (ap (λ g. flat_map (λ l. files_of next l (entries_of (block_len g) l.cluster)) ls) size ∙ directory_same ls parts.0 (λ b m. same b (ap (λ xs. has_number xs b) parts.1 ∙ m)))

-- ---- the root's directory

with_parts : (w : World) (ls : List Link) (o : Option (List ChainFile)) → is_some (with_files w ls o) ≡ true → (fs : List ChainFile) × (o ≡ Some fs) × (are_right w (record { directory = ls; files = fs }) ≡ true) × (with_files w ls o ≡ Some (record { directory = ls; files = fs }))
with_parts w ls None h = absurd (cc)
with_parts w ls (Some fs) h = let parts = passed (are_right w (record { directory = ls; files = fs })) (record { directory = ls; files = fs }) h in (fs, refl, parts.0, parts.1)
  where
    passed : (t : Bool) (c : Chains) → is_some (only_if t (λ _. Some c)) ≡ true → (t ≡ true) × (only_if t (λ _. Some c) ≡ Some c)
    passed true c h = (refl, refl)
    passed false c h = absurd (cc)

-- where there is a tree, there is a directory with its files, and they are right
pub record Found (w : World) (root : ℕ) : Type 0 where
  pub chains : Chains
  pub under : chains_under w root ≡ Some chains
  pub right : are_right w chains ≡ true
  pub directory : chain_at w w.geometry.blocks root ≡ Some chains.directory
  pub files : files_in w chains.directory ≡ Some chains.files

found_by : (w : World) (root : ℕ) (o : Option (List Link)) → chain_at w w.geometry.blocks root ≡ o → is_some (with_directory w o) ≡ true → Found w root
found_by w root None e h = absurd (cc)
found_by w root (Some ls) e h =
    let parts = with_parts w ls (files_in w ls) h in
    record { chains = record { directory = ls; files = parts.0 }; under = ap (with_directory w) e ∙ parts.3; right = parts.2; directory = e; files = parts.1 }

some_tree : (o : Option Chains) → is_there (as_tree o) ≡ true → is_some o ≡ true
some_tree None h = absurd (cc)
some_tree (Some c) h = refl

pub found : (w : World) (root : ℕ) → is_there (chain_tree w root) ≡ true → Found w root
found w root there = found_by w root (chain_at w w.geometry.blocks root) refl (some_tree (chains_under w root) there)

abbrev named_by : Chains → Named
named_by c = record { blocks = chain_blocks c; pairs = chain_pairs c }

still_right : (w next : World) (c : Chains) → are_right w c ≡ true → ((a b : ℕ) → holds (chain_pairs c) a b ≡ true → holds next.pairs a b ≡ true) → are_right next c ≡ true
still_right w next c right held =
    let A = list_all (λ e. holds w.pairs e.0 e.1) (chain_pairs c) in
    let N = list_all (λ e. holds next.pairs e.0 e.1) (chain_pairs c) in
    let B = are_apart (chain_blocks c) in
    let C = are_distinct (map (λ f. f.name) c.files) in
    let D = nat_le (length c.files) names_max in
    let outer = and_parts (A && B && C) D right in
    let middle = and_parts (A && B) C outer.0 in
    let inner = and_parts A B middle.0 in
    and_from (N && B && C) D (and_from (N && B) C (and_from N B (all_held (chain_pairs c) next.pairs held) inner.1) middle.1) outer.1

pub chains_same : (w next : World) (root : ℕ) → is_there (chain_tree w root) ≡ true → Keeps w next (named_at kind.Chain w root)
    → (chain_tree next root ≡ chain_tree w root) × (named_at kind.Chain next root ≡ named_at kind.Chain w root)
chains_same w next root there keeps =
    let f = found w root there in
    let c = f.chains in
    let kept : Keeps w next (named_by c) = subst (λ o. Keeps w next (by_chains o)) f.under keeps in
    let directory : chain_at next next.geometry.blocks root ≡ Some c.directory =
    ap (λ g. chain_at next g.blocks root) kept.geometry
    ∙ (chain_same w next w.geometry.blocks root (ap is_some f.directory) (λ b m. kept.bytes b (number_left (blocks_of c.directory) _ b (ap (λ o. has_number (found_blocks o) b) (sym f.directory) ∙ m))) ∙ f.directory) in
    let files : files_in next c.directory ≡ Some c.files =
    files_same w next kept.geometry c.directory (ap is_some f.files) (λ b m. kept.bytes b (number_right (blocks_of c.directory) _ b (ap (λ o. has_number (files_blocks o) b) (sym f.files) ∙ m))) ∙ f.files in
    let under : chains_under next root ≡ Some c =
    ap (with_directory next) directory ∙ (ap (with_files next c.directory) files ∙ ap (λ t. only_if t (λ _. Some c)) (still_right w next c f.right kept.pairs)) in
    let same : chains_under next root ≡ chains_under w root = under ∙ sym f.under in
    (ap as_tree same, ap by_chains same)

-- ---- what is named is reached by the named pairs

-- a link comes from one of the blocks
from_link : (bs : List ℕ) (a b : ℕ) → holds (links bs) a b ≡ true → has_number bs a ≡ true
from_link [] a b h = absurd (cc)
from_link (c ∷ []) a b h = absurd (cc)
from_link (c ∷ d ∷ bs) a b h = elim (or_cases (is_pair a b (c, d)) (holds (links (d ∷ bs)) a b) h) [
  | inl here ↦ or_left (c == a) _ (and_parts (c == a) (d == b) here).0
  | inr later ↦ or_right (c == a) _ (from_link (d ∷ bs) a b later)
]

-- Linked blocks are led to in their order, and so is what follows, where it is once all of these are there.
led_links : (es : List (ℕ × ℕ)) (from : ℕ) (bs before after : List ℕ) → ((a b : ℕ) → holds (links (from ∷ bs)) a b ≡ true → holds es a b ≡ true) → has_number before from ≡ true
    → ((all : List ℕ) → AreIn before all → AreIn bs all → are_led_to es all after ≡ true)
    → are_led_to es before (bs ++ after) ≡ true
led_links es from [] before after held start then = then before (λ b h. h) (λ b h. absurd (cc))
led_links es from (c ∷ bs) before after held start then =
    and_from (is_led_to es before c) _
    (led_by es before from c (held from c (or_left (is_pair from c (from, c)) _ (and_from (from == from) (c == c) (eq-eqb from from refl) (eq-eqb c c refl)))) start)
    (led_links es c bs (c ∷ before) after (λ a b h. held a b (or_right (is_pair a b (from, c)) _ h)) (first_in c before)
    (λ all old new. then all (λ b h. old b (or_right (c == b) _ h))
    (λ b h. elim (or_cases (c == b) (has_number bs b) h) [ inl same ↦ old b (or_left (c == b) _ same) | inr other ↦ new b other ])))

-- the entry of each file stands in one of these blocks
abbrev all_from : List ℕ → List ChainFile → Bool
all_from ds fs = list_all (λ f. has_number ds f.from) fs

led_files : (es : List (ℕ × ℕ)) (ds : List ℕ) (fs : List ChainFile) (before : List ℕ) → ((a b : ℕ) → holds (flat_map (λ f. links (f.from ∷ blocks_of f.chain)) fs) a b ≡ true → holds es a b ≡ true) → all_from ds fs ≡ true → AreIn ds before
    → are_led_to es before (flat_map (λ f. blocks_of f.chain) fs) ≡ true
led_files es ds [] before held from start = refl
led_files es ds (f ∷ fs) before held from start =
    let parts = and_parts (has_number ds f.from) (all_from ds fs) from in
    let own = links (f.from ∷ blocks_of f.chain) in
    let later = flat_map (λ g. links (g.from ∷ blocks_of g.chain)) fs in
    led_links es f.from (blocks_of f.chain) before (flat_map (λ g. blocks_of g.chain) fs)
    (λ a b h. held a b (held_left own later a b h)) (start f.from parts.0)
    (λ all old new. led_files es ds fs all (λ a b h. held a b (held_right own later a b h)) parts.1 (λ b h. old b (start b h)))

from_files : (ds : List ℕ) (fs : List ChainFile) (a b : ℕ) → all_from ds fs ≡ true → holds (flat_map (λ f. links (f.from ∷ blocks_of f.chain)) fs) a b ≡ true → has_number (ds ++ flat_map (λ f. blocks_of f.chain) fs) a ≡ true
from_files ds [] a b from h = absurd (cc)
from_files ds (f ∷ fs) a b from h =
    let parts = and_parts (has_number ds f.from) (all_from ds fs) from in
    let own = blocks_of f.chain in
    let rest = flat_map (λ g. blocks_of g.chain) fs in
    elim (held_append (links (f.from ∷ own)) (flat_map (λ g. links (g.from ∷ blocks_of g.chain)) fs) a b h) [
      | inl here ↦ elim (or_cases (f.from == a) (has_number own a) (from_link (f.from ∷ own) a b here)) [
        | inl same ↦ number_left ds (own ++ rest) a (subst (λ c. has_number ds c ≡ true) (eqb-true f.from a same) parts.0)
        | inr inner ↦ number_right ds (own ++ rest) a (number_left own rest a inner)
      ]
      | inr later ↦ elim (in_append ds rest a (from_files ds fs a b parts.1 later)) [
        | inl first ↦ number_left ds (own ++ rest) a first
        | inr last ↦ number_right ds (own ++ rest) a (number_right own rest a last)
      ]
    ]

-- ---- the entries stand in the directory's clusters

abbrev one_from : List ℕ → Option ChainFile → Bool
one_from ds None = true
one_from ds (Some f) = has_number ds f.from

there_from : (ds : List ℕ) (os : List (Option ChainFile)) (fs : List ChainFile) → list_all (one_from ds) os ≡ true → all_there os ≡ Some fs → all_from ds fs ≡ true
there_from ds [] fs h e = let same : [] ≡ fs = cc in ap (all_from ds) (sym same)
there_from ds (None ∷ os) fs h e = absurd (cc)
there_from ds (Some f ∷ os) fs h e =
    let parts = and_parts (has_number ds f.from) (list_all (one_from ds) os) h in
    more (all_there os) refl (λ gs i. there_from ds os gs parts.1 i) e
  where
    more : (o : Option (List ChainFile)) → all_there os ≡ o → ((gs : List ChainFile) → all_there os ≡ Some gs → all_from ds gs ≡ true) → option_map (λ xs. f ∷ xs) o ≡ Some fs → all_from ds fs ≡ true
    more None i rest e = absurd (cc)
    more (Some gs) i rest e =
        let parts = and_parts (has_number ds f.from) (list_all (one_from ds) os) h in
        let same : f ∷ gs ≡ fs = cc in
        ap (all_from ds) (sym same) ∙ and_from (has_number ds f.from) (all_from ds gs) parts.0 (rest gs i)

one_of : (ds : List ℕ) (w : World) (from : ℕ) (e : Entry) → has_number ds from ≡ true → one_from ds (file_at w from e) ≡ true
one_of ds w from e h = by_chain (chain_at w w.geometry.blocks e.block)
  where
    by_chain : (o : Option (List Link)) → one_from ds (file_of w from e o) ≡ true
    by_chain None = refl
    by_chain (Some ls) = elim (is_filled (bytes_room (block_len w.geometry)) ls) as (λ t. one_from ds (only_if t (λ _. Some (record { name = e.name; from = from; chain = ls }))) ≡ true) [ true ↦ h | false ↦ refl ]

all_of_entries : (ds : List ℕ) (w : World) (from : ℕ) (es : List Entry) → has_number ds from ≡ true → list_all (one_from ds) (map (file_at w from) es) ≡ true
all_of_entries ds w from [] h = refl
all_of_entries ds w from (e ∷ es) h = and_from (one_from ds (file_at w from e)) _ (one_of ds w from e h) (all_of_entries ds w from es h)

all_of_link : (ds : List ℕ) (w : World) (l : Link) (o : Option (List Entry)) → has_number ds l.block ≡ true → list_all (one_from ds) (files_of w l o) ≡ true
all_of_link ds w l None h = refl
all_of_link ds w l (Some es) h = all_of_entries ds w l.block es h

list-all-append : (ds : List ℕ) (os ps : List (Option ChainFile)) → list_all (one_from ds) os ≡ true → list_all (one_from ds) ps ≡ true → list_all (one_from ds) (os ++ ps) ≡ true
list-all-append ds [] ps h k = k
list-all-append ds (o ∷ os) ps h k = let parts = and_parts (one_from ds o) (list_all (one_from ds) os) h in and_from (one_from ds o) _ parts.0 (list-all-append ds os ps parts.1 k)

all_of_links : (ds : List ℕ) (w : World) (len : ℕ) (ls : List Link) → ((b : ℕ) → has_number (blocks_of ls) b ≡ true → has_number ds b ≡ true) → list_all (one_from ds) (flat_map (λ l. files_of w l (entries_of len l.cluster)) ls) ≡ true
all_of_links ds w len [] h = refl
all_of_links ds w len (l ∷ ls) h = list-all-append ds (files_of w l (entries_of len l.cluster)) _
    (all_of_link ds w l (entries_of len l.cluster) (h l.block (first_in l.block (blocks_of ls))))
    (all_of_links ds w len ls (λ b m. h b (or_right (l.block == b) _ m)))

-- a chain begins with its block
begins_with_root : (follow : ℕ → Option (List Link)) (b : ℕ) (o : Option Cluster) (n : Option ℕ) (ls : List Link) → chain_by_next follow b o n ≡ Some ls → (bs : List ℕ) × (blocks_of ls ≡ b ∷ bs)
begins_with_root follow b None n ls e = absurd (cc)
begins_with_root follow b (Some c) None ls e = let same : record { block = b; cluster = c } ∷ [] ≡ ls = cc in ([], ap blocks_of (sym same))
begins_with_root follow b (Some c) (Some d) ls e = by_rest (follow d) e
  where
    by_rest : (o : Option (List Link)) → before_rest (record { block = b; cluster = c }) o ≡ Some ls → (bs : List ℕ) × (blocks_of ls ≡ b ∷ bs)
    by_rest None e = absurd (cc)
    by_rest (Some ks) e = let same : record { block = b; cluster = c } ∷ ks ≡ ls = cc in (blocks_of ks, ap blocks_of (sym same))

begins : (w : World) (more root : ℕ) (ls : List Link) → chain_at w more root ≡ Some ls → (bs : List ℕ) × (blocks_of ls ≡ root ∷ bs)
begins w zero root ls e = absurd (cc)
begins w (suc more) root ls e = begins_with_root (λ d. chain_at w more d) root (cluster_at w root) (next_of (cluster_at w root)) ls e

pub chains_under_root : (w : World) (root : ℕ) → root < w.geometry.primaries → is_there (chain_tree w root) ≡ true → IsUnder w root (named_at kind.Chain w root)
chains_under_root w root primary there =
    let f = found w root there in
    let c = f.chains in
    let ds = blocks_of c.directory in
    let own = links ds in
    let later = flat_map (λ g. links (g.from ∷ blocks_of g.chain)) c.files in
    let rest = flat_map (λ g. blocks_of g.chain) c.files in
    let from : all_from ds c.files ≡ true =
    there_from ds (flat_map (λ l. files_of w l (entries_of (block_len w.geometry) l.cluster)) c.directory) c.files (all_of_links ds w (block_len w.geometry) c.directory (λ b m. m)) f.files in
    let first = begins w w.geometry.blocks root c.directory f.directory in
    let right = (and_parts (list_all (λ e. holds w.pairs e.0 e.1) (chain_pairs c)) (are_apart (chain_blocks c))
    (and_parts (list_all (λ e. holds w.pairs e.0 e.1) (chain_pairs c) && are_apart (chain_blocks c)) _ (and_parts (list_all (λ e. holds w.pairs e.0 e.1) (chain_pairs c) && are_apart (chain_blocks c) && are_distinct (map (λ g. g.name) c.files)) _ f.right).0).0).0 in
    let files_led : (all : List ℕ) → AreIn ds all → are_led_to (chain_pairs c) all rest ≡ true = λ all old. led_files (chain_pairs c) ds c.files all (λ a b h. held_right own later a b h) from old in
    let order : hang_from root (chain_pairs c) (ds ++ rest) ≡ true =
    subst (λ xs. hang_from root (chain_pairs c) (xs ++ rest) ≡ true) (sym first.1)
    (and_from (root == root) _ (eq-eqb root root refl)
    (led_links (chain_pairs c) root first.0 (root ∷ []) rest (λ a b h. held_left own later a b (ap (λ xs. holds (links xs) a b) first.1 ∙ h)) (first_in root [])
    (λ all old new. files_led all (λ b h. elim (or_cases (root == b) (has_number first.0 b) (ap (λ xs. has_number xs b) (sym first.1) ∙ h)) [
      | inl same ↦ old b (or_left (root == b) _ same)
      | inr other ↦ new b other
    ])))) in
    let under : IsUnder w root (named_by c) = record {
      primary = primary;
      order = order;
      held = λ a b h. all_of_held (λ e. holds w.pairs e.0 e.1) (chain_pairs c) a b right h;
      from = λ a b h. elim (held_append own later a b h) [
        | inl link ↦ number_left ds rest a (from_link ds a b link)
        | inr file ↦ from_files ds c.files a b from file
      ];
    } in
    subst (λ o. IsUnder w root (by_chains o)) (sym f.under) under
