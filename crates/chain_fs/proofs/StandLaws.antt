-- Chains that stand under a root: what of them leads where.
use Rattle.std.proofs.Common.{◌≡◌, ◌⊎◌, ℕ, ◌≤◌, Bool, true, false, not, ◌==◌, List, [], ◌∷◌, ◌++◌, length, refl, sym, ◌∙◌, ap, subst, inl, inr, Option, Some}
use Rattle.chain_fs.proofs.Common.{and_parts, and_from, or_cases, or_left, or_right, eq-eqb, eqb-true, flat_map, option_and_then, block_len, World, has_number, are_apart, holds, is_pair, Entry, Cluster, entries_of, Link, ChainFile, Chains, cluster_at, blocks_of, links, chain_pairs, held_append, held_left, held_right, number_left, number_right, number_append, DiskView, Client, Trimmed, under_still, PlacedEntry, IsFrom, IsChainFile, AreFiles, AreEntries, placed, from_same, files_same, entries_at, named_of, IsIn, BeginsAt, AreChainsUnder}
use Rattle.tsd_model.proofs.ValueLaws.{some_same}

-- ---- they stand after deletions

pub stands_still : (c : Client) (k : Chains) (old new : DiskView) → Trimmed c (named_of k) old new → AreChainsUnder c k old → AreChainsUnder c k new
stands_still c k old new h s =
    let own = blocks_of k.directory in
    let rest = flat_map (λ f. blocks_of f.chain) k.files in
    record {
      under = under_still old.world new.world c.root (named_of k) s.under h.keeps;
      directory = record {
        links = from_same old.world new.world (Some c.root) k.directory (λ b m. h.keeps.bytes b (number_left own rest b m)) s.directory.links;
        short = subst (λ g. length k.directory ≤ g.blocks) (sym h.keeps.geometry) s.directory.short;
      };
      entries = s.entries;
      in_order = subst (λ g. AreEntries (block_len g) k.directory s.entries) (sym h.keeps.geometry) s.in_order;
      files = files_same old.world new.world s.entries k.files h.keeps.geometry (λ b m. h.keeps.bytes b (number_right own rest b m)) s.files;
      apart = s.apart;
    }

-- ---- links, and what clusters say

-- the cluster in a block says that this is the next one
abbrev pub NextAt : World → ℕ → ℕ → Type 0
NextAt w a b = (cl : Cluster) × (cluster_at w a ≡ Some cl) × (cl.next ≡ Some b)

next_at : (w : World) (o : Option ℕ) (ls : List Link) (a b : ℕ) → IsFrom w o ls → holds (links (blocks_of ls)) a b ≡ true → NextAt w a b
next_at w o [] a b is h = absurd (cc)
next_at w o (l ∷ []) a b is h = absurd (cc)
next_at w o (l ∷ m ∷ ls) a b is h = elim (or_cases (is_pair a b (l.block, m.block)) (holds (links (blocks_of (m ∷ ls))) a b) h) [
  | inl here ↦
      let both = and_parts (l.block == a) (m.block == b) here in
      (l.cluster, ap (cluster_at w) (sym (eqb-true l.block a both.0)) ∙ is.1, is.2.0 ∙ ap (λ x. Some x) (eqb-true m.block b both.1))
  | inr later ↦ next_at w l.cluster.next (m ∷ ls) a b is.2 later
]

-- and so it is linked
pub next_linked : (w : World) (o : Option ℕ) (ls : List Link) (a b : ℕ) (cl : Cluster) → IsFrom w o ls → has_number (blocks_of ls) a ≡ true → cluster_at w a ≡ Some cl → cl.next ≡ Some b → holds (links (blocks_of ls)) a b ≡ true
next_linked w o [] a b cl is m at next = absurd (cc)
next_linked w o (l ∷ ls) a b cl is m at next = elim (or_cases (l.block == a) (has_number (blocks_of ls) a) m) [
  | inl here ↦
      let same : l.cluster ≡ cl = some_same (sym is.1 ∙ (ap (cluster_at w) (eqb-true l.block a here) ∙ at)) in
      first ls is.2 (ap (λ x. x.next) same ∙ next) here
  | inr later ↦ behind ls later (next_linked w l.cluster.next ls a b cl is.2 later at next)
]
  where
    first : (ks : List Link) → IsFrom w l.cluster.next ks → l.cluster.next ≡ Some b → (l.block == a) ≡ true → holds (links (l.block ∷ blocks_of ks)) a b ≡ true
    first [] end to here = absurd (cc)
    first (k ∷ ks) at to here = or_left (is_pair a b (l.block, k.block)) _ (and_from (l.block == a) (k.block == b) here (eq-eqb k.block b (some_same (sym at.0 ∙ to))))

    behind : (ks : List Link) → has_number (blocks_of ks) a ≡ true → holds (links (blocks_of ks)) a b ≡ true → holds (links (l.block ∷ blocks_of ks)) a b ≡ true
    behind [] m h = absurd (cc)
    behind (k ∷ ks) m h = or_right (is_pair a b (l.block, k.block)) _ h

-- ---- lists

in_append : {X : Type 0} (x : X) (xs ys : List X) → IsIn x (xs ++ ys) → IsIn x xs ⊎ IsIn x ys
in_append x [] ys h = inr h
in_append x (y ∷ xs) ys (inl e) = inl (inl e)
in_append x (y ∷ xs) ys (inr h) = elim (in_append x xs ys h) [ inl a ↦ inl (inr a) | inr b ↦ inr b ]

in_left : {X : Type 0} (x : X) (xs ys : List X) → IsIn x xs → IsIn x (xs ++ ys)
in_left x [] ys h = absurd h
in_left x (y ∷ xs) ys (inl e) = inl e
in_left x (y ∷ xs) ys (inr h) = inr (in_left x xs ys h)

in_right : {X : Type 0} (x : X) (xs ys : List X) → IsIn x ys → IsIn x (xs ++ ys)
in_right x [] ys h = h
in_right x (y ∷ xs) ys h = inr (in_right x xs ys h)

in_placed : (a : ℕ) (e : Entry) (es : List Entry) → IsIn e es → IsIn (a, e) (placed a es)
in_placed a e [] h = absurd h
in_placed a e (d ∷ es) (inl same) = inl (ap (λ x. (a, x)) same)
in_placed a e (d ∷ es) (inr h) = inr (in_placed a e es h)

of_placed : (a : ℕ) (p : PlacedEntry) (es : List Entry) → IsIn p (placed a es) → (p.0 ≡ a) × IsIn p.1 es
of_placed a p [] h = absurd h
of_placed a p (d ∷ es) (inl same) = (ap (λ q. q.0) (sym same), inl (ap (λ q. q.1) same))
of_placed a p (d ∷ es) (inr h) = let rest = of_placed a p es h in (rest.0, inr rest.1)

-- a block of one of the files' chains
pub one_of_files : (fs : List ChainFile) (a : ℕ) → has_number (flat_map (λ f. blocks_of f.chain) fs) a ≡ true → (f : ChainFile) × IsIn f fs × (has_number (blocks_of f.chain) a ≡ true)
one_of_files [] a h = absurd (cc)
one_of_files (f ∷ fs) a h = elim (number_append (blocks_of f.chain) (flat_map (λ g. blocks_of g.chain) fs) a h) [
  | inl here ↦ (f, inl refl, here)
  | inr later ↦ let rest = one_of_files fs a later in (rest.0, inr rest.1, rest.2)
]

pub file_block : (fs : List ChainFile) (f : ChainFile) (a : ℕ) → IsIn f fs → has_number (blocks_of f.chain) a ≡ true → has_number (flat_map (λ g. blocks_of g.chain) fs) a ≡ true
file_block [] f a h m = absurd h
file_block (g ∷ fs) f a (inl e) m = number_left (blocks_of g.chain) (flat_map (λ x. blocks_of x.chain) fs) a (ap (λ x. has_number (blocks_of x.chain) a) e ∙ m)
file_block (g ∷ fs) f a (inr h) m = number_right (blocks_of g.chain) (flat_map (λ x. blocks_of x.chain) fs) a (file_block fs f a h m)

pub file_pair : (fs : List ChainFile) (f : ChainFile) (a b : ℕ) → IsIn f fs → holds (links (f.from ∷ blocks_of f.chain)) a b ≡ true → holds (flat_map (λ g. links (g.from ∷ blocks_of g.chain)) fs) a b ≡ true
file_pair [] f a b h m = absurd h
file_pair (g ∷ fs) f a b (inl e) m = held_left (links (g.from ∷ blocks_of g.chain)) (flat_map (λ x. links (x.from ∷ blocks_of x.chain)) fs) a b (ap (λ x. holds (links (x.from ∷ blocks_of x.chain)) a b) e ∙ m)
file_pair (g ∷ fs) f a b (inr h) m = held_right (links (g.from ∷ blocks_of g.chain)) (flat_map (λ x. links (x.from ∷ blocks_of x.chain)) fs) a b (file_pair fs f a b h m)

-- a link of a file's chain is one behind the entry's cluster
pub from_chain : (d : ℕ) (ls : List Link) (a b : ℕ) → holds (links (blocks_of ls)) a b ≡ true → holds (links (d ∷ blocks_of ls)) a b ≡ true
from_chain d [] a b h = absurd (cc)
from_chain d (l ∷ ls) a b h = or_right (is_pair a b (d, l.block)) _ h

-- blocks of two lists that are apart
apart_two : (xs ys : List ℕ) (a : ℕ) → are_apart (xs ++ ys) ≡ true → has_number xs a ≡ true → has_number ys a ≡ true → ⊥
apart_two [] ys a h m k = cc
apart_two (x ∷ xs) ys a h m k =
    let parts = and_parts (not (has_number (xs ++ ys) x)) (are_apart (xs ++ ys)) h in
    elim (or_cases (x == a) (has_number xs a) m) [
      | inl here ↦ both (has_number (xs ++ ys) x) (number_right xs ys x (ap (has_number ys) (eqb-true x a here) ∙ k)) parts.0
      | inr later ↦ apart_two xs ys a parts.1 later k
    ]
  where
    both : (t : Bool) → t ≡ true → not t ≡ true → ⊥
    both true p q = cc
    both false p q = cc

-- ---- entries and their files

file_entry : (w : World) (ps : List PlacedEntry) (fs : List ChainFile) (f : ChainFile) → AreFiles w ps fs → IsIn f fs → (p : PlacedEntry) × IsIn p ps × IsChainFile w p.0 p.1 f
file_entry w ps [] f are h = absurd h
file_entry w [] (g ∷ fs) f are h = absurd are
file_entry w (p ∷ ps) (g ∷ fs) f are (inl e) = (p, inl refl, subst (IsChainFile w p.0 p.1) e are.0)
file_entry w (p ∷ ps) (g ∷ fs) f are (inr h) = let rest = file_entry w ps fs f are.1 h in (rest.0, inr rest.1, rest.2)

entry_file : (w : World) (ps : List PlacedEntry) (fs : List ChainFile) (p : PlacedEntry) → AreFiles w ps fs → IsIn p ps → (f : ChainFile) × IsIn f fs × IsChainFile w p.0 p.1 f
entry_file w [] fs p are h = absurd h
entry_file w (q ∷ ps) [] p are h = absurd are
entry_file w (q ∷ ps) (f ∷ fs) p are (inl e) = (f, inl refl, subst (λ x. IsChainFile w x.0 x.1 f) e are.0)
entry_file w (q ∷ ps) (f ∷ fs) p are (inr h) = let rest = entry_file w ps fs p are.1 h in (rest.0, inr rest.1, rest.2)

-- the entries in a block of the directory are among all
pub record EntriesIn (w : World) (ls : List Link) (ps : List PlacedEntry) (a : ℕ) : Type 0 where
  pub entries : List Entry
  pub are : entries_at w a ≡ Some entries
  pub all : (e : Entry) → IsIn e entries → IsIn (a, e) ps

pub entries_in_block : (w : World) (o : Option ℕ) (ls : List Link) (ps : List PlacedEntry) (a : ℕ) → IsFrom w o ls → AreEntries (block_len w.geometry) ls ps → has_number (blocks_of ls) a ≡ true → EntriesIn w ls ps a
entries_in_block w o [] ps a is are m = absurd (cc)
entries_in_block w o (l ∷ ls) ps a is are m = elim (or_cases (l.block == a) (has_number (blocks_of ls) a) m) [
  | inl here ↦
      let same = eqb-true l.block a here in
      record {
        entries = are.0;
        are = ap (option_and_then (entries_of (block_len w.geometry))) (ap (cluster_at w) (sym same) ∙ is.1) ∙ are.2;
        all = λ e h. subst (IsIn (a, e)) (sym are.3) (in_left (a, e) (placed l.block are.0) are.1 (subst (λ x. IsIn (a, e) (placed x are.0)) (sym same) (in_placed a e are.0 h)));
      }
  | inr later ↦
      let rest = entries_in_block w l.cluster.next ls are.1 a is.2 are.4 later in
      record {
        entries = rest.entries;
        are = rest.are;
        all = λ e h. subst (IsIn (a, e)) (sym are.3) (in_right (a, e) (placed l.block are.0) are.1 (rest.all e h));
      }
]

-- an entry stands in its block of the directory
pub entry_stands : (w : World) (o : Option ℕ) (ls : List Link) (ps : List PlacedEntry) (p : PlacedEntry) → IsFrom w o ls → AreEntries (block_len w.geometry) ls ps → IsIn p ps
    → (has_number (blocks_of ls) p.0 ≡ true) × ((es : List Entry) × (entries_at w p.0 ≡ Some es) × IsIn p.1 es)
entry_stands w o [] ps p is are h = absurd (subst (IsIn p) are h)
entry_stands w o (l ∷ ls) ps p is are h = elim (in_append p (placed l.block are.0) are.1 (subst (IsIn p) are.3 h)) [
  | inl here ↦
      let own = of_placed l.block p are.0 here in
      (or_left (l.block == p.0) _ (eq-eqb l.block p.0 (sym own.0)), (are.0, ap (option_and_then (entries_of (block_len w.geometry))) (ap (cluster_at w) own.0 ∙ is.1) ∙ are.2, own.1))
  | inr later ↦
      let rest = entry_stands w l.cluster.next ls are.1 p is.2 are.4 later in
      (or_right (l.block == p.0) _ rest.0, rest.1)
]

-- a file's chain begins with its entry's block
pub begins_so : (w : World) (b : ℕ) (ls : List Link) → IsFrom w (Some b) ls → BeginsAt b ls
begins_so w b [] is = absurd (cc)
begins_so w b (l ∷ ls) is = (blocks_of ls, ap (λ x. x ∷ blocks_of ls) (sym (some_same is.0)))

begins_once : (b d : ℕ) (ls : List Link) → BeginsAt b ls → BeginsAt d ls → b ≡ d
begins_once b d ls one two = let same = sym one.1 ∙ two.1 in firsts b d one.0 two.0 same
  where
    firsts : (b d : ℕ) (xs ys : List ℕ) → b ∷ xs ≡ d ∷ ys → b ≡ d
    firsts b d xs ys e = cc

-- ---- what stands

module _ (c : Client) (k : Chains) (v : DiskView) (s : AreChainsUnder c k v) where
  abbrev own : List ℕ
  own = blocks_of k.directory

  abbrev rest : List ℕ
  rest = flat_map (λ f. blocks_of f.chain) k.files

  -- a file is that of an entry
  pub of_entry : (f : ChainFile) → IsIn f k.files → (p : PlacedEntry) × IsIn p s.entries × IsChainFile v.world p.0 p.1 f
  of_entry f h = file_entry v.world s.entries k.files f s.files h

  pub from_directory : (f : ChainFile) → IsIn f k.files → has_number (blocks_of k.directory) f.from ≡ true
  from_directory f h =
      let p = of_entry f h in
      ap (has_number own) p.2.from ∙ (entry_stands v.world (Some c.root) k.directory s.entries p.0 s.directory.links s.in_order p.1).0

  -- a block that begins a file's chain is where that leads from
  pub file_from : (f : ChainFile) (b : ℕ) → IsIn f k.files → BeginsAt b f.chain → IsFrom v.world (Some b) f.chain
  file_from f b h begins =
      let p = of_entry f h in
      subst (λ x. IsFrom v.world (Some x) f.chain) (begins_once p.0.1.block b f.chain (begins_so v.world p.0.1.block f.chain p.2.chain.links) begins) p.2.chain.links

  -- the pair of an entry
  pub entry_pair : (f : ChainFile) (b : ℕ) → IsIn f k.files → BeginsAt b f.chain → holds (chain_pairs k) f.from b ≡ true
  entry_pair f b h begins = held_right (links own) (flat_map (λ g. links (g.from ∷ blocks_of g.chain)) k.files) f.from b
      (file_pair k.files f f.from b h (ap (λ xs. holds (links (f.from ∷ xs)) f.from b) begins.1 ∙ or_left (is_pair f.from b (f.from, b)) _ (and_from (f.from == f.from) (b == b) (eq-eqb f.from f.from refl) (eq-eqb b b refl))))

  -- a named pair leads to the next cluster, or to a file
  pair_kinds : (a b : ℕ) → holds (chain_pairs k) a b ≡ true → NextAt v.world a b ⊎ ((f : ChainFile) × IsIn f k.files × (f.from ≡ a) × BeginsAt b f.chain)
  pair_kinds a b h = elim (held_append (links own) (flat_map (λ g. links (g.from ∷ blocks_of g.chain)) k.files) a b h) [
    | inl link ↦ inl (next_at v.world (Some c.root) k.directory a b s.directory.links link)
    | inr file ↦ of_files k.files (λ f i. i) file
  ]
    where
      of_one : (f : ChainFile) → IsIn f k.files → (ls : List Link) → f.chain ≡ ls → holds (links (f.from ∷ blocks_of ls)) a b ≡ true → NextAt v.world a b ⊎ ((g : ChainFile) × IsIn g k.files × (g.from ≡ a) × BeginsAt b g.chain)
      of_one f i [] e m = absurd (cc)
      of_one f i (l ∷ ls) e m = elim (or_cases (is_pair a b (f.from, l.block)) (holds (links (blocks_of (l ∷ ls))) a b) m) [
        | inl here ↦
            let both = and_parts (f.from == a) (l.block == b) here in
            inr (f, i, eqb-true f.from a both.0, (blocks_of ls, ap blocks_of e ∙ ap (λ x. x ∷ blocks_of ls) (eqb-true l.block b both.1)))
        | inr later ↦
            let p = of_entry f i in
            inl (next_at v.world (Some p.0.1.block) f.chain a b p.2.chain.links (ap (λ xs. holds (links (blocks_of xs)) a b) e ∙ later))
      ]

      of_files : (fs : List ChainFile) → ((f : ChainFile) → IsIn f fs → IsIn f k.files) → holds (flat_map (λ g. links (g.from ∷ blocks_of g.chain)) fs) a b ≡ true → NextAt v.world a b ⊎ ((g : ChainFile) × IsIn g k.files × (g.from ≡ a) × BeginsAt b g.chain)
      of_files [] on m = absurd (cc)
      of_files (f ∷ fs) on m = elim (held_append (links (f.from ∷ blocks_of f.chain)) (flat_map (λ g. links (g.from ∷ blocks_of g.chain)) fs) a b m) [
        | inl here ↦ of_one f (on f (inl refl)) f.chain refl here
        | inr later ↦ of_files fs (λ g i. on g (inr i)) later
      ]

  -- out of a file's cluster a named pair leads to the next one alone
  pub part_names : (f : ChainFile) (a b : ℕ) (cl : Cluster) → IsIn f k.files → has_number (blocks_of f.chain) a ≡ true → cluster_at v.world a ≡ Some cl → holds (chain_pairs k) a b ≡ true → cl.next ≡ Some b
  part_names f a b cl one m at h = elim (pair_kinds a b h) [
    | inl next ↦ ap (λ x. x.next) (some_same (sym at ∙ next.1)) ∙ next.2
    | inr entered ↦ absurd (apart_two own rest a s.apart (ap (has_number own) (sym entered.2) ∙ from_directory entered.0 entered.1) (file_block k.files f a one m))
  ]

  -- and that pair is named
  pub part_named : (f : ChainFile) (a b : ℕ) (cl : Cluster) → IsIn f k.files → has_number (blocks_of f.chain) a ≡ true → cluster_at v.world a ≡ Some cl → cl.next ≡ Some b → holds (chain_pairs k) a b ≡ true
  part_named f a b cl one m at next =
      let p = of_entry f one in
      held_right (links own) (flat_map (λ g. links (g.from ∷ blocks_of g.chain)) k.files) a b
      (file_pair k.files f a b one (from_chain f.from f.chain a b (next_linked v.world (Some p.0.1.block) f.chain a b cl p.2.chain.links m at next)))

  -- the same of the directory's clusters
  pub next_named : (a b : ℕ) (cl : Cluster) → has_number (blocks_of k.directory) a ≡ true → cluster_at v.world a ≡ Some cl → cl.next ≡ Some b → holds (chain_pairs k) a b ≡ true
  next_named a b cl m at next = held_left (links own) (flat_map (λ g. links (g.from ∷ blocks_of g.chain)) k.files) a b (next_linked v.world (Some c.root) k.directory a b cl s.directory.links m at next)

  -- the entries in a cluster of the directory, and their files
  pub entries_here : (a : ℕ) → has_number (blocks_of k.directory) a ≡ true → EntriesIn v.world k.directory s.entries a
  entries_here a m = entries_in_block v.world (Some c.root) k.directory s.entries a s.directory.links s.in_order m

  pub file_of_entry : (a : ℕ) (es : List Entry) (e : Entry) → has_number (blocks_of k.directory) a ≡ true → entries_at v.world a ≡ Some es → IsIn e es → (f : ChainFile) × IsIn f k.files × BeginsAt e.block f.chain × (f.from ≡ a)
  file_of_entry a es e m at i =
      let here = entries_here a m in
      let p = here.all e (subst (IsIn e) (some_same (sym at ∙ here.are)) i) in
      let f = entry_file v.world s.entries k.files (a, e) s.files p in
      (f.0, f.1, begins_so v.world e.block f.0.chain f.2.chain.links, f.2.from)

  pub entry_of_file : (a : ℕ) (es : List Entry) (f : ChainFile) → entries_at v.world a ≡ Some es → IsIn f k.files → f.from ≡ a → (e : Entry) × IsIn e es × BeginsAt e.block f.chain
  entry_of_file a es f at one from =
      let p = of_entry f one in
      let stands = entry_stands v.world (Some c.root) k.directory s.entries p.0 s.directory.links s.in_order p.1 in
      let same : stands.1.0 ≡ es = some_same (sym stands.1.1 ∙ (ap (entries_at v.world) (sym p.2.from ∙ from) ∙ at)) in
      (p.0.1, subst (IsIn p.0.1) same stands.1.2, begins_so v.world p.0.1.block f.chain p.2.chain.links)

  -- what a named pair out of the directory's cluster leads to
  pub page_names : (a b : ℕ) (cl : Cluster) (es : List Entry) → cluster_at v.world a ≡ Some cl → entries_at v.world a ≡ Some es → holds (chain_pairs k) a b ≡ true → (cl.next ≡ Some b) ⊎ ((e : Entry) × IsIn e es × (e.block ≡ b))
  page_names a b cl es at are h = elim (pair_kinds a b h) [
    | inl next ↦ inl (ap (λ x. x.next) (some_same (sym at ∙ next.1)) ∙ next.2)
    | inr entered ↦
        let e = entry_of_file a es entered.0 are entered.1 entered.2 in
        inr (e.0, e.1, begins_once e.0.block b entered.0.chain e.2 entered.3)
  ]
