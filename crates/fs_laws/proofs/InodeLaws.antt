-- The tree of inodes is read from what it names.
use Rattle.std.proofs.Common.{◌≡◌, ℕ, zero, suc, ◌<◌, Bool, true, false, not, cond, ◌&&◌, ◌==◌, List, [], ◌∷◌, ◌++◌, refl, sym, ◌∙◌, ap, subst, inl, inr, Option, Some, None, append_assoc}
use Rattle.fs_laws.proofs.Common.{eq-eqb, and_parts, and_from, or_cases, or_left, or_right, is_some, take, unwrap_or, option_and_then, list_all, block_len, World, contents, has_number, are_apart, holds, is_pair, all_of_held, Name, path_max, none, file, dir, nothing, a_file, a_dir, is_there, Entry, Inode, directory, regular, inode_in, FileInode, InodeNode, InodeEntries, inode_at, with_first, entries_by, as_dir, node_by, node_at, inode_blocks, data_blocks, named_pairs, are_right, as_root, inodes_under, file_bytes, tree_entries, tree_of, inode_tree, Named, by_inodes, named_at, is_led_to, are_led_to, IsUnder, Keeps}
use Rattle.std.specs.Prelude.{map}
use Rattle.fs_trees.specs.declared.ask.ShellKind.TheVariants as kind
use Rattle.fs_laws.proofs.ListLaws.{number_left, number_right, held_left, held_right, all_held, AreIn, led_by, all_led, flat_map_same, held_append, in_append, first_in}

-- ---- the inodes are read from their blocks

abbrev pub node_blocks : InodeNode → List ℕ
node_blocks nothing = []
node_blocks (a_file f) = f.block ∷ []
node_blocks (a_dir b es) = b ∷ inode_blocks es

abbrev entries_blocks : Option InodeEntries → List ℕ
entries_blocks None = []
entries_blocks (Some es) = inode_blocks es

-- an entry more has the blocks of both
first_parts : (n : Name) (x : InodeNode) (o : Option InodeEntries) → is_some (with_first n x o) ≡ true → (is_there x ≡ true) × (is_some o ≡ true) × (entries_blocks (with_first n x o) ≡ node_blocks x ++ entries_blocks o)
first_parts n nothing None h = absurd (cc)
first_parts n nothing (Some es) h = absurd (cc)
first_parts n (a_file f) None h = absurd (cc)
first_parts n (a_file f) (Some es) h = (refl, refl, refl)
first_parts n (a_dir b inside) None h = absurd (cc)
first_parts n (a_dir b inside) (Some es) h = (refl, refl, refl)

dir_parts : (b : ℕ) (o : Option InodeEntries) → is_there (as_dir b o) ≡ true → (is_some o ≡ true) × (node_blocks (as_dir b o) ≡ b ∷ entries_blocks o)
dir_parts b None h = absurd (cc)
dir_parts b (Some es) h = (refl, refl)

module _ (w next : World) where
  -- these blocks have the same contents in both worlds
  abbrev Same : List ℕ → Type 0
  Same bs = (b : ℕ) → has_number bs b ≡ true → contents next b ≡ contents w b

  module _ (read other : ℕ → InodeNode) (agree : (c : ℕ) → is_there (read c) ≡ true → Same (node_blocks (read c)) → other c ≡ read c) where
    entries_same : (es : List Entry) → is_some (entries_by read es) ≡ true → Same (entries_blocks (entries_by read es)) → entries_by other es ≡ entries_by read es
    entries_same [] h same = refl
    entries_same (e ∷ es) h same =
        let parts = first_parts e.name (read e.block) (entries_by read es) h in
        let first : Same (node_blocks (read e.block)) = λ b m. same b (ap (λ xs. has_number xs b) parts.2 ∙ number_left (node_blocks (read e.block)) (entries_blocks (entries_by read es)) b m) in
        let later : Same (entries_blocks (entries_by read es)) = λ b m. same b (ap (λ xs. has_number xs b) parts.2 ∙ number_right (node_blocks (read e.block)) (entries_blocks (entries_by read es)) b m) in
        ap (λ x. with_first e.name x (entries_by other es)) (agree e.block parts.0 first) ∙ ap (λ o. with_first e.name (read e.block) o) (entries_same es parts.1 later)

    node_by_same : (b : ℕ) (o : Option Inode) → is_there (node_by read b o) ≡ true → Same (node_blocks (node_by read b o)) → node_by other b o ≡ node_by read b o
    node_by_same b None h same = refl
    node_by_same b (Some (regular size blocks)) h same = refl
    node_by_same b (Some (directory es)) h same =
        let parts = dir_parts b (entries_by read es) h in
        ap (as_dir b) (entries_same es parts.0 (λ c m. same c (ap (λ xs. has_number xs c) parts.1 ∙ or_right (b == c) _ m)))

  -- the block of an inode is among its own
  own_block : (read : ℕ → InodeNode) (b : ℕ) (o : Option Inode) → is_there (node_by read b o) ≡ true → has_number (node_blocks (node_by read b o)) b ≡ true
  own_block read b None h = absurd (cc)
  own_block read b (Some (regular size blocks)) h = or_left (b == b) _ (eq-eqb b b refl)
  own_block read b (Some (directory es)) h = ap (λ xs. has_number xs b) (dir_parts b (entries_by read es) h).1 ∙ or_left (b == b) _ (eq-eqb b b refl)

  pub node_same : next.geometry ≡ w.geometry → (more b : ℕ) → is_there (node_at w more b) ≡ true → Same (node_blocks (node_at w more b)) → node_at next more b ≡ node_at w more b
  node_same size zero b h same = refl
  node_same size (suc more) b h same =
      let here : inode_at next b ≡ inode_at w b =
      ap (λ g. option_and_then (inode_in (block_len g)) (contents next b)) size
      ∙ ap (option_and_then (inode_in (block_len w.geometry))) (same b (own_block (λ c. node_at w more c) b (inode_at w b) h)) in
      ap (node_by (λ c. node_at next more c) b) here
      ∙ node_by_same (λ c. node_at w more c) (λ c. node_at next more c) (λ c there equal. node_same size more c there equal) b (inode_at w b) h same

  bytes_same : (f : FileInode) → Same f.blocks → file_bytes next f ≡ file_bytes w f
  bytes_same f same = ap (take f.size) (flat_map_same (λ b. unwrap_or (contents next b) []) (λ b. unwrap_or (contents w b) []) f.blocks (λ b m. ap (λ o. unwrap_or o []) (same b m)))

  pub tree_same : (es : InodeEntries) → Same (data_blocks es) → tree_entries next es ≡ tree_entries w es
  tree_same none same = refl
  tree_same (file n f rest) same =
      ap (λ x. file n x (tree_entries next rest)) (bytes_same f (λ b m. same b (number_left f.blocks (data_blocks rest) b m)))
      ∙ ap (file n (file_bytes w f)) (tree_same rest (λ b m. same b (number_right f.blocks (data_blocks rest) b m)))
  tree_same (dir n d inside rest) same =
      ap (λ x. dir n tt x (tree_entries next rest)) (tree_same inside (λ b m. same b (number_left (data_blocks inside) (data_blocks rest) b m)))
      ∙ ap (dir n tt (tree_entries w inside)) (tree_same rest (λ b m. same b (number_right (data_blocks inside) (data_blocks rest) b m)))

-- ---- the root's directory

-- where there is a tree, its root is a directory whose entries are right
pub rooted : (w : World) (x : InodeNode) → is_there (tree_of w (as_root w x)) ≡ true → (b : ℕ) × (es : InodeEntries) × (x ≡ a_dir b es) × (are_right w b es ≡ true)
rooted w nothing h = absurd (cc)
rooted w (a_file f) h = absurd (cc)
rooted w (a_dir b es) h = (b, es, refl, passed (are_right w b es) h)
  where
    passed : (t : Bool) → is_there (tree_of w (cond t (a_dir b es) nothing)) ≡ true → t ≡ true
    passed true h = refl
    passed false h = absurd (cc)

dir_block : (read : ℕ → InodeNode) (b c : ℕ) (o : Option Inode) (es : InodeEntries) → node_by read b o ≡ a_dir c es → c ≡ b
dir_block read b c None es e = absurd (cc)
dir_block read b c (Some (regular size blocks)) es e = absurd (cc)
dir_block read b c (Some (directory xs)) es e = same_dir (entries_by read xs) e
  where
    same_dir : (o : Option InodeEntries) → as_dir b o ≡ a_dir c es → c ≡ b
    same_dir None e = absurd (cc)
    same_dir (Some ys) e = let one : b ≡ c = cc in sym one

pub root_block : (w : World) (more root b : ℕ) (es : InodeEntries) → node_at w more root ≡ a_dir b es → b ≡ root
root_block w zero root b es e = absurd (cc)
root_block w (suc more) root b es e = dir_block (λ c. node_at w more c) root b (inode_at w root) es e

abbrev named_by : ℕ → InodeEntries → Named
named_by root es = record { blocks = root ∷ (inode_blocks es ++ data_blocks es); pairs = named_pairs root es }

still_right : (w next : World) (root : ℕ) (es : InodeEntries) → are_right w root es ≡ true → ((a b : ℕ) → holds (named_pairs root es) a b ≡ true → holds next.pairs a b ≡ true) → are_right next root es ≡ true
still_right w next root es right held =
    let once = are_apart (root ∷ inode_blocks es) in
    let other = list_all (λ b. not (has_number (root ∷ inode_blocks es) b)) (data_blocks es) in
    let outer = and_parts (list_all (λ e. holds w.pairs e.0 e.1) (named_pairs root es) && once) other right in
    let inner = and_parts (list_all (λ e. holds w.pairs e.0 e.1) (named_pairs root es)) once outer.0 in
    and_from (list_all (λ e. holds next.pairs e.0 e.1) (named_pairs root es) && once) other
    (and_from (list_all (λ e. holds next.pairs e.0 e.1) (named_pairs root es)) once (all_held (named_pairs root es) next.pairs held) inner.1) outer.1

-- the root is a directory with these entries, and they are right
pub record HasRoot (w : World) (root : ℕ) (es : InodeEntries) : Type 0 where
  pub node : node_at w (suc path_max) root ≡ a_dir root es
  pub right : are_right w root es ≡ true

-- so it is where there is a tree
pub found : (w : World) (root : ℕ) → is_there (inode_tree w root) ≡ true → (es : InodeEntries) × HasRoot w root es
found w root there =
    let at = rooted w (node_at w (suc path_max) root) there in
    let same = root_block w (suc path_max) root at.0 at.1 at.2 in
    (at.1, record { node = at.2 ∙ ap (λ b. a_dir b at.1) same; right = ap (λ b. are_right w b at.1) (sym same) ∙ at.3 })

pub root_of : (w : World) (x : InodeNode) (root : ℕ) (es : InodeEntries) → x ≡ a_dir root es → are_right w root es ≡ true → as_root w x ≡ a_dir root es
root_of w x root es is right = ap (as_root w) is ∙ ap (λ t. cond t (a_dir root es) nothing) right

pub under_is : (w : World) (root : ℕ) (es : InodeEntries) → HasRoot w root es → inodes_under w root ≡ a_dir root es
under_is w root es f = root_of w (node_at w (suc path_max) root) root es f.node f.right

kept_root : (w next : World) (root : ℕ) (es : InodeEntries) → HasRoot w root es → Keeps w next (named_by root es) → HasRoot next root es
kept_root w next root es f keeps = record {
  node = node_same w next keeps.geometry (suc path_max) root (ap is_there f.node)
      (λ c m. keeps.bytes c (number_left (root ∷ inode_blocks es) (data_blocks es) c (ap (λ x. has_number (node_blocks x) c) (sym f.node) ∙ m))) ∙ f.node;
  right = still_right w next root es f.right keeps.pairs;
}

pub inodes_same : (w next : World) (root : ℕ) → is_there (inode_tree w root) ≡ true → Keeps w next (named_at kind.Inode w root)
    → (inode_tree next root ≡ inode_tree w root) × (named_at kind.Inode next root ≡ named_at kind.Inode w root)
inodes_same w next root there keeps =
    let (es, f) = found w root there in
    let is : inodes_under w root ≡ a_dir root es = under_is w root es f in
    let kept : Keeps w next (named_by root es) = subst (λ x. Keeps w next (by_inodes x)) is keeps in
    let same : inodes_under next root ≡ a_dir root es = under_is next root es (kept_root w next root es f kept) in
    let bytes : tree_entries next es ≡ tree_entries w es = tree_same w next es (λ c m. kept.bytes c (or_right (root == c) _ (number_right (inode_blocks es) (data_blocks es) c m))) in
    (ap (tree_of next) same ∙ ap (a_dir tt) bytes ∙ ap (tree_of w) (sym is), ap by_inodes (same ∙ sym is))

-- ---- what is named is reached by the named pairs

source_is : (d c a b : ℕ) → is_pair a b (d, c) ≡ true → (bs : List ℕ) → has_number (d ∷ bs) a ≡ true
source_is d c a b h bs = or_left (d == a) _ (and_parts (d == a) (c == b) h).0

fan_source : (d : ℕ) (cs : List ℕ) (a b : ℕ) → holds (map (λ c. (d, c)) cs) a b ≡ true → (d == a) ≡ true
fan_source d [] a b h = absurd (cc)
fan_source d (c ∷ cs) a b h = elim (or_cases (is_pair a b (d, c)) (holds (map (λ e. (d, e)) cs) a b) h) [
  | inl here ↦ (and_parts (d == a) (c == b) here).0
  | inr later ↦ fan_source d cs a b later
]

fan_held : (d : ℕ) (cs : List ℕ) (b : ℕ) → has_number cs b ≡ true → holds (map (λ c. (d, c)) cs) d b ≡ true
fan_held d [] b h = absurd (cc)
fan_held d (c ∷ cs) b h = elim (or_cases (c == b) (has_number cs b) h) [
  | inl here ↦ or_left (is_pair d b (d, c)) _ (and_from (d == d) (c == b) (eq-eqb d d refl) here)
  | inr later ↦ or_right (is_pair d b (d, c)) _ (fan_held d cs b later)
]

-- a named pair comes from an inode
pub from_inode : (d : ℕ) (es : InodeEntries) (a b : ℕ) → holds (named_pairs d es) a b ≡ true → has_number (d ∷ inode_blocks es) a ≡ true
from_inode d none a b h = absurd (cc)
from_inode d (file n f rest) a b h = elim (or_cases (is_pair a b (d, f.block)) _ h) [
  | inl here ↦ source_is d f.block a b here (inode_blocks (file n f rest))
  | inr more ↦ elim (held_append (map (λ c. (f.block, c)) f.blocks) (named_pairs d rest) a b more) [
    | inl own ↦ or_right (d == a) _ (or_left (f.block == a) _ (fan_source f.block f.blocks a b own))
    | inr later ↦ elim (or_cases (d == a) (has_number (inode_blocks rest) a) (from_inode d rest a b later)) [
      | inl same ↦ or_left (d == a) _ same
      | inr other ↦ or_right (d == a) _ (or_right (f.block == a) _ other)
    ]
  ]
]
from_inode d (dir n c inside rest) a b h = elim (or_cases (is_pair a b (d, c)) _ h) [
  | inl here ↦ source_is d c a b here (inode_blocks (dir n c inside rest))
  | inr more ↦ elim (held_append (named_pairs c inside) (named_pairs d rest) a b more) [
    | inl own ↦ or_right (d == a) _ (elim (or_cases (c == a) (has_number (inode_blocks inside) a) (from_inode c inside a b own)) [
      | inl same ↦ or_left (c == a) _ same
      | inr other ↦ or_right (c == a) _ (number_left (inode_blocks inside) (inode_blocks rest) a other)
    ])
    | inr later ↦ elim (or_cases (d == a) (has_number (inode_blocks rest) a) (from_inode d rest a b later)) [
      | inl same ↦ or_left (d == a) _ same
      | inr other ↦ or_right (d == a) _ (or_right (c == a) _ (number_right (inode_blocks inside) (inode_blocks rest) a other))
    ]
  ]
]

-- a block of bytes is named by a file's inode
pub by_file : (d : ℕ) (es : InodeEntries) (b : ℕ) → has_number (data_blocks es) b ≡ true → (a : ℕ) × (holds (named_pairs d es) a b ≡ true) × (has_number (inode_blocks es) a ≡ true)
by_file d none b h = absurd (cc)
by_file d (file n f rest) b h = elim (in_append f.blocks (data_blocks rest) b h) [
  | inl own ↦ (f.block, or_right (is_pair f.block b (d, f.block)) _ (held_left (map (λ c. (f.block, c)) f.blocks) (named_pairs d rest) f.block b (fan_held f.block f.blocks b own)), first_in f.block (inode_blocks rest))
  | inr later ↦ let found = by_file d rest b later in
      (found.0, or_right (is_pair found.0 b (d, f.block)) _ (held_right (map (λ c. (f.block, c)) f.blocks) (named_pairs d rest) found.0 b found.1), or_right (f.block == found.0) _ found.2)
]
by_file d (dir n c inside rest) b h = elim (in_append (data_blocks inside) (data_blocks rest) b h) [
  | inl own ↦ let found = by_file c inside b own in
      (found.0, or_right (is_pair found.0 b (d, c)) _ (held_left (named_pairs c inside) (named_pairs d rest) found.0 b found.1), or_right (c == found.0) _ (number_left (inode_blocks inside) (inode_blocks rest) found.0 found.2))
  | inr later ↦ let found = by_file d rest b later in
      (found.0, or_right (is_pair found.0 b (d, c)) _ (held_right (named_pairs c inside) (named_pairs d rest) found.0 b found.1), or_right (c == found.0) _ (number_right (inode_blocks inside) (inode_blocks rest) found.0 found.2))
]

-- Inodes are led to in their order, from the directory before them; and so is what follows, where it is once all of these are there.
led_inodes : (es : List (ℕ × ℕ)) (d : ℕ) (xs : InodeEntries) (before after : List ℕ) → ((a b : ℕ) → holds (named_pairs d xs) a b ≡ true → holds es a b ≡ true) → has_number before d ≡ true
    → ((all : List ℕ) → AreIn before all → AreIn (inode_blocks xs) all → are_led_to es all after ≡ true)
    → are_led_to es before (inode_blocks xs ++ after) ≡ true
led_inodes es d none before after held start then = then before (λ b h. h) (λ b h. absurd (cc))
led_inodes es d (file n f rest) before after held start then =
    and_from (is_led_to es before f.block) _
    (led_by es before d f.block (held d f.block (or_left (is_pair d f.block (d, f.block)) _ (and_from (d == d) (f.block == f.block) (eq-eqb d d refl) (eq-eqb f.block f.block refl)))) start)
    (led_inodes es d rest (f.block ∷ before) after
    (λ a b h. held a b (or_right (is_pair a b (d, f.block)) _ (held_right (map (λ c. (f.block, c)) f.blocks) (named_pairs d rest) a b h)))
    (or_right (f.block == d) _ start)
    (λ all old new. then all (λ b h. old b (or_right (f.block == b) _ h))
    (λ b h. elim (or_cases (f.block == b) (has_number (inode_blocks rest) b) h) [ inl same ↦ old b (or_left (f.block == b) _ same) | inr other ↦ new b other ])))
led_inodes es d (dir n c inside rest) before after held start then =
    and_from (is_led_to es before c) _
    (led_by es before d c (held d c (or_left (is_pair d c (d, c)) _ (and_from (d == d) (c == c) (eq-eqb d d refl) (eq-eqb c c refl)))) start)
    (ap (are_led_to es (c ∷ before)) (append_assoc (inode_blocks inside) (inode_blocks rest) after) ∙
    led_inodes es c inside (c ∷ before) (inode_blocks rest ++ after)
    (λ a b h. held a b (or_right (is_pair a b (d, c)) _ (held_left (named_pairs c inside) (named_pairs d rest) a b h)))
    (first_in c before)
    (λ all old new. led_inodes es d rest all after
    (λ a b h. held a b (or_right (is_pair a b (d, c)) _ (held_right (named_pairs c inside) (named_pairs d rest) a b h)))
    (old d (or_right (c == d) _ start))
    (λ more olds news. then more (λ b h. olds b (old b (or_right (c == b) _ h)))
    (λ b h. elim (or_cases (c == b) _ h) [
      | inl same ↦ olds b (old b (or_left (c == b) _ same))
      | inr other ↦ elim (in_append (inode_blocks inside) (inode_blocks rest) b other) [ inl in_it ↦ olds b (new b in_it) | inr past ↦ news b past ]
    ]))))

pub inodes_under_root : (w : World) (root : ℕ) → root < w.geometry.primaries → is_there (inode_tree w root) ≡ true → IsUnder w root (named_at kind.Inode w root)
inodes_under_root w root primary there =
    let (es, f) = found w root there in
    let once = are_apart (root ∷ inode_blocks es) in
    let right = (and_parts (list_all (λ e. holds w.pairs e.0 e.1) (named_pairs root es)) once (and_parts (list_all (λ e. holds w.pairs e.0 e.1) (named_pairs root es) && once) _ f.right).0).0 in
    let under : IsUnder w root (named_by root es) = record {
      primary = primary;
      order = and_from (root == root) _ (eq-eqb root root refl)
          (led_inodes (named_pairs root es) root es (root ∷ []) (data_blocks es) (λ a b h. h) (first_in root [])
          (λ all old new. all_led (named_pairs root es) (data_blocks es) all (λ b h. let by = by_file root es b h in (by.0, by.1, new by.0 by.2))));
      held = λ a b h. all_of_held (λ e. holds w.pairs e.0 e.1) (named_pairs root es) a b right h;
      from = λ a b h. number_left (root ∷ inode_blocks es) (data_blocks es) a (from_inode root es a b h);
    } in
    subst (λ x. IsUnder w root (by_inodes x)) (sym (under_is w root es f)) under
