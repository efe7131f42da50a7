-- What the directories of a tree list: names, in their order, and not more than 4,096.
use Rattle.std.proofs.Common.{◌≡◌, ◌⊎◌, inl, inr, ℕ, zero, suc, ◌≤◌, Bool, true, false, cond, ◌&&◌, ◌==◌, nat_le, List, [], ◌∷◌, ◌++◌, length, map, drop, refl, sym, ◌∙◌, ap, subst, arith, Option, Some, None}
use Rattle.fs_laws.proofs.Common.{and_parts, and_from, nat_tests, flat_map, option_map, ⊤, list_all, option_and_then, option_or, IsLawful, block_len, World, contents, are_apart, holds, Name, Path, path_max, name_lt, is_name, is_below_first_name, are_ascending, are_distinct, Entries, none, file, dir, Node, nothing, a_file, a_dir, entry, child, at, names, names_in, with_entry, before, only_if, begins_with, Entry, entries, entry_names, all_named, numbers, little_number, div_ceil, Inode, magic, data_room, directory, regular, inode_in, of_kind, as_directory, as_regular, ordered, distinct, entries_room, FileInode, InodeNode, InodeEntries, inode_at, with_first, entries_by, as_dir, node_by, node_at, as_root, inodes_under, tree_entries, tree_of, inode_tree, inodes_right, Cluster, entries_of, bytes_room, Link, chain_at, is_filled, ChainFile, chain_bytes, file_of, file_at, all_there, files_of, files_in, Chains, chain_blocks, chain_pairs, names_max, with_files, with_directory, tree_of_files, as_tree, chain_tree, tree_at, ShellKind, ByInodes, ByChains, IsNameListing}
use Rattle.tsd_model.specs.declared.geometry.Geometry.{Geometry}
use Rattle.fs_trees.specs.ChainTree.{are_right}
use Rattle.fs_laws.proofs.DirectoryLaws.{names_meet}

no_listing : IsNameListing []
no_listing = (refl, refl, omega arith)

-- ---- below a node

-- the directories among these entries list names
abbrev pub AllListed : {D F : Type 0} → Entries D F → Type 0
AllListed none = ⊤
AllListed (file n f rest) = AllListed rest
AllListed (dir n d inside rest) = IsNameListing (names inside) × AllListed inside × AllListed rest

-- it, and the directories below it
abbrev pub NamesListed : {D F : Type 0} → Node D F → Type 0
NamesListed nothing = ⊤
NamesListed (a_file f) = ⊤
NamesListed (a_dir d es) = IsNameListing (names es) × AllListed es

module _ {D F : Type 0} where
  entry_listed : (n : Name) (es : Entries D F) → AllListed es → NamesListed (entry n es)
  entry_listed n none h = tt
  entry_listed n (file m f rest) h = elim (name_lt n m) as (λ t. NamesListed {D = D} {F = F} (cond t nothing (cond (name_lt m n) (entry n rest) (a_file f)))) [
    | true ↦ tt
    | false ↦ elim (name_lt m n) as (λ t. NamesListed {D = D} {F = F} (cond t (entry n rest) (a_file f))) [
      | true ↦ entry_listed n rest h
      | false ↦ tt
    ]
  ]
  entry_listed n (dir m d inside rest) h = elim (name_lt n m) as (λ t. NamesListed {D = D} {F = F} (cond t nothing (cond (name_lt m n) (entry n rest) (a_dir d inside)))) [
    | true ↦ tt
    | false ↦ elim (name_lt m n) as (λ t. NamesListed {D = D} {F = F} (cond t (entry n rest) (a_dir d inside))) [
      | true ↦ entry_listed n rest h.2
      | false ↦ (h.0, h.1)
    ]
  ]

  child_listed : (n : Name) (x : Node D F) → NamesListed x → NamesListed (child n x)
  child_listed n nothing h = tt
  child_listed n (a_file f) h = tt
  child_listed n (a_dir d es) h = entry_listed n es h.1

  at_listed : (x : Node D F) (p : Path) → NamesListed x → NamesListed (at x p)
  at_listed x [] h = h
  at_listed x (n ∷ ns) h = at_listed (child n x) ns (child_listed n x h)

  names_listed : (x : Node D F) → NamesListed x → IsNameListing (names_in x)
  names_listed nothing h = no_listing
  names_listed (a_file f) h = no_listing
  names_listed (a_dir d es) h = h.0

-- ---- tests that were passed

passed : {X : Type 0} (t : Bool) (x : Unit {0} → Option X) (y : X) → only_if t x ≡ Some y → (t ≡ true) × (x tt ≡ Some y)
passed true x y e = (refl, e)
passed false x y e = absurd (cc)

le_true : (a b : ℕ) → nat_le a b ≡ true → a ≤ b
le_true a b h = grind (arith, nat_tests)

-- ---- inodes

how_many : (n : ℕ) (x : List ℕ) → length (entries n x) ≡ n
how_many zero x = refl
how_many (suc n) x = ap suc (how_many n (drop 32 x))

length_names : (es : List Entry) → length (entry_names es) ≡ length es
length_names [] = refl
length_names (e ∷ es) = ap suc (length_names es)

in_order : (es fs : List Entry) → ordered es ≡ Some (directory fs) → (all_named es ≡ true) × (are_ascending (entry_names es) ≡ true) × (es ≡ fs)
in_order es fs e =
    let p = passed (all_named es && are_ascending (entry_names es)) (λ _. Some (directory es)) (directory fs) e in
    let both = and_parts (all_named es) (are_ascending (entry_names es)) p.0 in
    let same : ◌≡◌ {A = Option Inode} (Some (directory es)) (Some (directory fs)) = p.1 in
    (both.0, both.1, cc)

apart : (n : ℕ) (bs : List ℕ) (fs : List Entry) → ◌≡◌ {A = Option Inode} (Some (regular n bs)) (Some (directory fs)) → ⊥
apart n bs fs e = absurd (cc)

is_no_directory : (len kind amount : ℕ) (body : List ℕ) (fs : List Entry) → as_regular len kind amount body ≡ Some (directory fs) → ⊥
is_no_directory len kind amount body fs e =
    let bs = numbers (div_ceil amount len) body in
    let p = passed (kind == 2 && nat_le (div_ceil amount len) (data_room len)) (λ _. distinct amount bs) (directory fs) e in
    let q = passed (are_apart bs) (λ _. Some (regular amount bs)) (directory fs) p.1 in
    apart amount bs fs q.1

in_directory : (len kind amount : ℕ) (body : List ℕ) (fs : List Entry) → as_directory len kind amount body ≡ Some (directory fs) → entries_room len ≤ names_max → IsNameListing (entry_names fs)
in_directory len kind amount body fs e room =
    let p = passed (kind == 1 && nat_le amount (entries_room len)) (λ _. ordered (entries amount body)) (directory fs) e in
    let test = and_parts (kind == 1) (nat_le amount (entries_room len)) p.0 in
    let q = in_order (entries amount body) fs p.1 in
    let few : length (entry_names (entries amount body)) ≤ names_max = omega (arith, le_true amount (entries_room len) test.1, room, length_names (entries amount body), how_many amount body) in
    subst (λ (gs : List Entry). IsNameListing (entry_names gs)) q.2 (q.0, q.1, few)

either_of : {X : Type 0} (a b : Option X) (y : X) → option_or a b ≡ Some y → (a ≡ Some y) ⊎ (b ≡ Some y)
either_of None b y e = inr e
either_of (Some x) b y e = inl e

module _ (len : ℕ) (x : List ℕ) (fs : List Entry) (room : entries_room len ≤ names_max) where
  abbrev kind_in : ℕ
  kind_in = little_number 4 (drop 8 x)

  abbrev amount_in : ℕ
  amount_in = little_number 4 (drop 12 x)

  in_block : inode_in len x ≡ Some (directory fs) → IsNameListing (entry_names fs)
  in_block e =
      let p = passed (begins_with magic x) (λ _. of_kind len kind_in amount_in (drop 16 x)) (directory fs) e in
      elim (either_of (as_directory len kind_in amount_in (drop 16 x)) (as_regular len kind_in amount_in (drop 16 x)) (directory fs) p.1) [
        | inl is ↦ in_directory len kind_in amount_in (drop 16 x) fs is room
        | inr is ↦ absurd (is_no_directory len kind_in amount_in (drop 16 x) fs is)
      ]

room_of : (g : Geometry) → IsLawful g → entries_room (block_len g) ≤ names_max
room_of g lawful = few (few_sectors lawful.sectors)
  where
    few_sectors : (g.sectors ≡ 1) ⊎ (g.sectors ≡ 2) ⊎ (g.sectors ≡ 4) ⊎ (g.sectors ≡ 8) → g.sectors ≤ 8
    few_sectors (inl e) = omega (arith, e)
    few_sectors (inr (inl e)) = omega (arith, e)
    few_sectors (inr (inr (inl e))) = omega (arith, e)
    few_sectors (inr (inr (inr e))) = omega (arith, e)

    few : g.sectors ≤ 8 → entries_room (block_len g) ≤ names_max
    few h = omega (arith, h)

first_listed : (n : Name) (x : InodeNode) (o : Option InodeEntries) (xs : InodeEntries) → with_first n x o ≡ Some xs → (zs : InodeEntries) × (o ≡ Some zs) × (names xs ≡ n ∷ names zs) × (NamesListed x → AllListed zs → AllListed xs)
first_listed n nothing None xs e = absurd (cc)
first_listed n nothing (Some zs) xs e = absurd (cc)
first_listed n (a_file f) None xs e = absurd (cc)
first_listed n (a_file f) (Some zs) xs e = let same : file n f zs ≡ xs = cc in (zs, refl, sym (ap (λ (ys : InodeEntries). names ys) same), λ h k. subst (λ (ys : InodeEntries). AllListed ys) same k)
first_listed n (a_dir b inside) None xs e = absurd (cc)
first_listed n (a_dir b inside) (Some zs) xs e = let same : dir n b inside zs ≡ xs = cc in (zs, refl, sym (ap (λ (ys : InodeEntries). names ys) same), λ h k. subst (λ (ys : InodeEntries). AllListed ys) same (h.0, h.1, k))

entries_listed : (read : ℕ → InodeNode) → ((b : ℕ) → NamesListed (read b)) → (es : List Entry) (xs : InodeEntries) → entries_by read es ≡ Some xs → (names xs ≡ entry_names es) × AllListed xs
entries_listed read all [] xs e = let same : none ≡ xs = cc in (sym (ap (λ (ys : InodeEntries). names ys) same), subst (λ (ys : InodeEntries). AllListed ys) same tt)
entries_listed read all (f ∷ fs) xs e =
    let parts = first_listed f.name (read f.block) (entries_by read fs) xs e in
    let later = entries_listed read all fs parts.0 parts.1 in
    (parts.2 ∙ ap (λ ns. f.name ∷ ns) later.0, parts.3 (all f.block) later.1)

module _ (read : ℕ → InodeNode) (all : (b : ℕ) → NamesListed (read b)) (b : ℕ) where
  as_dir_listed : (es : List Entry) → IsNameListing (entry_names es) → (o : Option InodeEntries) → entries_by read es ≡ o → NamesListed (as_dir b o)
  as_dir_listed es h None e = tt
  as_dir_listed es h (Some xs) e = let one = entries_listed read all es xs e in (subst (λ ns. IsNameListing ns) (sym one.0) h, one.1)

  node_by_listed : (o : Option Inode) → ((es : List Entry) → o ≡ Some (directory es) → IsNameListing (entry_names es)) → NamesListed (node_by read b o)
  node_by_listed None h = tt
  node_by_listed (Some (directory es)) h = as_dir_listed es (h es refl) (entries_by read es) refl
  node_by_listed (Some (regular size blocks)) h = tt

module _ (w : World) (lawful : IsLawful w.geometry) where
  inode_listed : (b : ℕ) (es : List Entry) → inode_at w b ≡ Some (directory es) → IsNameListing (entry_names es)
  inode_listed b es e = by_contents (contents w b) e
    where
      by_contents : (o : Option (List ℕ)) → option_and_then (inode_in (block_len w.geometry)) o ≡ Some (directory es) → IsNameListing (entry_names es)
      by_contents None k = absurd (cc)
      by_contents (Some x) k = in_block (block_len w.geometry) x es (room_of w.geometry lawful) k

  node_listed : (more b : ℕ) → NamesListed (node_at w more b)
  node_listed zero b = tt
  node_listed (suc more) b = node_by_listed (λ c. node_at w more c) (node_listed more) b (inode_at w b) (inode_listed b)

  root_listed : (x : InodeNode) → NamesListed x → NamesListed (as_root w x)
  root_listed nothing h = tt
  root_listed (a_file f) h = tt
  root_listed (a_dir root es) h = elim (inodes_right w root es) as (λ t. NamesListed {D = ℕ} {F = FileInode} (cond t (a_dir root es) nothing)) [
    | true ↦ h
    | false ↦ tt
  ]

  same_names : (es : InodeEntries) → names (tree_entries w es) ≡ names es
  same_names none = refl
  same_names (file n f rest) = ap (λ ns. n ∷ ns) (same_names rest)
  same_names (dir n b inside rest) = ap (λ ns. n ∷ ns) (same_names rest)

  same_listed : (es : InodeEntries) → AllListed es → AllListed (tree_entries w es)
  same_listed none h = tt
  same_listed (file n f rest) h = same_listed rest h
  same_listed (dir n b inside rest) h = (subst (λ ns. IsNameListing ns) (sym (same_names inside)) h.0, same_listed inside h.1, same_listed rest h.2)

  tree_listed : (x : InodeNode) → NamesListed x → NamesListed (tree_of w x)
  tree_listed nothing h = tt
  tree_listed (a_file f) h = tt
  tree_listed (a_dir b es) h = (subst (λ ns. IsNameListing ns) (sym (same_names es)) h.0, same_listed es h.1)

  pub inodes_listed : (root : ℕ) → NamesListed (inode_tree w root)
  inodes_listed root = tree_listed (inodes_under w root) (root_listed (node_at w (suc path_max) root) (node_listed (suc path_max) root))

-- ---- a name put among others

abbrev with_name : Name → List Name → List Name
with_name n [] = n ∷ []
with_name n (m ∷ ms) = cond (name_lt n m) (n ∷ m ∷ ms) (cond (name_lt m n) (m ∷ with_name n ms) (n ∷ ms))

names_with : (n : Name) (x : List ℕ) (es : Entries ⊤ (List ℕ)) → names (with_entry n (a_file x) es) ≡ with_name n (names es)
names_with n x none = refl
names_with n x (file m f rest) = elim (name_lt n m) as (λ t. names {D = ⊤} {F = List ℕ} (cond t (before n (a_file x) (file m f rest)) (cond (name_lt m n) (file m f (with_entry n (a_file x) rest)) (before n (a_file x) rest))) ≡ cond t (n ∷ m ∷ names rest) (cond (name_lt m n) (m ∷ with_name n (names rest)) (n ∷ names rest))) [
  | true ↦ refl
  | false ↦ elim (name_lt m n) as (λ t. names {D = ⊤} {F = List ℕ} (cond t (file m f (with_entry n (a_file x) rest)) (before n (a_file x) rest)) ≡ cond t (m ∷ with_name n (names rest)) (n ∷ names rest)) [
    | true ↦ ap (λ ns. m ∷ ns) (names_with n x rest)
    | false ↦ refl
  ]
]
names_with n x (dir m d inside rest) = elim (name_lt n m) as (λ t. names {D = ⊤} {F = List ℕ} (cond t (before n (a_file x) (dir m d inside rest)) (cond (name_lt m n) (dir m d inside (with_entry n (a_file x) rest)) (before n (a_file x) rest))) ≡ cond t (n ∷ m ∷ names rest) (cond (name_lt m n) (m ∷ with_name n (names rest)) (n ∷ names rest))) [
  | true ↦ refl
  | false ↦ elim (name_lt m n) as (λ t. names {D = ⊤} {F = List ℕ} (cond t (dir m d inside (with_entry n (a_file x) rest)) (before n (a_file x) rest)) ≡ cond t (m ∷ with_name n (names rest)) (n ∷ names rest)) [
    | true ↦ ap (λ ns. m ∷ ns) (names_with n x rest)
    | false ↦ refl
  ]
]

listed_with : (n : Name) (x : List ℕ) (es : Entries ⊤ (List ℕ)) → AllListed es → AllListed (with_entry n (a_file x) es)
listed_with n x none h = tt
listed_with n x (file m f rest) h = elim (name_lt n m) as (λ t. AllListed {D = ⊤} {F = List ℕ} (cond t (before n (a_file x) (file m f rest)) (cond (name_lt m n) (file m f (with_entry n (a_file x) rest)) (before n (a_file x) rest)))) [
  | true ↦ h
  | false ↦ elim (name_lt m n) as (λ t. AllListed {D = ⊤} {F = List ℕ} (cond t (file m f (with_entry n (a_file x) rest)) (before n (a_file x) rest))) [
    | true ↦ listed_with n x rest h
    | false ↦ h
  ]
]
listed_with n x (dir m d inside rest) h = elim (name_lt n m) as (λ t. AllListed {D = ⊤} {F = List ℕ} (cond t (before n (a_file x) (dir m d inside rest)) (cond (name_lt m n) (dir m d inside (with_entry n (a_file x) rest)) (before n (a_file x) rest)))) [
  | true ↦ h
  | false ↦ elim (name_lt m n) as (λ t. AllListed {D = ⊤} {F = List ℕ} (cond t (dir m d inside (with_entry n (a_file x) rest)) (before n (a_file x) rest))) [
    | true ↦ (h.0, h.1, listed_with n x rest h.2)
    | false ↦ h.2
  ]
]

named_with : (n : Name) (ms : List Name) → is_name n ≡ true → list_all is_name ms ≡ true → list_all is_name (with_name n ms) ≡ true
named_with n [] h k = and_from (is_name n) true h refl
named_with n (m ∷ ms) h k =
    let parts = and_parts (is_name m) (list_all is_name ms) k in
    elim (name_lt n m) as (λ t. list_all is_name (cond t (n ∷ m ∷ ms) (cond (name_lt m n) (m ∷ with_name n ms) (n ∷ ms))) ≡ true) [
      | true ↦ and_from (is_name n) _ h k
      | false ↦ elim (name_lt m n) as (λ t. list_all is_name (cond t (m ∷ with_name n ms) (n ∷ ms)) ≡ true) [
        | true ↦ and_from (is_name m) _ parts.0 (named_with n ms h parts.1)
        | false ↦ and_from (is_name n) _ h parts.1
      ]
    ]

below_with : (l n : Name) (ms : List Name) → name_lt l n ≡ true → is_below_first_name l ms ≡ true → is_below_first_name l (with_name n ms) ≡ true
below_with l n [] h k = h
below_with l n (m ∷ ms) h k = elim (name_lt n m) as (λ t. is_below_first_name l (cond t (n ∷ m ∷ ms) (cond (name_lt m n) (m ∷ with_name n ms) (n ∷ ms))) ≡ true) [
  | true ↦ h
  | false ↦ elim (name_lt m n) as (λ t. is_below_first_name l (cond t (m ∷ with_name n ms) (n ∷ ms)) ≡ true) [
    | true ↦ k
    | false ↦ h
  ]
]

ascending_with : (n : Name) (ms : List Name) → are_ascending ms ≡ true → are_ascending (with_name n ms) ≡ true
ascending_with n [] h = refl
ascending_with n (m ∷ ms) h =
    let parts = and_parts (is_below_first_name m ms) (are_ascending ms) h in
    elim (name_lt n m) as (λ t. name_lt n m ≡ t → are_ascending (cond t (n ∷ m ∷ ms) (cond (name_lt m n) (m ∷ with_name n ms) (n ∷ ms))) ≡ true) [
      | true ↦ λ k. and_from (name_lt n m) _ k h
      | false ↦ λ k. elim (name_lt m n) as (λ t. name_lt m n ≡ t → are_ascending (cond t (m ∷ with_name n ms) (n ∷ ms)) ≡ true) [
        | true ↦ λ g. and_from (is_below_first_name m (with_name n ms)) _ (below_with m n ms g parts.0) (ascending_with n ms parts.1)
        | false ↦ λ g. let same = names_meet n m k g in and_from (is_below_first_name n ms) _ (ap (λ l. is_below_first_name l ms) same ∙ parts.0) parts.1
      ] refl
    ] refl

few_with : (n : Name) (ms : List Name) → length (with_name n ms) ≤ suc (length ms)
few_with n [] = omega arith
few_with n (m ∷ ms) = elim (name_lt n m) as (λ t. length (cond t (n ∷ m ∷ ms) (cond (name_lt m n) (m ∷ with_name n ms) (n ∷ ms))) ≤ suc (suc (length ms))) [
  | true ↦ omega arith
  | false ↦ elim (name_lt m n) as (λ t. length (cond t (m ∷ with_name n ms) (n ∷ ms)) ≤ suc (suc (length ms))) [
    | true ↦ let later = few_with n ms in omega (arith, later)
    | false ↦ omega arith
  ]
]

-- ---- chains

abbrev has_name : ChainFile → Bool
has_name f = is_name f.name

abbrev is_named : Option ChainFile → Bool
is_named None = true
is_named (Some f) = has_name f

entries_named : (len : ℕ) (c : Cluster) (es : List Entry) → entries_of len c ≡ Some es → all_named es ≡ true
entries_named len c es e =
    let p = passed (nat_le c.used (entries_room len)) _ es e in
    let q = passed (all_named (entries c.used c.body)) (λ _. Some (entries c.used c.body)) es p.1 in
    let same : ◌≡◌ {A = Option (List Entry)} (Some (entries c.used c.body)) (Some es) = q.1 in
    let is : entries c.used c.body ≡ es = cc in
    subst (λ (fs : List Entry). all_named fs ≡ true) is q.0

all_both : (os ps : List (Option ChainFile)) → list_all is_named os ≡ true → list_all is_named ps ≡ true → list_all is_named (os ++ ps) ≡ true
all_both [] ps h k = k
all_both (o ∷ os) ps h k = let parts = and_parts (is_named o) (list_all is_named os) h in and_from (is_named o) _ parts.0 (all_both os ps parts.1 k)

module _ (w : World) where
  file_named : (from : ℕ) (e : Entry) (o : Option (List Link)) → is_name e.name ≡ true → is_named (file_of w from e o) ≡ true
  file_named from e None h = refl
  file_named from e (Some ls) h = elim (is_filled (bytes_room (block_len w.geometry)) ls) as (λ t. is_named (only_if t (λ _. Some (record { name = e.name; from = from; chain = ls }))) ≡ true) [
    | true ↦ h
    | false ↦ refl
  ]

  files_named : (l : Link) (es : List Entry) → all_named es ≡ true → list_all is_named (map (file_at w l.block) es) ≡ true
  files_named l [] h = refl
  files_named l (e ∷ es) h =
      let parts = and_parts (is_name e.name) (all_named es) h in
      and_from (is_named (file_at w l.block e)) _ (file_named l.block e (chain_at w w.geometry.blocks e.block) parts.0) (files_named l es parts.1)

  cluster_named : (l : Link) (o : Option (List Entry)) → entries_of (block_len w.geometry) l.cluster ≡ o → list_all is_named (files_of w l o) ≡ true
  cluster_named l None e = refl
  cluster_named l (Some es) e = files_named l es (entries_named (block_len w.geometry) l.cluster es e)

  all_files_named : (ls : List Link) → list_all is_named (flat_map (λ l. files_of w l (entries_of (block_len w.geometry) l.cluster)) ls) ≡ true
  all_files_named [] = refl
  all_files_named (l ∷ ls) = all_both (files_of w l (entries_of (block_len w.geometry) l.cluster)) _ (cluster_named l (entries_of (block_len w.geometry) l.cluster) refl) (all_files_named ls)

there_named : (os : List (Option ChainFile)) (fs : List ChainFile) → list_all is_named os ≡ true → all_there os ≡ Some fs → list_all has_name fs ≡ true
there_named [] fs h e = let same : [] ≡ fs = cc in subst (λ (gs : List ChainFile). list_all has_name gs ≡ true) same refl
there_named (None ∷ os) fs h e = absurd (cc)
there_named (Some f ∷ os) fs h e = let parts = and_parts (has_name f) (list_all is_named os) h in more (all_there os) (λ gs k. there_named os gs parts.1 k) e
  where
    more : (o : Option (List ChainFile)) → ((gs : List ChainFile) → o ≡ Some gs → list_all has_name gs ≡ true) → option_map (λ gs. f ∷ gs) o ≡ Some fs → list_all has_name fs ≡ true
    more None k g = absurd (cc)
    more (Some gs) k g = let same : f ∷ gs ≡ fs = cc in subst (λ (xs : List ChainFile). list_all has_name xs ≡ true) same (and_from (has_name f) _ (and_parts (has_name f) (list_all is_named os) h).0 (k gs refl))

files_listed : (fs : List ChainFile) → list_all has_name fs ≡ true → (list_all is_name (names (tree_of_files fs)) ≡ true) × (are_ascending (names (tree_of_files fs)) ≡ true) × (length (names (tree_of_files fs)) ≤ length fs) × AllListed (tree_of_files fs)
files_listed [] h = (refl, refl, omega arith, tt)
files_listed (f ∷ fs) h =
    let parts = and_parts (has_name f) (list_all has_name fs) h in
    let x = chain_bytes f.chain in
    let later = files_listed fs parts.1 in
    let is = sym (names_with f.name x (tree_of_files fs)) in
    let few = few_with f.name (names (tree_of_files fs)) in
    let few_now : length (with_name f.name (names (tree_of_files fs))) ≤ suc (length fs) = omega (arith, few, later.2) in (
      subst (λ ns. list_all is_name ns ≡ true) is (named_with f.name (names (tree_of_files fs)) parts.0 later.0),
      subst (λ ns. are_ascending ns ≡ true) is (ascending_with f.name (names (tree_of_files fs)) later.1),
      subst (λ (ns : List Name). length ns ≤ suc (length fs)) is few_now,
      listed_with f.name x (tree_of_files fs) later.3,
    )

module _ (w : World) where
  with_files_listed : (ls : List Link) (fs : List ChainFile) → list_all has_name fs ≡ true → NamesListed (as_tree (with_files w ls (Some fs)))
  with_files_listed ls fs h = by_test (are_right w c) refl
    where
      c : Chains
      c = record { directory = ls; files = fs }

      by_test : (t : Bool) → are_right w c ≡ t → NamesListed (as_tree (only_if t (λ _. Some c)))
      by_test false e = tt
      by_test true e =
          let few : length fs ≤ names_max = le_true (length fs) names_max (and_parts (list_all (λ k. holds w.pairs k.0 k.1) (chain_pairs c) && are_apart (chain_blocks c) && are_distinct (map (λ f. f.name) c.files)) (nat_le (length c.files) names_max) e).1 in
          let one = files_listed fs h in
          let short : length (names (tree_of_files fs)) ≤ names_max = omega (arith, one.2, few) in
          ((one.0, one.1, short), one.3)

  directory_listed : (o : Option (List Link)) → NamesListed (as_tree (with_directory w o))
  directory_listed None = tt
  directory_listed (Some ls) = by_files (files_in w ls) refl
    where
      by_files : (o : Option (List ChainFile)) → files_in w ls ≡ o → NamesListed (as_tree (with_files w ls o))
      by_files None e = tt
      by_files (Some fs) e = with_files_listed ls fs (there_named (flat_map (λ l. files_of w l (entries_of (block_len w.geometry) l.cluster)) ls) fs (all_files_named w ls) e)

  pub chains_listed : (root : ℕ) → NamesListed (chain_tree w root)
  chains_listed root = directory_listed (chain_at w w.geometry.blocks root)

-- ---- the whole

pub tree_listed_at : (kind : ShellKind) (w : World) (root : ℕ) → IsLawful w.geometry → NamesListed (tree_at kind w root)
tree_listed_at ByInodes w root lawful = inodes_listed w lawful root
tree_listed_at ByChains w root lawful = chains_listed w root

-- A directory of a tree lists names in their order, and at most 4,096.
pub tree_lists : (kind : ShellKind) (w : World) (root : ℕ) (path : Path) → IsLawful w.geometry → IsNameListing (names_in (at (tree_at kind w root) path))
tree_lists kind w root path lawful = names_listed (at (tree_at kind w root) path) (at_listed (tree_at kind w root) path (tree_listed_at kind w root lawful))

pub nothing_lists : (path : Path) → IsNameListing (names_in (at {D = ⊤} {F = List ℕ} nothing path))
nothing_lists path = names_listed (at nothing path) (at_listed {D = ⊤} {F = List ℕ} nothing path tt)
