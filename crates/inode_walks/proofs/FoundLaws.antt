-- What was found at a path, and what isn't a file or a directory there.
use Rattle.std.proofs.Common.{◌≡◌, ℕ, suc, ◌-◌, ◌<◌, ◌≤◌, get_or, true, false, subst, arith, List, [], ◌∷◌, ◌++◌, length, take, refl, sym, ◌∙◌, ap, Option, Some, None}
use Rattle.inode_walks.proofs.Common.{World, Name, Path, Tree, none, file, dir, nothing, a_file, a_dir, entry, at, is_file, is_dir, names, names_in, Entry, entry_names, block_named, InodeNode, InodeEntries, entries_by, node_at, with_first, tree_entries, inode_tree, first_of, when, directory_of, lost_on_the_way, no_file, no_dir, FsRefusal, DiskView, Client, inode_of, blocks_said, is_directory, amount_said, entries_said, entry_said, Found, tree_under, StandsAtPath, IsLookup, not_found, no_file_found, no_directory_found}
use Rattle.fs_trees.specs.Inode as tree
use Rattle.fs_trees.specs.InodeTree as inodes
use Rattle.fs_trees.specs.declared.refusal.FsRefusal.TheVariants as no
use Rattle.inode_walks.specs.declared.finding.Lookup.{Lookup}
use Rattle.fs_client.specs.Changing.{lookup_refusal}
use Rattle.inode_walks.proofs.WalkLaws.{file_node, dir_node}
use Rattle.inode_walks.proofs.FileLaws.{file_said, tree_there}

pub dir_said : (i : tree.Inode) → is_directory i ≡ true → i ≡ tree.directory (entries_said i)
dir_said (tree.directory es) h = refl
dir_said (tree.regular size blocks) h = absurd (cc)

module _ (c : Client) (v : DiskView) (p : Path) (found : Found) (i : StandsAtPath c v p found) where
  -- a directory's node
  pub dir_found : is_directory (inode_of found.inode) ≡ true → (xs : InodeEntries) × (entries_by (λ b. node_at v.world i.more b) (entries_said (inode_of found.inode)) ≡ Some xs) × (node_at v.world (suc i.more) found.block ≡ a_dir found.block xs)
  dir_found h = dir_node v.world i.more found.block i.stands.there (entries_said (inode_of found.inode)) (i.stands.says ∙ ap (λ x. Some x) (dir_said (inode_of found.inode) h))

  dir_tree : is_directory (inode_of found.inode) ≡ true → (xs : InodeEntries) × (at (tree_under c v) p ≡ a_dir tt (tree_entries v.world xs))
  dir_tree h = let d = dir_found h in (d.0, tree_there c v p found i ∙ ap (inodes.tree_of v.world) d.2)

  file_tree : is_directory (inode_of found.inode) ≡ false → (x : List ℕ) × (at (tree_under c v) p ≡ a_file x)
  file_tree h =
      let node = file_node v.world i.more found.block i.stands.there (amount_said (inode_of found.inode)) (blocks_said (inode_of found.inode)) (i.stands.says ∙ ap (λ x. Some x) (file_said (inode_of found.inode) h)) in
      (inodes.file_bytes v.world (record { block = found.block; size = amount_said (inode_of found.inode); blocks = blocks_said (inode_of found.inode) }), tree_there c v p found i ∙ ap (inodes.tree_of v.world) node)

  pub a_dir_there : is_directory (inode_of found.inode) ≡ true → (is_dir (at (tree_under c v) p) ≡ true) × (is_file (at (tree_under c v) p) ≡ false)
  a_dir_there h = let d = dir_tree h in (ap is_dir d.1, ap is_file d.1)

  pub a_file_there : is_directory (inode_of found.inode) ≡ false → (is_dir (at (tree_under c v) p) ≡ false) × (is_file (at (tree_under c v) p) ≡ true)
  a_file_there h = let d = file_tree h in (ap is_dir d.1, ap is_file d.1)

-- and so it was before
module _ (c : Client) (old new : DiskView) (p : Path) (found : Found) (i : StandsAtPath c new p found) (same : new.world ≡ old.world) where
  pub a_dir_was : is_directory (inode_of found.inode) ≡ true → (is_dir (at (tree_under c old) p) ≡ true) × (is_file (at (tree_under c old) p) ≡ false)
  a_dir_was h = let d = a_dir_there c new p found i h in
      (ap (λ w. is_dir (at (inode_tree w c.root) p)) (sym same) ∙ d.0, ap (λ w. is_file (at (inode_tree w c.root) p)) (sym same) ∙ d.1)

  pub a_file_was : is_directory (inode_of found.inode) ≡ false → (is_dir (at (tree_under c old) p) ≡ false) × (is_file (at (tree_under c old) p) ≡ true)
  a_file_was h = let d = a_file_there c new p found i h in
      (ap (λ w. is_dir (at (inode_tree w c.root) p)) (sym same) ∙ d.0, ap (λ w. is_file (at (inode_tree w c.root) p)) (sym same) ∙ d.1)

-- ---- whether a file or a directory is found

pub lost_file : (t : Tree) (p : Path) (e : FsRefusal) → not_found t p ≡ Some e → no_file_found t p ≡ Some e
lost_file t p e h = ap (λ o. first_of (o ∷ no_file t p ∷ [])) h

pub lost_directory : (t : Tree) (p : Path) (e : FsRefusal) → not_found t p ≡ Some e → no_directory_found t p ≡ Some e
lost_directory t p e h = ap (λ o. first_of (o ∷ no_dir t p ∷ [])) h

pub file_found : (t : Tree) (p : Path) → ◌≡◌ {A = Option FsRefusal} (not_found t p) None → is_dir (at t p) ≡ false → ◌≡◌ {A = Option FsRefusal} (no_file_found t p) None
file_found t p h k = ap (λ o. first_of (o ∷ no_file t p ∷ [])) h ∙ ap (λ b. first_of (when b no.IsDir ∷ [])) k

pub dir_in_place : (t : Tree) (p : Path) → ◌≡◌ {A = Option FsRefusal} (not_found t p) None → is_dir (at t p) ≡ true → no_file_found t p ≡ Some no.IsDir
dir_in_place t p h k = ap (λ o. first_of (o ∷ no_file t p ∷ [])) h ∙ ap (λ b. first_of (when b no.IsDir ∷ [])) k

pub directory_found : (t : Tree) (p : Path) → ◌≡◌ {A = Option FsRefusal} (not_found t p) None → is_file (at t p) ≡ false → ◌≡◌ {A = Option FsRefusal} (no_directory_found t p) None
directory_found t p h k = ap (λ o. first_of (o ∷ no_dir t p ∷ [])) h ∙ ap (λ b. first_of (when b no.NotDir ∷ [])) k

pub file_in_place : (t : Tree) (p : Path) → ◌≡◌ {A = Option FsRefusal} (not_found t p) None → is_file (at t p) ≡ true → no_directory_found t p ≡ Some no.NotDir
file_in_place t p h k = ap (λ o. first_of (o ∷ no_dir t p ∷ [])) h ∙ ap (λ b. first_of (when b no.NotDir ∷ [])) k

-- ---- the directory above

pub above_is : (way : Path) (n : Name) → directory_of (way ++ n ∷ []) ≡ way
above_is [] n = refl
above_is (m ∷ []) n = refl
above_is (m ∷ k ∷ ms) n = ap (λ p. m ∷ p) (above_is (k ∷ ms) n)

-- what is lost on the way is what is found above, if that is no directory
pub lost_above : (t : Tree) (way : Path) (n : Name) → lost_on_the_way t (way ++ n ∷ []) ≡ no_directory_found t way
lost_above nothing [] n = refl
lost_above (a_file x) [] n = refl
lost_above (a_dir d es) [] n = refl
lost_above nothing (m ∷ ms) n = refl
lost_above (a_file x) (m ∷ ms) n = refl
lost_above (a_dir d es) (m ∷ ms) n = lost_above (entry m es) ms n

-- ---- the names of a directory

by_first : (n : Name) (ns : List Name) (x : InodeNode) (o : Option InodeEntries) (xs : InodeEntries) → ((zs : InodeEntries) → o ≡ Some zs → names zs ≡ ns) → with_first n x o ≡ Some xs → names xs ≡ n ∷ ns
by_first n ns nothing None xs rest g = absurd (cc)
by_first n ns nothing (Some zs) xs rest g = absurd (cc)
by_first n ns (a_file f) None xs rest g = absurd (cc)
by_first n ns (a_file f) (Some zs) xs rest g = let same : file n f zs ≡ xs = cc in ap names (sym same) ∙ ap (λ ms. n ∷ ms) (rest zs refl)
by_first n ns (a_dir b inside) None xs rest g = absurd (cc)
by_first n ns (a_dir b inside) (Some zs) xs rest g = let same : dir n b inside zs ≡ xs = cc in ap names (sym same) ∙ ap (λ ms. n ∷ ms) (rest zs refl)

pub first_names : (read : ℕ → InodeNode) (es : List Entry) (xs : InodeEntries) → entries_by read es ≡ Some xs → names xs ≡ entry_names es
first_names read [] xs h = let same : none ≡ xs = cc in ap names (sym same)
first_names read (e ∷ es) xs h = by_first e.name (entry_names es) (read e.block) (entries_by read es) xs (λ zs k. first_names read es zs k) h

pub tree_names : (w : World) (xs : InodeEntries) → names (tree_entries w xs) ≡ names xs
tree_names w none = refl
tree_names w (file n f rest) = ap (λ ns. n ∷ ns) (tree_names w rest)
tree_names w (dir n b inside rest) = ap (λ ns. n ∷ ns) (tree_names w rest)

pub names_there : (c : Client) (v : DiskView) (p : Path) (found : Found) → (i : StandsAtPath c v p found) → is_directory (inode_of found.inode) ≡ true → names_in (at (tree_under c v) p) ≡ entry_names (entries_said (inode_of found.inode))
names_there c v p found i h =
    let d = dir_found c v p found i h in
    ap names_in (tree_there c v p found i ∙ ap (inodes.tree_of v.world) d.2)
    ∙ (tree_names v.world d.0 ∙ first_names (λ b. node_at v.world i.more b) (entries_said (inode_of found.inode)) d.0 d.1)

-- ---- the entry of a path

pub last_of : (xs : List Name) (x : Name) → 1 ≤ length xs → x ≡ get_or xs (length xs - 1) x → xs ≡ take (length xs - 1) xs ++ x ∷ []
last_of [] x h e = absurd (omega arith)
last_of (y ∷ []) x h e = ap (λ z. z ∷ []) (sym e)
last_of (y ∷ z ∷ zs) x h e =
    let before : suc (suc (length zs)) - 1 ≡ suc (length zs) = omega arith in
    let shorter : suc (length zs) - 1 ≡ length zs = omega arith in
    let here : x ≡ get_or (z ∷ zs) (suc (length zs) - 1) x = e ∙ (ap (λ n. get_or (y ∷ z ∷ zs) n x) before ∙ ap (λ n. get_or (z ∷ zs) n x) (sym shorter)) in
    ap (λ ys. y ∷ ys) (last_of (z ∷ zs) x (omega arith) here ∙ ap (λ n. take n (z ∷ zs) ++ x ∷ []) shorter)
    ∙ ap (λ n. take n (y ∷ z ∷ zs) ++ x ∷ []) (sym before)

pub no_name : (t : Tree) (p : Path) (r : FsRefusal) → length p < 1 → lookup_refusal t p r ≡ Some r
no_name t [] r h = refl
no_name t (n ∷ ns) r h = absurd (omega arith)

pub place_lost : (t : Tree) (p way : Path) (n : Name) (r : FsRefusal) → p ≡ way ++ n ∷ [] → lookup_refusal t p r ≡ no_directory_found t way
place_lost t p way n r e = ap (λ q. lookup_refusal t q r) e ∙ (some_name way ∙ lost_above t way n)
  where
    some_name : (way : Path) → lookup_refusal t (way ++ n ∷ []) r ≡ lost_on_the_way t (way ++ n ∷ [])
    some_name [] = refl
    some_name (m ∷ ms) = refl

pub entry_by : (n : Name) (i : tree.Inode) → entry_said n i ≡ block_named n (entries_said i)
entry_by n (tree.directory es) = refl
entry_by n (tree.regular size blocks) = refl

pub place_is : (c : Client) (v : DiskView) (p way : Path) (n : Name) (lookup : Lookup) → p ≡ way ++ n ∷ [] → lookup.name.now ≡ n → StandsAtPath c v way lookup.directory → lookup.old ≡ entry_said lookup.name.now (inode_of lookup.directory.inode) → IsLookup c v p lookup
place_is c v p way n lookup e named above old = record {
  above = subst (λ q. StandsAtPath c v q lookup.directory) (sym (ap directory_of e ∙ above_is way n)) above;
  name = e ∙ (ap (λ q. q ++ n ∷ []) (sym (ap directory_of e ∙ above_is way n)) ∙ ap (λ m. directory_of p ++ m ∷ []) (sym named));
  old = old ∙ entry_by lookup.name.now (inode_of lookup.directory.inode);
}
