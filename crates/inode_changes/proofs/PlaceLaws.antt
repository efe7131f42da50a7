-- What stands at the lookup of a path.
use Rattle.std.proofs.Common.{◌≡◌, ℕ, suc, true, false, ◌&&◌, nat_lt, List, [], ◌∷◌, ◌++◌, length, refl, sym, ◌∙◌, ap, Some, None, Ok}
use Rattle.inode_changes.proofs.Common.{map, is_some, Path, nothing, a_file, a_dir, child, at, is_there, names_in, Entry, entry_names, Inode, directory, regular, InodeNode, inode_at, node_at, inodes_under, tree_entries, inode_tree, directory_of, read_named, DiskView, IsValidNow, Client, MayWrite, inode_of, is_directory, blocks_said, entries_said, Lookup, tree_under, IsLookup, named_block, block_said, file_node, dir_node, child_node, a_level, may_read, has_inode, child_there, dir_said, first_names, tree_names}
use Rattle.fs_trees.specs.InodeTree as inodes
use Rattle.fs_laws.proofs.MapLaws.{tree-at}
use Rattle.fs_laws.proofs.AtLaws.{at_last}

module _ (c : Client) (v : DiskView) (path : Path) (lookup : Lookup) (is_dir : is_directory (inode_of lookup.directory.inode) ≡ true) (i : IsLookup c v path lookup) where
  abbrev es : List Entry
  es = entries_said (inode_of lookup.directory.inode)

  pub says : inode_at v.world lookup.directory.block ≡ Some (directory (entries_said (inode_of lookup.directory.inode)))
  says = i.above.stands.says ∙ ap (λ x. Some x) (dir_said (inode_of lookup.directory.inode) is_dir)

  pub place_at : at (tree_under c v) path ≡ inodes.tree_of v.world (read_named (λ k. node_at v.world i.above.more k) lookup.old)
  place_at =
      sym (tree-at v.world path (inodes_under v.world c.root))
      ∙ ap (inodes.tree_of v.world) (ap (at (inodes_under v.world c.root)) i.name ∙ (at_last (directory_of path) lookup.name.now (inodes_under v.world c.root)
      ∙ (ap (child lookup.name.now) i.above.node ∙ (child_node v.world i.above.more lookup.directory.block i.above.stands.there lookup.name.now es says ∙ ap (read_named (λ k. node_at v.world i.above.more k)) (sym i.old)))))

  pub none_at : lookup.old ≡ None → is_there (at (tree_under c v) path) ≡ false
  none_at none_old = ap is_there (place_at ∙ ap (λ o. inodes.tree_of v.world (read_named (λ k. node_at v.world i.above.more k) o)) none_old)

  module _ (b : ℕ) (some : lookup.old ≡ Some b) where
    pub said_place : block_said lookup.name.now (inode_of lookup.directory.inode) ≡ Ok b
    said_place = ap (block_said lookup.name.now) (dir_said (inode_of lookup.directory.inode) is_dir) ∙ ap named_block (sym i.old ∙ some)

    pub old_at : at (tree_under c v) path ≡ inodes.tree_of v.world (node_at v.world i.above.more b)
    old_at = place_at ∙ ap (λ o. inodes.tree_of v.world (read_named (λ k. node_at v.world i.above.more k) o)) some

    pub old_is_there : is_there (node_at v.world i.above.more b) ≡ true
    old_is_there = child_there c v i.above.more lookup.directory i.above.stands lookup.name.now b said_place

    -- its inode may be read
    pub may_read_old : IsValidNow v → MayWrite c v b
    may_read_old now = may_read c v i.above.more lookup.directory i.above.stands lookup.name.now b said_place now (record { number = i.above.stands.may.number; begun = i.above.stands.may.begun })

    pub has_old : is_some (inode_at v.world b) ≡ true
    has_old = has_inode c v i.above.more lookup.directory i.above.stands lookup.name.now b said_place

    pub there_at : is_there (at (tree_under c v) path) ≡ true
    there_at = ap is_there old_at ∙ tree_there (node_at v.world i.above.more b) old_is_there
      where
        tree_there : (x : InodeNode) → is_there x ≡ true → is_there (inodes.tree_of v.world x) ≡ true
        tree_there nothing h = absurd (cc)
        tree_there (a_file f) h = refl
        tree_there (a_dir b es) h = refl

    module _ (k : Inode) (is : inode_at v.world b ≡ Some k) where
      pub entries_at : nat_lt 0 (length (names_in (at (tree_under c v) path))) ≡ (is_directory k && nat_lt 0 (length (blocks_said k)))
      entries_at =
          let level = a_level v.world i.above.more b old_is_there in
          ap (λ x. nat_lt 0 (length (names_in x))) (old_at ∙ ap (λ m. inodes.tree_of v.world (node_at v.world m b)) level.1)
          ∙ by_kind k (ap (λ m. is_there (node_at v.world m b)) (sym level.1) ∙ old_is_there) is
        where
          lengths : (fs : List Entry) → length (entry_names fs) ≡ length (map (λ e. e.block) fs)
          lengths [] = refl
          lengths (f ∷ fs) = ap suc (lengths fs)

          by_kind : (k : Inode) → is_there (node_at v.world (suc (a_level v.world i.above.more b old_is_there).0) b) ≡ true → inode_at v.world b ≡ Some k
              → nat_lt 0 (length (names_in (inodes.tree_of v.world (node_at v.world (suc (a_level v.world i.above.more b old_is_there).0) b)))) ≡ (is_directory k && nat_lt 0 (length (blocks_said k)))
          by_kind (directory fs) h e =
              let less = (a_level v.world i.above.more b old_is_there).0 in
              let d = dir_node v.world less b h fs e in
              ap (λ x. nat_lt 0 (length (names_in (inodes.tree_of v.world x)))) d.2
              ∙ ap (nat_lt 0) (ap length (tree_names v.world d.0 ∙ first_names (λ m. node_at v.world less m) fs d.0 d.1) ∙ lengths fs)
          by_kind (regular size blocks) h e =
              let less = (a_level v.world i.above.more b old_is_there).0 in
              ap (λ x. nat_lt 0 (length (names_in (inodes.tree_of v.world x)))) (file_node v.world less b h size blocks e)
