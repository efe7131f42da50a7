-- What the deciding writes of chains leave under a root.
use Rattle.std.specs.Prelude.{◌≡◌, ℕ, ◌<◌, true, List, [], ◌∷◌, ◌++◌, length, Some, None}
use Rattle.tsd_model.specs.Geometry.{block_len}
use Rattle.tsd_model.specs.World.{World, are_apart}
use Rattle.tsd_model.specs.Pairs.{holds}
use Rattle.tsd_model.specs.Valid.{IsSized}
use Rattle.tsd_model.specs.Step.{with_contents}
use Rattle.fs_trees.specs.Names.{Name}
use Rattle.fs_trees.specs.Tree.{Tree, nothing, a_file, entry, with_at}
use Rattle.fs_trees.specs.Fields.{Entry}
use Rattle.fs_trees.specs.Cluster.{Cluster, cluster_in, entries_of, bytes_room}
use Rattle.fs_trees.specs.ChainTree.{Link, cluster_at, blocks_of, links, is_filled, ChainFile, chain_bytes, Chains}
use Rattle.fs_trees.specs.ChainTree.{chain_blocks, names_max, chains_under, tree_of_files, chain_tree}
use Rattle.chain_reading.specs.Chained.{IsFrom, IsChainFile, AreOthers}
use Rattle.chain_reading.specs.Changed.{file_names, relinked, Rewrites}

-- ---- the order of files

-- The tree doesn't depend on where a file stands among others of other names.
abbrev pub FilesInAnyOrder : Type 0
FilesInAnyOrder = (fs : List ChainFile) (f : ChainFile) (gs : List ChainFile) → AreOthers f.name (file_names fs)
    → tree_of_files (fs ++ f ∷ gs) ≡ tree_of_files (f ∷ (fs ++ gs))

-- A name stands for its file, and for nothing where no file has it.
abbrev pub NamesAreFound : Type 0
NamesAreFound =
    ((fs : List ChainFile) (f : ChainFile) (gs : List ChainFile) → AreOthers f.name (file_names fs)
    → entry f.name (tree_of_files (fs ++ f ∷ gs)) ≡ a_file (chain_bytes f.chain))
    × ((n : Name) (fs : List ChainFile) → AreOthers n (file_names fs) → entry n (tree_of_files fs) ≡ nothing)

-- ---- the directory

-- A file that hangs from an entry in the directory's cluster of this block, in blocks that nothing under the root
-- names.
pub record IsNewFile (w : World) (c : Chains) (namer : ℕ) (e : Entry) (f : ChainFile) : Type 0 where
  pub file : IsChainFile w namer e f
  pub fresh : are_apart (chain_blocks c ++ blocks_of f.chain) ≡ true
  pub held : (a b : ℕ) → holds (links (namer ∷ blocks_of f.chain)) a b ≡ true → holds w.pairs a b ≡ true

-- the chains under the root afterwards, and the tree
pub record Becomes (w : World) (root : ℕ) (block : ℕ) (bytes : List ℕ) (next : Chains) (t : Tree) : Type 0 where
  pub under : chains_under (with_contents w block bytes) root ≡ Some next
  pub tree : chain_tree (with_contents w block bytes) root ≡ t

-- the files with one in place of another
pub record FileSet (w : World) (root : ℕ) (c : Chains) (ls : List Link) (l : Link) (ms : List Link) (bytes : List ℕ)
    (cl : Cluster) (e : Entry) (f : ChainFile) : Type 0 where
  pub before : List ChainFile
  pub old : ChainFile
  pub behind : List ChainFile
  pub files : c.files ≡ before ++ (old ∷ behind)
  pub was : IsChainFile w l.block e old
  pub becomes : Becomes w root l.block bytes (record {
    directory = ls ++ relinked l cl ∷ ms;
    files = before ++ (f ∷ behind);
  }) (with_at (e.name ∷ []) (a_file (chain_bytes f.chain)) (chain_tree w root))

-- After the write of a cluster in which another entry of the same name stands for an entry, the name stands for the new
-- file.
abbrev pub EntryIsSet : Type 0
EntryIsSet =
    (w : World) (root : ℕ) (c : Chains) (ls : List Link) (l : Link) (ms : List Link) (bytes : List ℕ) (cl : Cluster)
    (es : List Entry) (e new : Entry) (fs : List Entry) (f : ChainFile)
    → chains_under w root ≡ Some c → Rewrites w c ls l ms bytes cl → cl.next ≡ l.cluster.next
    → entries_of (block_len w.geometry) l.cluster ≡ Some (es ++ (e ∷ fs))
    → entries_of (block_len w.geometry) cl ≡ Some (es ++ (new ∷ fs)) → new.name ≡ e.name
    → IsNewFile w c l.block new f
    → FileSet w root c ls l ms bytes cl e f

-- the files with one more
pub record FileAdded (w : World) (root : ℕ) (c : Chains) (ls : List Link) (l : Link) (ms : List Link) (bytes : List ℕ)
    (cl : Cluster) (f : ChainFile) : Type 0 where
  pub before : List ChainFile
  pub behind : List ChainFile
  pub files : c.files ≡ before ++ behind
  pub becomes : Becomes w root l.block bytes (record {
    directory = ls ++ relinked l cl ∷ ms;
    files = before ++ (f ∷ behind);
  }) (with_at (f.name ∷ []) (a_file (chain_bytes f.chain)) (chain_tree w root))

-- After the write of a cluster with one entry more, of a name that no file had, the name stands for the new file.
abbrev pub EntryIsAdded : Type 0
EntryIsAdded =
    (w : World) (root : ℕ) (c : Chains) (ls : List Link) (l : Link) (ms : List Link) (bytes : List ℕ) (cl : Cluster)
    (es : List Entry) (new : Entry) (fs : List Entry) (f : ChainFile)
    → chains_under w root ≡ Some c → Rewrites w c ls l ms bytes cl → cl.next ≡ l.cluster.next
    → entries_of (block_len w.geometry) l.cluster ≡ Some (es ++ fs)
    → entries_of (block_len w.geometry) cl ≡ Some (es ++ (new ∷ fs))
    → IsNewFile w c l.block new f → AreOthers f.name (file_names c.files) → length c.files < names_max
    → FileAdded w root c ls l ms bytes cl f

-- the files without one
pub record FileRemoved (w : World) (root : ℕ) (c : Chains) (ls : List Link) (l : Link) (ms : List Link) (bytes : List ℕ)
    (cl : Cluster) (e : Entry) : Type 0 where
  pub before : List ChainFile
  pub old : ChainFile
  pub behind : List ChainFile
  pub files : c.files ≡ before ++ (old ∷ behind)
  pub was : IsChainFile w l.block e old
  pub becomes : Becomes w root l.block bytes (record {
    directory = ls ++ relinked l cl ∷ ms;
    files = before ++ behind;
  }) (with_at (e.name ∷ []) nothing (chain_tree w root))

-- After the write of a cluster without an entry, its name stands for nothing.
abbrev pub EntryIsRemoved : Type 0
EntryIsRemoved =
    (w : World) (root : ℕ) (c : Chains) (ls : List Link) (l : Link) (ms : List Link) (bytes : List ℕ) (cl : Cluster)
    (es : List Entry) (e : Entry) (fs : List Entry)
    → chains_under w root ≡ Some c → Rewrites w c ls l ms bytes cl → cl.next ≡ l.cluster.next
    → entries_of (block_len w.geometry) l.cluster ≡ Some (es ++ (e ∷ fs))
    → entries_of (block_len w.geometry) cl ≡ Some (es ++ fs)
    → FileRemoved w root c ls l ms bytes cl e

-- A new last cluster of the directory, with one entry: it stands in a block that nothing under the root names, and the
-- last one points to it.
pub record IsNewCluster (w : World) (c : Chains) (last m : Link) (e : Entry) (f : ChainFile) : Type 0 where
  pub there : cluster_at w m.block ≡ Some m.cluster
  pub ends : m.cluster.next ≡ None
  pub entries : entries_of (block_len w.geometry) m.cluster ≡ Some (e ∷ [])
  pub file : IsChainFile w m.block e f
  pub fresh : are_apart (chain_blocks c ++ (m.block ∷ blocks_of f.chain)) ≡ true
  pub led : holds w.pairs last.block m.block ≡ true
  pub held : (a b : ℕ) → holds (links (m.block ∷ blocks_of f.chain)) a b ≡ true → holds w.pairs a b ≡ true

-- After the write of the directory's last cluster with such a one as the next, the name of its entry stands for the new
-- file.
abbrev pub DirectoryGrows : Type 0
DirectoryGrows =
    (w : World) (root : ℕ) (c : Chains) (ls : List Link) (l m : Link) (bytes : List ℕ) (cl : Cluster) (es : List Entry)
    (e : Entry) (f : ChainFile)
    → IsSized w → chains_under w root ≡ Some c → Rewrites w c ls l [] bytes cl → cl.next ≡ Some m.block
    → entries_of (block_len w.geometry) l.cluster ≡ Some es → entries_of (block_len w.geometry) cl ≡ Some es
    → IsNewCluster w c l m e f → AreOthers f.name (file_names c.files) → length c.files < names_max
    → Becomes w root l.block bytes (record {
      directory = ls ++ relinked l cl ∷ m ∷ [];
      files = c.files ++ (f ∷ []);
    }) (with_at (f.name ∷ []) (a_file (chain_bytes f.chain)) (chain_tree w root))

-- ---- a file

-- the file with another last cluster, and further ones
abbrev pub grown : ChainFile → List Link → Link → Cluster → List Link → ChainFile
grown f ks k cl more = record f { chain = ks ++ relinked k cl ∷ more }

-- The last cluster of a file is written anew; what follows it stands in blocks that nothing under the root names, each
-- pointed to by the one before.
pub record Lengthens (w : World) (c : Chains) (fs : List ChainFile) (f : ChainFile) (hs : List ChainFile)
    (ks : List Link) (k : Link) (bytes : List ℕ) (cl : Cluster) (more : List Link) : Type 0 where
  pub position : c.files ≡ fs ++ (f ∷ hs)
  pub ends : f.chain ≡ ks ++ k ∷ []
  pub within : k.block < length w.blocks
  pub read : cluster_in bytes ≡ Some cl
  pub tail : IsFrom w cl.next more
  pub filled : is_filled (bytes_room (block_len w.geometry)) (ks ++ relinked k cl ∷ more) ≡ true
  pub fresh : are_apart (chain_blocks c ++ blocks_of more) ≡ true
  pub held : (a b : ℕ) → holds (links (k.block ∷ blocks_of more)) a b ≡ true → holds w.pairs a b ≡ true

-- After that write the file's name stands for its bytes with those added.
abbrev pub FileGrows : Type 0
FileGrows =
    (w : World) (root : ℕ) (c : Chains) (fs : List ChainFile) (f : ChainFile) (hs : List ChainFile) (ks : List Link)
    (k : Link) (bytes : List ℕ) (cl : Cluster) (more : List Link)
    → IsSized w → chains_under w root ≡ Some c → Lengthens w c fs f hs ks k bytes cl more
    → Becomes w root k.block bytes (record {
      directory = c.directory;
      files = fs ++ (grown f ks k cl more ∷ hs);
    })
    (with_at (f.name ∷ []) (a_file (chain_bytes (ks ++ relinked k cl ∷ more))) (chain_tree w root))
