-- Worked worlds with pointers too many, files in several blocks, a directory in two clusters, and paths of sixteen names.
use Rattle.std.specs.Prelude.{◌≡◌, ℕ, zero, suc, List, [], ◌∷◌, ◌++◌, length, refl, replicate, map, codes, Some, None, ⊤}
use Rattle.std.proofs.Common.{sym}
use Rattle.std.proofs.lemmas.Bool.{false≢true}
use Rattle.tsd_model.specs.World.{World}
use Rattle.tsd_model.specs.Step.{filled}
use Rattle.tsd_model.specs.Run.{fresh_world}
use Rattle.fs_trees.specs.Names.{Name}
use Rattle.fs_trees.specs.Tree.{Entries, none, file, dir, nothing, a_dir}
use Rattle.fs_trees.specs.Fields.{Entry}
use Rattle.fs_trees.specs.Inode.{directory, regular, inode_bytes}
use Rattle.fs_trees.specs.Cluster.{directory_bytes, part_bytes}
use Rattle.fs_trees.specs.Layouts.{tree_at, named_at, IsTidy}
use Rattle.fs_trees.specs.declared.ask.ShellKind.TheVariants.{Inode, Chain}

-- blocks of 512 bytes, of which one is primary: these, and no others
abbrev laid : List (List ℕ) → List (ℕ × ℕ) → World
laid xs es = record (fresh_world (record { sectors = 1; blocks = length xs; primaries = 1; slots = 32 }) []) { blocks = map (λ x. Some (filled 512 x)) xs; pairs = es }

abbrev a : Name
a = codes "a"

abbrev b : Name
b = codes "b"

abbrev listed : List (ℕ × Name) → List Entry
listed es = map (λ e. record { block = e.0; name = e.1 }) es

-- an inode of a directory, and one of a file
abbrev names_of : List (ℕ × Name) → List ℕ
names_of es = inode_bytes (directory (listed es))

abbrev bytes_of : ℕ → List ℕ → List ℕ
bytes_of size blocks = inode_bytes (regular size blocks)

-- ---- files in several blocks

-- the blocks of a file stand in the order in which its inode names them
pub a_file_of_two_blocks : tree_at Inode (laid (names_of ((1, a) ∷ []) ∷ bytes_of 514 (3 ∷ 2 ∷ []) ∷ (5 ∷ 6 ∷ 7 ∷ []) ∷ replicate 512 4 ∷ []) ((0, 1) ∷ (1, 2) ∷ (1, 3) ∷ [])) 0
    ≡ a_dir tt (file a (replicate 512 4 ++ (5 ∷ 6 ∷ [])) none)
a_file_of_two_blocks = refl

-- a copy of a full block to which a byte is appended shares that block, and has its own behind it
abbrev shared : World
shared = laid (names_of ((1, a) ∷ (3, b) ∷ []) ∷ bytes_of 512 (2 ∷ []) ∷ replicate 512 4 ∷ bytes_of 513 (2 ∷ 4 ∷ []) ∷ (5 ∷ []) ∷ []) ((0, 1) ∷ (0, 3) ∷ (1, 2) ∷ (3, 2) ∷ (3, 4) ∷ [])

pub an_append_shares : tree_at Inode shared 0 ≡ a_dir tt (file a (replicate 512 4) (file b (replicate 512 4 ++ (5 ∷ [])) none))
an_append_shares = refl

pub what_is_shared_is_named_twice : named_at Inode shared 0 ≡ record { blocks = 0 ∷ 1 ∷ 3 ∷ 2 ∷ 2 ∷ 4 ∷ []; pairs = (0, 1) ∷ (1, 2) ∷ (0, 3) ∷ (3, 2) ∷ (3, 4) ∷ [] }
what_is_shared_is_named_twice = refl

-- ---- chains

-- a file in two clusters, and in one too few: a cluster that isn't full is the last
pub a_file_of_two_clusters :
    (tree_at Chain (laid (directory_bytes None (listed ((2, a) ∷ [])) ∷ part_bytes None (5 ∷ []) ∷ part_bytes (Some 1) (replicate 496 4) ∷ []) ((0, 2) ∷ (2, 1) ∷ [])) 0 ≡ a_dir tt (file a (replicate 496 4 ++ (5 ∷ [])) none))
    × (tree_at Chain (laid (directory_bytes None (listed ((2, a) ∷ [])) ∷ part_bytes None (5 ∷ []) ∷ part_bytes (Some 1) (replicate 495 4) ∷ []) ((0, 2) ∷ (2, 1) ∷ [])) 0 ≡ nothing)
    × (tree_at Chain (laid (directory_bytes None (listed ((2, a) ∷ [])) ∷ part_bytes None [] ∷ part_bytes (Some 1) (replicate 496 4) ∷ []) ((0, 2) ∷ (2, 1) ∷ [])) 0 ≡ nothing)
a_file_of_two_clusters = (refl, refl, refl)

-- a directory in two clusters, each with an entry, and these pairs
abbrev two_clusters : List (ℕ × ℕ) → World
two_clusters es = laid (directory_bytes (Some 2) (listed ((1, b) ∷ [])) ∷ part_bytes None [] ∷ directory_bytes None (listed ((3, a) ∷ [])) ∷ part_bytes None (9 ∷ []) ∷ []) es

-- a pointer leads to a file from the cluster that has its entry, not from the first one
pub a_directory_of_two_clusters :
    (tree_at Chain (two_clusters ((0, 1) ∷ (0, 2) ∷ (2, 3) ∷ [])) 0 ≡ a_dir tt (file a (9 ∷ []) (file b [] none)))
    × (tree_at Chain (two_clusters ((0, 1) ∷ (0, 2) ∷ (0, 3) ∷ [])) 0 ≡ nothing)
    × (tree_at Chain (two_clusters ((0, 1) ∷ (2, 3) ∷ [])) 0 ≡ nothing)
a_directory_of_two_clusters = (refl, refl, refl)

pub clusters_named : named_at Chain (two_clusters ((0, 1) ∷ (0, 2) ∷ (2, 3) ∷ [])) 0 ≡ record { blocks = 0 ∷ 2 ∷ 1 ∷ 3 ∷ []; pairs = (0, 2) ∷ (0, 1) ∷ (2, 3) ∷ [] }
clusters_named = refl

-- ---- what names the root

pub an_entry_names_the_root :
    (tree_at Inode (laid (names_of ((0, a) ∷ []) ∷ []) ((0, 0) ∷ [])) 0 ≡ nothing)
    × (tree_at Chain (laid (directory_bytes None (listed ((0, a) ∷ [])) ∷ []) ((0, 0) ∷ [])) 0 ≡ nothing)
an_entry_names_the_root = (refl, refl)

pub a_file_names_the_root : tree_at Inode (laid (names_of ((1, a) ∷ []) ∷ bytes_of 1 (0 ∷ []) ∷ []) ((0, 1) ∷ (1, 0) ∷ [])) 0 ≡ nothing
a_file_names_the_root = refl

-- ---- paths

-- so many directories, each within the one before
abbrev nest : ℕ → ℕ → List (List ℕ)
nest first zero = names_of [] ∷ []
nest first (suc n) = names_of ((suc first, a) ∷ []) ∷ nest (suc first) n

abbrev steps_down : ℕ → ℕ → List (ℕ × ℕ)
steps_down first zero = []
steps_down first (suc n) = (first, suc first) ∷ steps_down (suc first) n

abbrev nested : ℕ → World
nested n = laid (nest 0 n) (steps_down 0 n)

abbrev within : ℕ → Entries ⊤ (List ℕ)
within zero = none
within (suc n) = dir a tt (within n) none

pub a_path_has_sixteen_names : (tree_at Inode (nested 16) 0 ≡ a_dir tt (within 16)) × (tree_at Inode (nested 17) 0 ≡ nothing)
a_path_has_sixteen_names = (refl, refl)

-- ---- pointers that no content names, and tidy worlds

-- a file of one byte, and these pairs
abbrev one_file : List (ℕ × ℕ) → World
one_file es = laid (names_of ((1, a) ∷ []) ∷ bytes_of 1 (2 ∷ []) ∷ (7 ∷ []) ∷ (8 ∷ []) ∷ []) es

-- a pair more between the tree's own blocks, one out of a block of bytes, and one to a block that isn't named
pub more_pairs_leave_the_tree :
    tree_at Inode (one_file ((0, 1) ∷ (1, 2) ∷ [])) 0 ∷ tree_at Inode (one_file ((0, 1) ∷ (0, 2) ∷ (1, 2) ∷ [])) 0 ∷ tree_at Inode (one_file ((0, 1) ∷ (1, 2) ∷ (2, 1) ∷ [])) 0 ∷ tree_at Inode (one_file ((0, 1) ∷ (1, 2) ∷ (1, 3) ∷ [])) 0 ∷ []
    ≡ replicate 4 (a_dir tt (file a (7 ∷ []) none))
more_pairs_leave_the_tree = refl

pub a_tidy_world : IsTidy Inode (one_file ((0, 1) ∷ (1, 2) ∷ [])) 0
a_tidy_world = record { blocks = λ c. refl; pairs = λ c d is_named. refl }

-- a pair too many, a block too many, no tree
pub a_pair_too_many : IsTidy Inode (one_file ((0, 1) ∷ (0, 2) ∷ (1, 2) ∷ [])) 0 → ⊥
a_pair_too_many tidy = false≢true (sym (tidy.pairs 0 2 refl))

pub a_block_too_many : IsTidy Inode (one_file ((0, 1) ∷ (1, 2) ∷ (1, 3) ∷ [])) 0 → ⊥
a_block_too_many tidy = false≢true (sym (tidy.blocks 3))

pub without_a_tree : IsTidy Inode (one_file ((0, 1) ∷ [])) 0 → ⊥
without_a_tree tidy = false≢true (sym (tidy.blocks 0))

-- and chains
pub tidy_chains : IsTidy Chain (laid (directory_bytes None (listed ((1, a) ∷ [])) ∷ part_bytes None (9 ∷ []) ∷ []) ((0, 1) ∷ [])) 0
tidy_chains = record { blocks = λ c. refl; pairs = λ c d is_named. refl }

pub a_pair_too_many_in_chains : IsTidy Chain (laid (directory_bytes None (listed ((1, a) ∷ [])) ∷ part_bytes None (9 ∷ []) ∷ part_bytes None [] ∷ []) ((0, 1) ∷ (1, 2) ∷ [])) 0 → ⊥
a_pair_too_many_in_chains tidy = false≢true (sym (tidy.pairs 1 2 refl))
