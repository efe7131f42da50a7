-- Worked examples of how much room there is and how much an ask needs, by computing.
use Rattle.std.specs.Prelude.{◌≡◌, ℕ, true, false, List, [], ◌∷◌, refl, replicate, codes, Some, None}
use Rattle.tsd_model.specs.Geometry.{block_len}
use Rattle.tsd_model.specs.declared.geometry.Geometry.{Geometry}
use Rattle.fs_trees.specs.Names.{Name, Path}
use Rattle.fs_trees.specs.Tree.{none, file, a_dir, Tree}
use Rattle.fs_trees.specs.Inode.{data_room}
use Rattle.fs_trees.specs.Cluster.{bytes_room}
use Rattle.fs_trees.specs.Refusals.{RoomNeed, entries_max, too_big}
use Rattle.fs_trees.specs.Needs.{need, inode_need, clusters_for, chain_need}
use Rattle.fs_trees.specs.declared.ask.ShellAsk.TheVariants as ask
use Rattle.fs_trees.specs.declared.ask.ShellKind.TheVariants.{Inode, Chain}
use Rattle.fs_trees.specs.declared.refusal.FsRefusal.TheVariants as no

-- a disk with blocks of so many sectors
abbrev of : ℕ → Geometry
of sectors = record { sectors = sectors; blocks = 8; primaries = 1; slots = 32 }

abbrev a : Name
a = codes "a"

abbrev at_a : Path
at_a = a ∷ []

abbrev at_b : Path
at_b = codes "b" ∷ []

-- so many bytes
abbrev many : ℕ → List ℕ
many n = replicate n 7

-- a tree with one file, of so many bytes
abbrev with_file : ℕ → Tree
with_file n = a_dir tt (file a (many n) none)

abbrev empty : Tree
empty = a_dir tt none

-- ---- room, for blocks of 1, 2, 4 and 8 sectors

pub entries_of_a_directory : entries_max Inode (of 1) ∷ entries_max Inode (of 2) ∷ entries_max Inode (of 4) ∷ entries_max Inode (of 8) ∷ entries_max Chain (of 1) ∷ entries_max Chain (of 8) ∷ []
    ≡ 15 ∷ 31 ∷ 63 ∷ 127 ∷ 4096 ∷ 4096 ∷ []
entries_of_a_directory = refl

pub blocks_of_an_inode : data_room (block_len (of 1)) ∷ data_room (block_len (of 2)) ∷ data_room (block_len (of 4)) ∷ data_room (block_len (of 8)) ∷ []
    ≡ 124 ∷ 252 ∷ 508 ∷ 1020 ∷ []
blocks_of_an_inode = refl

pub bytes_of_a_cluster : bytes_room (block_len (of 1)) ∷ bytes_room (block_len (of 2)) ∷ bytes_room (block_len (of 4)) ∷ bytes_room (block_len (of 8)) ∷ []
    ≡ 496 ∷ 1008 ∷ 2032 ∷ 4080 ∷ []
bytes_of_a_cluster = refl

-- the largest file of inodes, and one byte more
pub the_largest_file :
    too_big Inode (of 2) 258048 ∷ too_big Inode (of 2) 258049 ∷ too_big Inode (of 8) 4177920 ∷ too_big Inode (of 8) 4177921 ∷ []
    ≡ None ∷ Some no.TooBig ∷ None ∷ Some no.TooBig ∷ []
the_largest_file = refl

-- ---- inodes

abbrev inode_put : ℕ → ℕ → RoomNeed
inode_put k size = inode_need (of k) empty (ask.Put at_a (many size))

abbrev inode_append : ℕ → ℕ → ℕ → RoomNeed
inode_append k size more = inode_need (of k) (with_file size) (ask.Append at_a (many more))

-- one inode, and a block for each started length
pub inodes_put : inode_put 1 0 ∷ inode_put 1 1 ∷ inode_put 1 512 ∷ inode_put 1 513 ∷ inode_put 8 4096 ∷ inode_put 8 4097 ∷ []
    ≡ need 1 1 ∷ need 2 2 ∷ need 2 2 ∷ need 3 3 ∷ need 2 2 ∷ need 3 3 ∷ []
inodes_put = refl

-- a new inode, and the old blocks but the full ones anew; these are pointed to once more
pub inodes_append :
    inode_append 8 2560 2560 ∷ inode_append 8 4096 1 ∷ inode_append 1 512 1 ∷ inode_append 1 600 1 ∷ inode_append 1 1 512 ∷ inode_append 1 512 0 ∷ inode_append 1 0 512 ∷ []
    ≡ need 3 3 ∷ need 2 3 ∷ need 2 3 ∷ need 2 3 ∷ need 3 3 ∷ need 0 0 ∷ need 2 2 ∷ []
inodes_append = refl

-- a copy takes one block, and points to all of the bytes
pub inodes_copy : inode_need (of 1) (with_file 0) (ask.Copy at_a at_b) ∷ inode_need (of 1) (with_file 513) (ask.Copy at_a at_b) ∷ inode_need (of 1) empty (ask.MakeDir at_a) ∷ inode_need (of 1) (with_file 513) (ask.Rm at_a) ∷ inode_need (of 1) (with_file 513) ask.Make ∷ []
    ≡ need 1 1 ∷ need 1 3 ∷ need 1 1 ∷ need 0 0 ∷ need 0 0 ∷ []
inodes_copy = refl

-- ---- chains

pub clusters_of_large_files : clusters_for (of 1) 248000 ∷ clusters_for (of 1) 2480000 ∷ clusters_for (of 1) 0 ∷ clusters_for (of 8) 4080 ∷ clusters_for (of 8) 4081 ∷ []
    ≡ 500 ∷ 5000 ∷ 1 ∷ 1 ∷ 2 ∷ []
clusters_of_large_files = refl

abbrev chain_append : ℕ → ℕ → RoomNeed
chain_append size more = chain_need (of 1) (with_file size) false (ask.Append at_a (many more))

-- as many clusters as the bytes take, and at least one
pub chains_put :
    chain_need (of 1) empty true (ask.Put at_a (many 0)) ∷ chain_need (of 1) empty true (ask.Put at_a (many 496)) ∷ chain_need (of 1) empty true (ask.Put at_a (many 497)) ∷ []
    ≡ need 1 1 ∷ need 1 1 ∷ need 2 2 ∷ []
chains_put = refl

-- one more where no cluster of the directory has room, but not for a name that is there
pub chains_put_without_room :
    chain_need (of 1) empty false (ask.Put at_a (many 0)) ∷ chain_need (of 1) empty false (ask.Put at_a (many 497)) ∷ chain_need (of 1) (with_file 1) false (ask.Put at_a (many 0)) ∷ chain_need (of 1) (with_file 1) false (ask.Put at_b (many 0)) ∷ []
    ≡ need 2 2 ∷ need 3 3 ∷ need 1 1 ∷ need 2 2 ∷ []
chains_put_without_room = refl

-- what the file grows by
pub chains_append :
    chain_append 0 496 ∷ chain_append 0 497 ∷ chain_append 496 1 ∷ chain_append 500 492 ∷ chain_append 500 493 ∷ chain_append 500 989 ∷ chain_append 500 0 ∷ []
    ≡ need 0 0 ∷ need 1 1 ∷ need 1 1 ∷ need 0 0 ∷ need 1 1 ∷ need 2 2 ∷ need 0 0 ∷ []
chains_append = refl

-- what takes away or asks needs nothing
pub chains_remove : chain_need (of 1) (with_file 500) false (ask.Rm at_a) ∷ chain_need (of 1) (with_file 500) false ask.Make ∷ [] ≡ need 0 0 ∷ need 0 0 ∷ []
chains_remove = refl
