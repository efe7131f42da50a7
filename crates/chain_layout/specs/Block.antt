-- A cluster that was read from its block.
use Rattle.std.specs.Prelude.{ℕ, List, length, drop}
use Rattle.fs_trees.specs.Cluster as tree
use Rattle.chain_layout.specs.declared.cluster.Cluster.{Cluster}

-- its block, the length of that, and what it says
abbrev pub bytes_of : Cluster → List ℕ
bytes_of c = c.bytes

abbrev pub block_len_of : Cluster → ℕ
block_len_of c = length (bytes_of c)

abbrev pub cluster_of : Cluster → tree.Cluster
cluster_of c = record { next = c.next; used = c.used; body = drop 16 c.bytes }
