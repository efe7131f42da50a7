-- What a cluster of the directory, or of a file, holds.
use Rattle.std.specs.Prelude.{ℕ, List, ◌++◌, take}
use Rattle.fs_trees.specs.Fields.{Entry, entries}
use Rattle.chain_layout.specs.Listed.{next_blocks, entry_blocks}
use Rattle.chain_layout.specs.Block.{cluster_of}
use Rattle.chain_layout.specs.declared.cluster.Cluster.{Cluster}
use Rattle.chain_layout.specs.declared.directory.DirectoryCluster.{DirectoryCluster}
use Rattle.chain_layout.specs.declared.file.FileCluster.{FileCluster}

-- ---- of the directory

abbrev pub dir_cluster : DirectoryCluster → Cluster
dir_cluster d = d.cluster

abbrev pub entries_in : DirectoryCluster → List Entry
entries_in d = entries (cluster_of d.cluster).used (cluster_of d.cluster).body

-- the blocks that it names: the next one, and the first ones of its files
abbrev pub blocks_in : DirectoryCluster → List ℕ
blocks_in d = next_blocks (cluster_of d.cluster).next ++ entry_blocks (entries_in d)

-- ---- of a file

abbrev pub part_cluster : FileCluster → Cluster
part_cluster f = f.cluster

-- the bytes of the file that stand there
abbrev pub part_in : FileCluster → List ℕ
part_in f = take (cluster_of f.cluster).used (cluster_of f.cluster).body
