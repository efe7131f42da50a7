-- What the deciding writes of chains leave.
use Rattle.std.specs.Prelude.{◌≡◌, ℕ, ◌<◌, List, ◌∷◌, ◌++◌, length, map, flat_map, Some}
use Rattle.tsd_model.specs.World.{World}
use Rattle.fs_trees.specs.Names.{Name}
use Rattle.fs_trees.specs.Cluster.{Cluster, cluster_in}
use Rattle.fs_trees.specs.ChainTree.{Link, blocks_of, links, ChainFile, Chains}

-- the blocks of files, and the pairs from their namers to them
abbrev pub file_blocks : List ChainFile → List ℕ
file_blocks fs = flat_map (λ f. blocks_of f.chain) fs

abbrev pub file_pairs : List ChainFile → List (ℕ × ℕ)
file_pairs fs = flat_map (λ f. links (f.from ∷ blocks_of f.chain)) fs

abbrev pub file_names : List ChainFile → List Name
file_names fs = map (λ f. f.name) fs

-- the same link with another cluster
abbrev pub relinked : Link → Cluster → Link
relinked l cl = record { block = l.block; cluster = cl }

-- A cluster of the directory is written anew: where it stands among the others, and what is then read from its block.
pub record Rewrites (w : World) (c : Chains) (ls : List Link) (l : Link) (ms : List Link) (bytes : List ℕ)
    (cl : Cluster) : Type 0 where
  pub position : c.directory ≡ ls ++ l ∷ ms
  pub within : l.block < length w.blocks
  pub read : cluster_in bytes ≡ Some cl
