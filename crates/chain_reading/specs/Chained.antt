-- Chains and files as lists, whatever their length.
use Rattle.std.specs.Prelude.{◌≡◌, ℕ, ◌≤◌, true, List, [], ◌∷◌, ◌++◌, length, map, Option, Some, None}
use Rattle.tsd_model.specs.World.{World}
use Rattle.tsd_model.specs.Geometry.{block_len}
use Rattle.fs_trees.specs.Names.{Name}
use Rattle.fs_trees.specs.Fields.{Entry}
use Rattle.fs_trees.specs.Cluster.{bytes_room, entries_of}
use Rattle.fs_trees.specs.ChainTree.{Link, cluster_at, is_filled, ChainFile}

-- The clusters that follow where a link leads, each in its block, to the last one's.
abbrev pub IsFrom : World → Option ℕ → List Link → Type 0
IsFrom w next [] = next ≡ None
IsFrom w next (l ∷ ls) = (next ≡ Some l.block) × (cluster_at w l.block ≡ Some l.cluster) × IsFrom w l.cluster.next ls

-- A chain from a block, of at most as many clusters as the disk has blocks.
pub record IsChain (w : World) (b : ℕ) (ls : List Link) : Type 0 where
  pub links : IsFrom w (Some b) ls
  pub short : length ls ≤ w.geometry.blocks

-- the file of an entry in the directory's cluster of this block
pub record IsChainFile (w : World) (namer : ℕ) (e : Entry) (f : ChainFile) : Type 0 where
  pub name : f.name ≡ e.name
  pub from : f.from ≡ namer
  pub chain : IsChain w e.block f.chain
  pub filled : is_filled (bytes_room (block_len w.geometry)) f.chain ≡ true

-- an entry, and the block of the directory's cluster that has it
abbrev pub PlacedEntry : Type 0
PlacedEntry = ℕ × Entry

-- the files of so many entries, one each
abbrev pub AreFiles : World → List PlacedEntry → List ChainFile → Type 0
AreFiles w [] [] = Unit {0}
AreFiles w [] (f ∷ fs) = ⊥
AreFiles w (p ∷ ps) [] = ⊥
AreFiles w (p ∷ ps) (f ∷ fs) = IsChainFile w p.0 p.1 f × AreFiles w ps fs

abbrev pub placed : ℕ → List Entry → List PlacedEntry
placed from es = map (λ e. (from, e)) es

-- the entries of clusters of the directory, in blocks of this length
abbrev pub AreEntries : ℕ → List Link → List PlacedEntry → Type 0
AreEntries len [] ps = ps ≡ []
AreEntries len (l ∷ ls) ps = (es : List Entry) × (rest : List PlacedEntry) × (entries_of len l.cluster ≡ Some es)
    × (ps ≡ placed l.block es ++ rest) × AreEntries len ls rest

-- none of these names is that one
abbrev pub AreOthers : Name → List Name → Type 0
AreOthers n [] = Unit {0}
AreOthers n (m ∷ ms) = (n ≡ m → ⊥) × AreOthers n ms
