-- A file in the making: new blocks that a directory leads to and that no inode of the tree names.
use Rattle.std.specs.Prelude.{◌≡◌, ℕ, false, ◌||◌, List, ◌∷◌, ◌++◌, map, IsTrue}
use Rattle.tsd_model.specs.World.{World, contents, is_live, is_free, has_number, are_apart}
use Rattle.tsd_model.specs.Pairs.{holds}
use Rattle.tsd_model.specs.Valid.{IsValid}
use Rattle.fs_trees.specs.Layouts.{named_at}
use Rattle.fs_trees.specs.Outside.{OthersStay}
use Rattle.fs_trees.specs.declared.ask.ShellKind.TheVariants.{Inode}
use Rattle.fs_laws.specs.Stays.{Keeps}

-- the pairs to a new inode in block i and from it to its blocks, where the directory is in block d
abbrev pub new_pairs : ℕ → ℕ → List ℕ → List (ℕ × ℕ)
new_pairs d i blocks = (d, i) ∷ map (λ c. (i, c)) blocks

-- Since the world `first` the directory in block d has got a new inode in block i, which leads to old blocks that it
-- shares and to fresh ones. All else is as it was: what the tree names, what the root doesn't reach, the bytes and
-- pairs of all other blocks.
pub record Making (root : ℕ) (first : World) (d i : ℕ) (shared fresh : List ℕ) (w : World) : Type 0 where
  pub valid : IsValid w
  pub geometry : w.geometry ≡ first.geometry
  pub version : w.version ≡ first.version
  pub records : w.records ≡ first.records
  pub others : OthersStay root first w
  pub keeps : Keeps first w (named_at Inode first root)
  -- the new blocks were free, and none is there twice
  pub free : (b : ℕ) → IsTrue (has_number (i ∷ fresh) b) → IsTrue (is_free first b)
  pub once : IsTrue (are_apart (i ∷ fresh))
  pub lives : (b : ℕ) → IsTrue (has_number (i ∷ fresh) b) → IsTrue (is_live w b)
  -- the shared ones weren't
  pub old : (b : ℕ) → IsTrue (has_number shared b) → IsTrue (is_live first b)
  pub bytes : (b : ℕ) → has_number (i ∷ fresh) b ≡ false → contents w b ≡ contents first b
  pub pairs : (a b : ℕ) → holds w.pairs a b ≡ (holds first.pairs a b || holds (new_pairs d i (shared ++ fresh)) a b)
