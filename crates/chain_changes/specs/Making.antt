-- A chain in the making: new blocks that hang from one that the root reaches, each pointed to by the one before, and
-- that nothing names.
use Rattle.std.specs.Prelude.{◌≡◌, ℕ, ◌<◌, false, ◌||◌, List, ◌∷◌, IsTrue}
use Rattle.tsd_model.specs.World.{World, contents, is_live, is_free, has_number, are_apart}
use Rattle.tsd_model.specs.Pairs.{holds}
use Rattle.tsd_model.specs.Valid.{IsValid}
use Rattle.fs_trees.specs.Tree.{is_there}
use Rattle.fs_trees.specs.ChainTree.{links, chain_tree}
use Rattle.fs_trees.specs.Layouts.{named_at}
use Rattle.fs_trees.specs.Outside.{is_under, OthersStay}
use Rattle.fs_trees.specs.declared.ask.ShellKind.TheVariants.{Chain}
use Rattle.fs_laws.specs.Stays.{Keeps}

-- what a chain is made in: a valid world with a tree, and a block that its root reaches
pub record Stage (root : ℕ) (first : World) (source : ℕ) : Type 0 where
  pub valid : IsValid first
  pub primary : root < first.geometry.primaries
  pub there : IsTrue (is_there (chain_tree first root))
  pub reached : IsTrue (is_under first root source)

-- Since the world `first` the block `source` has got a chain of these new blocks. All else is as it was: what the tree
-- names, what the root doesn't reach, the bytes and pairs of all other blocks.
pub record Making (root : ℕ) (first : World) (source : ℕ) (blocks : List ℕ) (w : World) : Type 0 where
  pub valid : IsValid w
  pub geometry : w.geometry ≡ first.geometry
  pub version : w.version ≡ first.version
  pub records : w.records ≡ first.records
  pub others : OthersStay root first w
  pub keeps : Keeps first w (named_at Chain first root)
  -- the new blocks were free, and none is there twice
  pub free : (b : ℕ) → IsTrue (has_number blocks b) → IsTrue (is_free first b)
  pub once : IsTrue (are_apart blocks)
  pub lives : (b : ℕ) → IsTrue (has_number blocks b) → IsTrue (is_live w b)
  pub bytes : (b : ℕ) → has_number blocks b ≡ false → contents w b ≡ contents first b
  pub pairs : (a b : ℕ) → holds w.pairs a b ≡ (holds first.pairs a b || holds (links (source ∷ blocks)) a b)

-- the tree is the same still, and what the root doesn't reach is as it was
pub record IsAside (root : ℕ) (first w : World) : Type 0 where
  pub tree : chain_tree w root ≡ chain_tree first root
  pub valid : IsValid w
  pub geometry : w.geometry ≡ first.geometry
  pub others : OthersStay root first w
