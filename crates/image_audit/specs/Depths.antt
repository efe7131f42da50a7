-- How far blocks are from some roots, and over which block.
use Rattle.std.specs.Prelude.{◌≡◌, ℕ, zero, suc, ◌≤◌, List, Option, Some, None, ⊤, IfSome, IsTrue}
use Rattle.tsd_model.specs.Pairs.{holds}
use Rattle.tsd_model.specs.World.{World, has_number}
use Rattle.tsd_model.specs.Reach.{reach_from}
use Rattle.image_audit.specs.declared.entry.Entry.{Entry}
use Rattle.image_audit.specs.Entries.{entry_at, is_listed}

-- a path of so many pointers leads from a root to block b
abbrev pub IsPath : World → List ℕ → ℕ → ℕ → Type 0
IsPath w roots zero b = IsTrue (has_number roots b)
IsPath w roots (suc n) b = (a : ℕ) × IsPath w roots n a × IsTrue (holds w.pairs a b)

-- The depth of a block is the length of the shortest path to it.
pub record IsDepth (w : World) (roots : List ℕ) (b depth : ℕ) : Type 0 where
  pub path : IsPath w roots depth b
  pub shortest : (n : ℕ) → IsPath w roots n b → depth ≤ n

-- block a points to b and has this depth
pub record LeadsTo (w : World) (roots : List ℕ) (b depth a : ℕ) : Type 0 where
  pub points : IsTrue (holds w.pairs a b)
  pub above : IsDepth w roots a depth

-- a is the least such block
pub record LeadsToFirst (w : World) (roots : List ℕ) (b depth a : ℕ) : Type 0 where
  pub leads : LeadsTo w roots b depth a
  pub least : (c : ℕ) → LeadsTo w roots b depth c → a ≤ c

-- The parent of a block of this depth is the least block one level up that points to it. A root has none.
abbrev pub IsParent : World → List ℕ → ℕ → ℕ → Option ℕ → Type 0
IsParent w roots b zero None = ⊤
IsParent w roots b zero (Some a) = ⊥
IsParent w roots b (suc depth) None = ⊥
IsParent w roots b (suc depth) (Some a) = LeadsToFirst w roots b depth a

-- an entry tells the depth of its block and its parent
pub record IsEntryOf (w : World) (roots : List ℕ) (b : ℕ) (e : Entry) : Type 0 where
  pub depth : IsDepth w roots b e.depth
  pub parent : IsParent w roots b e.depth e.parent

-- The blocks that the roots lead to are listed, they included and no others, each with its depth and its parent.
pub record AreReached (w : World) (roots : List ℕ) (entries : List (Option Entry)) : Type 0 where
  pub listed : (b : ℕ) → is_listed entries b ≡ has_number (reach_from w roots) b
  pub each : (b : ℕ) → IfSome (entry_at entries b) (IsEntryOf w roots b)
